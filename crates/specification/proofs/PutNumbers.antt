-- A 32-bit number put into a list of bytes: it is there, other bytes are kept, and so is the length.
use mathlib.Core.Path.{◌≡◌, ◌∙◌, ap}
use mathlib.Core.Logic.{◌⊎◌, inl, inr, ⊎_elim}
use mathlib.Core.List.{List}
use Prim.Native.Nat.{ℕ, ◌+◌, ◌*◌, ◌/◌, ◌%◌, ◌≤◌, ◌<◌}
use native.Mathlib.Nat.{div-add-mod', mod-eq_of_lt, div-div-eq-div-mul}
use native.Mathlib.Omega.{arith}
use lib.ListN.{length, set, length-set}
use lib.Seq.{get_or-set_same, get_or-set_other}
use Rattle.specification.specs.Bytes.{byte_at, u16_at, u32_at}
use Rattle.specification.specs.Change.{put_u32}

-- the bytes of a list with a number put at a place
module _ (s : List ℕ) (at v : ℕ) where
  abbrev one : List ℕ
  one = set s at (v % 256)

  abbrev two : List ℕ
  two = set one (at + 1) (v / 256 % 256)

  abbrev three : List ℕ
  three = set two (at + 2) (v / 65536 % 256)

  -- bytes elsewhere stay
  pub put_other : (k : ℕ) → (k < at) ⊎ (at + 4 ≤ k) → byte_at (put_u32 s at v) k ≡ byte_at s k
  put_other k outside =
      let other : (d : ℕ) → d < 4 → k ≡ at + d → ⊥ = λ d h e. ⊎_elim (λ before. omega arith) (λ after. omega arith) outside in
      get_or-set_other three (at + 3) k (v / 16777216 % 256) 0 (other 3 (omega arith))
      ∙ get_or-set_other two (at + 2) k (v / 65536 % 256) 0 (other 2 (omega arith))
      ∙ get_or-set_other one (at + 1) k (v / 256 % 256) 0 (other 1 (omega arith))
      ∙ get_or-set_other s at k (v % 256) 0 (λ e. other 0 (omega arith) (omega arith))

  -- and so do numbers
  pub number_other : (k : ℕ) → (k + 4 ≤ at) ⊎ (at + 4 ≤ k) → u32_at (put_u32 s at v) k ≡ u32_at s k
  unfolding u32_at u16_at
  number_other k h = omega (arith, byte k (omega arith), byte (k + 1) (omega arith), byte (k + 2) (omega arith), byte (k + 2 + 1) (omega arith))
    where
      byte : (b : ℕ) → (k ≤ b) × (b < k + 4) → byte_at (put_u32 s at v) b ≡ byte_at s b
      byte b within = put_other b (⊎_elim (λ l. inl (omega arith)) (λ l. inr (omega arith)) h)

  length_three : length three ≡ length s
  length_three = length-set two (at + 2) _ ∙ length-set one (at + 1) _ ∙ length-set s at _

  pub length_put : length (put_u32 s at v) ≡ length s
  length_put = length-set three (at + 3) _ ∙ length_three

  four_bytes : v < 4294967296 → v % 256 + 256 * (v / 256 % 256) + 65536 * (v / 65536 % 256 + 256 * (v / 16777216 % 256)) ≡ v
  four_bytes small =
      let second : v / 256 / 256 ≡ v / 65536 = div-div-eq-div-mul v 256 256 in
      let third : v / 65536 / 256 ≡ v / 16777216 = div-div-eq-div-mul v 65536 256 in
      let below : v / 16777216 < 256 = omega arith in
      let top : v / 16777216 % 256 ≡ v / 16777216 = mod-eq_of_lt below in
      omega (arith, div-add-mod' v 256, div-add-mod' (v / 256) 256, div-add-mod' (v / 65536) 256)

  -- the number there is the one put
  pub put_same : at + 4 ≤ length s → v < 4294967296 → u32_at (put_u32 s at v) at ≡ v
  unfolding u16_at u32_at
  put_same whole small =
      let place : at + 2 + 1 ≡ at + 3 = omega arith in
      let last : byte_at (put_u32 s at v) (at + 2 + 1) ≡ v / 16777216 % 256 =
      ap (byte_at (put_u32 s at v)) place ∙ get_or-set_same three (at + 3) (v / 16777216 % 256) 0 (omega (arith, length_three)) in
      omega (
        arith,
        four_bytes small,
        get_or-set_other three (at + 3) at (v / 16777216 % 256) 0 (λ e. omega arith)
            ∙ get_or-set_other two (at + 2) at (v / 65536 % 256) 0 (λ e. omega arith)
            ∙ get_or-set_other one (at + 1) at (v / 256 % 256) 0 (λ e. omega arith)
            ∙ get_or-set_same s at (v % 256) 0 (omega arith),
        get_or-set_other three (at + 3) (at + 1) (v / 16777216 % 256) 0 (λ e. omega arith)
            ∙ get_or-set_other two (at + 2) (at + 1) (v / 65536 % 256) 0 (λ e. omega arith)
            ∙ get_or-set_same one (at + 1) (v / 256 % 256) 0 (omega (arith, length-set s at (v % 256))),
        get_or-set_other three (at + 3) (at + 2) (v / 16777216 % 256) 0 (λ e. omega arith)
            ∙ get_or-set_same two (at + 2) (v / 65536 % 256) 0
            (omega (arith, length-set one (at + 1) (v / 256 % 256), length-set s at (v % 256))),
        last,
      )
