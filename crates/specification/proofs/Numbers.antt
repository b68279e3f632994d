-- Laws of the numbers in a list of bytes: past the list's end they are 0, a number of the part that starts at k is the number of the
-- whole that stands k further on, and a number that ends within the first k bytes is a number of these.
use mathlib.Core.Path.{◌≡◌}
use mathlib.Core.List.{List}
use Prim.Native.Nat.{ℕ, ◌+◌, ◌≤◌, ◌<◌}
use native.Mathlib.Omega.{arith}
use native.Mathlib.Nat.{add_assoc}
use lib.ListN.{length, take, drop, get_or-eq_default}
use lib.Seq.{get_or-drop, get_or-take}
use Rattle.specification.specs.Bytes.{byte_at, u16_at, u32_at}

pub byte_past : (s : List ℕ) (at : ℕ) → length s ≤ at → byte_at s at ≡ 0
byte_past s at h = get_or-eq_default s 0 h

pub u16_past : (s : List ℕ) (at : ℕ) → length s ≤ at → u16_at s at ≡ 0
unfolding u16_at
u16_past s at h = omega (arith, byte_past s at h, byte_past s (at + 1) (omega arith))

pub u32_past : (s : List ℕ) (at : ℕ) → length s ≤ at → u32_at s at ≡ 0
unfolding u32_at
u32_past s at h = omega (arith, u16_past s at h, u16_past s (at + 2) (omega arith))

pub u16_drop : (k : ℕ) (s : List ℕ) (at : ℕ) → u16_at (drop k s) at ≡ u16_at s (k + at)
unfolding u16_at
u16_drop k s at = simp (get_or-drop, add_assoc)

pub u32_drop : (k : ℕ) (s : List ℕ) (at : ℕ) → u32_at (drop k s) at ≡ u32_at s (k + at)
unfolding u32_at
u32_drop k s at = simp (u16_drop, add_assoc)

pub u16_take : (k : ℕ) (s : List ℕ) (at : ℕ) → at + 2 ≤ k → u16_at (take k s) at ≡ u16_at s at
unfolding u16_at
u16_take k s at h =
    let low : at < k = omega arith in
    let high : at + 1 < k = omega arith in
    omega (arith, get_or-take k s at 0 low, get_or-take k s (at + 1) 0 high)

pub u32_take : (k : ℕ) (s : List ℕ) (at : ℕ) → at + 4 ≤ k → u32_at (take k s) at ≡ u32_at s at
unfolding u32_at
u32_take k s at h = omega (arith, u16_take k s at (omega arith), u16_take k s (at + 2) (omega arith))

-- a number of four bytes is one of 32 bits
pub u32_below : (s : List ℕ) → ((i : ℕ) → byte_at s i < 256) → (at : ℕ) → u32_at s at < 4294967296
unfolding u32_at u16_at
u32_below s bytes at = omega (arith, bytes at, bytes (at + 1), bytes (at + 2), bytes (at + 2 + 1))
