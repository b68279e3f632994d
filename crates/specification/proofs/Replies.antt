-- What a reply means. `Says G Q r`: where r gives a value, the value is of G; where r refuses, its number and values are of Q.
-- It is closed under `◌>>=◌` and `refuse_if`, so that what a reader's reply means is read off its steps, a line for each.
use mathlib.Core.Path.{◌≡◌, refl, subst}
use mathlib.Core.Logic.{◌↔◌}
use mathlib.Core.Bool.{Bool, true, false, not, ◌||◌}
use mathlib.Core.List.{List}
use Prim.Native.Nat.{ℕ}
use native.Mathlib.Omega.{arith}
use lib.Dec.{T}
use Rattle.specification.specs.Reply.{Reply, gives, refuses, ◌>>=◌, afterwards, refuse_if, Never}

pub data Says {A : Type 0} (G : A → Type 0) (Q : ℕ → List ℕ → Type 0) : Reply A → Type 0 where
  giving : {a : A} → G a → Says G Q (gives a)
  refusing : {k : ℕ} {vs : List ℕ} → Q k vs → Says G Q (refuses k vs)

-- a reply does not give and refuse
pub not_both : {A : Type 0} {r : Reply A} {a : A} {k : ℕ} {vs : List ℕ} → r ≡ gives a → r ≡ refuses k vs → ⊥
not_both e f = let z : ◌≡◌ {A = ℕ} 0 1 = cc in omega arith

-- what is refused before a last step that only gives was refused as it is
pub refused_before : {A B : Type 0} (r : Reply A) (f : A → B) (k : ℕ) (vs : List ℕ)
    → (r >>= λ a. gives (f a)) ≡ refuses k vs → r ≡ refuses k vs
refused_before (gives a) f k vs e = absurd (not_both refl e)
refused_before (refuses n ws) f k vs e = cc

module _ {A : Type 0} {G : A → Type 0} {Q : ℕ → List ℕ → Type 0} where
  -- what is said of a reply that is known
  pub said_of_given : {r : Reply A} → Says G Q r → (a : A) → r ≡ gives a → G a
  said_of_given s a e = of_it (subst (Says G Q) e s)
    where
      of_it : Says G Q (gives a) → G a
      of_it (giving g) = g

  pub said_of_refused : {r : Reply A} → Says G Q r → (k : ℕ) (vs : List ℕ) → r ≡ refuses k vs → Q k vs
  said_of_refused s k vs e = of_it (subst (Says G Q) e s)
    where
      of_it : Says G Q (refuses k vs) → Q k vs
      of_it (refusing q) = q

  -- a reply whose refusals by a number are shut out is never refused by it
  pub never : {r : Reply A} (k : ℕ) → Says G Q r → ((vs : List ℕ) → Q k vs → ⊥) → Never k r
  never k s none vs e = none vs (said_of_refused s k vs e)

  -- it gives, or it refuses
  pub by_reply : {C : Type 0} {r : Reply A} → Says G Q r → ((a : A) → G a → r ≡ gives a → C)
      → ((k : ℕ) (vs : List ℕ) → Q k vs → r ≡ refuses k vs → C) → C
  by_reply (giving {a} g) f h = f a g refl
  by_reply (refusing {k} {vs} q) f h = h k vs q refl

  -- a reply whose refusals are all shut out gives a value
  pub gives_if_never_refused : {r : Reply A} → Says G Q r → ((k : ℕ) (vs : List ℕ) → Q k vs → ⊥) → (a : A) × G a × (r ≡ gives a)
  gives_if_never_refused s never = by_reply s (λ a g e. (a, g, e)) (λ k vs q e. absurd (never k vs q))

  -- and one whose values are all shut out refuses
  pub refused_if_never_given : {r : Reply A} → Says G Q r → ((a : A) → G a → ⊥) → (k : ℕ) × (vs : List ℕ) × Q k vs × (r ≡ refuses k vs)
  refused_if_never_given s never = by_reply s (λ a g e. absurd (never a g)) (λ k vs q e. (k, vs, q, e))

  -- to say less of the value
  pub gives_less : {H : A → Type 0} {r : Reply A} → Says G Q r → ((a : A) → G a → H a) → Says H Q r
  gives_less (giving {a} g) h = giving (h a g)
  gives_less (refusing q) h = refusing q

  -- to say less of the refusal
  pub refuses_less : {R : ℕ → List ℕ → Type 0} {r : Reply A} → Says G Q r → ((k : ℕ) (vs : List ℕ) → Q k vs → R k vs) → Says G R r
  refuses_less (giving g) h = giving g
  refuses_less (refusing {k} {vs} q) h = refusing (h k vs q)

  -- with what was said, the reply itself
  pub says_known : {r : Reply A} → Says G Q r → Says (λ a. G a × (r ≡ gives a)) (λ k vs. Q k vs × (r ≡ refuses k vs)) r
  says_known (giving g) = giving (g, refl)
  says_known (refusing q) = refusing (q, refl)

  -- one step, whose refusals are told in the terms of the whole, and then the next
  pub says_then : {B : Type 0} {H : B → Type 0} {R : ℕ → List ℕ → Type 0} {r : Reply A} (f : A → Reply B) → Says G Q r
      → ((k : ℕ) (vs : List ℕ) → Q k vs → R k vs) → ((a : A) → G a → Says H R (f a)) → Says H R (r >>= f)
  says_then f (giving {a} g) told h = h a g
  says_then f (refusing {k} {vs} q) told h = refusing (told k vs q)

  -- what holds of a buffer as it was, and as it is written, holds of it afterwards
  pub says_afterwards : {r : Reply A} (old : List ℕ) (new : A → List ℕ) (B : List ℕ → Type 0) → Says G Q r
      → B old → ((a : A) → G a → B (new a)) → B (afterwards r old new)
  says_afterwards old new B (giving {a} g) as_it_was as_written = as_written a g
  says_afterwards old new B (refusing q) as_it_was as_written = as_it_was

-- a reply that gives nothing but its passing passes exactly where G holds, if no refusal befalls G
pub passes_exactly : {G : Type 0} {Q : ℕ → List ℕ → Type 0} {r : Reply (Unit {0})} → Says (λ _. G) Q r
    → (G → (k : ℕ) (vs : List ℕ) → Q k vs → ⊥) → (r ≡ gives tt) ↔ G
passes_exactly s never = (said_of_given s tt, λ g. (gives_if_never_refused s (never g)).2)

-- a test, and then the next step
pub says_unless : {B : Type 0} {H : B → Type 0} {Q : ℕ → List ℕ → Type 0} (b : Bool) (k : ℕ) (vs : List ℕ) (f : Unit {0} → Reply B)
    → (T b → Q k vs) → (T (not b) → Says H Q (f tt)) → Says H Q (refuse_if b k vs >>= f)
says_unless true k vs f q h = refusing (q tt)
says_unless false k vs f q h = h tt

-- a test that is the last step
pub says_if : {H : Unit {0} → Type 0} {Q : ℕ → List ℕ → Type 0} (b : Bool) (k : ℕ) (vs : List ℕ)
    → (T b → Q k vs) → (T (not b) → H tt) → Says H Q (refuse_if b k vs)
says_if true k vs q h = refusing (q tt)
says_if false k vs q h = giving (h tt)

-- tests turned round
pub test_of_twice_not : (b : Bool) → T (not (not b)) → T b
test_of_twice_not true t = tt
test_of_twice_not false t = t

pub neither_of_or : (a b : Bool) → T (not (a || b)) → T (not a) × T (not b)
neither_of_or true b t = absurd t
neither_of_or false b t = (tt, t)
