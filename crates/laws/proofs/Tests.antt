-- Tests by what led to them, what a test says, and the one of two things that a test picks.
-- Assumes nothing.
use mathlib.Core.Path.{◌≡◌, refl, sym, ap, ◌∙◌, subst}
use mathlib.Core.Bool.{Bool, true, false, not}
use Prim.Native.Nat.{ℕ, ◌≤◌, ◌<◌}
use borrow.Author.Tests.{le-leb, lt-leb, leb-true}
use lib.Dec.{T, leb}
use Rattle.laws.specs.Tests.{both, either, pick, between}

-- no test both holds and does not
pub never : {X : Type 0} → false ≡ true → X
never e = absurd (subst T (sym e) tt)

-- what follows from a test that holds, and from one that does not
pub by-test : {X : Type 0} (b : Bool) → (b ≡ true → X) → (b ≡ false → X) → X
by-test true y n = y refl
by-test false y n = n refl

pub is_true : {b : Bool} → T b → b ≡ true
is_true {b = true} t = refl
is_true {b = false} t = absurd t

pub was-false : {b : Bool} → not b ≡ true → b ≡ false
was-false {b = true} e = sym e
was-false {b = false} e = refl

pub was-true : {b : Bool} → not b ≡ false → b ≡ true
was-true {b = true} e = refl
was-true {b = false} e = sym e

pub both_left : (a b : Bool) → both a b ≡ true → a ≡ true
both_left true b e = refl
both_left false b e = e

pub both_right : (a b : Bool) → both a b ≡ true → b ≡ true
both_right true b e = e
both_right false b e = cc

pub both-no : (a : Bool) → both a false ≡ false
both-no true = refl
both-no false = refl

pub both_yes : (a : Bool) → both a true ≡ a
both_yes true = refl
both_yes false = refl

pub between-yes : (a b n : ℕ) → a ≤ n → n ≤ b → between a b n ≡ true
between-yes a b n h k = simp (le-leb a n h, le-leb n b k)

pub between-low : (a b n : ℕ) → n < a → between a b n ≡ false
between-low a b n h = simp (lt-leb a n h)

pub between-high : (a b n : ℕ) → b < n → between a b n ≡ false
between-high a b n h = ap (both (leb a n)) (lt-leb n b h) ∙ both-no (leb a n)

pub between_is : (a b n : ℕ) → between a b n ≡ true → (a ≤ n) × (n ≤ b)
between_is a b n e = (leb-true a n (both_left (leb a n) (leb n b) e), leb-true n b (both_right (leb a n) (leb n b) e))

pub of-true : {b : Bool} → b ≡ true → T b
of-true {b = true} e = tt
of-true {b = false} e = never e

pub not-true : (b : Bool) → (b ≡ true → ⊥) → b ≡ false
not-true true n = absurd (n refl)
not-true false n = refl

pub either-false : (b : Bool) → either b false ≡ b
either-false true = refl
either-false false = refl

pub either_true : (b : Bool) → either b true ≡ true
either_true true = refl
either_true false = refl

-- ---- the one of two that a test picks

-- what f makes of it
pub pick-of : {A B : Type 0} (f : A → B) (b : Bool) (x y : A) → f (pick b x y) ≡ pick b (f x) (f y)
pick-of f true x y = refl
pick-of f false x y = refl

-- what both have, it has
pub pick-has : {A : Type 0} (P : A → Type 0) (b : Bool) (x y : A) → P x → P y → P (pick b x y)
pick-has P true x y p q = p
pick-has P false x y p q = q

-- what f makes of both, it makes of it
pub pick_is : {A B : Type 0} (f : A → B) {v : B} (b : Bool) {x y : A} → f x ≡ v → f y ≡ v → f (pick b x y) ≡ v
pick_is f true p q = p
pick_is f false p q = q
