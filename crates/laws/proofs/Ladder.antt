-- "Given exactly when" (specs/Exactly.antt) holds of every ladder whose tests have numbers above 0.
-- Assumes nothing.
use mathlib.Core.Path.{◌≡◌, refl, sym, ap, subst, ◌∙◌}
use mathlib.Core.Bool.{Bool, true, false, not, true≢false}
use mathlib.Core.Logic.{◌↔◌}
use mathlib.Core.List.{List, [], ◌∷◌, map}
use Prim.Native.Nat.{ℕ, zero, suc, ◌<◌}
use native.Mathlib.Omega.{arith}
use lib.Dec.{T, eqb, ltb}
use lib.ListN.{get_or}
use borrow.Author.Tests.{eq-eqb, ltb-true}
use Rattle.laws.specs.Tests.{both, ladder}
use Rattle.laws.specs.Exactly.{AllHold, StopsAt, Stops, Exactly, Refuses}
use Rattle.laws.proofs.Tests.{is_true, both_left, both_right, was-false}

-- every number is above 0
abbrev pub above : List ℕ → Bool
above [] = true
above (n ∷ ns) = both (ltb 0 n) (above ns)

module _ {X : Type 0} (f : X → ℕ) where
  abbrev numbers_of : List (Bool × X) → List ℕ
  numbers_of = map (λ (t : Bool × X). f t.1)

  -- a test that holds is passed by
  later : {n : ℕ} {y : X} {ts : List (Bool × X)} → Stops (numbers_of ts) ts n → Stops (numbers_of ((true, y) ∷ ts)) ((true, y) ∷ ts) n
  later s = record { test = suc s.test; number = s.number; stops = (refl, s.stops) }

  stopped : (ts : List (Bool × X)) (x : X) (n : ℕ) → (f x ≡ n → ⊥) → f (ladder ts x) ≡ n → Stops (numbers_of ts) ts n
  stopped [] x n z e = absurd (z e)
  stopped ((true, y) ∷ ts) x n z e = later (stopped ts x n z e)
  stopped ((false, y) ∷ ts) x n z e = record { test = 0; number = e; stops = refl }

  stopping : (ts : List (Bool × X)) (x : X) (i : ℕ) → StopsAt i ts → f (ladder ts x) ≡ get_or (numbers_of ts) i 0
  stopping [] x i s = absurd s
  stopping ((b, y) ∷ ts) x zero s = rw s
  stopping ((b, y) ∷ ts) x (suc i) s = rw s.0 (stopping ts x i s.1)

  all_held : (ts : List (Bool × X)) (x : X) → above (numbers_of ts) ≡ true → f (ladder ts x) ≡ 0 → AllHold ts
  all_held [] x a e = tt
  all_held ((true, y) ∷ []) x a e = refl
  all_held ((true, y) ∷ u ∷ ts) x a e = (refl, all_held (u ∷ ts) x (both_right (ltb 0 (f y)) (above (numbers_of (u ∷ ts))) a) e)
  all_held ((false, y) ∷ []) x a e = absurd (omega (arith, ltb-true 0 (f y) (both_left (ltb 0 (f y)) true a), e))
  all_held ((false, y) ∷ u ∷ ts) x a e =
      absurd (omega (arith, ltb-true 0 (f y) (both_left (ltb 0 (f y)) (above (numbers_of (u ∷ ts))) a), e))

-- where every test holds, none of their answers is given
pub all-through : {X : Type 0} (ts : List (Bool × X)) (x : X) → AllHold ts → ladder ts x ≡ x
all-through [] x a = refl
all-through ((b, y) ∷ []) x a = rw a
all-through ((b, y) ∷ u ∷ ts) x a = rw a.0 (all-through (u ∷ ts) x a.1)

-- a number that is not the one of what comes after the tests
pub given_by :
    {X : Type 0} (numbers : List ℕ) (f : X → ℕ) (ts : List (Bool × X)) (x : X) → map (λ (t : Bool × X). f t.1) ts ≡ numbers
    → (n : ℕ) → (f x ≡ n → ⊥) → (f (ladder ts x) ≡ n) ↔ Stops numbers ts n
given_by {X = X} numbers f ts x order n z =
    let at : (i : ℕ) → get_or (map (λ (t : Bool × X). f t.1) ts) i 0 ≡ get_or numbers i 0 = λ i. ap (λ (l : List ℕ). get_or l i 0) order in (
      (λ e. let s = stopped f ts x n z e in record { test = s.test; number = sym (at s.test) ∙ s.number; stops = s.stops }),
      (λ s. stopping f ts x s.test s.stops ∙ at s.test ∙ s.number),
    )

-- where one test only has the number, it is the one that stops; that it is the only one is computed
abbrev others : ℕ → List ℕ → Bool
others n [] = true
others n (m ∷ ns) = both (not (eqb m n)) (others n ns)

abbrev pub only_at : ℕ → ℕ → List ℕ → Bool
only_at n i [] = false
only_at n zero (m ∷ ns) = others n ns
only_at n (suc i) (m ∷ ns) = both (not (eqb m n)) (only_at n i ns)

not_there : (n i : ℕ) (ns : List ℕ) → 0 < n → others n ns ≡ true → get_or ns i 0 ≡ n → ⊥
not_there n i [] p o e = omega (arith, p, e)
not_there n zero (m ∷ ns) p o e = true≢false (sym (eq-eqb m n e) ∙ was-false (both_left (not (eqb m n)) (others n ns) o))
not_there n (suc i) (m ∷ ns) p o e = not_there n i ns p (both_right (not (eqb m n)) (others n ns) o) e

one_place : (n i j : ℕ) (ns : List ℕ) → 0 < n → only_at n i ns ≡ true → get_or ns j 0 ≡ n → j ≡ i
one_place n i j [] p o e = absurd (omega (arith, p, e))
one_place n zero zero (m ∷ ns) p o e = refl
one_place n zero (suc j) (m ∷ ns) p o e = absurd (not_there n j ns p o e)
one_place n (suc i) zero (m ∷ ns) p o e = absurd (true≢false (sym (eq-eqb m n e) ∙ was-false (both_left (not (eqb m n)) (only_at n i ns) o)))
one_place n (suc i) (suc j) (m ∷ ns) p o e = ap suc (one_place n i j ns p (both_right (not (eqb m n)) (only_at n i ns) o) e)

pub stops-there :
    {X : Type 0} (numbers : List ℕ) (ts : List (Bool × X)) (n i : ℕ) → 0 < n → T (only_at n i numbers) → Stops numbers ts n → StopsAt i ts
stops-there numbers ts n i p o s = rw (one_place n i s.test numbers p (is_true o) s.number) at s.stops

-- where the answer has the number 0, for none, every test held
pub all-answered :
    {X : Type 0} (f : X → ℕ) (ts : List (Bool × X)) (x : X) → T (above (map (λ (t : Bool × X). f t.1) ts)) → f (ladder ts x) ≡ 0 → AllHold ts
all-answered f ts x a = all_held f ts x (is_true a)

-- every number, by the list of tests; that each is above 0 is computed
pub by_tests :
    {X : Type 0} (numbers : List ℕ) (f : X → ℕ) (ts : List (Bool × X)) (x : X) → map (λ (t : Bool × X). f t.1) ts ≡ numbers → T (above numbers)
    → f x ≡ 0 → Exactly numbers f ts (f (ladder ts x))
by_tests numbers f ts x order positive z =
    record {
      order = order;
      given = λ n p. given_by numbers f ts x order n (λ e. omega (arith, z, e));
      none = (all_held f ts x (ap above order ∙ is_true positive), λ a. ap f (all-through ts x a) ∙ z);
    }

-- a call that gives the number of the answer a
pub owes :
    {X : Type 0} (numbers : List ℕ) (f : X → ℕ) (ts : List (Bool × X)) (a : X) (r : ℕ) {Same : Type 0} → Exactly numbers f ts (f a) → r ≡ f a → (0 < r → Same)
    → Refuses numbers f ts r Same
owes numbers f ts a r x e k = record { exactly = subst (Exactly numbers f ts) (sym e) x; kept = k }
