-- The marked bits of a word are those that were put in: what the word tells, what it keeps without them, and what may come after it.
-- Assumes nothing.
use Rattle.std.proofs.Common.{◌≡◌, ℕ, zero, suc, ◌+◌, ◌*◌, ◌/◌, ◌%◌, ◌^◌, ◌<◌, min, Bool, true, false, T, eqb, List, [], ◌∷◌, sym, refl, ap, ◌∙◌, ap₂, arith, eq-eqb, ne_eqb, eqb-true}
use lib.Bits.{bit_and, and_step}
use Rattle.laws.specs.Tests.{both, pick}
use Rattle.laws.proofs.Tests.{never, is_true, both_left, both_right}
use Rattle.laws.proofs.Table.{all_below, below}
use Rattle.bits.specs.Bits.{low_first}
use Rattle.stuffing.specs.Stuff.{unstuffed}
use Rattle.stuffing.specs.Marks.{kept}
use Rattle.stuffing.specs.Taking.{left_in, clean, left_by}
use Rattle.stuffing.proofs.Marking.{half-shift, mark, mark-bit, marks_of}

-- ---- the marked bits are those that were put in: a test at each five bits

five-right : ℕ → Bool
unfolding left_by left_in low_first
five-right tail = both (eqb (left_by (tail / 2)) 5) (pick (eqb tail 31) (eqb (left_by tail) 0) (eqb (left_by tail) (suc (left_by (tail / 2 + 16)))))

all-fives-right : T (all_below five-right 32)
unfolding five-right
all-fives-right = tt

module _ (tail : ℕ) (five : tail < 32) where
  tested : both (eqb (left_by (tail / 2)) 5) (pick (eqb tail 31) (eqb (left_by tail) 0) (eqb (left_by tail) (suc (left_by (tail / 2 + 16))))) ≡ true
  unfolding five-right
  tested = is_true {b = five-right tail} (below five-right 32 all-fives-right tail five)

  after-zero : left_by (tail / 2) ≡ 5
  after-zero = eqb-true _ _ (both_left (eqb (left_by (tail / 2)) 5) _ tested)

  second : pick (eqb tail 31) (eqb (left_by tail) 0) (eqb (left_by tail) (suc (left_by (tail / 2 + 16)))) ≡ true
  second = both_right (eqb (left_by (tail / 2)) 5) _ tested

  none_left : tail ≡ 31 → left_by tail ≡ 0
  none_left e = eqb-true _ _ (rw (eq-eqb tail 31 e) at second)

  some_left : (tail ≡ 31 → ⊥) → left_by tail ≡ suc (left_by (tail / 2 + 16))
  some_left ne = eqb-true _ _ (rw (ne_eqb tail 31 ne) at second)

-- what a word of n bits after these five comes to
pub record Reads (n tail v : ℕ) : Type 0 where
  pub told : clean (left_by tail) (low_first n v) ≡ eqb (bit_and (marks_of n (v * 32 + tail)) v) 0
  pub are : bit_and (marks_of n (v * 32 + tail)) v ≡ 0 → kept (low_first n (marks_of n (v * 32 + tail))) (low_first n v) ≡ unstuffed (left_by tail) (low_first n v)
  pub left : bit_and (marks_of n (v * 32 + tail)) v ≡ 0 → left_by ((v * 32 + tail) / 2 ^ n) ≡ left_in (left_by tail) (low_first n v)

double-none : (a : ℕ) → eqb (a * 2 + 0) 0 ≡ eqb a 0
double-none zero = refl
double-none (suc a) = ne_eqb (suc a * 2 + 0) 0 (λ z. omega arith) ∙ sym (ne_eqb (suc a) 0 (λ z. omega arith))

mark-here : (tail v : ℕ) → tail ≡ 31 → mark (v * 32 + tail) ≡ 1
unfolding mark
mark-here tail v e = let m : (v * 32 + tail) % 32 ≡ 31 = omega arith in simp (eq-eqb ((v * 32 + tail) % 32) 31 m)

mark-none : (tail v : ℕ) → tail < 32 → (tail ≡ 31 → ⊥) → mark (v * 32 + tail) ≡ 0
unfolding mark
mark-none tail v five ne = simp (ne_eqb ((v * 32 + tail) % 32) 31 (λ z. ne (omega arith)))

-- one bit more, t being the five bits after it
module _ (n tail v t : ℕ) (half : (v * 32 + tail) / 2 ≡ v / 2 * 32 + t) (r : Reads n t (v / 2)) where
  rest : ℕ
  rest = bit_and (marks_of n (v / 2 * 32 + t)) (v / 2)

  bits_are : {x : ℕ} → v % 2 ≡ x → low_first (suc n) v ≡ x ∷ low_first n (v / 2)
  unfolding low_first
  bits_are e = ap (λ (b : ℕ). b ∷ low_first n (v / 2)) e

  marks-first : {y : ℕ} → mark (v * 32 + tail) ≡ y → marks_of (suc n) (v * 32 + tail) % 2 ≡ y
  unfolding marks_of
  marks-first e = omega (arith, mark-bit (v * 32 + tail), e)

  marks-rest : marks_of (suc n) (v * 32 + tail) / 2 ≡ marks_of n (v / 2 * 32 + t)
  unfolding marks_of
  marks-rest = rw (← half) (omega (arith, mark-bit (v * 32 + tail)))

  marks-are : {y : ℕ} → mark (v * 32 + tail) ≡ y → low_first (suc n) (marks_of (suc n) (v * 32 + tail)) ≡ y ∷ low_first n (marks_of n (v / 2 * 32 + t))
  unfolding low_first
  marks-are e = ap₂ (λ (y m : ℕ). y ∷ low_first n m) (marks-first e) marks-rest

  sum_is : {x y : ℕ} → v % 2 ≡ x → mark (v * 32 + tail) ≡ y → bit_and (marks_of (suc n) (v * 32 + tail)) v ≡ rest * 2 + min y x
  unfolding rest
  sum_is {x} {y} e f = and_step (marks_of (suc n) (v * 32 + tail)) v ∙ ap₂ (λ (m y : ℕ). bit_and m (v / 2) * 2 + min y (v % 2)) marks-rest (marks-first f) ∙ ap (λ (x : ℕ). bit_and (marks_of n (v / 2 * 32 + t)) (v / 2) * 2 + min y x) e

  next-is : (v * 32 + tail) / 2 ^ suc n ≡ (v / 2 * 32 + t) / 2 ^ n
  next-is = sym (half-shift (v * 32 + tail) n) ∙ ap (λ (x : ℕ). x / 2 ^ n) half

  -- no five ones before it
  reads_on : {k x : ℕ} → mark (v * 32 + tail) ≡ 0 → left_by tail ≡ suc k → v % 2 ≡ x → clean (suc k) (x ∷ low_first n (v / 2)) ≡ clean (left_by t) (low_first n (v / 2))
      → unstuffed (suc k) (x ∷ low_first n (v / 2)) ≡ x ∷ unstuffed (left_by t) (low_first n (v / 2)) → left_in (suc k) (x ∷ low_first n (v / 2)) ≡ left_in (left_by t) (low_first n (v / 2))
      → Reads (suc n) tail v
  unfolding kept rest
  reads_on {k} {x} em el ex c u l =
      let z : bit_and (marks_of (suc n) (v * 32 + tail)) v ≡ rest * 2 + 0 = omega (arith, sum_is ex em) in
      let b = bits_are ex in
      let none : bit_and (marks_of (suc n) (v * 32 + tail)) v ≡ 0 → rest ≡ 0 = λ h. omega arith in
      record {
        told = ap₂ clean el b ∙ c ∙ r.told ∙ sym (ap (λ (y : ℕ). eqb y 0) z ∙ double-none rest);
        are = λ h. ap₂ kept (marks-are em) b ∙ ap (λ (ys : List ℕ). x ∷ ys) (r.are (none h)) ∙ sym (ap₂ unstuffed el b ∙ u);
        left = λ h. ap left_by next-is ∙ r.left (none h) ∙ sym (ap₂ left_in el b ∙ l);
      }

  -- it was put in
  reads-put : mark (v * 32 + tail) ≡ 1 → left_by tail ≡ 0 → v % 2 ≡ 0 → left_by t ≡ 5 → Reads (suc n) tail v
  unfolding kept rest clean unstuffed left_in
  reads-put em el ex five =
      let z : bit_and (marks_of (suc n) (v * 32 + tail)) v ≡ rest * 2 + 0 = sum_is ex em in
      let b = bits_are ex in
      let none : bit_and (marks_of (suc n) (v * 32 + tail)) v ≡ 0 → rest ≡ 0 = λ h. omega arith in
      record {
        told = ap₂ clean el b ∙ ap (λ (k : ℕ). clean k (low_first n (v / 2))) (sym five) ∙ r.told ∙ sym (ap (λ (y : ℕ). eqb y 0) z ∙ double-none rest);
        are = λ h. ap₂ kept (marks-are em) b ∙ r.are (none h) ∙ sym (ap₂ unstuffed el b ∙ ap (λ (k : ℕ). unstuffed k (low_first n (v / 2))) (sym five));
        left = λ h. ap left_by next-is ∙ r.left (none h) ∙ sym (ap₂ left_in el b ∙ ap (λ (k : ℕ). left_in k (low_first n (v / 2))) (sym five));
      }

  -- it should have been
  reads-spoilt : mark (v * 32 + tail) ≡ 1 → left_by tail ≡ 0 → v % 2 ≡ 1 → Reads (suc n) tail v
  unfolding clean rest
  reads-spoilt em el ex =
      let z : bit_and (marks_of (suc n) (v * 32 + tail)) v ≡ rest * 2 + 1 = sum_is ex em in
      record {
        told = ap₂ clean el (bits_are ex) ∙ sym (ne_eqb (bit_and (marks_of (suc n) (v * 32 + tail)) v) 0 (λ h. omega arith));
        are = λ h. absurd (omega arith);
        left = λ h. absurd (omega arith);
      }

even-half : (tail v : ℕ) → v % 2 ≡ 0 → (v * 32 + tail) / 2 ≡ v / 2 * 32 + tail / 2
even-half tail v e = omega arith

odd-half : (tail v : ℕ) → v % 2 ≡ 1 → (v * 32 + tail) / 2 ≡ v / 2 * 32 + (tail / 2 + 16)
odd-half tail v e = omega arith

reads_none : (tail : ℕ) → tail < 32 → Reads 0 tail 0
unfolding clean unstuffed left_in kept low_first marks_of
reads_none tail five =
    let f : (0 * 32 + tail) / 2 ^ 0 ≡ tail = omega arith in
    record { told = clean_end (left_by tail); are = λ h. unstuffed-end (left_by tail); left = λ h. ap left_by f ∙ left_end (left_by tail) }
  where
    clean_end : (k : ℕ) → clean k [] ≡ true
    clean_end k = refl

    unstuffed-end : (k : ℕ) → [] ≡ unstuffed k []
    unstuffed-end zero = refl
    unstuffed-end (suc k) = refl

    left_end : (k : ℕ) → k ≡ left_in k []
    left_end k = refl

pub reads : (n tail v : ℕ) → tail < 32 → v < 2 ^ n → Reads n tail v
unfolding clean unstuffed left_in
reads zero tail v five small =
    let e : v ≡ 0 = omega arith in
    rw e (reads_none tail five)
reads (suc n) tail v five small = go (λ t h. reads n t (v / 2) h (omega arith)) (eqb tail 31) refl (v % 2) refl (omega arith)
  where
    some : eqb tail 31 ≡ false → tail ≡ 31 → ⊥
    some e z = never (sym e ∙ eq-eqb tail 31 z)

    go : ((t : ℕ) → t < 32 → Reads n t (v / 2)) → (b : Bool) → eqb tail 31 ≡ b → (x : ℕ) → v % 2 ≡ x → x < 2 → Reads (suc n) tail v
    go ih true e zero ex l =
        reads-put n tail v (tail / 2) (even-half tail v ex) (ih (tail / 2) (omega arith)) (mark-here tail v (eqb-true tail 31 e)) (none_left tail five (eqb-true tail 31 e)) ex (after-zero tail five)
    go ih true e (suc zero) ex l =
        reads-spoilt n tail v (tail / 2 + 16) (odd-half tail v ex) (ih (tail / 2 + 16) (omega arith)) (mark-here tail v (eqb-true tail 31 e)) (none_left tail five (eqb-true tail 31 e)) ex
    go ih false e zero ex l =
        let f = sym (after-zero tail five) in
        let xs = low_first n (v / 2) in
        reads_on n tail v (tail / 2) (even-half tail v ex) (ih (tail / 2) (omega arith)) (mark-none tail v five (some e)) (some_left tail five (some e)) ex
        (ap (λ (k : ℕ). clean k xs) f) (ap (λ (k : ℕ). 0 ∷ unstuffed k xs) f) (ap (λ (k : ℕ). left_in k xs) f)
    go ih false e (suc zero) ex l =
        reads_on n tail v (tail / 2 + 16) (odd-half tail v ex) (ih (tail / 2 + 16) (omega arith)) (mark-none tail v five (some e)) (some_left tail five (some e)) ex refl refl refl
    go ih b e (suc (suc x)) ex l = absurd (omega arith)
