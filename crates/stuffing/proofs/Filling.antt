-- Bits with the zeros put in, by marks on a whole word: the marks tell where, and putting in one 0 after the other gives `stuffed`.
-- Assumes nothing.
use Rattle.std.proofs.Common.{◌≡◌, ℕ, zero, suc, ◌+◌, ◌-◌, ◌*◌, ◌/◌, ◌%◌, ◌^◌, ◌<◌, ◌≤◌, max, Bool, true, false, eqb, List, [], ◌∷◌, length, sym, refl, ap, ◌∙◌, ap₂, lt_of_lt_of_le, lt_of_le_of_lt, add-zero, mod-eq_of_lt, arith, pow_mono, eq-eqb, ne_eqb, eqb-true}
use lib.Bits.{bit_and, and_le_r, and_mask}
use Rattle.laws.proofs.Tests.{never}
use Rattle.bits.specs.Bits.{low_first}
use Rattle.bits.proofs.Bits.{length-low_first}
use Rattle.stuffing.specs.Stuff.{stuffed}
use Rattle.stuffing.specs.Marks.{fives_of, up_to_lowest, filled}
use Rattle.stuffing.specs.Filling.{left_of, zero_put, Stuffs}
use Rattle.stuffing.specs.declared.marks.Marked.{Marked}
use Rattle.stuffing.proofs.Stuffing.{stuffed-bound}
use Rattle.stuffing.proofs.Marking.{mark, mark-bit, marks_of, fives-marks, lowest-none, lowest-small}
use Rattle.stuffing.proofs.LastFour.{after-zero, few-left, after_one, none_left, some_left}
use Rattle.stuffing.proofs.OneZero.{with-zero, marks_then, Longer, longer}

-- ---- the marks tell where a 0 is put in

mark-here : (t v : ℕ) → t ≡ 15 → v % 2 ≡ 1 → mark (v * 16 + t) ≡ 1
unfolding mark
mark-here t v e o = let m : (v * 16 + t) % 32 ≡ 31 = omega arith in simp (eq-eqb ((v * 16 + t) % 32) 31 m)

mark-none : (t v : ℕ) → t < 16 → (t ≡ 15 → v % 2 ≡ 1 → ⊥) → mark (v * 16 + t) ≡ 0
unfolding mark
mark-none t v four ne = simp (ne_eqb ((v * 16 + t) % 32) 31 (λ z. ne (omega arith) (omega arith)))

module _ (n t v t' : ℕ) (half : (v * 16 + t) / 2 ≡ v / 2 * 16 + t') where
  bits_are : {x : ℕ} → v % 2 ≡ x → low_first (suc n) v ≡ x ∷ low_first n (v / 2)
  unfolding low_first
  bits_are e = ap (λ (b : ℕ). b ∷ low_first n (v / 2)) e

  marks-are : {y : ℕ} → mark (v * 16 + t) ≡ y → low_first (suc n) (marks_of (suc n) (v * 16 + t)) ≡ y ∷ low_first n (marks_of n (v / 2 * 16 + t'))
  unfolding low_first marks_of
  marks-are {y} e =
      let a : (mark (v * 16 + t) + 2 * marks_of n ((v * 16 + t) / 2)) % 2 ≡ y = omega (arith, mark-bit (v * 16 + t), e) in
      let b : (mark (v * 16 + t) + 2 * marks_of n ((v * 16 + t) / 2)) / 2 ≡ marks_of n (v / 2 * 16 + t') = rw (← half) (omega (arith, mark-bit (v * 16 + t))) in
      ap₂ (λ (x m : ℕ). x ∷ low_first n m) a b

low-none : (v : ℕ) → low_first 0 v ≡ []
unfolding low_first
low-none v = refl

even-half : (t v : ℕ) → v % 2 ≡ 0 → (v * 16 + t) / 2 ≡ v / 2 * 16 + t / 2
even-half t v e = omega arith

odd-half : (t v : ℕ) → v % 2 ≡ 1 → (v * 16 + t) / 2 ≡ v / 2 * 16 + (t / 2 + 8)
odd-half t v e = omega arith

-- i: how many of the next marks do not count
fills : (n t v i : ℕ) → t < 16 → i ≤ 4 → filled i (low_first n (marks_of n (v * 16 + t))) (low_first n v) ≡ stuffed (max (left_of t) i) (low_first n v)
unfolding filled stuffed
fills zero t v i four few = ap₂ (filled i) (low-none _) (low-none v) ∙ sym (ap (stuffed (max (left_of t) i)) (low-none v))
fills (suc n) t v i four few = go (λ t' i' h k. fills n t' (v / 2) i' h k) (v % 2) refl (omega arith) i few (eqb t 15) refl
  where
    go : ((t' i' : ℕ) → t' < 16 → i' ≤ 4 → filled i' (low_first n (marks_of n (v / 2 * 16 + t'))) (low_first n (v / 2)) ≡ stuffed (max (left_of t') i') (low_first n (v / 2)))
        → (x : ℕ) → v % 2 ≡ x → x < 2 → (i : ℕ) → i ≤ 4 → (b : Bool) → eqb t 15 ≡ b
        → filled i (low_first (suc n) (marks_of (suc n) (v * 16 + t))) (low_first (suc n) v) ≡ stuffed (max (left_of t) i) (low_first (suc n) v)
    go ih zero ex l zero few b e =
        let h = even-half t v ex in
        let k : max (left_of (t / 2)) 0 ≡ 4 = omega (arith, after-zero t four) in
        ap₂ (filled 0) (marks-are n t v (t / 2) h (mark-none t v four (λ _ o. omega arith))) (bits_are n t v (t / 2) h ex)
        ∙ ap (λ (ys : List ℕ). 0 ∷ ys) (ih (t / 2) 0 (omega arith) (omega arith) ∙ ap (λ (k : ℕ). stuffed k (low_first n (v / 2))) k)
        ∙ sym (ap (stuffed (max (left_of t) 0)) (bits_are n t v (t / 2) h ex))
    go ih zero ex l (suc i) few b e =
        let h = even-half t v ex in
        let k : max (left_of (t / 2)) i ≡ 4 = omega (arith, after-zero t four) in
        ap₂ (filled (suc i)) (marks-are n t v (t / 2) h refl) (bits_are n t v (t / 2) h ex)
        ∙ ap (λ (ys : List ℕ). 0 ∷ ys) (ih (t / 2) i (omega arith) (omega arith) ∙ ap (λ (k : ℕ). stuffed k (low_first n (v / 2))) k)
        ∙ sym (ap (stuffed (max (left_of t) (suc i))) (bits_are n t v (t / 2) h ex))
    go ih (suc zero) ex l (suc i) few b e =
        let h = odd-half t v ex in
        let k : max (left_of t) (suc i) ≡ suc (max (left_of (t / 2 + 8)) i) = omega (arith, after_one t four) in
        ap₂ (filled (suc i)) (marks-are n t v (t / 2 + 8) h refl) (bits_are n t v (t / 2 + 8) h ex)
        ∙ ap (λ (ys : List ℕ). 1 ∷ ys) (ih (t / 2 + 8) i (omega arith) (omega arith))
        ∙ sym (ap₂ stuffed k (bits_are n t v (t / 2 + 8) h ex))
    go ih (suc zero) ex l zero few true e =
        let h = odd-half t v ex in
        let f = eqb-true t 15 e in
        let k : max (left_of t) 0 ≡ 0 = omega (arith, none_left t four f) in
        let k4 : max (left_of (t / 2 + 8)) 4 ≡ 4 = omega (arith, after_one t four, few-left t four) in
        ap₂ (filled 0) (marks-are n t v (t / 2 + 8) h (mark-here t v f ex)) (bits_are n t v (t / 2 + 8) h ex)
        ∙ ap (λ (ys : List ℕ). 1 ∷ 0 ∷ ys) (ih (t / 2 + 8) 4 (omega arith) (omega arith) ∙ ap (λ (k : ℕ). stuffed k (low_first n (v / 2))) k4)
        ∙ sym (ap₂ stuffed k (bits_are n t v (t / 2 + 8) h ex))
    go ih (suc zero) ex l zero few false e =
        let h = odd-half t v ex in
        let ne : t ≡ 15 → ⊥ = λ z. never (sym e ∙ eq-eqb t 15 z) in
        let k : max (left_of t) 0 ≡ suc (max (left_of (t / 2 + 8)) 0) = omega (arith, after_one t four, some_left t four ne) in
        ap₂ (filled 0) (marks-are n t v (t / 2 + 8) h (mark-none t v four (λ z _. ne z))) (bits_are n t v (t / 2 + 8) h ex)
        ∙ ap (λ (ys : List ℕ). 1 ∷ ys) (ih (t / 2 + 8) 0 (omega arith) (omega arith))
        ∙ sym (ap₂ stuffed k (bits_are n t v (t / 2 + 8) h ex))
    go ih (suc (suc x)) ex l i few b e = absurd (omega arith)

-- ---- the zeros put in one after the other

filled-all : (n x : ℕ) → filled 0 (low_first n 0) (low_first n x) ≡ low_first n x
unfolding filled low_first
filled-all zero x = refl
filled-all (suc n) x = ap (λ (xs : List ℕ). x % 2 ∷ xs) (filled-all n (x / 2))

filled-least : (i n m x : ℕ) → n ≤ length (filled i (low_first n m) (low_first n x))
unfolding filled low_first
filled-least i zero m x = omega arith
filled-least (suc i) (suc n) m x = omega (arith, filled-least i n (m / 2) (x / 2))
filled-least zero (suc n) m x = go (m % 2) (filled-least 0 n (m / 2) (x / 2)) (filled-least 4 n (m / 2) (x / 2))
  where
    go : (b : ℕ) → n ≤ length (filled 0 (low_first n (m / 2)) (low_first n (x / 2))) → n ≤ length (filled 4 (low_first n (m / 2)) (low_first n (x / 2)))
        → suc n ≤ length (filled 0 (b ∷ low_first n (m / 2)) (x % 2 ∷ low_first n (x / 2)))
    go zero h k = omega (arith, h)
    go (suc b) h k = omega (arith, k)

mod-small : (x n : ℕ) → x < 2 ^ n → x % 2 ^ n ≡ x
mod-small x n h = mod-eq_of_lt h

pub fives-bound : (w v : ℕ) → w / 16 ≡ v → fives_of w ≤ v
unfolding fives_of
fives-bound w v e = omega (arith, and_le_r (bit_and (bit_and w (w / 2)) (bit_and w (w / 2) / 4)) (w / 16))

-- the bits and their marks still give the same, of whatever width the number is taken to be
pub record Filling (tail v : ℕ) (s : Marked) : Type 0 where
  pub four : tail < 16
  pub word : v < 2 ^ 32
  pub goes : (n : ℕ) → n ≤ 32 → v < 2 ^ n → filled 0 (low_first (n + s.done) s.marks) (low_first (n + s.done) s.bits) ≡ stuffed (left_of tail) (low_first n v)
  pub small : (n : ℕ) → n ≤ 32 → v < 2 ^ n → s.bits < 2 ^ (n + s.done)
  pub marks : (n : ℕ) → n ≤ 32 → v < 2 ^ n → s.marks < 2 ^ (n + s.done)

pub filling-start : {tail v m : ℕ} → tail < 16 → v < 2 ^ 32 → m ≡ fives_of (v * 16 + tail) → Filling tail v (record { bits = v; marks = m; done = 0 })
filling-start {tail} {v} {m} four word em =
    let w = v * 16 + tail in
    let q : w / 16 ≡ v = omega arith in
    let less : m ≤ v = rw em (fives-bound w v q) in
    let is : (n : ℕ) → v < 2 ^ n → m ≡ marks_of n w = λ n h. em ∙ sym (mod-small (fives_of w) n (omega (arith, em))) ∙ fives-marks n w in
    let max-zero : max (left_of tail) 0 ≡ left_of tail = omega arith in
    record {
      four = four;
      word = word;
      goes = λ n _ h. rw (add-zero n) (ap (λ (x : ℕ). filled 0 (low_first n x) (low_first n v)) (is n h) ∙ fills n tail v 0 four (omega arith) ∙ ap (λ (k : ℕ). stuffed k (low_first n v)) max-zero);
      small = λ n _ h. rw (add-zero n) h;
      marks = λ n _ h. rw (add-zero n) (lt_of_le_of_lt less h);
    }

module _ {tail v : ℕ} {s : Marked} (f : Filling tail v s) where
  pub filling-few : s.done ≤ 7
  filling-few = omega (arith, filled-least 0 (32 + s.done) s.marks s.bits, ap length (f.goes 32 (omega arith) f.word), stuffed-bound (left_of tail) (low_first 32 v) (few-left tail f.four), length-low_first 32 v)

  pub filling-small : (s.bits < 2 ^ 39) × (s.marks < 2 ^ 39) × (s.done ≤ 39)
  filling-small =
      let p : 2 ^ (32 + s.done) ≤ 2 ^ 39 = pow_mono {i = 32 + s.done} {j = 39} (omega (arith, filling-few)) in
      (lt_of_lt_of_le (f.small 32 (omega arith) f.word) p, lt_of_lt_of_le (f.marks 32 (omega arith) f.word) p, omega (arith, filling-few))

  module _ (none : s.marks ≡ 0) where
    bits-stay : (zero_put s).bits ≡ s.bits
    unfolding zero_put
    bits-stay =
        let a : bit_and s.bits (2 ^ 64 - 1) ≡ s.bits % 2 ^ 64 = and_mask s.bits 64 in
        rw (none, lowest-none) (omega (arith, a, filling-small.0))

    marks_stay : (zero_put s).marks ≡ 0
    unfolding zero_put
    marks_stay = rw none (omega arith)

    done-stays : (zero_put s).done ≡ s.done
    unfolding zero_put
    done-stays = rw (none, lowest-none) (omega arith)

    pub filling-same : Filling tail v (zero_put s)
    filling-same = record {
      four = f.four;
      word = f.word;
      goes = λ n k h. rw (marks_stay, bits-stay, done-stays) (rw none at (f.goes n k h));
      small = λ n k h. rw (bits-stay, done-stays) (f.small n k h);
      marks = λ n k h. rw (marks_stay, done-stays) (rw none at (f.marks n k h));
    }

    pub filling-end : Stuffs tail v s
    filling-end = record {
      are = λ n k h. sym (filled-all (n + s.done) s.bits) ∙ rw none at (f.goes n k h);
      small = f.small;
    }

  module _ (some : 0 < s.marks) where
    low : ℕ
    low = up_to_lowest s.marks

    low_small : low < 2 ^ 39
    unfolding low
    low_small = lowest-small 39 s.marks some filling-small.1

    pub done_more : (zero_put s).done ≡ s.done + 1
    unfolding zero_put low
    done_more = omega (arith, low_small)

    bits-more : (zero_put s).bits ≡ with-zero s.bits s.marks
    unfolding zero_put with-zero
    bits-more = refl

    marks-more : (zero_put s).marks ≡ marks_then s.marks
    unfolding zero_put marks_then low
    marks-more = let e : up_to_lowest s.marks * 2 ^ 4 % 2 ^ 64 ≡ up_to_lowest s.marks * 16 = omega (arith, low_small) in rw e refl

    pub filling-more : Filling tail v (zero_put s)
    filling-more =
        let d : (n : ℕ) → n + (s.done + 1) ≡ suc (n + s.done) = λ n. omega arith in
        let r : (n : ℕ) → n ≤ 32 → v < 2 ^ n → Longer (n + s.done) s.bits s.marks (with-zero s.bits s.marks) (marks_then s.marks) =
        λ n k h. longer (n + s.done) s.bits s.marks (f.small n k h) (f.marks n k h) some in
        record {
          four = f.four;
          word = f.word;
          goes = λ n k h. rw (marks-more, bits-more, done_more, d n) ((r n k h).fills ∙ f.goes n k h);
          small = λ n k h. rw (bits-more, done_more, d n) (r n k h).small;
          marks = λ n k h. rw (marks-more, done_more, d n) (r n k h).marks;
        }

pub filling-on : {tail v : ℕ} {s : Marked} → Filling tail v s → Filling tail v (zero_put s)
filling-on {tail} {v} {s} f = go s.marks refl
  where
    go : (x : ℕ) → s.marks ≡ x → Filling tail v (zero_put s)
    go zero e = filling-same f e
    go (suc x) e = filling-more f (omega arith)
