-- The last four bits sent tell how many ones may come before the one that a 0 follows: `left_of`, bit by bit, and after stuffed bits.
-- Assumes nothing.
use Rattle.std.proofs.Common.{◌≡◌, ℕ, zero, suc, ◌+◌, ◌-◌, ◌*◌, ◌/◌, ◌%◌, ◌^◌, ◌<◌, ◌≤◌, Bool, true, T, eqb, leb, List, [], ◌∷◌, ap, ◌∙◌, arith, eq-eqb, ne_eqb, eqb-true, leb-true}
use Rattle.laws.specs.Tests.{both, pick}
use Rattle.laws.proofs.Tests.{is_true, both_left, both_right}
use Rattle.laws.proofs.Table.{all_below, below}
use Rattle.bits.specs.Bits.{low_first, all_bits}
use Rattle.bits.proofs.Bits.{bit-head, bit-tail}
use Rattle.stuffing.specs.Stuff.{stuffed, left_after}
use Rattle.stuffing.specs.Filling.{left_of}
use Rattle.stuffing.proofs.Marking.{half-shift}

-- ---- a test at each four bits

four-right : ℕ → Bool
unfolding left_of left_after low_first
four-right t =
    both (both (eqb (left_of (t / 2)) 4) (leb (left_of t) 4))
    (both (eqb (left_of (t / 2 + 8)) (left_of t - 1)) (pick (eqb t 15) (eqb (left_of t) 0) (leb 1 (left_of t))))

all-fours-right : T (all_below four-right 16)
unfolding four-right
all-fours-right = tt

module _ (t : ℕ) (four : t < 16) where
  first : Bool
  first = both (eqb (left_of (t / 2)) 4) (leb (left_of t) 4)

  second : Bool
  second = both (eqb (left_of (t / 2 + 8)) (left_of t - 1)) (pick (eqb t 15) (eqb (left_of t) 0) (leb 1 (left_of t)))

  tested : both first second ≡ true
  unfolding four-right first second
  tested = is_true {b = four-right t} (below four-right 16 all-fours-right t four)

  pub after-zero : left_of (t / 2) ≡ 4
  unfolding first
  after-zero = eqb-true _ _ (both_left (eqb (left_of (t / 2)) 4) (leb (left_of t) 4) (both_left first second tested))

  pub few-left : left_of t ≤ 4
  unfolding first
  few-left = leb-true _ _ (both_right (eqb (left_of (t / 2)) 4) (leb (left_of t) 4) (both_left first second tested))

  pub after_one : left_of (t / 2 + 8) ≡ left_of t - 1
  unfolding second
  after_one = eqb-true _ _ (both_left (eqb (left_of (t / 2 + 8)) (left_of t - 1)) _ (both_right first second tested))

  third : pick (eqb t 15) (eqb (left_of t) 0) (leb 1 (left_of t)) ≡ true
  unfolding second
  third = both_right (eqb (left_of (t / 2 + 8)) (left_of t - 1)) _ (both_right first second tested)

  pub none_left : t ≡ 15 → left_of t ≡ 0
  none_left e = eqb-true _ _ (rw (eq-eqb t 15 e) at third)

  pub some_left : (t ≡ 15 → ⊥) → 1 ≤ left_of t
  some_left ne = leb-true _ _ (rw (ne_eqb t 15 ne) at third)

-- ---- the last four bits of what was stuffed

unfoldable pub last_four : ℕ → List ℕ → ℕ
last_four t [] = t
last_four t (b ∷ bs) = last_four (t / 2 + 8 * b) bs

pub last-low : (n t x : ℕ) → x < 2 ^ n → last_four t (low_first n x) ≡ (x * 16 + t) / 2 ^ n
unfolding last_four low_first
last-low zero t x h = let e : x ≡ 0 = omega arith in rw e (omega arith)
last-low (suc n) t x h =
    let e : x / 2 * 16 + (t / 2 + 8 * (x % 2)) ≡ (x * 16 + t) / 2 = omega arith in
    last-low n (t / 2 + 8 * (x % 2)) (x / 2) (omega arith) ∙ ap (λ (z : ℕ). z / 2 ^ n) e ∙ half-shift (x * 16 + t) n

pub last-left : (k t : ℕ) (xs : List ℕ) → all_bits xs ≡ true → t < 16 → left_of t ≡ k → left_of (last_four t (stuffed k xs)) ≡ left_after k xs
unfolding last_four stuffed left_after
last-left k t [] bits four e = e
last-left k t (zero ∷ xs) bits four e =
    let s : t / 2 + 8 * 0 ≡ t / 2 = omega arith in
    last-left 4 (t / 2 + 8 * 0) xs (bit-tail 0 xs bits) (omega arith) (ap left_of s ∙ after-zero t four)
last-left zero t (suc x ∷ xs) bits four e =
    let h = bit-head (suc x) xs bits in
    let u = t / 2 + 8 * suc x in
    let s : u / 2 + 8 * 0 ≡ u / 2 = omega arith in
    last-left 4 (u / 2 + 8 * 0) xs (bit-tail (suc x) xs bits) (omega arith) (ap left_of s ∙ after-zero u (omega arith))
last-left (suc k) t (suc x ∷ xs) bits four e =
    let h = bit-head (suc x) xs bits in
    let s : t / 2 + 8 * suc x ≡ t / 2 + 8 = omega arith in
    last-left k (t / 2 + 8 * suc x) xs (bit-tail (suc x) xs bits) (omega arith) (ap left_of s ∙ after_one t four ∙ omega (arith, e))
