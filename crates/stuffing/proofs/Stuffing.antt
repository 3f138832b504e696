-- Stuffing and unstuffing: lengths, one list after the other, and how each undoes the other.
-- Assumes nothing.
use Rattle.std.proofs.Common.{◌≡◌, ℕ, zero, suc, ◌+◌, ◌*◌, ◌≤◌, true, List, [], ◌∷◌, ◌++◌, length, refl, ap, ◌∙◌, arith}
use Rattle.bits.specs.Bits.{all_bits}
use Rattle.bits.proofs.Bits.{bit-head, bit-tail, all_bits-more}
use Rattle.stuffing.specs.Stuff.{stuffed, left_after, legal, unstuffed}

pub stuffed-end : (k : ℕ) → stuffed k [] ≡ []
unfolding stuffed
stuffed-end k = refl

-- ---- lengths

pub stuffed-bound : (k : ℕ) (xs : List ℕ) → k ≤ 4 → 5 * length (stuffed k xs) + k ≤ 6 * length xs + 4
unfolding stuffed
stuffed-bound k [] h = omega arith
stuffed-bound k (zero ∷ bs) h = omega (arith, stuffed-bound 4 bs (omega arith))
stuffed-bound zero (suc b ∷ bs) h = omega (arith, stuffed-bound 4 bs (omega arith))
stuffed-bound (suc k) (suc b ∷ bs) h = omega (arith, stuffed-bound k bs (omega arith))

pub stuffed-least : (k : ℕ) (xs : List ℕ) → length xs ≤ length (stuffed k xs)
unfolding stuffed
stuffed-least k [] = omega arith
stuffed-least k (zero ∷ bs) = omega (arith, stuffed-least 4 bs)
stuffed-least zero (suc b ∷ bs) = omega (arith, stuffed-least 4 bs)
stuffed-least (suc k) (suc b ∷ bs) = omega (arith, stuffed-least k bs)

pub unstuffed-bits : (k : ℕ) (xs : List ℕ) → all_bits xs ≡ true → all_bits (unstuffed k xs) ≡ true
unfolding unstuffed
unstuffed-bits zero [] e = e
unstuffed-bits (suc k) [] e = e
unstuffed-bits zero (x ∷ xs) e = unstuffed-bits 5 xs (bit-tail x xs e)
unstuffed-bits (suc k) (zero ∷ xs) e = all_bits-more 0 (unstuffed 5 xs) (omega arith) ∙ unstuffed-bits 5 xs (bit-tail 0 xs e)
unstuffed-bits (suc k) (suc x ∷ xs) e = all_bits-more (suc x) (unstuffed k xs) (bit-head (suc x) xs e) ∙ unstuffed-bits k xs (bit-tail (suc x) xs e)

-- ---- one list after the other

pub stuffed-append : (k : ℕ) (xs ys : List ℕ) → stuffed k (xs ++ ys) ≡ stuffed k xs ++ stuffed (left_after k xs) ys
unfolding stuffed left_after
stuffed-append k [] ys = refl
stuffed-append k (zero ∷ xs) ys = ap (λ (t : List ℕ). 0 ∷ t) (stuffed-append 4 xs ys)
stuffed-append zero (suc x ∷ xs) ys = ap (λ (t : List ℕ). suc x ∷ 0 ∷ t) (stuffed-append 4 xs ys)
stuffed-append (suc k) (suc x ∷ xs) ys = ap (λ (t : List ℕ). suc x ∷ t) (stuffed-append k xs ys)

-- what was stuffed is legal, and comes off again, whatever follows
pub legal-stuffed : (k : ℕ) (xs ys : List ℕ) → legal (suc k) (stuffed k xs ++ ys) ≡ legal (suc (left_after k xs)) ys
unfolding stuffed legal left_after
legal-stuffed k [] ys = refl
legal-stuffed k (zero ∷ xs) ys = legal-stuffed 4 xs ys
legal-stuffed zero (suc x ∷ xs) ys = legal-stuffed 4 xs ys
legal-stuffed (suc k) (suc x ∷ xs) ys = legal-stuffed k xs ys

pub unstuffed-stuffed : (k : ℕ) (xs ys : List ℕ) → unstuffed (suc k) (stuffed k xs ++ ys) ≡ xs ++ unstuffed (suc (left_after k xs)) ys
unfolding stuffed unstuffed left_after
unstuffed-stuffed k [] ys = refl
unstuffed-stuffed k (zero ∷ xs) ys = ap (λ (t : List ℕ). 0 ∷ t) (unstuffed-stuffed 4 xs ys)
unstuffed-stuffed zero (suc x ∷ xs) ys = ap (λ (t : List ℕ). suc x ∷ t) (unstuffed-stuffed 4 xs ys)
unstuffed-stuffed (suc k) (suc x ∷ xs) ys = ap (λ (t : List ℕ). suc x ∷ t) (unstuffed-stuffed k xs ys)

-- what is legal is what stuffing makes of the bits that it holds
pub stuffed-unstuffed : (k : ℕ) (xs : List ℕ) → legal (suc k) xs ≡ true → stuffed k (unstuffed (suc k) xs) ≡ xs
unfolding stuffed unstuffed legal
stuffed-unstuffed k [] e = refl
stuffed-unstuffed k (zero ∷ xs) e = ap (λ (t : List ℕ). 0 ∷ t) (stuffed-unstuffed 4 xs e)
stuffed-unstuffed zero (suc x ∷ []) e = cc
stuffed-unstuffed zero (suc x ∷ zero ∷ xs) e = ap (λ (t : List ℕ). suc x ∷ 0 ∷ t) (stuffed-unstuffed 4 xs e)
stuffed-unstuffed zero (suc x ∷ suc y ∷ xs) e = cc
stuffed-unstuffed (suc k) (suc x ∷ xs) e = ap (λ (t : List ℕ). suc x ∷ t) (stuffed-unstuffed k xs e)
