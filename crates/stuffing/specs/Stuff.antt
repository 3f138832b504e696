-- Stuffing: a 0 is put in after every five ones in a row, also where the fifth is the last bit.
-- Assumes nothing.
use Rattle.std.specs.Prelude.{ℕ, zero, suc, Bool, true, false, List, [], ◌∷◌}

-- 01111110, which no stuffed bits hold
unfoldable pub flag : List ℕ
flag = 0 ∷ 1 ∷ 1 ∷ 1 ∷ 1 ∷ 1 ∷ 1 ∷ 0 ∷ []

-- k: how many ones may come before the one that a 0 follows, 4 at the start
unfoldable pub stuffed : ℕ → List ℕ → List ℕ
stuffed k [] = []
stuffed k (zero ∷ bs) = 0 ∷ stuffed 4 bs
stuffed zero (suc b ∷ bs) = suc b ∷ 0 ∷ stuffed 4 bs
stuffed (suc k) (suc b ∷ bs) = suc b ∷ stuffed k bs

-- how many may come then
unfoldable pub left_after : ℕ → List ℕ → ℕ
left_after k [] = k
left_after k (zero ∷ bs) = left_after 4 bs
left_after zero (suc b ∷ bs) = left_after 4 bs
left_after (suc k) (suc b ∷ bs) = left_after k bs

-- k: how many ones may come in a row, 5 at the start. No six ones in a row, and no five at the end
unfoldable pub legal : ℕ → List ℕ → Bool
legal zero [] = false
legal (suc k) [] = true
legal k (zero ∷ xs) = legal 5 xs
legal zero (suc x ∷ xs) = false
legal (suc k) (suc x ∷ xs) = legal k xs

-- the bits without those that were put in: what stands after five ones is left out
unfoldable pub unstuffed : ℕ → List ℕ → List ℕ
unstuffed k [] = []
unstuffed zero (x ∷ xs) = unstuffed 5 xs
unstuffed (suc k) (zero ∷ xs) = 0 ∷ unstuffed 5 xs
unstuffed (suc k) (suc x ∷ xs) = suc x ∷ unstuffed k xs
