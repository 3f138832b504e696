-- Marks on bits that go one after the other, the lowest first: by them a whole word is stuffed and unstuffed.
-- Assumes nothing.
use Rattle.std.specs.Prelude.{ℕ, zero, suc, ◌-◌, ◌/◌, ◌^◌, List, [], ◌∷◌, ◌==◌, bit_and, bit_xor}
use Rattle.laws.specs.Tests.{pick}

-- bit j is 1 where bits j to j+4 are ones
unfoldable pub fives_of : ℕ → ℕ
fives_of w = bit_and (bit_and (bit_and w (w / 2)) (bit_and w (w / 2) / 4)) (w / 16)

-- the bits up to the lowest one; all where there is none
unfoldable pub up_to_lowest : ℕ → ℕ
up_to_lowest m = pick (m == 0) (2 ^ 64 - 1) (bit_xor m (m - 1))

-- bits without those that are marked
unfoldable pub kept : List ℕ → List ℕ → List ℕ
kept [] bs = []
kept (m ∷ ms) [] = []
kept (zero ∷ ms) (b ∷ bs) = b ∷ kept ms bs
kept (suc m ∷ ms) (b ∷ bs) = kept ms bs

-- bits with a 0 after each that is marked; of the next i marks, and of the four after each that counts, none counts
unfoldable pub filled : ℕ → List ℕ → List ℕ → List ℕ
filled i [] bs = []
filled i (m ∷ ms) [] = []
filled (suc i) (m ∷ ms) (b ∷ bs) = b ∷ filled i ms bs
filled zero (zero ∷ ms) (b ∷ bs) = b ∷ filled zero ms bs
filled zero (suc m ∷ ms) (b ∷ bs) = b ∷ 0 ∷ filled 4 ms bs
