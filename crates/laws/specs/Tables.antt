-- Tables that a function fills.
-- Assumes nothing.
use Rattle.std.specs.Prelude.{ℕ, zero, suc, List, [], ◌∷◌}

-- f i, f (i + 1), .. of n entries
abbrev pub tab : (ℕ → ℕ) → ℕ → ℕ → List ℕ
tab f i zero = []
tab f i (suc n) = f i ∷ tab f (suc i) n

-- the table of a function on bytes. It stays shut, so that nothing goes through its 256 entries but the one test of the code's table
unfoldable pub byte_table : (ℕ → ℕ) → List ℕ
byte_table f = tab f 0 256
