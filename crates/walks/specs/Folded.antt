-- What a loop over a lent register comes to.
-- Assumes nothing.
use Rattle.std.specs.Prelude.{ℕ, zero, suc}

-- in the turn i, s being folded so far, x is what a says of the numbers, y what b says of the records, and c folds both
abbrev pub folded_once : {S X Y : Type 0} → (S → ℕ → X) → (X → Y) → (S → X → Y → ℕ → S) → ℕ → S → S
folded_once a b c i s = c s (a s i) (b (a s i)) i

unfoldable pub folded : {S X Y : Type 0} → S → (S → ℕ → X) → (X → Y) → (S → X → Y → ℕ → S) → ℕ → S
folded s a b c zero = s
folded s a b c (suc i) = folded_once a b c i (folded s a b c i)
