-- What a loop that counts up comes to.
-- Assumes nothing.
use Rattle.std.specs.Prelude.{ℕ, zero, suc}

-- the turns 0 to k - 1, one after the other
unfoldable pub upto : {A : Type 0} → (A → ℕ → A) → A → ℕ → A
upto f a zero = a
upto f a (suc k) = f (upto f a k) k
