-- A count is a number of 32 bits.
-- Assumes nothing.
use mathlib.Core.Path.{◌≡◌, refl}
use Prim.Native.Nat.{ℕ, ◌^◌, ◌<◌}
use Rattle.std.specs.Prelude.{Result, Ok, Err, IfOk}
use Rattle.numbers.specs.declared.Refusal.{Refusal}

pub counts : (r : Result ℕ Refusal) → ((n : ℕ) → r ≡ Ok n → n < 2 ^ 32) → IfOk r (λ n. n < 2 ^ 32)
counts (Ok n) h = h n refl
counts (Err r) h = tt
