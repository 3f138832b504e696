-- What is promised of our own ship, beyond what each function's contract says. Proved in proofs/Promised.antt.
-- Assumes nothing.
use Rattle.std.specs.Prelude.{ℕ, ◌≡◌, [], ◌∷◌, ℤ, Result}
use Rattle.laws.specs.Exactly.{Exactly}
use Rattle.numbers.specs.declared.Refusal.{Refusal}
use Rattle.ship.specs.declared.Ship.{Ship}
use Rattle.ship.specs.Ship.{owned_number, own_tests, own_answer}

-- no second answer meets the contract
abbrev pub OwnOnce : Type 0
OwnOnce = (source : ℕ) (lat lon : ℤ) (r r' : Result Ship Refusal) → r ≡ own_answer source lat lon → r' ≡ own_answer source lat lon → r ≡ r'

-- each number is given exactly when
abbrev pub OwnExactly : Type 0
OwnExactly =
    (source : ℕ) (lat lon : ℤ) (r : Result Ship Refusal) → r ≡ own_answer source lat lon → Exactly (21 ∷ 30 ∷ []) owned_number (own_tests source lat lon) (owned_number r)
