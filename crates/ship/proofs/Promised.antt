-- Proves specs/Promises.antt: no second answer meets the contract of `own`, and each number is given exactly when.
-- Assumes nothing.
use mathlib.Core.Path.{refl, sym, subst, ◌∙◌}
use mathlib.Core.List.{[], ◌∷◌}
use Rattle.laws.specs.Exactly.{Exactly}
use Rattle.laws.proofs.Ladder.{by_tests}
use Rattle.numbers.specs.declared.Refusal.{Refusal}
use Rattle.ship.specs.declared.Ship.{Ship}
use Rattle.ship.specs.Ship.{owned_number, own_tests, own_answer}
use Rattle.ship.specs.Promises.{OwnOnce, OwnExactly}
use Rattle.std.specs.Prelude.{Result, Ok}

-- both answers are the one that the contract names
pub own-once : OwnOnce
own-once source lat lon r r' e e' = e ∙ sym e'

-- each number by its test
pub own-exactly : OwnExactly
unfolding own_answer own_tests
own-exactly source lat lon r e =
    subst (λ (a : Result Ship Refusal). Exactly (21 ∷ 30 ∷ []) owned_number (own_tests source lat lon) (owned_number a)) (sym e)
    (by_tests (21 ∷ 30 ∷ []) owned_number (own_tests source lat lon) (Ok (record { source = source; latitude = lat; longitude = lon })) refl tt refl)
