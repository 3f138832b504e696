-- "Given exactly when", for each number of reading and writing.
-- Assumes nothing.
use mathlib.Core.Path.{◌≡◌, refl, sym, ap, subst, ◌∙◌}
use mathlib.Core.List.{List, [], ◌∷◌}
use Prim.Native.Nat.{ℕ, ◌<◌}
use native.Mathlib.Omega.{arith}
use lib.ListN.{length}
use Rattle.laws.specs.Exactly.{Exactly}
use Rattle.laws.proofs.Ladder.{by_tests, owes}
use Rattle.std.specs.Prelude.{⊤, Result, Ok, Err}
use Rattle.numbers.specs.declared.Refusal.{Refusal}
use Rattle.numbers.specs.Numbers.{number_given}
use Rattle.message.specs.Message.{message_of, read_tests, read_answer, write_tests, write_answer, write_out}
use Rattle.message.specs.Promises.{ReadExactly, WriteExactly}
use Rattle.message.specs.declared.Message.{Message}

pub received-exactly : (l : List ℕ) → Exactly (17 ∷ 18 ∷ []) number_given (read_tests l) (number_given (read_answer l))
unfolding read_tests read_answer
received-exactly l = by_tests (17 ∷ 18 ∷ []) number_given (read_tests l) (Ok (message_of l)) refl tt refl

pub read-exactly : ReadExactly
read-exactly l r e = subst (λ (a : Result Message Refusal). Exactly (17 ∷ 18 ∷ []) number_given (read_tests l) (number_given a)) (sym e) (received-exactly l)

pub written-exactly : (m : Message) (room : ℕ) → Exactly (12 ∷ 18 ∷ 19 ∷ []) number_given (write_tests m room) (number_given (write_answer m room))
unfolding write_tests write_answer
written-exactly m room = by_tests (12 ∷ 18 ∷ 19 ∷ []) number_given (write_tests m room) (Ok tt) refl tt refl

pub not_written : (r : Result ⊤ Refusal) (m : Message) (out : List ℕ) → 0 < number_given r → write_out r m out ≡ out
unfolding write_out
not_written (Ok done) m out h = absurd (omega (arith, h))
not_written (Err r) m out h = refl

pub write-exactly : WriteExactly
write-exactly m out r out' (e, o) =
    owes _ _ _ (write_answer m (length out)) (number_given r) (written-exactly m (length out)) (ap number_given e) (λ h. o ∙ not_written r m out h)
