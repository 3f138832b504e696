-- From the answers of the message layer to what the C face gives.
-- Assumes nothing.
use mathlib.Core.Path.{◌≡◌, sym, ap, ◌∙◌}
use mathlib.Core.List.{List}
use Prim.Native.Nat.{ℕ, ◌≤◌, ◌<◌}
use borrow.Author.Tests.{le-leb, lt-leb}
use lib.IntN.{ℤ}
use lib.ListN.{length}
use Rattle.std.specs.Prelude.{⊤, Result, Err}
use Rattle.limits.specs.Limits.{message_bytes, list_places}
use Rattle.numbers.specs.declared.Refusal.{Refusal}
use Rattle.numbers.specs.declared.Refusal.TheVariants.{NoRoom, MessageLength}
use Rattle.numbers.specs.Numbers.{number_given}
use Rattle.message.specs.Message.{read_tests, read_answer, write_tests, write_answer, write_out, Writes}
use Rattle.message.specs.declared.Message.{Message}
use Rattle.listing.specs.Listing.{message_in}
use Rattle.board.specs.Messages.{list_answer, list_out, list_count, ReadsMessageC, said_answer, WritesMessageC}

-- ---- reading

pub list-room : (l : List ℕ) (room : ℕ) → room < list_places → Err NoRoom ≡ list_answer l room
unfolding list_answer
list-room l room h = simp (lt-leb list_places room h)

pub list_read : (l : List ℕ) (room : ℕ) → list_places ≤ room → {x : Result Message Refusal} → x ≡ read_answer l → x ≡ list_answer l room
unfolding list_answer read_answer read_tests
list_read l room h e = e ∙ simp (le-leb list_places room h)

pub listed : (l : List ℕ) (fields : List ℤ) (count : ℕ) (x : Result Message Refusal) → x ≡ list_answer l (length fields) → {k n : ℕ} {o : List ℤ}
    → k ≡ number_given x → o ≡ list_out x fields → n ≡ list_count x count → ReadsMessageC l fields count k o n
listed l fields count x e ek eo en = (ek ∙ ap number_given e, eo ∙ ap (λ (a : Result Message Refusal). list_out a fields) e, en ∙ ap (λ (a : Result Message Refusal). list_count a count) e)

-- ---- writing

pub said-room : (fields : List ℤ) (room : ℕ) → room < message_bytes → Err NoRoom ≡ said_answer fields room
unfolding said_answer
said-room fields room h = simp (lt-leb message_bytes room h)

pub said-short : (fields : List ℤ) (room : ℕ) → message_bytes ≤ room → length fields < list_places → Err MessageLength ≡ said_answer fields room
unfolding said_answer
said-short fields room h k = simp (le-leb message_bytes room h, lt-leb list_places (length fields) k)

pub said-written : (fields : List ℤ) (room : ℕ) → message_bytes ≤ room → list_places ≤ length fields → write_answer (message_in fields) room ≡ said_answer fields room
unfolding said_answer write_answer write_tests
said-written fields room h k = simp (le-leb message_bytes room h, le-leb list_places (length fields) k)

pub refused : (fields : List ℤ) (out : List ℕ) (x : Result ⊤ Refusal) → x ≡ said_answer fields (length out) → {k : ℕ}
    → k ≡ number_given x → out ≡ write_out x (message_in fields) out → WritesMessageC fields out k out
refused fields out x e ek eo = (ek ∙ ap number_given e, eo ∙ ap (λ (a : Result ⊤ Refusal). write_out a (message_in fields) out) e)

-- what `write` left, for the message that the list says
pub handed : (fields : List ℤ) (out : List ℕ) → message_bytes ≤ length out → list_places ≤ length fields → {m : Message} → m ≡ message_in fields → {a x : Result ⊤ Refusal} {o : List ℕ}
    → Writes m out a o → a ≡ x → {k : ℕ} → k ≡ number_given x → WritesMessageC fields out k o
handed fields out h j em {a} w f ek =
    let e = w.0 ∙ ap (λ (m : Message). write_answer m (length out)) em ∙ said-written fields (length out) h j in
    (ek ∙ ap number_given (sym f ∙ e), w.1 ∙ ap (λ (m : Message). write_out a m out) em ∙ ap (λ (a : Result ⊤ Refusal). write_out a (message_in fields) out) e)
