-- What the C face promises of messages: the number, what is lent, and the count.
-- Assumes nothing.
use Rattle.std.specs.Prelude.{ℕ, ◌≡◌, Bool, ⊤, Result, Ok, Err, List, [], ◌∷◌, ℤ, leb, length}
use Rattle.laws.specs.Tests.{ladder}
use Rattle.laws.specs.Lists.{over}
use Rattle.limits.specs.Limits.{message_bytes, list_places}
use Rattle.numbers.specs.declared.Refusal.{Refusal}
use Rattle.numbers.specs.declared.Refusal.TheVariants.{NoRoom, MessageLength, UnknownId, TooWide}
use Rattle.bits.specs.Row.{all_fit}
use Rattle.numbers.specs.Numbers.{number_given}
use Rattle.message.specs.Message.{message_of, read_tests, known, row_of, write_out}
use Rattle.message.specs.declared.Message.{Message}
use Rattle.listing.specs.Listing.{numbers_of, message_in}

-- ---- reading: 12, and what the message layer gives

abbrev pub list_tests : List ℕ → ℕ → List (Bool × Result Message Refusal)
list_tests l room = (leb list_places room, Err NoRoom) ∷ read_tests l

unfoldable pub list_answer : List ℕ → ℕ → Result Message Refusal
list_answer l room = ladder (list_tests l room) (Ok (message_of l))

abbrev pub list_out : Result Message Refusal → List ℤ → List ℤ
list_out (Ok m) fields = over (numbers_of m) fields
list_out (Err r) fields = fields

abbrev pub list_count : Result Message Refusal → ℕ → ℕ
list_count (Ok m) count = length (numbers_of m)
list_count (Err r) count = count

abbrev pub ReadsMessageC : List ℕ → List ℤ → ℕ → ℕ → List ℤ → ℕ → Type 0
ReadsMessageC l fields count r fields' count' =
    (r ≡ number_given (list_answer l (length fields)))
    × (fields' ≡ list_out (list_answer l (length fields)) fields)
    × (count' ≡ list_count (list_answer l (length fields)) count)

-- ---- writing: 12, 17, and what the message layer gives

abbrev pub said_tests : List ℤ → ℕ → List (Bool × Result ⊤ Refusal)
said_tests fields room =
    (leb message_bytes room, Err NoRoom)
    ∷ (leb list_places (length fields), Err MessageLength)
    ∷ (known (message_in fields), Err UnknownId)
    ∷ (all_fit (row_of (message_in fields)), Err TooWide)
    ∷ []

unfoldable pub said_answer : List ℤ → ℕ → Result ⊤ Refusal
said_answer fields room = ladder (said_tests fields room) (Ok tt)

abbrev pub WritesMessageC : List ℤ → List ℕ → ℕ → List ℕ → Type 0
WritesMessageC fields out r out' =
    (r ≡ number_given (said_answer fields (length out)))
    × (out' ≡ write_out (said_answer fields (length out)) (message_in fields) out)
