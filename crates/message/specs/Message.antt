-- Messages 1 to 4: where each field stands, what is read and written, and what is given back.
-- Assumes nothing.
use Rattle.std.specs.Prelude.{ℕ, ◌≡◌, Bool, true, false, ⊤, Result, Ok, Err, List, [], ◌∷◌, ◌++◌, leb, eqb, length}
use Rattle.laws.specs.Tests.{pick, between, ladder}
use Rattle.laws.specs.Lists.{over}
use Rattle.limits.specs.Limits.{message_bytes}
use Rattle.numbers.specs.declared.Refusal.{Refusal}
use Rattle.numbers.specs.declared.Refusal.TheVariants.{NoRoom, MessageLength, UnknownId, TooWide}
use Rattle.bits.specs.Field.{field_of, packed}
use Rattle.bits.specs.Row.{laid, all_fit}
use Rattle.message.specs.Signs.{signed_of, unsigned_of}
use Rattle.message.specs.State.{organised_of, incremental_of, organised_row, incremental_row}
use Rattle.message.specs.declared.Report.{Report}
use Rattle.message.specs.declared.Base.{Base}
use Rattle.message.specs.declared.Message.{Message}
use Rattle.message.specs.declared.Message.TheVariants.{One, Two, Three, Four, Other}

-- ---- where each field stands

unfoldable pub id_in : List ℕ → ℕ
id_in l = field_of l 0 6

unfoldable pub report_of : List ℕ → Report
report_of l =
    record {
      repeat = field_of l 6 2;
      source = field_of l 8 30;
      status = field_of l 38 4;
      turn = signed_of 8 (field_of l 42 8);
      speed = field_of l 50 10;
      accuracy = field_of l 60 1;
      longitude = signed_of 28 (field_of l 61 28);
      latitude = signed_of 27 (field_of l 89 27);
      course = field_of l 116 12;
      heading = field_of l 128 9;
      second = field_of l 137 6;
      manoeuvre = field_of l 143 2;
      spare = field_of l 145 3;
      raim = field_of l 148 1;
    }

unfoldable pub base_of : List ℕ → Base
base_of l =
    record {
      repeat = field_of l 6 2;
      source = field_of l 8 30;
      year = field_of l 38 14;
      month = field_of l 52 4;
      day = field_of l 56 5;
      hour = field_of l 61 5;
      minute = field_of l 66 6;
      second = field_of l 72 6;
      accuracy = field_of l 78 1;
      longitude = signed_of 28 (field_of l 79 28);
      latitude = signed_of 27 (field_of l 107 27);
      fix = field_of l 134 4;
      control = field_of l 138 1;
      spare = field_of l 139 9;
      raim = field_of l 148 1;
    }

-- ---- reading

-- of an id that is not 3
unfoldable pub organised_message : List ℕ → ℕ → Message
organised_message l id =
    pick (eqb id 4) (Four (base_of l) (organised_of l))
    (pick (eqb id 2) (Two (report_of l) (organised_of l)) (One (report_of l) (organised_of l)))

unfoldable pub message_of : List ℕ → Message
message_of l = pick (eqb (id_in l) 3) (Three (report_of l) (incremental_of l)) (organised_message l (id_in l))

unfoldable pub read_tests : List ℕ → List (Bool × Result Message Refusal)
read_tests l =
    (eqb (length l) message_bytes, Err MessageLength)
    ∷ (between 1 4 (id_in l), Err UnknownId)
    ∷ []

-- what `read` promises
unfoldable pub read_answer : List ℕ → Result Message Refusal
unfolding read_tests
read_answer l = ladder (read_tests l) (Ok (message_of l))

-- ---- writing: widths and numbers in a row, in the order of document 01

abbrev pub report_row : ℕ → Report → List (ℕ × ℕ)
report_row id r =
    (6, id) ∷ (2, r.repeat) ∷ (30, r.source) ∷ (4, r.status)
    ∷ (8, unsigned_of 8 r.turn) ∷ (10, r.speed) ∷ (1, r.accuracy) ∷ (28, unsigned_of 28 r.longitude)
    ∷ (27, unsigned_of 27 r.latitude) ∷ (12, r.course) ∷ (9, r.heading) ∷ (6, r.second)
    ∷ (2, r.manoeuvre) ∷ (3, r.spare) ∷ (1, r.raim) ∷ []

abbrev pub base_row : Base → List (ℕ × ℕ)
base_row b =
    (6, 4) ∷ (2, b.repeat) ∷ (30, b.source) ∷ (14, b.year)
    ∷ (4, b.month) ∷ (5, b.day) ∷ (5, b.hour) ∷ (6, b.minute)
    ∷ (6, b.second) ∷ (1, b.accuracy) ∷ (28, unsigned_of 28 b.longitude) ∷ (27, unsigned_of 27 b.latitude)
    ∷ (4, b.fix) ∷ (1, b.control) ∷ (9, b.spare) ∷ (1, b.raim) ∷ []

abbrev pub row_of : Message → List (ℕ × ℕ)
row_of (One r s) = report_row 1 r ++ organised_row s
row_of (Two r s) = report_row 2 r ++ organised_row s
row_of (Three r s) = report_row 3 r ++ incremental_row s
row_of (Four b s) = base_row b ++ organised_row s
row_of Other = []

-- its id is 1 to 4
abbrev pub known : Message → Bool
known (One r s) = true
known (Two r s) = true
known (Three r s) = true
known (Four b s) = true
known Other = false

unfoldable pub write_tests : Message → ℕ → List (Bool × Result ⊤ Refusal)
write_tests m room =
    (leb message_bytes room, Err NoRoom)
    ∷ (known m, Err UnknownId)
    ∷ (all_fit (row_of m), Err TooWide)
    ∷ []

unfoldable pub write_answer : Message → ℕ → Result ⊤ Refusal
unfolding write_tests
write_answer m room = ladder (write_tests m room) (Ok tt)

-- the 21 bytes of a message
unfoldable pub bytes_of : Message → List ℕ
bytes_of m = packed message_bytes (laid (row_of m))

unfoldable pub write_out : Result ⊤ Refusal → Message → List ℕ → List ℕ
write_out (Ok done) m out = over (bytes_of m) out
write_out (Err r) m out = out

-- what `write` promises: one answer, and one content of the lent buffer
abbrev pub Writes : Message → List ℕ → Result ⊤ Refusal → List ℕ → Type 0
Writes m out r out' = (r ≡ write_answer m (length out)) × (out' ≡ write_out r m out)
