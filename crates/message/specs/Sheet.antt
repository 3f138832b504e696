-- The fields of a message four in a row, by which the code reads and writes them: the words for its contracts, not for what is promised.
-- Assumes nothing.
use Rattle.std.specs.Prelude.{ℕ, ◌+◌, ◌-◌, ◌*◌, ◌/◌, ◌%◌, ◌≤◌, ◌<◌, ◌≡◌, Option, Some, None, List, ◌++◌, eqb}
use Rattle.laws.specs.Tests.{pick}
use Rattle.limits.specs.Limits.{message_bytes}
use Rattle.bits.specs.Field.{field_of}
use Rattle.bits.specs.Row.{Readable, four_at, four_row, one_of}
use Rattle.bits.specs.declared.row.Four.{Four}
use Rattle.bits.specs.declared.row.Widths.{Widths}
use Rattle.message.specs.Signs.{unsigned_of}
use Rattle.message.specs.State.{time_out_of}
use Rattle.message.specs.Message.{report_of, base_of}
use Rattle.message.specs.declared.Report.{Report}
use Rattle.message.specs.declared.Base.{Base}
use Rattle.message.specs.declared.Message.{Message}
use Rattle.message.specs.declared.Message.TheVariants.{One, Two, Three, Four as Station, Other}
use Rattle.message.specs.declared.state.Clock.{Clock}
use Rattle.message.specs.declared.state.SubMessage.{SubMessage}
use Rattle.message.specs.declared.state.SubMessage.TheVariants.{Offset, Time, Slot, Stations}
use Rattle.message.specs.declared.state.SelfOrganised.{SelfOrganised}
use Rattle.message.specs.declared.state.Incremental.{Incremental}
use Rattle.message.specs.declared.state.State.{State}
use Rattle.message.specs.declared.state.State.TheVariants.{SelfOrganised as Organised, Incremental as Increasing}
use Rattle.message.specs.declared.reading.ReportRead.{ReportRead}
use Rattle.message.specs.declared.reading.BaseRead.{BaseRead}
use Rattle.message.specs.declared.layout.Layout.{Layout}
use Rattle.message.specs.declared.layout.Rows.{Rows}
use Rattle.message.specs.declared.writing.Sheet.{Sheet}
use Rattle.message.specs.declared.writing.Sheet.TheVariants.{Report as OfReport, Base as OfBase}

-- ---- what has been read

-- the state as one number
abbrev pub state_bits : List ℕ → ℕ
state_bits l = field_of l 149 19

abbrev pub report_read : List ℕ → ReportRead
report_read l = record { report = report_of l; state = state_bits l }

abbrev pub base_read : List ℕ → BaseRead
base_read l = record { base = base_of l; state = state_bits l }

-- ---- the state of 19 bits, taken apart

-- 14 bits as a clock
abbrev pub clock_from : ℕ → Clock
clock_from v = record { hour = v / 512; minute = v / 4 % 128; unused = v % 4 }

-- what the time-out t says, with 14 bits as a number, v, and as a clock
unfoldable pub sub_by : ℕ → ℕ → Clock → SubMessage
sub_by t v c =
    pick (eqb t 0) (Offset v)
    (pick (eqb t 1) (Time c)
    (pick (eqb (t % 2) 0) (Slot (record { pairs = (t - 2) / 2; number = v }))
    (Stations (record { pairs = (t - 3) / 2; number = v }))))

abbrev pub sub_from : ℕ → ℕ → SubMessage
sub_from t v = sub_by t v (clock_from v)

-- sync, time-out and 14 bits
abbrev pub organised_parts : ℕ → Four
organised_parts v = record { a = v / 131072; b = v / 16384 % 8; c = v % 16384; d = 0 }

abbrev pub organised_from : ℕ → SelfOrganised
organised_from v = record { sync = v / 131072; sub = sub_from (v / 16384 % 8) (v % 16384) }

abbrev pub incremental_from : ℕ → Incremental
incremental_from v = record { sync = v / 131072; increment = v / 16 % 8192; code = v / 2 % 8; keep = v % 2 }

-- message 3 alone carries the incremental state
unfoldable pub state_from : ℕ → ℕ → State
state_from id v = pick (eqb id 3) (Increasing (incremental_from v)) (Organised (organised_from v))

-- a state that these bits say
abbrev pub StandsIn : ℕ → State → Type 0
StandsIn v (Organised s) = s ≡ organised_from v
StandsIn v (Increasing s) = s ≡ incremental_from v

-- message 2, or 1
unfoldable pub one_or_two : ℕ → Report → SelfOrganised → Message
one_or_two id r s = pick (eqb id 2) (Two r s) (One r s)

-- ---- the state as one number, which is too wide where a part of it is

abbrev pub clock_four : Clock → Four
clock_four c = record { a = c.hour; b = c.minute; c = c.unused; d = 0 }

abbrev pub clock_value : Clock → ℕ
clock_value c = one_of (clock_four c) 5 7 2 0

abbrev pub value_of : SubMessage → ℕ
value_of (Offset v) = v
value_of (Time c) = clock_value c
value_of (Slot c) = c.number
value_of (Stations c) = c.number

abbrev pub organised_four : SelfOrganised → Four
organised_four s = record { a = s.sync; b = time_out_of s.sub; c = value_of s.sub; d = 0 }

abbrev pub organised_value : SelfOrganised → ℕ
organised_value s = one_of (organised_four s) 2 3 14 0

abbrev pub incremental_four : Incremental → Four
incremental_four s = record { a = s.sync; b = s.increment; c = s.code; d = s.keep }

abbrev pub incremental_value : Incremental → ℕ
incremental_value s = one_of (incremental_four s) 2 13 3 1

-- ---- the layout of a message: the widths of all its fields, four in a row

abbrev pub widths : ℕ → ℕ → ℕ → ℕ → Widths
widths a b c d = record { 0 = a; 1 = b; 2 = c; 3 = d }

-- of messages 1 to 3; the last field is the state
abbrev pub report_layout : Layout
report_layout = record { a = widths 6 2 30 4; b = widths 8 10 1 28; c = widths 27 12 9 6; d = widths 2 3 1 19 }

-- of message 4; the last field is the raim flag and the state
abbrev pub base_layout : Layout
base_layout = record { a = widths 6 2 30 14; b = widths 4 5 5 6; c = widths 6 1 28 27; d = widths 4 1 9 20 }

-- where the fields after those of a row begin
abbrev pub after : ℕ → Widths → ℕ
after at w = at + w.0 + w.1 + w.2 + w.3

-- a row that can be read, and written as one number, from bit at on
pub record Lies (at : ℕ) (w : Widths) : Type 0 where
  pub readable : Readable w
  pub few : after 0 w < 64
  pub window : at % 8 + after 0 w ≤ 64

-- all rows can, and have the bits of a message
pub record Whole (y : Layout) : Type 0 where
  pub a : Lies 0 y.a
  pub b : Lies (after 0 y.a) y.b
  pub c : Lies (after (after 0 y.a) y.b) y.c
  pub d : Lies (after (after (after 0 y.a) y.b) y.c) y.d
  pub all : after (after (after (after 0 y.a) y.b) y.c) y.d ≡ 8 * message_bytes

-- ---- the rows of a message

abbrev pub from : List ℕ → ℕ → Widths → Four
from l at w = four_at l at w.0 w.1 w.2 w.3

-- that stand in bytes
abbrev pub rows_at : Layout → List ℕ → Rows
rows_at y l =
    record {
      a = from l 0 y.a;
      b = from l (after 0 y.a) y.b;
      c = from l (after (after 0 y.a) y.b) y.c;
      d = from l (after (after (after 0 y.a) y.b) y.c) y.d;
    }

abbrev pub report_rows : ℕ → Report → ℕ → Rows
report_rows id r state =
    record {
      a = record { a = id; b = r.repeat; c = r.source; d = r.status };
      b = record { a = unsigned_of 8 r.turn; b = r.speed; c = r.accuracy; d = unsigned_of 28 r.longitude };
      c = record { a = unsigned_of 27 r.latitude; b = r.course; c = r.heading; d = r.second };
      d = record { a = r.manoeuvre; b = r.spare; c = r.raim; d = state };
    }

-- the raim flag, and the state after it
abbrev pub last_four : Base → ℕ → Four
last_four b state = record { a = b.raim; b = state; c = 0; d = 0 }

abbrev pub base_rows : Base → ℕ → Rows
base_rows b state =
    record {
      a = record { a = 4; b = b.repeat; c = b.source; d = b.year };
      b = record { a = b.month; b = b.day; c = b.hour; d = b.minute };
      c = record { a = b.second; b = b.accuracy; c = unsigned_of 28 b.longitude; d = unsigned_of 27 b.latitude };
      d = record { a = b.fix; b = b.control; c = b.spare; d = one_of (last_four b state) 1 19 0 0 };
    }

unfoldable pub sheet_of : Message → Option Sheet
sheet_of (One r s) = Some (OfReport (report_rows 1 r (organised_value s)))
sheet_of (Two r s) = Some (OfReport (report_rows 2 r (organised_value s)))
sheet_of (Three r s) = Some (OfReport (report_rows 3 r (incremental_value s)))
sheet_of (Station b s) = Some (OfBase (base_rows b (organised_value s)))
sheet_of Other = None

-- ---- the rows with their widths

abbrev pub row : Four → Widths → List (ℕ × ℕ)
row f w = four_row f w.0 w.1 w.2 w.3

abbrev pub fields_in : Layout → Rows → List (ℕ × ℕ)
fields_in y x = row x.a y.a ++ row x.b y.b ++ row x.c y.c ++ row x.d y.d

abbrev pub fields_of : Sheet → List (ℕ × ℕ)
fields_of (OfReport x) = fields_in report_layout x
fields_of (OfBase x) = fields_in base_layout x
