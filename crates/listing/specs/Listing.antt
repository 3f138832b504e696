-- A message as a list of numbers: its fields in the order of document 01, then the state taken apart.
-- Assumes nothing.
use Rattle.std.specs.Prelude.{ℕ, ◌+◌, ◌-◌, ◌/◌, ◌%◌, ◌<◌, ◌≡◌, List, [], ◌∷◌, ◌++◌, ℤ, pos, negsuc, eqb, leb, get_or, length}
use Rattle.laws.specs.Tests.{pick}
use Rattle.laws.specs.Lists.{over}
use Rattle.message.specs.State.{time_out_of}
use Rattle.message.specs.declared.Report.{Report}
use Rattle.message.specs.declared.Base.{Base}
use Rattle.message.specs.declared.Message.{Message}
use Rattle.message.specs.declared.Message.TheVariants.{One, Two, Three, Four, Other}
use Rattle.message.specs.declared.state.SubMessage.{SubMessage}
use Rattle.message.specs.declared.state.SubMessage.TheVariants.{Offset, Time, Slot, Stations}
use Rattle.message.specs.declared.state.SelfOrganised.{SelfOrganised}
use Rattle.message.specs.declared.state.Incremental.{Incremental}

-- ---- the numbers of a message

abbrev pub report_numbers : ℕ → Report → List ℤ
report_numbers id r =
    pos id ∷ pos r.repeat ∷ pos r.source ∷ pos r.status
    ∷ r.turn ∷ pos r.speed ∷ pos r.accuracy ∷ r.longitude
    ∷ r.latitude ∷ pos r.course ∷ pos r.heading ∷ pos r.second
    ∷ pos r.manoeuvre ∷ pos r.spare ∷ pos r.raim ∷ []

abbrev pub base_numbers : Base → List ℤ
base_numbers b =
    pos 4 ∷ pos b.repeat ∷ pos b.source ∷ pos b.year
    ∷ pos b.month ∷ pos b.day ∷ pos b.hour ∷ pos b.minute
    ∷ pos b.second ∷ pos b.accuracy ∷ b.longitude ∷ b.latitude
    ∷ pos b.fix ∷ pos b.control ∷ pos b.spare ∷ pos b.raim ∷ []

-- the time-out, and what it says
abbrev pub sub_numbers : SubMessage → List ℤ
sub_numbers (Offset v) = pos 0 ∷ pos v ∷ []
sub_numbers (Time c) = pos 1 ∷ pos c.hour ∷ pos c.minute ∷ pos c.unused ∷ []
sub_numbers (Slot c) = pos (time_out_of (Slot c)) ∷ pos c.number ∷ []
sub_numbers (Stations c) = pos (time_out_of (Stations c)) ∷ pos c.number ∷ []

abbrev pub organised_numbers : SelfOrganised → List ℤ
organised_numbers s = pos s.sync ∷ sub_numbers s.sub

abbrev pub incremental_numbers : Incremental → List ℤ
incremental_numbers s = pos s.sync ∷ pos s.increment ∷ pos s.code ∷ pos s.keep ∷ []

unfoldable pub numbers_of : Message → List ℤ
numbers_of (One r s) = report_numbers 1 r ++ organised_numbers s
numbers_of (Two r s) = report_numbers 2 r ++ organised_numbers s
numbers_of (Three r s) = report_numbers 3 r ++ incremental_numbers s
numbers_of (Four b s) = base_numbers b ++ organised_numbers s
numbers_of Other = []

-- two numbers that are the same with a sign
abbrev pub Small : ℕ → ℕ → Type 0
Small a b = (a < 2147483648) × (b < 2147483648)

abbrev pub SmallReport : ℕ → Report → Type 0
SmallReport id r =
    Small id r.repeat × Small r.source r.status × Small r.speed r.accuracy × Small r.course r.heading
    × Small r.second r.manoeuvre × Small r.spare r.raim

abbrev pub SmallBase : Base → Type 0
SmallBase b =
    Small 4 b.repeat × Small b.source b.year × Small b.month b.day × Small b.hour b.minute
    × Small b.second b.accuracy × Small b.fix b.control × Small b.spare b.raim

-- a lent list after the numbers of a message have been put there, and how many they are
abbrev pub Lists : Message → List ℤ → ℕ → List ℤ → Type 0
Lists m out r out' = (r ≡ length (numbers_of m)) × (out' ≡ over (numbers_of m) out)

-- ---- the message that a list of 21 numbers says; those that its message does not have are not looked at

-- a field's number; one below 0 is too wide for every field
unfoldable pub plain_of : ℤ → ℕ
plain_of (pos n) = n
plain_of (negsuc n) = 4294967295

abbrev pub plain_at : List ℤ → ℕ → ℕ
plain_at f i = plain_of (get_or f i (pos 0))

abbrev pub signed_at : List ℤ → ℕ → ℤ
signed_at f i = get_or f i (pos 0)

unfoldable pub report_in : List ℤ → Report
report_in f =
    record {
      repeat = plain_at f 1;
      source = plain_at f 2;
      status = plain_at f 3;
      turn = signed_at f 4;
      speed = plain_at f 5;
      accuracy = plain_at f 6;
      longitude = signed_at f 7;
      latitude = signed_at f 8;
      course = plain_at f 9;
      heading = plain_at f 10;
      second = plain_at f 11;
      manoeuvre = plain_at f 12;
      spare = plain_at f 13;
      raim = plain_at f 14;
    }

unfoldable pub base_in : List ℤ → Base
base_in f =
    record {
      repeat = plain_at f 1;
      source = plain_at f 2;
      year = plain_at f 3;
      month = plain_at f 4;
      day = plain_at f 5;
      hour = plain_at f 6;
      minute = plain_at f 7;
      second = plain_at f 8;
      accuracy = plain_at f 9;
      longitude = signed_at f 10;
      latitude = signed_at f 11;
      fix = plain_at f 12;
      control = plain_at f 13;
      spare = plain_at f 14;
      raim = plain_at f 15;
    }

-- a time-out past 7 goes to one that is too wide
unfoldable pub pairs_of : ℕ → ℕ
pairs_of t = pick (leb t 7) ((t - 2) / 2) 3

-- t: the time-out, whose place is at
unfoldable pub sub_said : List ℤ → ℕ → ℕ → SubMessage
sub_said f at t =
    pick (eqb t 0) (Offset (plain_at f (at + 1)))
    (pick (eqb t 1) (Time (record { hour = plain_at f (at + 1); minute = plain_at f (at + 2); unused = plain_at f (at + 3) }))
    (pick (eqb (t % 2) 0) (Slot (record { pairs = pairs_of t; number = plain_at f (at + 1) }))
    (Stations (record { pairs = pairs_of t; number = plain_at f (at + 1) }))))

unfoldable pub organised_in : List ℤ → ℕ → SelfOrganised
organised_in f at = record { sync = plain_at f at; sub = sub_said f (at + 1) (plain_at f (at + 1)) }

unfoldable pub incremental_in : List ℤ → Incremental
incremental_in f = record { sync = plain_at f 15; increment = plain_at f 16; code = plain_at f 17; keep = plain_at f 18 }

unfoldable pub message_in : List ℤ → Message
message_in f =
    pick (eqb (plain_at f 0) 1) (One (report_in f) (organised_in f 15))
    (pick (eqb (plain_at f 0) 2) (Two (report_in f) (organised_in f 15))
    (pick (eqb (plain_at f 0) 3) (Three (report_in f) (incremental_in f))
    (pick (eqb (plain_at f 0) 4) (Four (base_in f) (organised_in f 16)) Other)))
