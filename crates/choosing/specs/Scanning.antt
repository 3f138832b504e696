-- How the code finds the slot: what `ask`, `scan` and `judge` give. No promise but `FindsTheChoice` needs this.
-- Assumes nothing.
use Rattle.std.specs.Prelude.{ℕ, Bool, List, ltb, None, Some, Err}
use Rattle.std.specs.declared.option.Option.{Option}
use Rattle.std.specs.declared.result.Result.{Result}
use Rattle.laws.specs.Tests.{pick}
use Rattle.numbers.specs.declared.Refusal.{Refusal}
use Rattle.numbers.specs.declared.Refusal.TheVariants.{WindowTaken}
use Rattle.ship.specs.declared.Station.{Station}
use Rattle.walks.specs.Folded.{folded}
use Rattle.book.specs.declared.Watch.{Watch}
use Rattle.distance.specs.Distance.{we_known}
use Rattle.candidates.specs.declared.Window.{Window}
use Rattle.candidates.specs.declared.Picked.{Picked}
use Rattle.candidates.specs.declared.rounds.Best.{Best}
use Rattle.candidates.specs.Rounds.{better_of}
use Rattle.candidates.specs.Scanning.{worth_by, slot_of, free_upto_four, slot_level, none_yet, bound_of, drawn}
use Rattle.choosing.specs.declared.Wanted.{Wanted}
use Rattle.choosing.specs.declared.Query.{Query}
use Rattle.choosing.specs.Choosing.{window_of, any_own}

-- how many slots of the window are free, as far as four; none where it has an own mark
unfoldable pub free_unless_own : List ℕ → Window → Option ℕ
free_unless_own slots v = pick (any_own slots v) None (Some (free_upto_four slots v))

-- the query of a choice
unfoldable pub asked : List ℕ → Watch → Wanted → Query
asked slots w a = record { watch = w; window = window_of w a; draw = a.draw; free = free_unless_own slots (window_of w a) }

-- how many slots are to be looked at, by how many are free
abbrev pub turns_by : Option ℕ → Bool → ℕ → ℕ
turns_by None known width = 0
turns_by (Some free) known width = pick (ltb 3 free) 0 (pick known width 0)

unfoldable pub turns_of : Query → ℕ
turns_of q = turns_by q.free (we_known q.watch.ship) q.window.width

-- the best keys after these
unfoldable pub scanned : List Station → List ℕ → Query → Best
scanned reg slots q =
    folded none_yet (λ b. slot_of slots q.window q.watch.ship (bound_of b)) (slot_level reg slots) (λ b x low i. better_of b (worth_by x.earlier low) i) (turns_of q)

-- the slot that is picked, by how many are free
abbrev pub judged_by : Option ℕ → List ℕ → Query → Best → Result Picked Refusal
judged_by None slots q b = Err WindowTaken
judged_by (Some free) slots q b = drawn slots q.window free b q.draw

unfoldable pub judged : List ℕ → Query → Best → Result Picked Refusal
judged slots q b = judged_by q.free slots q b
