-- Demand 3: tallies and the free count.
-- Assumes nothing.
use Rattle.std.specs.Prelude.{ℕ, ◌+◌, ◌≡◌, List}
use Rattle.laws.specs.Counting.{sum}
use Rattle.limits.specs.Limits.{slot_times}
use Rattle.book.specs.Sound.{Sound}
use Rattle.plan.specs.declared.Plan.{Plan}
use Rattle.register.specs.State.{State, tallies_in, book_in}
use Rattle.register.specs.Answers.{given_number}
use Rattle.calls.specs.Calls.{plan}
use Rattle.promises.specs.Calls.{Call, after_call, after_all}

-- each place of the book has one holder, none of them unknown, and each tally is the number of slot times that its holder has
abbrev pub TalliesAreCounts : Type 0
TalliesAreCounts = (cs : List Call) → Sound (book_in (after_all cs))

-- the free count, the own tally and the records' tallies together
abbrev pub whole_in : State → ℕ
whole_in s = s.watch.channel.counts.free + s.watch.channel.counts.own + sum (tallies_in s.reg)

-- the parts equal the whole
abbrev pub AllMakeTheWhole : Type 0
AllMakeTheWhole = (cs : List Call) → whole_in (after_all cs) ≡ slot_times

-- any call, on any state whose tallies are the counts of its slots: they are so again
abbrev pub CallKeeps : Type 0
CallKeeps = (s : State) (c : Call) → Sound (book_in s) → Sound (book_in (after_call s c))

-- a new plan leaves no own mark
abbrev pub PlanLeavesNone : Type 0
PlanLeavesNone = (s : State) (p : Plan) → Sound (book_in s) → given_number (plan s p) ≡ 0 → (plan s p).state.watch.channel.counts.own ≡ 0
