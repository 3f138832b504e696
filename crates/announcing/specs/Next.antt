-- The next time: what the code goes by from one time of a row to the next.
-- Assumes nothing.
use Rattle.std.specs.Prelude.{◌≡◌, Bool, true, false, not, List, ℕ, ◌+◌, ◌*◌, ◌≤◌, ◌<◌, min, Option, Some, None}
use Rattle.laws.specs.Tests.{both}
use Rattle.laws.specs.Ranges.{some}
use Rattle.limits.specs.Limits.{slot_times}
use Rattle.announcing.specs.declared.rows.Row.{Row}
use Rattle.announcing.specs.declared.rows.Kind.{Kind}
use Rattle.announcing.specs.declared.rows.Kind.TheVariants.{Mark, Free}
use Rattle.announcing.specs.Rows.{in_run, has_time, marks, marks_time, frees_time}

-- r is the smallest time from d on that passes the test, or the end of the book where no time before it does
pub record Next (p : ℕ → Bool) (d r : ℕ) : Type 0 where
  pub ahead : d ≤ r
  pub inside : r ≤ slot_times
  pub skips : (e : ℕ) → d ≤ e → e < r → p e ≡ false
  pub passes : r < slot_times → p r ≡ true

-- the next time as an answer: none where no time from d on passes
abbrev pub NextTime : (ℕ → Bool) → ℕ → Option ℕ → Type 0
NextTime p d None = Next p d slot_times
NextTime p d (Some t) = Next p d t × (t < slot_times)

-- the sooner of two
abbrev pub sooner : Option ℕ → Option ℕ → Option ℕ
sooner None b = b
sooner (Some x) None = Some x
sooner (Some x) (Some y) = Some (min x y)

-- of so many runs, each a step farther, i is the last that begins at most `past` behind the first
pub record Last (past step times i : ℕ) : Type 0 where
  pub among : i < times
  pub begun : step * i ≤ past
  pub last : i + 1 < times → past < step * (i + 1)

-- the row's times in one frame, where its first time there is a
unfoldable pub runs_time : Row → ℕ → ℕ → Bool
runs_time r a d = some (λ i. in_run (a + r.step * i) r.slots d) r.times

-- the times of a row, if it is of the kind
unfoldable pub of_kind : Kind → Row → ℕ → Bool
of_kind Mark r d = both (marks r) (has_time r d)
of_kind Free r d = both (not (marks r)) (has_time r d)

-- the times of the rows that mark, or of those that free
abbrev pub kind_time : Kind → List Row → ℕ → Bool
kind_time Mark rows = marks_time rows
kind_time Free rows = frees_time rows
