-- What a report does to the holder of one slot time, by name: the book follows the rows, and a time beyond the book gets no holder.
-- Assumes nothing.
use Prim.Native.Nat.{ℕ, suc, ◌+◌, ◌-◌, ◌%◌, ◌≤◌, ◌<◌}
use mathlib.Core.Path.{◌≡◌, refl, sym, ap, ◌∙◌}
use mathlib.Core.Bool.{true}
use mathlib.Core.List.{List}
use native.Mathlib.Omega.{arith}
use borrow.Author.Tests.{le-leb}
use lib.Dec.{eqb, leb}
use lib.ListN.{get_or}
use Rattle.laws.specs.Tests.{pick}
use Rattle.laws.proofs.Tests.{pick-of, pick-has, pick_is}
use Rattle.limits.specs.Limits.{slot_times, records}
use Rattle.book.specs.Book.{Book, holders, place, holder}
use Rattle.book.specs.Sound.{Sound}
use Rattle.announcing.specs.declared.rows.Row.{Row}
use Rattle.announcing.specs.Rows.{marks_time, frees_time, booked, in_book}
use Rattle.announcing.proofs.Effect.{freed_of, freed_then, marked_then, booked-holder, none-beyond}
use Rattle.promises.specs.History.{Who, marked_by, freed_by, freed_in, reported, after_event, who_of}
use Rattle.promises.specs.History.Event.{heard}
use Rattle.promises.specs.History.Who.{nobody}
use Rattle.promises.proofs.Places.{at_place}
use Rattle.promises.proofs.Known.{Apart, who-marked, who-freed}

-- k is the record of the station s
module _ (sources : List ℕ) (apart : Apart sources) (s k : ℕ) (known : 0 < s) (there : k < records) (mine : get_or sources k 0 ≡ s) (rows : List Row) where
  -- the holder number x of the time d ahead
  module _ (d x : ℕ) (held : x < holders) where
    abbrev freed : ℕ
    freed = freed_then (suc k) rows d x

    freed-held : freed < holders
    unfolding freed_then freed_of
    freed-held =
        pick-has (λ (y : ℕ). y < holders) (frees_time rows d) _ x (pick-has (λ (y : ℕ). y < holders) (eqb x (suc k)) 0 x (omega arith) held) held

    who-freed-so : who_of sources freed ≡ freed_in s rows d (who_of sources x)
    unfolding freed_then freed_in
    who-freed-so =
        pick-of (who_of sources) (frees_time rows d) _ x
        ∙ ap (λ (y : Who). pick (frees_time rows d) y (who_of sources x)) (who-freed sources apart s k known there mine x held)

    who-reported : who_of sources (marked_then (suc k) rows d freed) ≡ reported s rows d (who_of sources x)
    unfolding marked_then reported
    who-reported =
        pick-of (who_of sources) (marks_time rows d) _ freed
        ∙ ap (λ (y : Who). pick (marks_time rows d) y (who_of sources freed)) (who-marked sources apart s k known there mine freed freed-held)
        ∙ ap (λ (y : Who). pick (marks_time rows d) (marked_by s y) y) who-freed-so

  -- the slot time t, which lies in the book
  pub heard-after : (u t present : ℕ) → present ≡ u % slot_times → u ≤ t → t < u + slot_times → (b : Book) → Sound b
      → who_of sources (holder (booked present (suc k) rows b) (t % slot_times)) ≡ after_event (heard s rows) u t (who_of sources (holder b (t % slot_times)))
  unfolding after_event
  heard-after u t present here from to b w =
      let d = t - u in
      let at : t % slot_times ≡ place present d = at_place t u d present here (omega arith) in
      rw (le-leb u t from)
      (ap (λ (p : ℕ). who_of sources (holder (booked present (suc k) rows b) p)) at
      ∙ ap (who_of sources) (booked-holder present (suc k) rows b w.size d (omega arith))
      ∙ who-reported d (holder b (place present d)) (w.held (place present d) (omega (arith, w.size)))
      ∙ ap (λ (p : ℕ). reported s rows d (who_of sources (holder b p))) (sym at))

-- a time beyond the book gets no holder
pub heard-beyond : (s u t : ℕ) (rows : List Row) → in_book rows ≡ true → u + slot_times ≤ t → after_event (heard s rows) u t nobody ≡ nobody
unfolding after_event reported freed_in freed_by
heard-beyond s u t rows e l =
    rw (none-beyond rows e (t - u) (omega arith)) (pick_is (λ (y : Who). y) (leb u t) (pick_is (λ (y : Who). y) (frees_time rows (t - u)) refl refl) refl)
