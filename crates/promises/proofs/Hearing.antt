-- A call that hears a station: its record has it, and the book what it announces.
-- Assumes nothing.
use mathlib.Core.Path.{◌≡◌, refl, ap, ◌∙◌}
use mathlib.Core.Bool.{not}
use mathlib.Core.List.{List}
use Prim.Native.Nat.{ℕ, suc, ◌<◌}
use native.Mathlib.Omega.{arith}
use borrow.Author.Tests.{ltb-true}
use lib.Dec.{eqb}
use lib.ListN.{length, get_or, set, length-set}
use lib.Seq.{map-set_same}
use Rattle.laws.specs.Tests.{between}
use Rattle.laws.specs.Exactly.{AllHold}
use Rattle.laws.proofs.Tests.{both_left, between_is}
use Rattle.limits.specs.Limits.{records}
use Rattle.ship.specs.declared.Station.{Station}
use Rattle.ship.specs.Ship.{blank, fair_source}
use Rattle.book.specs.declared.Watch.{Watch}
use Rattle.book.specs.Book.{Book, book_of}
use Rattle.announcing.specs.Rows.{booked}
use Rattle.announcing.specs.Announce.{announces}
use Rattle.announcing.proofs.Effect.{booked-sizes}
use Rattle.hearing.specs.declared.Telling.{Telling}
use Rattle.hearing.specs.Station.{fair_other}
use Rattle.hearing.specs.Hear.{telling_in, entered, stored, heard, hear_tests}
use Rattle.register.specs.State.{State, book_in, sources_in}
use Rattle.register.proofs.Settling.{map-set, book_in-settle}
use Rattle.register.proofs.Again.{all_kinds}
use Rattle.promises.proofs.Moves.{Fine, HeardBy, record_in}
use Rattle.promises.proofs.Written.{written-sources, written-present, written-plan}

-- the station is stored: the book is as it was, and its record has its source
module _ (s : State) (x : Telling) where
  abbrev old : Station
  old = get_or s.reg (record_in s x) blank

  stored-book : book_in (stored s x) ≡ book_in s
  unfolding stored entered
  stored-book =
      ap (λ (ts : List ℕ). book_of s.book ts s.watch.channel.counts)
      (map-set_same (λ (r : Station). r.tally) s.reg (record_in s x) (entered x old) blank refl)

  stored-sources : sources_in (stored s x).reg ≡ set (sources_in s.reg) (record_in s x) x.source
  unfolding stored entered
  stored-sources = map-set (λ (r : Station). r.source) s.reg (record_in s x) (entered x old)

  stored-many : length (stored s x).reg ≡ length s.reg
  unfolding stored
  stored-many = length-set s.reg _ _

  stored-watch : (stored s x).watch ≡ s.watch
  unfolding stored
  stored-watch = refl

module _ (s : State) (bytes : List ℕ) (f : Fine s) (held : AllHold (hear_tests s bytes)) where
  abbrev told : Telling
  told = telling_in bytes

  known : 0 < told.source
  unfolding hear_tests fair_other fair_source
  known =
      let fair = both_left (between 1 999999999 told.source) (not (eqb told.source s.watch.ship.source)) held.1.1.1.0 in
      omega (arith, (between_is 1 999999999 told.source fair).0)

  there : record_in s told < records
  unfolding hear_tests
  there = ltb-true (record_in s told) records held.1.1.1.1.1.0

  -- what it announces, in the book of a state
  abbrev announced : State → Book
  announced t = booked s.watch.present (suc (record_in s told)) (announces told.state) (book_in t)

  pub hear-moves : HeardBy told s (heard s told)
  unfolding heard hear_tests
  hear-moves =
      let t = stored s told in
      let many : length t.reg ≡ records = stored-many s told ∙ f.register in
      let sizes = booked-sizes s.watch.present (suc (record_in s told)) (announces told.state) (book_in t) in
      record {
        known = known;
        there = there;
        within = held.1.1.1.1.1.1;
        book = book_in-settle t (announced t) many (sizes.1 ∙ all_kinds t many)
            ∙ ap (booked s.watch.present (suc (record_in s told)) (announces told.state)) (stored-book s told);
        sources = written-sources (announced t) t ∙ stored-sources s told;
        present = written-present (announced t) t ∙ ap (λ (w : Watch). w.present) (stored-watch s told);
        plan = written-plan (announced t) t ∙ ap (λ (w : Watch). w.channel.plan) (stored-watch s told);
      }
