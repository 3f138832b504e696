-- The book of a state is written back a second time, or unchanged.
--     all_kinds        the book of a state has a tally for each holder
--     settle-again     what is written back last counts
--     settle-none      the state's own book, written back, changes nothing
-- Assumes nothing.
use mathlib.Core.Path.{◌≡◌, refl, sym, ap, ◌∙◌}
use mathlib.Core.List.{List, [], ◌∷◌}
use Prim.Native.Nat.{ℕ}
use native.Mathlib.Omega.{arith}
use lib.ListN.{length, length-map, length-append}
use Rattle.limits.specs.Limits.{records}
use Rattle.ship.specs.declared.Station.{Station}
use Rattle.book.specs.Book.{Book, holders, tallies_of, counts_of}
use Rattle.book.proofs.Lengths.{all-records}
use Rattle.register.specs.State.{State, state_of, tallies_in, book_in, with_tally, with_counts, tallied, settle}
use Rattle.register.proofs.Settling.{settle_is}

pub all_kinds : (s : State) → length s.reg ≡ records → length (book_in s).tallies ≡ holders
all_kinds s many =
    let c = s.watch.channel.counts in
    omega (arith, length-append (tallies_in s.reg) (c.own ∷ []), length-map s.reg (λ (r : Station). r.tally), many)

tallied-again : (reg : List Station) (ts us : List ℕ) → length us ≡ length reg → tallied (tallied reg ts) us ≡ tallied reg us
unfolding tallied
tallied-again [] ts us e = refl
tallied-again (r ∷ reg) [] us e = refl
tallied-again (r ∷ reg) (t ∷ ts) [] e = absurd (omega arith)
tallied-again (r ∷ reg) (t ∷ ts) (u ∷ us) e = ap (λ (l : List Station). with_tally r u ∷ l) (tallied-again reg ts us (omega arith))

pub settle-again : (s : State) (b c : Book) → length s.reg ≡ records → length c.tallies ≡ holders → settle c (settle b s) ≡ settle c s
unfolding settle
settle-again s b c many kinds =
    ap (λ (reg : List Station). state_of reg c.slots (with_counts s.watch (counts_of c)))
    (tallied-again s.reg (tallies_of b) (tallies_of c) (all-records c kinds ∙ sym many))

pub settle-none : (s : State) → length s.reg ≡ records → settle (book_in s) s ≡ s
settle-none s many = settle_is s (book_in s) s.reg s.book s.watch.channel.counts many refl refl
