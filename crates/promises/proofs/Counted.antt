-- After any row of calls each tally is the number of slot times that its holder has, and all of them make the whole book.
-- Assumes nothing.
use Prim.Native.Nat.{ℕ, zero, suc}
use mathlib.Core.Path.{◌≡◌, refl, sym, ap, subst, ◌∙◌}
use mathlib.Core.List.{List, [], ◌∷◌}
use native.Mathlib.Omega.{arith}
use lib.Dec.{eqb}
use lib.ListN.{length, get_or, replicate, length-map, length-append}
use Rattle.laws.specs.Tests.{pick}
use Rattle.laws.specs.Loops.{upto}
use Rattle.limits.specs.Limits.{slot_times, records}
use Rattle.book.specs.declared.Counts.{Counts}
use Rattle.book.specs.Book.{Book, ours, wide, counts_of}
use Rattle.book.specs.Pass.{Moment}
use Rattle.book.specs.Sound.{Sound}
use Rattle.book.specs.Promises.{new_book}
use Rattle.book.proofs.Soundness.{sound-new, sound-pass, sound-release, all-make}
use Rattle.book.proofs.Once.{counts-back}
use Rattle.book.proofs.Releasing.{release-leaves-none}
use Rattle.announcing.specs.Announce.{announces}
use Rattle.announcing.proofs.Effect.{sound-booked}
use Rattle.ship.specs.declared.Station.{Station}
use Rattle.ship.specs.Ship.{blank}
use Rattle.register.specs.State.{State, new_state, tallies_in, book_in}
use Rattle.calls.specs.declared.What.TheVariants.{Plan}
use Rattle.calls.specs.Calls.{plan, called}
use Rattle.promises.specs.Calls.{Call, after_call, after_all}
use Rattle.promises.specs.History.{Event}
use Rattle.promises.specs.Tallies.{TalliesAreCounts, AllMakeTheWhole, CallKeeps, PlanLeavesNone}
use Rattle.promises.proofs.Moves.{Fine, Stays, record_in, PlannedBy}
use Rattle.promises.proofs.Stands.{Stands}
use Rattle.promises.proofs.Grown.{one-call, always}
use Rattle.promises.proofs.Moving.{moved}
use Rattle.promises.proofs.Written.{as_many}
use Rattle.promises.proofs.Places.{sound-frames}

-- the tallies of a new register
tallies-new : (m : ℕ) → tallies_in (replicate m blank) ≡ replicate m 0
tallies-new zero = refl
tallies-new (suc m) = ap (λ (l : List ℕ). 0 ∷ l) (tallies-new m)

-- a new state has a new book
book-new : (n m : ℕ) → n ≡ slot_times → book_in (new_state n m) ≡ new_book n m
unfolding new_state new_book
book-new n m e = λ i. record { slots = replicate n 0; tallies = wide (record { free = sym e i; own = 0 }) (tallies-new m i) }

-- whatever happens keeps the tallies right
pub counted : Stands (λ (s : State) (es : List Event). Sound (book_in s))
counted =
    record {
      new = subst Sound (sym (book-new slot_times records refl)) sound-new;
      passing = λ s s' es n f b p. subst (λ (m : Moment). Sound m.book) (sym b.moment) (sound-pass _ n p);
      staying = λ s s' es b p. subst Sound (sym b.book) p;
      hearing = λ s s' es x f b p.
          subst Sound (sym b.book)
          (sound-booked s.watch.present (suc (record_in s x)) (announces x.state) (omega (arith, b.there)) (book_in s) p);
      planning = λ s s' es f b p. subst Sound (sym b.book) (sound-release (book_in s) ours slot_times (omega arith) p);
      choosing = λ s s' es a d f b p.
          subst Sound (sym b.book) (sound-frames s.watch.present (d) (book_in s) (suc a.timeout) p);
    }

pub tallies-are-counts : TalliesAreCounts
tallies-are-counts cs = always _ counted cs

pub all-make-the-whole : AllMakeTheWhole
all-make-the-whole cs =
    let s = after_all cs in
    omega (arith, all-make s.book (tallies_in s.reg) s.watch.channel.counts (tallies-are-counts cs))

-- a book with a tally for each holder has all records
fine_of : (s : State) → Sound (book_in s) → Fine s
fine_of s p =
    let tallies = tallies_in s.reg in
    record {
      register = omega (arith, p.kinds, length-map s.reg (λ (r : Station). r.tally), length-append tallies (s.watch.channel.counts.own ∷ []));
      book = p.size;
    }

pub call-keeps : CallKeeps
call-keeps s c p = one-call _ counted s c [] (fine_of s p) p

-- ---- a new plan

planned-none : (s s' : State) → Sound (book_in s) → PlannedBy s s' → s'.watch.channel.counts.own ≡ 0
unfolding counts_of
planned-none s s' p b =
    let many : length (tallies_in s'.reg) ≡ records = length-map s'.reg _ ∙ as_many s.reg s'.reg b.sources ∙ (fine_of s p).register in
    sym (ap (λ (c : Counts). c.own) (counts-back s'.book (tallies_in s'.reg) s'.watch.channel.counts many))
    ∙ ap (λ (x : Book). get_or x.tallies ours 0) b.book
    ∙ release-leaves-none (book_in s) ours (omega arith) (omega arith) p

pub plan-leaves-none : PlanLeavesNone
unfolding after_call called upto
plan-leaves-none s x p e =
    let c : Call = record { passes = 0; bytes = []; what = Plan x } in
    planned-none s (plan s x).state p (subst (λ (n : ℕ). pick (eqb n 0) (PlannedBy s (plan s x).state) (Stays s (plan s x).state)) e (moved s c (fine_of s p)))
