-- After any row of calls the holder of every slot time is the one that the list of past events gives.
-- Assumes nothing.
use Prim.Native.Nat.{ℕ, suc, ◌+◌, ◌*◌, ◌%◌, ◌≤◌, ◌<◌}
use mathlib.Core.Path.{◌≡◌, refl, sym, ap, subst, ◌∙◌}
use mathlib.Core.List.{List, [], ◌∷◌}
use native.Mathlib.Decide.{dec_lt}
use native.Mathlib.Omega.{arith}
use borrow.Author.Tests.{lt-ltb, le-ltb}
use lib.Dec.{eqb, ltb}
use lib.ListN.{length, get_or, replicate, set, length-map, get_or-replicate, get_or-map}
use Rattle.laws.specs.Tests.{pick}
use Rattle.laws.specs.Ranges.{some}
use Rattle.laws.proofs.Tests.{pick-of}
use Rattle.limits.specs.Limits.{frame_slots, slot_times, records}
use Rattle.ship.specs.declared.Station.{Station}
use Rattle.ship.specs.Ship.{blank}
use Rattle.book.specs.Book.{ours, place, holder}
use Rattle.book.specs.Pass.{Moment}
use Rattle.book.specs.Sound.{Sound}
use Rattle.book.proofs.Once.{tallies-back}
use Rattle.hearing.specs.declared.Telling.{Telling}
use Rattle.hearing.specs.Station.{record_of}
use Rattle.announcing.specs.declared.rows.Row.{Row}
use Rattle.announcing.specs.Announce.{announces}
use Rattle.choosing.specs.declared.Wanted.{Wanted}
use Rattle.register.specs.State.{State, new_state, tallies_in, sources_in, book_in}
use Rattle.promises.specs.Calls.{after_all}
use Rattle.promises.specs.History.{Event, Who, past_of, time_of, after_event, given_up, holder_of, who_of, who_in, HoldersByEvents}
use Rattle.promises.specs.History.Event.{passed, heard, owned, planned}
use Rattle.promises.specs.History.Who.{nobody, us}
use Rattle.promises.proofs.Moves.{Fine, Stays, moment_in, PassedBy, record_in, HeardBy, PlannedBy, ChosenBy}
use Rattle.promises.proofs.Stands.{Stands}
use Rattle.promises.proofs.Lasting.{new-present}
use Rattle.promises.proofs.Grown.{always}
use Rattle.promises.proofs.Counted.{counted}
use Rattle.promises.proofs.Places.{at-a-place, held-by-one, passes-present, passes-after, released-after, own-after, own-beyond}
use Rattle.promises.proofs.Known.{Apart, Meant, who-nobody, who-us, who-given-up, meant, mine-now, who-taken, still-apart}
use Rattle.promises.proofs.Announced.{heard-after, heard-beyond}

-- the book and the register agree with the events
pub record Agrees (s : State) (es : List Event) : Type 0 where
  pub sound : Sound (book_in s)
  pub here : s.watch.present ≡ time_of es % slot_times
  pub apart : Apart (sources_in s.reg)
  pub inside : (t : ℕ) → time_of es ≤ t → t < time_of es + slot_times → who_of (sources_in s.reg) (holder (book_in s) (t % slot_times)) ≡ holder_of es t
  pub beyond : (t : ℕ) → time_of es + slot_times ≤ t → holder_of es t ≡ nobody

-- ---- a new state

module _ (n m i : ℕ) where
  new-source : i < m → get_or (sources_in (new_state n m).reg) i 0 ≡ 0
  unfolding new_state
  new-source p =
      get_or-map (λ (r : Station). r.source) (replicate m blank) i blank ∙ ap (λ (r : Station). r.source) (get_or-replicate m i blank blank p)

  new-slot : i < n → get_or (new_state n m).book i 0 ≡ 0
  unfolding new_state
  new-slot p = get_or-replicate n i 0 0 p

agrees-new : Agrees (new_state slot_times records) []
unfolding time_of holder_of
agrees-new =
    record {
      sound = counted.new;
      here = new-present slot_times records;
      apart = λ i j p q e n. absurd (n (new-source slot_times records i p));
      inside = λ t from to. who-nobody _ _ (new-slot slot_times records (t % slot_times) (omega arith));
      beyond = λ t l. refl;
    }

-- ---- whatever happens

module _ (s s' : State) (es : List Event) (p : Agrees s es) where
  -- the present time
  abbrev u : ℕ
  u = time_of es

  abbrev sources : List ℕ
  sources = sources_in s.reg

  agrees-stays : Stays s s' → Agrees s' es
  agrees-stays b =
      record {
        sound = counted.staying s s' es b p.sound;
        here = b.present ∙ p.here;
        apart = subst Apart (sym b.sources) p.apart;
        inside = λ t from to. (λ i. who_of (b.sources i) (holder (b.book i) (t % slot_times))) ∙ p.inside t from to;
        beyond = p.beyond;
      }

  module _ (f : Fine s) where
    agrees-passed : (n : ℕ) → PassedBy n s s' → Agrees s' (passed n ∷ es)
    unfolding time_of holder_of after_event
    agrees-passed n b =
        record {
          sound = counted.passing s s' es n f b p.sound;
          here = ap (λ (x : Moment). x.present) b.moment ∙ passes-present (moment_in s) u p.here n;
          apart = subst Apart (sym b.sources) p.apart;
          inside = λ t from to.
              (λ i. who_of (b.sources i) (holder (b.moment i).book (t % slot_times)))
              ∙ ap (who_of sources) (passes-after (moment_in s) u p.here p.sound n t from to)
              ∙ pick-of (who_of sources) (ltb t (u + slot_times)) _ _
              ∙ go t (dec_lt t (u + slot_times)) from;
          beyond = λ t l. p.beyond t (omega arith);
        }
      where
        go : (t : ℕ) → Dec (t < u + slot_times) → n + u ≤ t
            → pick (ltb t (u + slot_times)) (who_of sources (holder (book_in s) (t % slot_times))) (who_of sources 0) ≡ holder_of es t
        go t (yes l) from = rw (lt-ltb t (u + slot_times) l) (p.inside t (omega arith) l)
        go t (no l) from = rw (le-ltb t (u + slot_times) (omega arith)) (who-nobody sources 0 refl ∙ sym (p.beyond t (omega arith)))

    module _ (x : Telling) (b : HeardBy x s s') where
      -- the station, its record and what it announces
      abbrev source : ℕ
      source = x.source

      abbrev k : ℕ
      k = record_in s x

      abbrev rows : List Row
      rows = announces x.state

      many : length sources ≡ records
      many = length-map s.reg (λ (r : Station). r.source) ∙ f.register

      chosen : Meant (book_in s) sources source k
      chosen =
          subst (λ (ts : List ℕ). record_of sources ts source < records → Meant (book_in s) sources source (record_of sources ts source))
          (tallies-back s.book (tallies_in s.reg) s.watch.channel.counts (length-map s.reg (λ (r : Station). r.tally) ∙ f.register))
          (meant (book_in s) sources source p.sound many) b.there

      apart-then : Apart (set sources k source)
      apart-then = still-apart (book_in s) sources source p.sound many k b.there chosen p.apart

      mine : get_or (set sources k source) k 0 ≡ source
      mine = mine-now (book_in s) sources source p.sound many k b.there chosen

      agrees-heard : Agrees s' (heard source rows ∷ es)
      unfolding time_of holder_of
      agrees-heard =
          record {
            sound = counted.hearing s s' es x f b p.sound;
            here = omega (arith, b.present, p.here);
            apart = subst Apart (sym b.sources) apart-then;
            inside = λ t from to.
                let named = heard-after (set sources k source) apart-then source k b.known b.there mine rows in
                let placed = at-a-place (book_in s) p.sound t in
                let before = who-taken (book_in s) sources source p.sound many k b.there chosen (t % slot_times) placed in
                (λ i. who_of (b.sources i) (holder (b.book i) (t % slot_times)))
                ∙ named u t s.watch.present p.here (omega arith) (omega arith) (book_in s) p.sound
                ∙ ap (after_event (heard source rows) u t) (before ∙ p.inside t (omega arith) (omega arith));
            beyond = λ t l. ap (after_event (heard source rows) u t) (p.beyond t (omega arith)) ∙ heard-beyond source u t rows b.within (omega arith);
          }

    agrees-planned : PlannedBy s s' → Agrees s' (planned ∷ es)
    unfolding time_of holder_of after_event given_up
    agrees-planned b =
        record {
          sound = counted.planning s s' es f b p.sound;
          here = omega (arith, b.present, p.here);
          apart = subst Apart (sym b.sources) p.apart;
          inside = λ t from to.
              (λ i. who_of (b.sources i) (holder (b.book i) (t % slot_times)))
              ∙ ap (who_of sources) (released-after ours (book_in s) (t % slot_times) (omega arith) p.sound)
              ∙ who-given-up sources (holder (book_in s) (t % slot_times)) (held-by-one (book_in s) p.sound t)
              ∙ ap given_up (p.inside t (omega arith) (omega arith));
          beyond = λ t l. ap given_up (p.beyond t (omega arith));
        }

    agrees-chosen : (a : Wanted) (d : ℕ) → ChosenBy a d s s' → Agrees s' (owned d a.timeout ∷ es)
    unfolding time_of holder_of after_event
    agrees-chosen a d b =
        record {
          sound = counted.choosing s s' es a d f b p.sound;
          here = omega (arith, b.present, p.here);
          apart = subst Apart (sym b.sources) p.apart;
          inside = λ t from to.
              let among = some (λ i. eqb t (u + (d + frame_slots * i))) in
              let after = own-after (book_in s) u t s.watch.present d p.here p.sound (omega arith) (omega arith) in
              let all : suc a.timeout ≡ a.timeout + 1 = omega arith in
              (λ i. who_of (b.sources i) (holder (b.book i) (t % slot_times)))
              ∙ ap (who_of sources) (after (suc a.timeout) (omega (arith, b.within)))
              ∙ pick-of (who_of sources) (among (suc a.timeout)) ours (holder (book_in s) (t % slot_times))
              ∙ (λ i. pick (among (all i)) (who-us sources ours refl i) (p.inside t (omega arith) (omega arith) i));
          beyond = λ t l.
              ap (λ (y : Who). pick (some (λ i. eqb t (u + (d + frame_slots * i))) (a.timeout + 1)) us y) (p.beyond t (omega arith))
              ∙ rw (own-beyond u t d (a.timeout + 1) (omega (arith, b.within)) (omega arith));
        }

pub agreed : Stands Agrees
agreed =
    record {
      new = agrees-new;
      passing = λ s s' es n f b p. agrees-passed s s' es p f n b;
      staying = λ s s' es b p. agrees-stays s s' es p b;
      hearing = λ s s' es x f b p. agrees-heard s s' es p f x b;
      planning = λ s s' es f b p. agrees-planned s s' es p f b;
      choosing = λ s s' es a d f b p. agrees-chosen s s' es p f a d b;
    }

-- ---- the slot time d ahead

pub holder-ahead : (s : State) (es : List Event) → Agrees s es → (d : ℕ) → d < slot_times → who_in s d ≡ holder_of es (time_of es + d)
holder-ahead s es p d l =
    let at : place s.watch.present d ≡ (time_of es + d) % slot_times = omega (arith, p.here) in
    ap (λ (y : ℕ). who_of (sources_in s.reg) (get_or s.book y 0)) at ∙ p.inside (time_of es + d) (omega arith) (omega arith)

pub holders-by-events : HoldersByEvents
holders-by-events cs = holder-ahead (after_all cs) (past_of cs) (always Agrees agreed cs)
