-- Our own slots lie in the windows of the plan, one to a window, and neighbours keep their distance: after any row of calls.
-- Assumes nothing.
use mathlib.Core.Path.{◌≡◌, sym, ap, ◌∙◌, subst}
use mathlib.Core.Bool.{true≢false}
use mathlib.Core.List.{List, [], ◌∷◌}
use Prim.Native.Nat.{ℕ, ◌+◌, ◌-◌, ◌%◌, ◌<◌}
use native.Mathlib.Omega.{arith}
use Rattle.laws.proofs.Tests.{never}
use Rattle.laws.proofs.Ranges.{some-hit}
use Rattle.limits.specs.Limits.{frame_slots, slot_times, records}
use Rattle.plan.specs.declared.Plan.{Plan}
use Rattle.plan.specs.Plan.{InRange, first, slots, onward}
use Rattle.plan.specs.Times.{Within, meant}
use Rattle.plan.proofs.Gaps.{half-most}
use Rattle.candidates.specs.Slot.{is_own, holder_at}
use Rattle.announcing.specs.declared.rows.Row.{Row}
use Rattle.choosing.specs.declared.Wanted.{Wanted}
use Rattle.choosing.specs.Choosing.{window_meant, any_own}
use Rattle.register.specs.State.{State, new_state, sources_in}
use Rattle.calls.specs.Calls.{plan_in}
use Rattle.promises.specs.Calls.{after_all}
use Rattle.promises.specs.History.{Event, past_of, time_of, after_event, holder_of}
use Rattle.promises.specs.History.Event.{passed, heard, owned, planned}
use Rattle.promises.specs.Windows.{OursAt, OwnInWindows}
use Rattle.promises.proofs.Moves.{ChosenBy}
use Rattle.promises.proofs.Stands.{Stands}
use Rattle.promises.proofs.Grown.{always}
use Rattle.promises.proofs.Holders.{Agrees, agreed, holder-ahead}
use Rattle.promises.proofs.Keeping.{Keeps, MayChoose, keeps-none, keeps_on, keeps-alike, keeps-choose, keeps-spaced}
use Rattle.promises.proofs.Ours.{is_us, Own, us-heard, none-planned, own-before, own-then, own-number}

-- the plan is none or in its range, and what is ours by the events keeps to it
record OnPlan (p : Plan) (es : List Event) : Type 0 where
  pub ranged : 0 < p.rate → InRange p
  pub keeps : Keeps p (time_of es) (Own es)

-- ---- event by event

kept_new : (n m : ℕ) → OnPlan (plan_in (new_state n m)) []
unfolding new_state holder_of
kept_new n m = record { ranged = λ l. absurd (omega arith); keeps = keeps-none _ _ _ (λ t o. never o) }

module _ (p : Plan) (es : List Event) (k : OnPlan p es) where
  kept-passed : (n : ℕ) → OnPlan p (passed n ∷ es)
  unfolding time_of holder_of after_event
  kept-passed n = record { ranged = k.ranged; keeps = keeps_on p (time_of es) _ _ (omega arith) k.keeps }

  kept-heard : (s : ℕ) (rows : List Row) → OnPlan p (heard s rows ∷ es)
  unfolding time_of
  kept-heard s rows =
      let same = us-heard s rows es in
      let on = keeps-alike p (time_of es) (Own es) (Own (heard s rows ∷ es)) (λ t o. sym (same t) ∙ o) (λ t o. same t ∙ o) k.keeps in
      record { ranged = k.ranged; keeps = keeps_on p (time_of es) _ _ (omega arith) on }

  kept-owned : (j d m : ℕ) → MayChoose p (time_of es) (Own es) j d → OnPlan p (owned d m ∷ es)
  unfolding time_of
  kept-owned j d m c =
      let on = keeps-alike p (time_of es) _ _ (own-before d m es) (own-then d m es) (keeps-choose p (time_of es) (Own es) j m d c k.keeps) in
      record { ranged = k.ranged; keeps = keeps_on p (time_of es) _ _ (omega arith) on }

kept-planned : (p : Plan) (es : List Event) → InRange p → OnPlan p (planned ∷ es)
kept-planned p es r = record { ranged = λ l. r; keeps = keeps-none p _ _ (none-planned es) }

-- ---- a choice in the book is one by the events

module _ (s s' : State) (es : List Event) (h : Agrees s es) (a : Wanted) (d : ℕ) (b : ChosenBy a d s s') where
  abbrev ahead : ℕ
  ahead = onward (s.watch.present % frame_slots) (first (plan_in s) a.k)

  ahead-is : time_of es + ahead ≡ meant (plan_in s) a.k (time_of es)
  unfolding meant
  ahead-is = let e : s.watch.present % frame_slots ≡ time_of es % frame_slots = omega (arith, h.here) in rw e

  picked : Within (plan_in s) (meant (plan_in s) a.k (time_of es)) (time_of es + d)
  unfolding window_meant slots
  picked = record { from = omega (arith, ahead-is, b.from); to = omega (arith, ahead-is, b.to) }

  clear : (t : ℕ) → Within (plan_in s) (meant (plan_in s) a.k (time_of es)) t → Own es t → ⊥
  unfolding window_meant any_own slots holder_at
  clear t w o =
      let i = t - (time_of es + ahead) in
      let at : time_of es + (ahead + i) ≡ t = omega (arith, ahead-is, w.from) in
      let near : i < slots (plan_in s) = omega (arith, ahead-is, w.to) in
      let who = holder-ahead s es h (ahead + i) (omega (arith, half-most (plan_in s))) in
      let own = own-number (sources_in s.reg) _ (ap is_us who ∙ ap (λ (v : ℕ). is_us (holder_of es v)) at ∙ o) in
      true≢false (some-hit (λ j. is_own (holder_at s.book s.watch.present (ahead + j))) i (slots (plan_in s)) near own ∙ b.free)

  may-choose : MayChoose (plan_in s) (time_of es) (Own es) a.k (d)
  may-choose = record { ranged = b.ranged; known = b.known; picked = picked; free = clear }

-- ---- whatever happens

same-plan : (s s' : State) (es : List Event) → plan_in s' ≡ plan_in s → OnPlan (plan_in s) es → OnPlan (plan_in s') es
same-plan s s' es e = subst (λ (p : Plan). OnPlan p es) (sym e)

-- together with the holders, by which a choice is one by the events
kept : Stands (λ s es. Agrees s es × OnPlan (plan_in s) es)
kept =
    record {
      new = (agreed.new, kept_new slot_times records);
      passing = λ s s' es n f b p.
          (agreed.passing s s' es n f b p.0, same-plan s s' _ b.plan (kept-passed (plan_in s) es p.1 n));
      staying = λ s s' es b p. (agreed.staying s s' es b p.0, same-plan s s' es b.plan p.1);
      hearing = λ s s' es x f b p.
          (agreed.hearing s s' es x f b p.0, same-plan s s' _ b.plan (kept-heard (plan_in s) es p.1 _ _));
      planning = λ s s' es f b p. (agreed.planning s s' es f b p.0, kept-planned (plan_in s') es b.ranged);
      choosing = λ s s' es a d f b p.
          let may = may-choose s s' es p.0 a d b in
          (agreed.choosing s s' es a d f b p.0, same-plan s s' _ b.plan (kept-owned (plan_in s) es p.1 a.k _ _ may));
    }

pub own-in-windows : OwnInWindows
own-in-windows cs =
    let s = after_all cs in
    let es = past_of cs in
    let h = always _ kept cs in
    keeps-spaced (plan_in s) (time_of es) (Own es) (OursAt cs) h.1.ranged h.1.keeps (λ t o.
    let at : time_of es + (t - time_of es) ≡ t = omega (arith, o.from) in
    ap (λ (v : ℕ). is_us (holder_of es v)) (sym at)
    ∙ ap is_us (sym (holder-ahead s es h.0 (t - time_of es) (omega (arith, o.from, o.to))) ∙ o.ours))
