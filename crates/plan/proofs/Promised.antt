-- The proofs of specs/Promises.antt, but for the examples.
-- Assumes nothing.
use mathlib.Core.Path.{refl, ap, ◌∙◌}
use mathlib.Core.Bool.{true, false}
use Prim.Native.Nat.{ℕ}
use native.Mathlib.Omega.{arith}
use Rattle.std.specs.Prelude.{Some, None}
use Rattle.plan.specs.Times.{meant}
use Rattle.plan.specs.Promises.{GoodOnce, GapsFloorOrCeil, GapsMakeAFrame, NominalInTheMiddle, NoSlotInTwo, ToldOnce, SlotsTellTimes, NoTimeInTwo, EachHasOneNext, NoNearer, NoFarther, MeantIsAhead}
use Rattle.plan.proofs.Gaps.{gap-two, gaps-sum}
use Rattle.plan.proofs.Comings.{meant-ahead, meant-near, meant-comes, meant-one, no-overlap, one-window, next-meant, next_one, slots-near, slots-far}
use Rattle.plan.proofs.Windows.{middle, slot-within, slot-comes, slot-inside, one-slot}

pub good-once : GoodOnce
good-once p true true f g = refl
good-once p true false f g = absurd (g.1 (f.0 tt))
good-once p false true f g = absurd (f.1 (g.0 tt))
good-once p false false f g = refl

pub gaps-floor-or-ceil : GapsFloorOrCeil
gaps-floor-or-ceil = gap-two

pub gaps-make-a-frame : GapsMakeAFrame
gaps-make-a-frame = gaps-sum

pub nominal-in-the-middle : NominalInTheMiddle
nominal-in-the-middle = middle

pub no-slot-in-two : NoSlotInTwo
no-slot-in-two = one-slot

pub told-once : ToldOnce
told-once p good n b (Some k) (Some l) v w = ap Some (one-slot p good k l n b v w)
told-once p good n b (Some k) None v w = absurd (w k v)
told-once p good n b None (Some l) v w = absurd (v l w)
told-once p good n b None None v w = refl

pub slots-tell-times : SlotsTellTimes
slots-tell-times p k t = record { number = slot-within p k t; start = λ w l. (slot-comes p k t w l, slot-inside p k t w) }

pub no-time-in-two : NoTimeInTwo
no-time-in-two p good k l f g t c d v w =
    let e = no-overlap p good k l f g t c d v w in
    (one-window p good k l g (rw e at c) d, e)

pub each-has-one-next : EachHasOneNext
each-has-one-next p good k f c =
    record {
      next = next-meant p good k f c;
      only = λ l g n. (n.neighbour, next_one p good k f l g n ∙ ap (λ (i : ℕ). meant p i f) n.neighbour);
    }

pub no-nearer : NoNearer
no-nearer = slots-near

pub no-farther : NoFarther
no-farther = slots-far

pub meant-is-ahead : MeantIsAhead
meant-is-ahead p k u l =
    record {
      comes = meant-comes p k l u;
      least = omega (arith, meant-ahead p k u);
      most = meant-near p k u;
      only = λ f c a b. meant-one p k u f c (omega arith) b;
    }
