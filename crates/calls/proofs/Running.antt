-- What goes over the lent register in a call: slots that pass, how many stations are heard, and the tallies together.
-- Assumes nothing.
use mathlib.Core.Path.{◌≡◌, refl, sym, ap, ◌∙◌}
use mathlib.Core.Bool.{Bool, true, false}
use Rattle.std.specs.Prelude.{cond}
use Rattle.std.specs.List.{fold, sum_by, count_by}
use mathlib.Core.List.{List, [], ◌∷◌}
use Prim.Native.Nat.{ℕ, ◌+◌, ◌%◌, ◌≤◌}
use native.Mathlib.Omega.{arith}
use lib.Dec.{ltb}
use lib.ListN.{length, length-map}
use Rattle.laws.specs.Counting.{one, sum}
use Rattle.laws.proofs.Sums.{one-le}
use Rattle.laws.proofs.Upto.{upto-none, upto-more}
use Rattle.limits.specs.Limits.{slot_times, records}
use Rattle.ship.specs.declared.Station.{Station}
use Rattle.walks.specs.Out.{Ends}
use Rattle.book.specs.declared.Watch.{Watch}
use Rattle.register.specs.declared.Turn.{Turn}
use Rattle.register.specs.State.{state_of, tallies_in}
use Rattle.register.specs.Register.{slid_one, slid}
use Rattle.register.proofs.Settling.{both-followed}
use Rattle.register.proofs.Passing.{moved_to, slid-is}
use Rattle.reporting.specs.Report.{heard_stations}
use Rattle.calls.specs.Stages.{started, PassesOne, standing, Upto, pass_out}

-- ---- slots that pass

-- none has passed
pub begins : (w : Watch) (n : ℕ) (ys : List Station) (bs : List ℕ) → Upto w n ys bs (started w n) ys bs
begins w n ys bs = record { i = 0; rest = omega arith; is = upto-none (λ x j. slid_one x) (state_of ys bs w) }

-- one slot more
pub next : (w : Watch) (n : ℕ) (ys : List Station) (bs : List ℕ) (s : Turn) (zs : List Station) (cs : List ℕ) (t : Turn) (ds : List ℕ) → length zs ≡ records
    → Upto w n ys bs s zs cs → PassesOne cs s t ds → Upto w n ys bs t (both-followed zs t) ds
next w n ys bs s zs cs t ds many u p =
    let before = standing w s zs cs in
    let one : slid_one before ≡ state_of (both-followed zs t) ds (moved_to w ((s.at % slot_times + 1) % slot_times) t.handing.counts) =
    slid-is before t ds many p.puts p.nobody in
    record {
      i = u.i + 1;
      rest = omega (arith, p.less, u.rest);
      is =
          ap (λ (m : ℕ). state_of (both-followed zs t) ds (moved_to w m t.handing.counts)) p.next
          ∙ upto-more (λ x j. slid_one x) (state_of ys bs w) u.i before _ u.is (sym one);
    }

pub ends : (w : Watch) (n : ℕ) (ys : List Station) (bs : List ℕ) (t : Turn) (zs : List Station) (cs : List ℕ) → Upto w n ys bs t zs cs → t.left ≡ 0
    → Ends (pass_out w n ys bs) (moved_to w t.at t.handing.counts) zs cs
ends w n ys bs t zs cs u z =
    let all : u.i ≡ n = omega (arith, u.rest, z) in
    let is : standing w t zs cs ≡ slid (state_of ys bs w) n = u.is ∙ ap (slid (state_of ys bs w)) all in
    record { answers = λ i. (is i).watch; leaves = λ i. (is i).reg; writes = λ i. (is i).book }

-- ---- how many stations are heard, and all tallies together

-- what a fold has so far, and the rest of the list
one-is : (b : Bool) → cond b 1 0 ≡ one b
unfolding one
one-is true = refl
one-is false = refl

counts-from : (reg : List Station) (n : ℕ) → fold (λ (a : ℕ) (r : Station). a + cond (ltb 0 r.tally) 1 0) n reg ≡ n + heard_stations (tallies_in reg)
counts-from [] n = omega arith
counts-from (r ∷ reg) n = counts-from reg (n + cond (ltb 0 r.tally) 1 0) ∙ (let e = one-is (ltb 0 r.tally) in omega (arith, e))

pub counts-heard : (reg : List Station) → count_by (λ (r : Station). ltb 0 r.tally) reg ≡ heard_stations (tallies_in reg)
counts-heard reg = let e : 0 + heard_stations (tallies_in reg) ≡ heard_stations (tallies_in reg) = omega arith in counts-from reg 0 ∙ e

sums-from : (reg : List Station) (n : ℕ) → fold (λ (a : ℕ) (r : Station). a + r.tally) n reg ≡ n + sum (tallies_in reg)
sums-from [] n = omega arith
sums-from (r ∷ reg) n = sums-from reg (n + r.tally) ∙ omega arith

pub sums-all : (reg : List Station) → sum_by (λ (r : Station). r.tally) reg ≡ sum (tallies_in reg)
sums-all reg = let e : 0 + sum (tallies_in reg) ≡ sum (tallies_in reg) = omega arith in sums-from reg 0 ∙ e

-- no more stations than records
heard-most : (l : List ℕ) → heard_stations l ≤ length l
heard-most [] = omega arith
heard-most (t ∷ l) = omega (arith, heard-most l, one-le (ltb 0 t))

pub heard-few : (reg : List Station) (n : ℕ) → length reg ≡ records → n ≡ count_by (λ (r : Station). ltb 0 r.tally) reg → n ≤ records
heard-few reg n many e = omega (arith, e, counts-heard reg, heard-most (tallies_in reg), length-map reg (λ (r : Station). r.tally), many)
