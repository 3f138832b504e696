-- The time becomes ours, and is counted where it had a holder.
use Rattle.std.proofs.Common.{ℕ, ◌≡◌, ◌+◌, not, get_or, refl, subst, ap, ◌∙◌, arith}
use Rattle.laws.specs.Counting.{one}
use Rattle.book.specs.Book.{ours, place, put_at, Puts}
use Rattle.candidates.specs.Slot.{is_none}
use Rattle.candidates.proofs.Listing.{bit-one}
use Rattle.choosing.proofs.own.own_one.Goals as goal

pub returns : goal.returns
unfolding one is_none
returns c =
    let t = c.args.t in
    let put = c.put-handing in
    let there : put.result.old ≡ get_or c.args.book.now (place c.args.o.watch.present t.at) 0 =
    put.ensures.1 ∙ ap (λ (k : ℕ). get_or c.args.book.now k 0) c.place-p.ensures in
    record {
      puts = subst (λ (k : ℕ). Puts (λ b. put_at b k ours) c.args.book.now t.handing.counts put.result put.new.book) c.place-p.ensures put.ensures.0;
      old = there;
      new = put.ensures.2;
      next = refl;
      less = omega (arith, c.requires.some);
      counted = ap (λ (k : ℕ). t.marks + k) (c.from.ensures ∙ bit-one (not (is_none put.result.old)) ∙ ap (λ (k : ℕ). one (not (is_none k))) there);
    }
