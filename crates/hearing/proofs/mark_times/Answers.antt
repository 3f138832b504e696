use Rattle.std.proofs.Common.{sym, ap, ap₂, ◌∙◌}
use Rattle.announcing.specs.Rows.{held_of}
use Rattle.register.specs.State.{State}
use Rattle.hearing.specs.Booking.{holder_of, reply_of}
use Rattle.hearing.proofs.mark_times.Goals as goal

pub returns : goal.returns
unfolding held_of
returns c =
    let b = c.args.b in
    let e = sym c.book_all-t.ensures.state in
    record {
      answers = ap₂ (reply_of b) (c.watch_after.ensures ∙ ap (λ (s : State). s.watch) e)
          (c.book_all-t.ensures.counted ∙ ap (λ (s : State). held_of b.watch.present (holder_of b) s.book b.rows) e);
      leaves = ap (λ (s : State). s.reg) e;
      writes = ap (λ (s : State). s.book) e;
    }
