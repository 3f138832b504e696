use Rattle.std.proofs.Common.{sym, ap, ◌∙◌}
use Rattle.register.specs.State.{State}
use Rattle.hearing.specs.Booking.{rewatched}
use Rattle.hearing.proofs.free_times.Goals as goal

pub returns : goal.returns
returns c =
    let e = sym c.book_all-t.ensures.state in
    record {
      answers = ap (rewatched c.args.b) (c.watch_after-b.ensures ∙ ap (λ (s : State). s.watch) e);
      leaves = ap (λ (s : State). s.reg) e;
      writes = ap (λ (s : State). s.book) e;
    }
