use Rattle.std.proofs.Common.{ℕ, List, sym, ◌∙◌, arith}
use mathlib.Core.Path.{subst₃}
use Rattle.ship.specs.declared.Station.{Station}
use Rattle.book.specs.declared.Watch.{Watch}
use Rattle.calls.specs.Stages.{FitTask, done_out}
use Rattle.calls.proofs.Joining.{ends_at, none-is, later-fits, carried-is}
use Rattle.calls.proofs.stages.carry.Goals.{then-c-gt0, else-c-gt0}
use Rattle.calls.proofs.stages.carry.Goals as goal

pub answer-requires : goal.answer-requires
answer-requires c =
    let a = c.args in
    elim c.if-c-gt0.branch [
      | then-c-gt0 w ↦
          let p = w.pass_slots-watch in
          subst₃ (λ (d : Watch) (us : List Station) (cs : List ℕ). FitTask a.c.task d.channel.plan us cs) (sym w.watch-is) (sym w.reg-is) (sym w.book-is)
          (later-fits a.c a.reg.now a.book.now c.requires w.if-c-gt0.true p.result p.new.reg w.age.new.reg p.new.book p.ensures w.age.ensures p.auto.reg p.auto.book)
      | else-c-gt0 w ↦
          subst₃ (λ (d : Watch) (us : List Station) (cs : List ℕ). FitTask a.c.task d.channel.plan us cs) (sym w.watch-is) (sym w.reg-is) (sym w.book-is) c.requires.fits
    ]

pub returns : goal.returns
returns c =
    let a = c.args in
    elim c.if-c-gt0.branch [
      | then-c-gt0 w ↦
          let p = w.pass_slots-watch in
          ends_at
          ((λ i. done_out a.c.task (w.watch-is i) (w.reg-is i) (w.book-is i))
          ∙ carried-is a.c a.reg.now a.book.now c.requires w.if-c-gt0.true p.result p.new.reg w.age.new.reg p.new.book p.ensures w.age.ensures) c.answer.ensures
      | else-c-gt0 w ↦
          ends_at ((λ i. done_out a.c.task (w.watch-is i) (w.reg-is i) (w.book-is i)) ∙ none-is a.c a.reg.now a.book.now c.requires (omega (arith, w.if-c-gt0.false))) c.answer.ensures
    ]
