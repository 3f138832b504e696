-- `choosing::ask` meets its contract: the window meant, and its free slots.
-- Assumes nothing.
use mathlib.Core.Path.{◌∙◌, ap}
use native.Mathlib.Omega.{arith}
use Rattle.candidates.specs.declared.Window.{Window}
use Rattle.choosing.specs.Scanning.{free_unless_own, asked}
use Rattle.choosing.proofs.Meaning.{near, narrow, timed}
use Rattle.choosing.proofs.ask.Goals as goal

pub free_unless_own-requires : goal.free_unless_own-requires
free_unless_own-requires c =
    let e = c.meant-window.ensures in
    let p = c.requires in
    (p.0, (near _ _ _ _ _ e, (omega (arith, timed _ _ _ _ _ e, p.1.1.1), narrow _ _ _ _ _ e)))

pub returns : goal.returns
unfolding asked
returns c =
    let a = c.args in
    (λ i. record { watch = a.watch; window = c.meant-window.result; draw = a.a.draw; free = c.free_unless_own.ensures i })
    ∙ ap (λ (v : Window). record { watch = a.watch; window = v; draw = a.a.draw; free = free_unless_own a.book.now v }) c.meant-window.ensures
