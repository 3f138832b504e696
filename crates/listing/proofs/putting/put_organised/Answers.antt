use mathlib.Core.Path.{sym, ap, ◌∙◌}
use native.Mathlib.Omega.{arith}
use lib.IntN.{pos}
use Rattle.bits.specs.declared.row.Four.{Four}
use Rattle.listing.proofs.Fits.{exact}
use Rattle.listing.proofs.Straight.{sub-clock, sub-plain, two-put, organised-put}
use Rattle.listing.proofs.putting.put_organised.Goals as goal

pub returns-then-f-eq1 : goal.returns-then-f-eq1
returns-then-f-eq1 c =
    let a = c.args in
    let e = c.organised_parts-f.ensures in
    let sync = ap (λ (f : Four). f.a) e in
    let time-out = ap (λ (f : Four). f.b) e in
    let p = rw (ap (λ (f : Four). f.c) e) at c.put_clock.ensures in
    organised-put a.v _ a.out.now _ a.at _ _ (sub-clock _ _ (sym time-out ∙ c.if-f-eq1.true)) (exact _ (omega (arith, sync)) ∙ ap pos sync) p.0 p.1

pub returns : goal.returns
returns c =
    let a = c.args in
    let e = c.organised_parts-f.ensures in
    let sync = ap (λ (f : Four). f.a) e in
    let time-out = ap (λ (f : Four). f.b) e in
    let number = ap (λ (f : Four). f.c) e in
    let out-time = exact _ (omega (arith, time-out)) ∙ ap pos time-out in
    let out-number = exact _ (omega (arith, number)) ∙ ap pos number in
    organised-put a.v _ a.out.now _ a.at _ _ (sub-plain _ _ (λ z. c.if-f-eq1.false (time-out ∙ z))) (exact _ (omega (arith, sync)) ∙ ap pos sync) (omega arith)
    (two-put _ a.at out-time out-number)
