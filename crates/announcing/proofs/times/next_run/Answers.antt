use Prim.Native.Nat.{◌+◌, ◌<◌}
use native.Mathlib.Omega.{arith}
use Rattle.announcing.proofs.Finding.{begins-inside, run-inside, next-first, next_here, next-begins, next-over}
use Rattle.announcing.proofs.times.next_run.Goals as goal

pub returns-then-d-a : goal.returns-then-d-a
returns-then-d-a c =
    let a = c.args in
    let s = c.requires in
    next-first a.r a.a a.d s.0 s.1 c.if-d-a.true (omega arith)

pub returns-then-past-step : goal.returns-then-past-step
returns-then-past-step c =
    let a = c.args in
    let s = c.requires in
    let i = c.last_run-i.result in
    let last = run-inside a.r a.a i c.last_run-i.ensures.among s.2 in
    next_here a.r a.a a.d s.0 i c.last_run-i.ensures c.if-d-a.false c.if-past-step.true (omega arith)

pub returns-then-i-times : goal.returns-then-i-times
returns-then-i-times c =
    let a = c.args in
    let s = c.requires in
    let i = c.last_run-i.result in
    let more : i + 1 < a.r.times = omega arith in
    next-begins a.r a.a a.d s.0 i c.last_run-i.ensures c.if-d-a.false c.if-past-step.false more (begins-inside a.r a.a i more s.0 s.2)

pub returns : goal.returns
returns c =
    let a = c.args in
    let s = c.requires in
    next-over a.r a.a a.d s.0 c.last_run-i.result c.last_run-i.ensures c.if-d-a.false c.if-past-step.false c.if-i-times.false s.3
