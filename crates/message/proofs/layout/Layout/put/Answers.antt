use native.Mathlib.Omega.{arith}
use Rattle.message.proofs.Writings.{rows-fit, laid-whole}
use Rattle.message.proofs.layout.Layout.put.Goals as goal

pub put-requires : goal.put-requires
put-requires c =
    let p = c.requires in
    let w = p.1 in
    (omega (arith, p.0), w.a.readable.some-a, omega (arith, w.a.few), omega (arith, w.a.few), omega (arith, p.0, w.all), (rows-fit c.args.self c.args.x p.2).0)

pub put-requires-2 : goal.put-requires-2
put-requires-2 c =
    let p = c.requires in
    let w = p.1 in
    let at = c.total-b.ensures in
    let long = c.put.auto.out in
    (omega (arith, p.0, long), w.b.readable.some-a, omega (arith, w.b.few), omega (arith, w.b.window, at), omega (arith, p.0, long, w.all, at), (rows-fit c.args.self c.args.x p.2).1)

pub put-requires-3 : goal.put-requires-3
put-requires-3 c =
    let p = c.requires in
    let w = p.1 in
    let b = c.total-b.ensures in
    let at = c.total.ensures in
    let long = c.put-2.auto.out in
    (omega (arith, p.0, long), w.c.readable.some-a, omega (arith, w.c.few), omega (arith, w.c.window, b, at), omega (arith, p.0, long, w.all, b, at), (rows-fit c.args.self c.args.x p.2).2)

pub put-requires-4 : goal.put-requires-4
put-requires-4 c =
    let p = c.requires in
    let w = p.1 in
    let b = c.total-b.ensures in
    let at-c = c.total.ensures in
    let at = c.total-2.ensures in
    let long = c.put-3.auto.out in
    (omega (arith, p.0, long), w.d.readable.some-a, omega (arith, w.d.few), omega (arith, w.d.window, b, at-c, at), omega (arith, p.0, long, w.all, b, at-c, at), (rows-fit c.args.self c.args.x p.2).3)

pub returns : goal.returns
returns c =
    laid-whole c.args.self c.args.x c.requires.1 _ (λ i. (c.slice_known-1.given i).fits) c.requires.0 (omega (arith, c.total-b.ensures)) (omega (arith, c.total.ensures)) (omega (arith, c.total-2.ensures))
    c.put.ensures c.put-2.ensures c.put-3.ensures c.put-4.ensures
