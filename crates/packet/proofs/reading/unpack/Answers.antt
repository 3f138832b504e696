use mathlib.Core.Path.{refl, ◌∙◌}
use native.Mathlib.Omega.{arith}
use Rattle.laws.proofs.Tests.{between_is}
use Rattle.packet.specs.Packet.{read_out}
use Rattle.packet.proofs.Answers.{stuffing-good}
use Rattle.packet.proofs.Unpacking.{spoilt-bad, end-bad, over-bad, length-bad, body-legal, frame-long, front-sent, frame-sent}
use Rattle.packet.proofs.Within.{within}
use Rattle.packet.proofs.reading.unpack.Goals as goal
use Rattle.packet.proofs.reading.unpack.Goals.{then-end-via-then-end, then-end-via-else-end+then-end-eq31}

pub returns-then-end : goal.returns-then-end
unfolding read_out
returns-then-end c = (
  elim c.then-end.branch [
    | then-end-via-then-end w ↦ spoilt-bad c.unstuff-end.ensures w.if-end.true
    | then-end-via-else-end+then-end-eq31 w ↦ end-bad c.unstuff-end.ensures w.if-end.false w.if-end-eq31.true
  ],
  refl,
)

pub returns-then-end-ne0 : goal.returns-then-end-ne0
unfolding read_out
returns-then-end-ne0 c = (over-bad c.unstuff-end.ensures c.if-end.false c.if-end-eq31.false c.if-end-ne0.true, refl)

pub returns-then-not-contains : goal.returns-then-not-contains
unfolding read_out
returns-then-not-contains c =
    let r = c.new.ensures in
    (length-bad c.unstuff-end.ensures c.if-end.false c.if-end-eq31.false c.if-end-ne0.false (within _ c.contains.ensures.value r.start r.end r.exhausted c.if-not-contains.true), refl)

pub unframe-requires : goal.unframe-requires
unframe-requires c =
    let r = c.new.ensures in
    let long = between_is _ _ _ (within _ c.contains.ensures.value r.start r.end r.exhausted c.if-not-contains.false) in
    let l = frame-long c.unstuff-end.ensures c.if-end.false c.if-end-eq31.false c.if-end-ne0.false c.unstuff-end.array_long refl long.0 c.store_eight.ensures in (
      front-sent c.unstuff-end.ensures c.if-end.false c.if-end-eq31.false c.if-end-ne0.false c.unstuff-end.array_long refl long.0 c.store_eight.ensures,
      omega (arith, l, long.0),
      omega (arith, l, long.1),
      c.requires.3,
    )

pub returns : goal.returns
returns c =
    let r = c.new.ensures in
    let long = between_is _ _ _ (within _ c.contains.ensures.value r.start r.end r.exhausted c.if-not-contains.false) in
    let f = c.unframe.ensures in
    let e = frame-sent c.unstuff-end.ensures c.if-end.false c.if-end-eq31.false c.if-end-ne0.false c.unstuff-end.array_long refl long.0 c.store_eight.ensures in
    (rw e at f.0 ∙ stuffing-good _ (body-legal c.unstuff-end.ensures c.if-end.false c.if-end-eq31.false), rw e at f.1)
