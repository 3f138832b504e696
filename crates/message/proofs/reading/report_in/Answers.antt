use mathlib.Core.Path.{ap}
use lib.Dec.{lit<, lit≤}
use Rattle.message.specs.Message.{report_of}
use Rattle.message.specs.declared.layout.Rows.{Rows}
use Rattle.message.proofs.Readings.{narrow, meant}
use Rattle.message.proofs.reading.report_in.Goals as goal

pub signed-requires : goal.signed-requires
signed-requires c = (lit≤ tt, lit< tt, narrow _ _ 8 _ (ap (λ (x : Rows). x.b.a) c.read-x.ensures))

pub signed-requires-2 : goal.signed-requires-2
signed-requires-2 c = (lit≤ tt, lit< tt, narrow _ _ 28 _ (ap (λ (x : Rows). x.b.d) c.read-x.ensures))

pub signed-requires-3 : goal.signed-requires-3
signed-requires-3 c = (lit≤ tt, lit< tt, narrow _ _ 27 _ (ap (λ (x : Rows). x.c.a) c.read-x.ensures))

pub returns : goal.returns
unfolding report_of
returns c =
    let e = c.read-x.ensures in
    let turn = meant _ _ _ _ _ c.signed.type_inv c.signed.ensures (ap (λ (x : Rows). x.b.a) e) in
    let longitude = meant _ _ _ _ _ c.signed-2.type_inv c.signed-2.ensures (ap (λ (x : Rows). x.b.d) e) in
    let latitude = meant _ _ _ _ _ c.signed-3.type_inv c.signed-3.ensures (ap (λ (x : Rows). x.c.a) e) in
    rw (turn, longitude, latitude, e)
