use mathlib.Core.Path.{ap}
use lib.Dec.{lit<, lit≤}
use Rattle.message.specs.Message.{base_of}
use Rattle.message.specs.declared.layout.Rows.{Rows}
use Rattle.message.proofs.Readings.{narrow, meant, raim-apart, state-apart}
use Rattle.message.proofs.reading.base_in.Goals as goal

pub signed-requires : goal.signed-requires
signed-requires c = (lit≤ tt, lit< tt, narrow _ _ 28 _ (ap (λ (x : Rows). x.c.c) c.read-x.ensures))

pub signed-requires-2 : goal.signed-requires-2
signed-requires-2 c = (lit≤ tt, lit< tt, narrow _ _ 27 _ (ap (λ (x : Rows). x.c.d) c.read-x.ensures))

pub returns : goal.returns
unfolding base_of
returns c =
    let e = c.read-x.ensures in
    let long = c.requires in
    let longitude = meant _ _ _ _ _ c.signed.type_inv c.signed.ensures (ap (λ (x : Rows). x.c.c) e) in
    let latitude = meant _ _ _ _ _ c.signed-2.type_inv c.signed-2.ensures (ap (λ (x : Rows). x.c.d) e) in
    rw (longitude, latitude, c.split-last.ensures, e, raim-apart _ long, state-apart _ long)
