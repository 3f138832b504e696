use mathlib.Core.Path.{refl, ap, ◌∙◌}
use native.Mathlib.Omega.{arith}
use lib.Seq.{sets}
use Rattle.bits.specs.Row.{all_fit}
use Rattle.message.specs.Message.{base_of, base_row}
use Rattle.message.specs.Sheet.{organised_from}
use Rattle.message.specs.declared.reading.BaseRead.{BaseRead}
use Rattle.message.proofs.Readings.{organised-from}
use Rattle.message.proofs.RoundTrip.{base-fits}
use Rattle.listing.specs.Listing.{base_numbers}
use Rattle.listing.proofs.Fits.{base-small}
use Rattle.listing.proofs.Stored.{at-most-five, stored}
use Rattle.listing.proofs.Straight.{numbers-base}
use Rattle.listing.proofs.putting.list_base.Goals as goal

pub put_base-requires : goal.put_base-requires
put_base-requires c =
    let p = c.requires in
    (p.2, base-small _ (ap (λ (x : BaseRead). all_fit (base_row x.base)) c.base_in-x.ensures ∙ base-fits _ p.1))

pub returns : goal.returns
returns c =
    let e = c.base_in-x.ensures in
    let l = c.args.bytes.now in
    let out = c.args.out.now in
    let first = c.put_base.ensures ∙ ap (λ (x : BaseRead). sets out 0 (base_numbers x.base)) e in
    let state = ap (λ (x : BaseRead). organised_from x.state) e ∙ organised-from l c.requires.0 in
    stored _ (base_numbers (base_of l)) _ out _ _ _ 16 (numbers-base l c.requires.1 _ state) refl (omega (arith, at-most-five (organised_from c.base_in-x.result.state), c.requires.2)) first c.put_organised.ensures
