use Rattle.listing.specs.Listing.{signed_at, report_in}
use Rattle.laws.proofs.Signs.{back}
use Rattle.listing.proofs.getting.report_in.Goals as goal

pub returns : goal.returns
unfolding report_in
returns c =
    let l = c.args.list.now in
    let turn = back (signed_at l 4) c.result-1.given in
    let longitude = back (signed_at l 7) c.result-2-1.given in
    let latitude = back (signed_at l 8) c.result-3-1.given in
    cc
