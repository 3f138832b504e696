use Rattle.listing.specs.Listing.{signed_at, base_in}
use Rattle.laws.proofs.Signs.{back}
use Rattle.listing.proofs.getting.base_in.Goals as goal

pub returns : goal.returns
unfolding base_in
returns c =
    let l = c.args.list.now in
    let longitude = back (signed_at l 10) c.result-1.given in
    let latitude = back (signed_at l 11) c.result-2-1.given in
    cc
