use Rattle.listing.specs.Listing.{incremental_in}
use Rattle.listing.proofs.getting.incremental_in.Goals as goal

pub returns : goal.returns
unfolding incremental_in
returns c = cc
