use mathlib.Core.Path.{ap, ◌∙◌}
use Rattle.listing.specs.Listing.{sub_said, organised_in}
use Rattle.listing.proofs.getting.organised_in.Goals as goal

pub returns : goal.returns
unfolding organised_in
returns c = λ j. record { sync = c.plain_at-2.ensures j; sub = (c.sub_said-sub.ensures ∙ ap (sub_said _ _) c.plain_at.ensures) j }
