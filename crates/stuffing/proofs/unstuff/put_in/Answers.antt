use Rattle.std.proofs.Common.{ℕ, ◌%◌, ◌^◌, ap}
use Rattle.stuffing.specs.Taking.{put_in}
use Rattle.stuffing.proofs.unstuff.put_in.Goals as goal

pub returns : goal.returns
unfolding put_in
returns c = ap (λ (x : ℕ). x % 2 ^ 32) c.fives.ensures
