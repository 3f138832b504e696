-- What `ask`, the turns of `scan` and `judge` give, by the tests on the way.
-- Assumes nothing.
use mathlib.Core.Path.{◌≡◌, ap, ◌∙◌}
use mathlib.Core.Bool.{true, false}
use mathlib.Core.List.{List}
use Prim.Native.Nat.{ℕ, ◌≤◌}
use borrow.Author.Tests.{le-ltb}
use Rattle.std.specs.declared.option.Option.{Option}
use Rattle.std.specs.declared.option.Option.TheVariants.{None, Some}
use Rattle.std.specs.declared.result.Result.TheVariants.{Err}
use Rattle.numbers.specs.declared.Refusal.TheVariants.{WindowTaken}
use Rattle.distance.specs.Distance.{we_known}
use Rattle.candidates.specs.declared.rounds.Best.{Best}
use Rattle.candidates.specs.Scanning.{drawn}
use Rattle.choosing.specs.declared.Query.{Query}
use Rattle.choosing.specs.Scanning.{turns_by, turns_of, judged_by, judged}

-- f slots are free, fewer than four
module _ (q : Query) (f : ℕ) (e : q.free ≡ Some f) (l : f ≤ 3) where
  pub turns-lost : we_known q.watch.ship ≡ false → turns_of q ≡ 0
  unfolding turns_of
  turns-lost k = ap (λ (o : Option ℕ). turns_by o (we_known q.watch.ship) q.window.width) e ∙ simp (le-ltb 3 f l, k)

  pub turns-all : we_known q.watch.ship ≡ true → turns_of q ≡ q.window.width
  unfolding turns_of
  turns-all k = ap (λ (o : Option ℕ). turns_by o (we_known q.watch.ship) q.window.width) e ∙ simp (le-ltb 3 f l, k)

module _ (slots : List ℕ) (q : Query) (b : Best) where
  pub judged-taken : q.free ≡ None → judged slots q b ≡ Err WindowTaken
  unfolding judged
  judged-taken e = ap (λ (o : Option ℕ). judged_by o slots q b) e

  pub judged-drawn : (f : ℕ) → q.free ≡ Some f → judged slots q b ≡ drawn slots q.window f b q.draw
  unfolding judged
  judged-drawn f e = ap (λ (o : Option ℕ). judged_by o slots q b) e
