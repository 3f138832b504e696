-- `text::put_spaced` meets its contract. Assumes nothing.
use mathlib.Core.Path.{ap, ◌∙◌}
use mathlib.Core.List.{List}
use Prim.Native.Nat.{ℕ}
use native.Mathlib.Omega.{arith}
use lib.ListN.{length}
use Rattle.laws.specs.Lists.{over}
use Rattle.text.specs.Text.{spaced}
use Rattle.text.proofs.Parts.{after_one}
use Rattle.text.proofs.put_spaced.Goals as goal

pub returns : goal.returns
returns g c =
    let e = c.as_bytes-text.ensures.value ∙ c.format.ensures.text in (
      omega (arith, ap length e),
      after_one _ _ _ _ (omega (arith, ap length e)) c.copy_from_slice.ensures.after ∙ ap (λ (l : List ℕ). over (spaced l) c.args.out.now) e,
    )
