-- The numbers of a message, stored in two parts.
-- Assumes nothing.
use mathlib.Core.Path.{◌≡◌, sym, ap, ◌∙◌}
use mathlib.Core.List.{List, ◌++◌}
use Prim.Native.Nat.{ℕ, ◌+◌, ◌≤◌}
use native.Mathlib.Omega.{arith}
use lib.Dec.{lit≤}
use lib.IntN.{ℤ}
use lib.ListN.{length, length-append}
use lib.Seq.{sets}
use Rattle.laws.specs.Lists.{over}
use Rattle.laws.proofs.Lists.{sets-append, stored-over}
use Rattle.message.specs.declared.state.SubMessage.{SubMessage}
use Rattle.message.specs.declared.state.SubMessage.TheVariants.{Offset, Time, Slot, Stations}
use Rattle.message.specs.declared.state.SelfOrganised.{SelfOrganised}
use Rattle.listing.specs.Listing.{sub_numbers, organised_numbers}

at-most-four : (s : SubMessage) → length (sub_numbers s) ≤ 4
at-most-four (Offset v) = lit≤ tt
at-most-four (Time c) = lit≤ tt
at-most-four (Slot c) = lit≤ tt
at-most-four (Stations c) = lit≤ tt

pub at-most-five : (s : SelfOrganised) → length (organised_numbers s) ≤ 5
at-most-five s = omega (arith, at-most-four s.sub)

-- n and out'' are what is given back after both parts, xs and ys, of the numbers ns
pub stored : (ns xs ys out out' out'' : List ℤ) (n k : ℕ) → ns ≡ xs ++ ys → length xs ≡ k → k + length ys ≤ length out → out' ≡ sets out 0 xs
    → (n ≡ k + length ys) × (out'' ≡ sets out' k ys) → (n ≡ length ns) × (out'' ≡ over ns out)
stored ns xs ys out out' out'' n k parts e room first second =
    let long = length-append xs ys in (
      omega (arith, second.0, long, ap length parts),
      second.1 ∙ ap (λ (l : List ℤ). sets l k ys) first ∙ sym (sets-append xs ys out 0 ∙ ap (λ (i : ℕ). sets (sets out 0 xs) i ys) (omega arith))
          ∙ stored-over (xs ++ ys) out (omega (arith, long)) ∙ ap (λ (l : List ℤ). over l out) (sym parts),
    )
