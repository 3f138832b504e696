-- A message comes back from its list of numbers.
-- Assumes nothing.
use mathlib.Core.Path.{◌≡◌, refl, sym, ap, ◌∙◌}
use mathlib.Core.Bool.{true}
use mathlib.Core.List.{List, [], ◌∷◌, ◌++◌}
use Prim.Native.Nat.{ℕ, ◌+◌, ◌-◌, ◌*◌, ◌/◌, ◌≤◌, ◌<◌}
use native.Mathlib.Omega.{arith}
use lib.Dec.{lit<, lit≤}
use lib.IntN.{ℤ}
use lib.ListN.{length, drop}
use Rattle.laws.specs.Lists.{over}
use Rattle.bits.specs.Row.{all_fit}
use Rattle.message.specs.Message.{report_row, base_row}
use Rattle.message.specs.State.{time_out_of, sub_row, organised_row}
use Rattle.message.specs.declared.Message.{Message}
use Rattle.message.specs.declared.Message.TheVariants.{One, Two, Three, Four, Other}
use Rattle.message.specs.declared.state.SubMessage.{SubMessage}
use Rattle.message.specs.declared.state.SubMessage.TheVariants.{Offset, Time, Slot, Stations}
use Rattle.message.specs.declared.state.SelfOrganised.{SelfOrganised}
use Rattle.listing.specs.Listing.{sub_numbers, numbers_of, plain_of, plain_at, report_in, base_in, pairs_of, sub_said, organised_in, incremental_in, message_in}
use Rattle.listing.specs.Promises.{MessageBack}
use Rattle.bits.proofs.Rows.{fit-both}
use Rattle.listing.proofs.Fits.{below}
use Rattle.listing.proofs.Said.{pairs-in, said-offset, said-time, said-slot, said-stations}

-- of a time-out of three bits, k being 2 or 3
pairs-back : (k p t : ℕ) → 2 ≤ k → k < 4 → t ≡ k + 2 * p → t < 8 → p ≡ pairs_of t
pairs-back k p t h l e n =
    let same : p ≡ (t - 2) / 2 = omega arith in
    same ∙ pairs-in t (omega arith)

-- f has the numbers l from at on, as far as a time-out and what it says go
abbrev Has : List ℤ → ℕ → List ℤ → Type 0
Has f at l = (plain_at f at ≡ plain_at l 0) × (plain_at f (at + 1) ≡ plain_at l 1) × (plain_at f (at + 2) ≡ plain_at l 2) × (plain_at f (at + 3) ≡ plain_at l 3)

sub_back : (f rest : List ℤ) (at : ℕ) (s : SubMessage) → all_fit ((3, time_out_of s) ∷ sub_row s) ≡ true → Has f at (sub_numbers s ++ rest) → sub_said f at (plain_at f at) ≡ s
unfolding plain_of
sub_back f rest at (Offset v) fit h = sym (said-offset f at _ v (sym h.1) h.0)
sub_back f rest at (Time c) fit h =
    sym (said-time f at _ c.hour (sym h.1) (λ e. omega (arith, e, h.0)) c.minute c.unused h.0 (sym h.2) (sym h.3))
sub_back f rest at (Slot c) fit h =
    let t = plain_at f at in
    let small : t < 8 = omega (arith, h.0, below _ fit 0) in
    sym (said-slot f at t c.number (sym h.1) (λ e. omega (arith, e, h.0)) (λ e. omega (arith, e, h.0)) c.pairs (pairs-back 2 c.pairs t (lit≤ tt) (lit< tt) h.0 small) (omega (arith, h.0)))
sub_back f rest at (Stations c) fit h =
    let t = plain_at f at in
    let small : t < 8 = omega (arith, h.0, below _ fit 0) in
    sym (said-stations f at t c.number (sym h.1) (λ e. omega (arith, e, h.0)) (λ e. omega (arith, e, h.0)) c.pairs (pairs-back 3 c.pairs t (lit≤ tt) (lit< tt) h.0 small) (λ e. omega (arith, e, h.0)))

organised-back : (f rest : List ℤ) (at : ℕ) (s : SelfOrganised) → all_fit (organised_row s) ≡ true → plain_at f at ≡ s.sync → Has f (at + 1) (sub_numbers s.sub ++ rest) → organised_in f at ≡ s
unfolding organised_in
organised-back f rest at s fit e h =
    λ j. record { sync = e j; sub = sub_back f rest (at + 1) s.sub (fit-both ((2, s.sync) ∷ []) _ fit).1 h j }

-- what stays of a lent list
abbrev left : Message → List ℤ → List ℤ
left m out = drop (length (numbers_of m)) out

pub message-back : MessageBack
unfolding message_in over numbers_of plain_of report_in base_in incremental_in
message-back (One r s) out k fit = ap (One r) (organised-back _ (left (One r s) out) 15 s (fit-both (report_row 1 r) (organised_row s) fit).1 refl (refl, refl, refl, refl))
message-back (Two r s) out k fit = ap (Two r) (organised-back _ (left (Two r s) out) 15 s (fit-both (report_row 2 r) (organised_row s) fit).1 refl (refl, refl, refl, refl))
message-back (Three r s) out k fit = refl
message-back (Four b s) out k fit = ap (Four b) (organised-back _ (left (Four b s) out) 16 s (fit-both (base_row b) (organised_row s) fit).1 refl (refl, refl, refl, refl))
message-back Other out k fit = cc
