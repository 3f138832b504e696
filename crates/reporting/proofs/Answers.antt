-- The sub-message of a report, by its time-out.
-- Assumes nothing.
use mathlib.Core.Path.{◌≡◌, sym, ap, ◌∙◌}
use mathlib.Core.List.{List}
use Prim.Native.Nat.{ℕ, ◌-◌, ◌/◌, ◌%◌}
use borrow.Author.Tests.{eq-eqb, ne_eqb}
use Rattle.limits.specs.Limits.{frame_slots}
use Rattle.message.specs.declared.state.SubMessage.TheVariants.{Offset, Time, Slot, Stations}
use Rattle.plan.specs.declared.Plan.{Plan}
use Rattle.reporting.specs.declared.Time.{Time as Hour}
use Rattle.reporting.specs.Report.{offset_of, sub_message}

module _ (slots : List ℕ) (stations present : ℕ) (p : Plan) (time : Hour) where
  -- ---- the sub-message with the time-out n

  module _ (n : ℕ) where
    pub say-offset : (v : ℕ) → n ≡ 0 → v ≡ offset_of slots present p → Offset v ≡ sub_message slots stations present p time n
    unfolding sub_message
    say-offset v e f = ap Offset f ∙ sym (simp (eq-eqb n 0 e))

    module _ (some : n ≡ 0 → ⊥) where
      pub say-time : n ≡ 1 → Time (record { hour = time.hour; minute = time.minute; unused = 0 }) ≡ sub_message slots stations present p time n
      unfolding sub_message
      say-time e = sym (simp (ne_eqb n 0 some, eq-eqb n 1 e))

      module _ (more : n ≡ 1 → ⊥) where
        pub say-slot : n % 2 ≡ 0 → Slot (record { pairs = (n - 2) / 2; number = present % frame_slots }) ≡ sub_message slots stations present p time n
        unfolding sub_message
        say-slot e = sym (simp (ne_eqb n 0 some, ne_eqb n 1 more, eq-eqb (n % 2) 0 e))

        pub say-stations : (v : ℕ) → (n % 2 ≡ 0 → ⊥) → v ≡ stations
            → Stations (record { pairs = (n - 3) / 2; number = v }) ≡ sub_message slots stations present p time n
        unfolding sub_message
        say-stations v odd f =
            ap (λ (x : ℕ). Stations (record { pairs = (n - 3) / 2; number = x })) f
            ∙ sym (simp (ne_eqb n 0 some, ne_eqb n 1 more, ne_eqb (n % 2) 0 odd))
