-- Which answer the tests on the way lead to, where bytes are read.
-- Assumes nothing.
use mathlib.Core.Path.{◌≡◌, refl, sym, ap, subst, ◌∙◌}
use mathlib.Core.Bool.{Bool, true, false}
use mathlib.Core.List.{List}
use Prim.Native.Nat.{ℕ, ◌+◌, ◌-◌, ◌/◌, ◌%◌, ◌^◌, ◌≤◌, ◌<◌}
use native.Mathlib.Omega.{arith}
use borrow.Author.Tests.{eq-eqb, ne_eqb}
use borrow.Author.Rules.{sfits_of}
use mir.Syntax.{w32}
use mir.Val.{to_z, of_z}
use mir.Facts.{to_z-of_z}
use lib.Dec.{eqb, lit≤}
use lib.IntN.{ℤ}
use lib.Signed.{mag}
use lib.ListN.{length}
use Rattle.std.specs.Prelude.{Ok, Err}
use Rattle.laws.specs.Tests.{pick, between}
use Rattle.laws.proofs.Tests.{between-low, between-high}
use Rattle.limits.specs.Limits.{message_bytes}
use Rattle.numbers.specs.declared.Refusal.TheVariants.{MessageLength, UnknownId}
use Rattle.bits.specs.Field.{field_of}
use Rattle.bits.proofs.Fields.{field_bound, field-part}
use Rattle.message.specs.Signs.{signed_of}
use Rattle.message.specs.Sheet.{state_bits, clock_from, sub_by, organised_from, incremental_from, state_from, StandsIn, one_or_two}
use Rattle.message.specs.State.{clock_of, sub_of, incremental_of, organised_of}
use Rattle.message.specs.Message.{id_in, report_of, base_of, organised_message, message_of, read_answer}
use Rattle.message.specs.declared.state.Clock.{Clock}
use Rattle.message.specs.declared.state.SelfOrganised.{SelfOrganised}
use Rattle.message.specs.declared.state.Incremental.{Incremental}
use Rattle.message.specs.declared.state.SubMessage.TheVariants.{Offset, Time, Slot, Stations}
use Rattle.message.specs.declared.state.State.TheVariants.{SelfOrganised as Organised, Incremental as Increasing}
use Rattle.message.specs.declared.Message.TheVariants.{Three, Four}

-- ---- a field that was read, and what it means

pub narrow : (l : List ℕ) (at w v : ℕ) → v ≡ field_of l at w → v < 2 ^ w
narrow l at w v e = subst (λ n. n < 2 ^ w) (sym e) (field_bound l at w)

-- a signed local holds bits
pub meant : (l : List ℕ) (at w v : ℕ) (z : ℤ) → mag z < 2 ^ 31 → z ≡ signed_of w v → v ≡ field_of l at w → to_z w32 (of_z w32 z) ≡ signed_of w (field_of l at w)
meant l at w v z h e f = to_z-of_z {w = w32} (sfits_of h) ∙ e ∙ ap (signed_of w) f

-- ---- the sub-message

module _ (t v : ℕ) (c : Clock) where
  pub sub-offset : t ≡ 0 → Offset v ≡ sub_by t v c
  unfolding sub_by
  sub-offset z = simp (eq-eqb t 0 z)

  module _ (z : t ≡ 0 → ⊥) where
    pub sub-time : t ≡ 1 → Time c ≡ sub_by t v c
    unfolding sub_by
    sub-time o = simp (ne_eqb t 0 z, eq-eqb t 1 o)

    module _ (o : t ≡ 1 → ⊥) where
      pub sub-slot : t % 2 ≡ 0 → Slot (record { pairs = (t - 2) / 2; number = v }) ≡ sub_by t v c
      unfolding sub_by
      sub-slot m = simp (ne_eqb t 0 z, ne_eqb t 1 o, eq-eqb (t % 2) 0 m)

      pub sub-stations : (t % 2 ≡ 0 → ⊥) → Stations (record { pairs = (t - 3) / 2; number = v }) ≡ sub_by t v c
      unfolding sub_by
      sub-stations m = simp (ne_eqb t 0 z, ne_eqb t 1 o, ne_eqb (t % 2) 0 m)

pub sub_is : (l : List ℕ) (t : ℕ) → sub_by t (field_of l 154 14) (clock_of l) ≡ sub_of l t
unfolding sub_by sub_of
sub_is l t = refl

-- ---- the state that the last 19 bits say

module _ (l : List ℕ) (long : length l ≡ message_bytes) where
  -- a part of the field of n bits at bit p: w bits, with i before them and j after them
  part : (p i w j : ℕ) → p + (i + w + j) ≤ 168 → field_of l (p + i) w ≡ field_of l p (i + w + j) / 2 ^ j % 2 ^ w
  part p i w j h = field-part l p i w j (omega (arith, long, h))

  clock-from : clock_from (field_of l 154 14) ≡ clock_of l
  unfolding clock_of
  clock-from =
      let hour : field_of l 154 14 / 512 ≡ field_of l 154 5 = omega (arith, part 154 0 5 9 (lit≤ tt), field_bound l 154 14) in
      let unused : field_of l 154 14 % 4 ≡ field_of l 166 2 = omega (arith, part 154 12 2 0 (lit≤ tt)) in
      λ k. record { hour = hour k; minute = sym (part 154 5 7 2 (lit≤ tt)) k; unused = unused k }

  pub organised-from : organised_from (state_bits l) ≡ organised_of l
  unfolding organised_of
  organised-from =
      let sync : state_bits l / 131072 ≡ field_of l 149 2 = omega (arith, part 149 0 2 17 (lit≤ tt), field_bound l 149 19) in
      let time-out : state_bits l / 16384 % 8 ≡ field_of l 151 3 = sym (part 149 2 3 14 (lit≤ tt)) in
      let number : state_bits l % 16384 ≡ field_of l 154 14 = omega (arith, part 149 5 14 0 (lit≤ tt)) in
      λ k. record { sync = sync k; sub = ((λ i. sub_by (time-out i) (number i) (clock_from (number i))) ∙ ap (sub_by _ _) clock-from ∙ sub_is l _) k }

  pub incremental-from : incremental_from (state_bits l) ≡ incremental_of l
  unfolding incremental_of
  incremental-from =
      let sync : state_bits l / 131072 ≡ field_of l 149 2 = omega (arith, part 149 0 2 17 (lit≤ tt), field_bound l 149 19) in
      let keep : state_bits l % 2 ≡ field_of l 167 1 = omega (arith, part 149 18 1 0 (lit≤ tt)) in
      λ k. record { sync = sync k; increment = sym (part 149 2 13 4 (lit≤ tt)) k; code = sym (part 149 15 3 1 (lit≤ tt)) k; keep = keep k }

  -- in message 4 the bit before them is read with them
  pub raim-apart : field_of l 148 20 / 2 ^ 19 ≡ field_of l 148 1
  raim-apart = omega (arith, part 148 0 1 19 (lit≤ tt), field_bound l 148 20)

  pub state-apart : field_of l 148 20 / 2 ^ 0 % 2 ^ 19 ≡ state_bits l
  state-apart = sym (part 148 1 19 0 (lit≤ tt))

-- ---- a message by its id

module _ (id v : ℕ) where
  pub state-stands : StandsIn v (state_from id v)
  unfolding state_from
  state-stands = go (eqb id 3)
    where
      go : (t : Bool) → StandsIn v (pick t (Increasing (incremental_from v)) (Organised (organised_from v)))
      go true = refl
      go false = refl

-- the state that was read is of one kind or the other
increasing : (b : Bool) (i a : Incremental) (o : SelfOrganised) → pick b (Increasing a) (Organised o) ≡ Increasing i → (b ≡ true) × (i ≡ a)
increasing true i a o h = (refl, cc)
increasing false i a o h = (cc, cc)

organised : (b : Bool) (s o : SelfOrganised) (a : Incremental) → pick b (Increasing a) (Organised o) ≡ Organised s → b ≡ false
organised true s o a h = cc
organised false s o a h = refl

module _ (id v : ℕ) where
  pub was-increasing : (i : Incremental) → state_from id v ≡ Increasing i → (eqb id 3 ≡ true) × (i ≡ incremental_from v)
  unfolding state_from
  was-increasing i h = increasing (eqb id 3) i _ _ h

  pub was-organised : (s : SelfOrganised) → state_from id v ≡ Organised s → eqb id 3 ≡ false
  unfolding state_from
  was-organised s h = organised (eqb id 3) s _ _ h

module _ (l : List ℕ) where
  pub message-four : id_in l ≡ 4 → Four (base_of l) (organised_of l) ≡ message_of l
  unfolding message_of organised_message
  message-four e = rw e

  pub message-three : eqb (id_in l) 3 ≡ true → Three (report_of l) (incremental_of l) ≡ message_of l
  unfolding message_of
  message-three e = rw e

  pub message-other : eqb (id_in l) 3 ≡ false → (id_in l ≡ 4 → ⊥) → one_or_two (id_in l) (report_of l) (organised_of l) ≡ message_of l
  unfolding message_of organised_message one_or_two
  message-other e n = rw (e, ne_eqb (id_in l) 4 n)

-- ---- reading

pub read_length : (l : List ℕ) → (length l ≡ message_bytes → ⊥) → read_answer l ≡ Err MessageLength
unfolding read_answer
read_length l n = simp (ne_eqb (length l) message_bytes n)

module _ (l : List ℕ) (e : length l ≡ message_bytes) where
  pub read_low : id_in l < 1 → read_answer l ≡ Err UnknownId
  unfolding read_answer
  read_low h = simp (eq-eqb (length l) message_bytes e, between-low 1 4 (id_in l) h)

  pub read-high : 4 < id_in l → read_answer l ≡ Err UnknownId
  unfolding read_answer
  read-high h = simp (eq-eqb (length l) message_bytes e, between-high 1 4 (id_in l) h)

  pub read-good : between 1 4 (id_in l) ≡ true → Ok (message_of l) ≡ read_answer l
  unfolding read_answer
  read-good h = simp (eq-eqb (length l) message_bytes e, h)
