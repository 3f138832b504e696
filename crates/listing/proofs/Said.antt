-- What a list of numbers says, by the tests on the way.
-- Assumes nothing.
use mathlib.Core.Path.{◌≡◌, refl, ◌∙◌}
use mathlib.Core.Bool.{false}
use mathlib.Core.List.{List}
use Prim.Native.Nat.{ℕ, ◌+◌, ◌-◌, ◌/◌, ◌%◌, ◌≤◌, ◌<◌}
use native.Mathlib.Omega.{arith}
use borrow.Author.Tests.{eq-eqb, ne_eqb, le-leb, lt-leb}
use mir.Syntax.{w32}
use mir.Val.{SFits}
use lib.Dec.{eqb}
use lib.IntN.{ℤ, pos, negsuc, nat_abs}
use Rattle.std.specs.Prelude.{Result, Ok, Err}
use Rattle.std.specs.Result.{OkIff, result_unwrap_or}
use Rattle.std.specs.Int.{FitsUnsignedBits}
use Rattle.message.specs.declared.Message.TheVariants.{One, Two, Three, Four, Other}
use Rattle.message.specs.declared.state.SubMessage.TheVariants.{Offset, Time, Slot, Stations}
use Rattle.listing.specs.Listing.{plain_of, plain_at, report_in, base_in, pairs_of, sub_said, organised_in, incremental_in, message_in}

-- ---- one number

-- what `try_from` says of it
pub plain-is : {E : Type 0} (x : ℤ) (r : Result ℕ E) → SFits w32 x → OkIff r (FitsUnsignedBits 32 x) (nat_abs x) → result_unwrap_or r 4294967295 ≡ plain_of x
unfolding plain_of
plain-is (pos n) (Ok v) s h = h.1
plain-is (pos n) (Err e) s h = absurd (h (omega (arith, s.sfits)))
plain-is (negsuc n) (Ok v) s h = absurd h.0
plain-is (negsuc n) (Err e) s h = refl

-- ---- a time-out

pub pairs-past : (t : ℕ) → 7 < t → 3 ≡ pairs_of t
unfolding pairs_of
pairs-past t h = simp (lt-leb t 7 h)

pub pairs-in : (t : ℕ) → t ≤ 7 → (t - 2) / 2 ≡ pairs_of t
unfolding pairs_of
pairs-in t h = simp (le-leb t 7 h)

module _ (f : List ℤ) (at t v : ℕ) (e : v ≡ plain_at f (at + 1)) where
  pub said-offset : t ≡ 0 → Offset v ≡ sub_said f at t
  unfolding sub_said
  said-offset z = simp (eq-eqb t 0 z, e)

  module _ (z : t ≡ 0 → ⊥) where
    pub said-time : (m u : ℕ) → t ≡ 1 → m ≡ plain_at f (at + 2) → u ≡ plain_at f (at + 3) → Time (record { hour = v; minute = m; unused = u }) ≡ sub_said f at t
    unfolding sub_said
    said-time m u o g h = simp (ne_eqb t 0 z, eq-eqb t 1 o, e, g, h)

    module _ (o : t ≡ 1 → ⊥) (p : ℕ) (g : p ≡ pairs_of t) where
      pub said-slot : t % 2 ≡ 0 → Slot (record { pairs = p; number = v }) ≡ sub_said f at t
      unfolding sub_said
      said-slot m = simp (ne_eqb t 0 z, ne_eqb t 1 o, eq-eqb (t % 2) 0 m, e, g)

      pub said-stations : (t % 2 ≡ 0 → ⊥) → Stations (record { pairs = p; number = v }) ≡ sub_said f at t
      unfolding sub_said
      said-stations m = simp (ne_eqb t 0 z, ne_eqb t 1 o, ne_eqb (t % 2) 0 m, e, g)

-- ---- a message by its id

module _ (f : List ℤ) where
  pub message-one : plain_at f 0 ≡ 1 → One (report_in f) (organised_in f 15) ≡ message_in f
  unfolding message_in
  message-one e = rw e refl

  pub message-two : plain_at f 0 ≡ 2 → Two (report_in f) (organised_in f 15) ≡ message_in f
  unfolding message_in
  message-two e = rw e refl

  pub message-three : plain_at f 0 ≡ 3 → Three (report_in f) (incremental_in f) ≡ message_in f
  unfolding message_in
  message-three e = rw e refl

  pub message-four : plain_at f 0 ≡ 4 → Four (base_in f) (organised_in f 16) ≡ message_in f
  unfolding message_in
  message-four e = rw e refl

  is-not : {k : ℕ} (id : ℕ) → id ≡ plain_at f 0 → (id ≡ k → ⊥) → eqb (plain_at f 0) k ≡ false
  is-not {k} id e n = ne_eqb (plain_at f 0) k (λ h. n (e ∙ h))

  pub message-other : (id : ℕ) → id ≡ plain_at f 0 → (id ≡ 1 → ⊥) → (id ≡ 2 → ⊥) → (id ≡ 3 → ⊥) → (id ≡ 4 → ⊥) → Other ≡ message_in f
  unfolding message_in
  message-other id e a b c d = simp (is-not id e a, is-not id e b, is-not id e c, is-not id e d)
