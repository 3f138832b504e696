-- What `unpack` finds once all bits between the flags are taken.
-- Assumes nothing.
use mathlib.Core.Path.{◌≡◌, sym, ap, ap₂, ◌∙◌}
use mathlib.Core.Bool.{true, false}
use mathlib.Core.List.{List, ◌++◌}
use Prim.Native.Nat.{ℕ, ◌+◌, ◌*◌, ◌/◌, ◌%◌, ◌≤◌}
use native.Mathlib.Omega.{arith}
use borrow.Author.Tests.{eq-eqb, ne_eqb}
use lib.ListN.{length, take, drop, length-append, take-append-drop}
use lib.Seq.{sets, length-sets, take_at, drop_at, length-take-le}
use Rattle.std.specs.Prelude.{Err}
use Rattle.laws.specs.Tests.{between}
use Rattle.laws.proofs.Tests.{never, not-true, between-yes, between_is}
use Rattle.limits.specs.Limits.{least_checked, most_checked}
use Rattle.numbers.specs.declared.Refusal.TheVariants.{BadStuffing, NotWhole}
use Rattle.bits.specs.Bits.{low_first, sent_bits, eight_of}
use Rattle.bits.proofs.Bits.{length-low_first}
use Rattle.bits.proofs.Bytes.{length-sent, sent-append}
use Rattle.checking.specs.Check.{zeros}
use Rattle.stuffing.specs.Stuff.{legal, unstuffed}
use Rattle.packet.specs.Packet.{frame_in, frame_answer, body_answer}
use Rattle.packet.specs.Reading.{raw_bytes, Unstuffed}
use Rattle.stuffing.specs.declared.unstuff.Taking.{Taking}
use Rattle.checking.proofs.Zeros.{length-zeros}
use Rattle.packet.proofs.Answers.{stuffing-bad, stuffing-good, count-odd, count-out, count-bad}
use Rattle.stuffing.proofs.Takings.{stored-sent}

module _ {body raw : List ℕ} {s : Taking} (u : Unstuffed body s raw) where
  pub spoilt-bad : s.spoilt ≡ true → Err BadStuffing ≡ body_answer body
  spoilt-bad e = stuffing-bad body (sym (rw e at u.law))

  module _ (clean : s.spoilt ≡ false) where
    pub end-bad : s.tail ≡ 31 → Err BadStuffing ≡ body_answer body
    end-bad e = stuffing-bad body (sym (rw (clean, eq-eqb s.tail 31 e) at u.law))

    size : 8 * s.count + s.have ≡ 32 + length (unstuffed 5 body)
    size =
        let S = sent_bits (take s.count raw) in
        let P = low_first s.have s.part in
        omega (
          arith,
          ap length (u.stored clean),
          length-append S P,
          length-append (zeros 32) (unstuffed 5 body),
          length-zeros 32,
          length-sent (take s.count raw),
          length-take-le s.count raw u.sound.fits,
          length-low_first s.have s.part,
        )

    module _ (some : s.tail ≡ 31 → ⊥) where
      pub body-legal : legal 5 body ≡ true
      body-legal = sym (rw (clean, ne_eqb s.tail 31 some) at u.law)

      not-whole : Err NotWhole ≡ frame_answer (frame_in body) → Err NotWhole ≡ body_answer body
      not-whole h = h ∙ stuffing-good body body-legal

      pub over-bad : (s.have % 8 ≡ 0 → ⊥) → Err NotWhole ≡ body_answer body
      unfolding frame_in
      over-bad h = not-whole (count-bad _ (count-odd (unstuffed 5 body) (λ z. h (omega (arith, size)))))

      module _ (none : s.have % 8 ≡ 0) where
        pub length-bad : between (4 + least_checked / 8) (4 + most_checked / 8) (s.count + s.have / 8) ≡ false → Err NotWhole ≡ body_answer body
        unfolding frame_in
        length-bad h =
            let f = unstuffed 5 body in
            let far : between least_checked most_checked (length f) ≡ true → ⊥ = λ e.
            let l = between_is least_checked most_checked (length f) e in
            never (sym h ∙ between-yes (4 + least_checked / 8) (4 + most_checked / 8) (s.count + s.have / 8) (omega (arith, size, l.0)) (omega (arith, size, l.1))) in
            not-whole (count-bad _ (count-out f (not-true _ far)))

        -- the last bytes stored, and all of them taken
        module _ {raw' : List ℕ} {n : ℕ} (long : length raw ≡ raw_bytes) (en : n ≡ s.count + s.have / 8) (enough : 4 + least_checked / 8 ≤ n) (is : raw' ≡ sets raw s.count (eight_of s.part)) where
          pub frame-long : length (take n raw') ≡ n
          frame-long = length-take-le n raw' (omega (arith, u.room, ap length is, length-sets raw s.count (eight_of s.part)))

          all-sent : sent_bits (take n raw') ≡ zeros 32 ++ frame_in body
          unfolding frame_in
          all-sent =
              let h : 8 * (s.have / 8) ≡ s.have = omega (arith, none) in
              ap₂ (λ (m : ℕ) (t : List ℕ). sent_bits (take m t)) en is ∙ stored-sent raw s.count (s.have / 8) s.part (omega (arith, u.room)) (omega (arith, u.sound.under))
              ∙ ap (λ (m : ℕ). sent_bits (take s.count raw) ++ low_first m s.part) h ∙ u.stored clean

          parts-sent : sent_bits (take 4 (take n raw')) ++ sent_bits (drop 4 (take n raw')) ≡ zeros 32 ++ frame_in body
          parts-sent = let t = take n raw' in sym (sent-append (take 4 t) (drop 4 t)) ∙ ap sent_bits (take-append-drop 4 t) ∙ all-sent

          front_long : length (sent_bits (take 4 (take n raw'))) ≡ 32
          front_long = omega (arith, length-sent (take 4 (take n raw')), length-take-le 4 (take n raw') (omega (arith, frame-long)))

          pub front-sent : sent_bits (take 4 (take n raw')) ≡ zeros 32
          front-sent =
              let t = take n raw' in
              sym (take_at (sent_bits (take 4 t)) (sent_bits (drop 4 t)) 32 front_long) ∙ ap (take 32) parts-sent ∙ take_at (zeros 32) (frame_in body) 32 (length-zeros 32)

          pub frame-sent : sent_bits (drop 4 (take n raw')) ≡ frame_in body
          frame-sent =
              let t = take n raw' in
              sym (drop_at (sent_bits (take 4 t)) (sent_bits (drop 4 t)) 32 front_long) ∙ ap (drop 32) parts-sent ∙ drop_at (zeros 32) (frame_in body) 32 (length-zeros 32)
