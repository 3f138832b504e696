-- All bits of a body taken: what is over first, then whole words.
-- Assumes nothing.
use mathlib.Core.Path.{◌≡◌, refl, sym, ap, ap₂, ◌∙◌}
use mathlib.Core.Bool.{Bool, true, false, not}
use mathlib.Core.List.{List, [], ◌∷◌, ◌++◌, append_assoc, append-nil}
use Prim.Native.Nat.{ℕ, zero, suc, ◌+◌, ◌-◌, ◌*◌, ◌/◌, ◌%◌, ◌^◌, ◌≤◌, ◌<◌}
use native.Mathlib.Nat.{zero-add}
use native.Mathlib.Omega.{arith}
use lib.Dec.{T, eqb, ltb, leb-suc-suc, leb-zero}
use lib.ListN.{length, take, drop, length-append, length-take, length-drop}
use lib.Pow.{pow_mono}
use lib.Seq.{drop-drop, take-add, take_all, take_at, drop_at, take-take, length-take-le}
use Rattle.laws.specs.Tests.{pick}
use Rattle.laws.proofs.Tests.{is_true}
use Rattle.laws.proofs.Table.{all_below, below}
use Rattle.limits.specs.Limits.{most_body, least_packet, most_packet}
use Rattle.bits.specs.Bits.{low_first, low_value, all_bits, sent_bits}
use Rattle.bits.proofs.Bits.{all_bits-take, all_bits-drop, bits_back, length-low_first, low-append}
use Rattle.bits.proofs.Bytes.{sent_bits-end}
use Rattle.checking.specs.Check.{zeros}
use Rattle.stuffing.specs.Stuff.{legal, unstuffed}
use Rattle.packet.specs.Packet.{body_of}
use Rattle.stuffing.specs.Taking.{left_in, left_by, pending, lawful, Took}
use Rattle.packet.specs.Reading.{Unstuffed}
use Rattle.stuffing.specs.declared.unstuff.Taking.{Taking}
use Rattle.checking.proofs.Zeros.{zeros-low, zeros-add}
use Rattle.stuffing.proofs.Sending.{low-cut}
use Rattle.stuffing.proofs.Takings.{took_more}

some : (n : ℕ) → 0 < 2 ^ n
some n = let p : 2 ^ 0 ≤ 2 ^ n = pow_mono {i = 0} {j = n} (omega arith) in omega (arith, p)

low_word : (x : ℕ) → low_first 32 (x % 2 ^ 32) ≡ low_first 32 x
unfolding low_first
low_word x =
    let q : x % 2 ^ 32 + x / 2 ^ 32 * 2 ^ 32 ≡ x = omega arith in
    sym (append-nil (low_first 32 (x % 2 ^ 32))) ∙ low-append 32 0 (x % 2 ^ 32) (x / 2 ^ 32) (omega arith) ∙ ap (low_first 32) q

-- ---- whole words

module _ (bits : List ℕ) (i : ℕ) (are : all_bits bits ≡ true) (long : i + 32 ≤ length bits) {v : ℕ} (ev : v ≡ low_value (take 32 (drop i bits))) where
  word-bits : low_first 32 v ≡ take 32 (drop i bits)
  word-bits = ap (low_first 32) ev ∙ bits_back 32 (take 32 (drop i bits)) (length-take-le 32 (drop i bits) (omega (arith, length-drop i bits))) (all_bits-take 32 (drop i bits) (all_bits-drop i bits are))

  -- as many of its bits as are over, behind zeros
  pub first-is : (over : ℕ) → over < 32 → low_first 32 (v * 2 ^ (32 - over) % 2 ^ 64 % 2 ^ 32) ≡ zeros (32 - over) ++ take over (drop i bits)
  first-is over few =
      let g = 32 - over in
      let x = v * 2 ^ (32 - over) in
      let n : over + (32 - over) ≡ 32 = omega arith in
      let k : 32 - over + over ≡ 32 = omega arith in
      let r : x % 2 ^ 64 % 2 ^ 32 ≡ x % 2 ^ 32 = omega arith in
      let moved : low_first g 0 ++ low_first over v ≡ low_first 32 x = low-append g over 0 v (some g) ∙ ap₂ low_first k (zero-add x) in
      let front : low_first over v ≡ take over (drop i bits) =
      sym (take_at (low_first over v) (low_first g (v / 2 ^ over)) over (length-low_first over v)) ∙ ap (take over) (sym (low-cut over g v) ∙ ap (λ (m : ℕ). low_first m v) n ∙ word-bits)
      ∙ take-take over 32 (drop i bits) (omega arith) in
      ap (low_first 32) r ∙ low_word x ∙ sym moved ∙ ap₂ ◌++◌ (zeros-low g) front

-- ---- the end

unstuffed-zeros : (n : ℕ) (xs : List ℕ) → unstuffed 5 (zeros n ++ xs) ≡ zeros n ++ unstuffed 5 xs
unfolding zeros unstuffed
unstuffed-zeros zero xs = refl
unstuffed-zeros (suc n) xs = ap (λ (t : List ℕ). 0 ∷ t) (unstuffed-zeros n xs)

legal-zeros : (n : ℕ) (xs : List ℕ) → legal 5 (zeros n ++ xs) ≡ legal 5 xs
unfolding zeros legal
legal-zeros zero xs = refl
legal-zeros (suc n) xs = legal-zeros n xs

-- five ones are at the end exactly when no more may come
tail-right : ℕ → Bool
unfolding left_by left_in low_first
tail-right tail = pick (eqb tail 31) (not (ltb 0 (left_by tail))) (ltb 0 (left_by tail))

all-tails-right : T (all_below tail-right 32)
unfolding tail-right
all-tails-right = tt

tail-told : (tail : ℕ) → tail < 32 → not (eqb tail 31) ≡ ltb 0 (left_by tail)
unfolding tail-right
tail-told tail h = opposite (eqb tail 31) (ltb 0 (left_by tail)) (is_true {b = tail-right tail} (below tail-right 32 all-tails-right tail h))
  where
    opposite : (a b : Bool) → pick a (not b) b ≡ true → not a ≡ b
    opposite true true e = e
    opposite true false e = refl
    opposite false b e = sym e

legal-end : (k : ℕ) → legal k [] ≡ ltb 0 k
unfolding legal
legal-end zero = refl
legal-end (suc k) = sym (leb-suc-suc 0 k ∙ leb-zero k)

unstuffed-end : (k : ℕ) → unstuffed k [] ≡ []
unfolding unstuffed
unstuffed-end zero = refl
unstuffed-end (suc k) = refl

five-left : left_by 0 ≡ 5
unfolding left_by left_in low_first
five-left = refl

pub took-all : {body raw₀ raw : List ℕ} {s₀ s : Taking} (over : ℕ) → over < 32 → s₀.tail ≡ 0 → s₀.spoilt ≡ false → s₀.part ≡ 0 → s₀.have ≡ over → s₀.count ≡ 0 → length body ≤ most_body
    → Took (zeros (32 - over) ++ body) s₀ raw₀ s raw → Unstuffed body s raw
unfolding pending lawful
took-all {body} {raw₀} {raw} {s₀} {s} over few et es ep eh ec short t =
    let P = zeros (32 - over) ++ body in
    let F = unstuffed 5 body in
    let five : left_by s₀.tail ≡ 5 = rw et five-left in
    let n : over + (32 - over) ≡ 32 = omega arith in
    let p₀ : pending s₀ (P ++ []) ≡ zeros 32 ++ F =
    ap₂ (λ (a b : List ℕ). a ++ b) (ap₂ low_first eh ep ∙ zeros-low over) (ap₂ unstuffed five (append-nil P) ∙ unstuffed-zeros (32 - over) body)
    ∙ zeros-add over (32 - over) F ∙ ap (λ (m : ℕ). zeros m ++ F) n in
    let l₀ : lawful s₀ (P ++ []) ≡ legal 5 body = rw (es, five, append-nil P) (legal-zeros (32 - over) body) in
    let g = t.on (zeros 32 ++ F) (legal 5 body) [] (record { law = l₀; goes = λ _. rw ec (ap (◌++ pending s₀ (P ++ [])) sent_bits-end ∙ p₀) }) in
    let q : pending s [] ≡ low_first s.have s.part = ap (low_first s.have s.part ++◌) (unstuffed-end (left_by s.tail)) ∙ append-nil (low_first s.have s.part) in
    record {
      sound = t.sound;
      room = omega (arith, t.more, length-append (zeros (32 - over)) body, ap length (zeros-low (32 - over)), length-low_first (32 - over) 0, eh, ec);
      law = ap (pick s.spoilt false) (tail-told s.tail t.sound.five ∙ sym (legal-end (left_by s.tail))) ∙ g.law;
      stored = λ z. ap (sent_bits (take s.count raw) ++◌) (sym q) ∙ g.goes z;
    }

-- ---- the body in its two parts

pub body-parts : (bits : List ℕ) (over : ℕ) → over < 32 → least_packet ≤ length bits → (length bits - 16) % 32 ≡ over
    → (zeros (32 - over) ++ take over (drop 8 bits)) ++ take (length bits - 8 - (8 + over)) (drop (8 + over) bits) ≡ zeros (32 - over) ++ body_of bits
unfolding body_of
body-parts bits over few long e =
    let n = length bits in
    let a : over + (n - 8 - (8 + over)) ≡ n - 8 - 8 = omega arith in
    let c : take over (drop 8 bits) ++ take (n - 8 - (8 + over)) (drop (8 + over) bits) ≡ take (n - 8 - 8) (drop 8 bits) =
    ap (λ (t : List ℕ). take over (drop 8 bits) ++ take (n - 8 - (8 + over)) t) (sym (drop-drop over 8 bits))
    ∙ sym (take-add over (n - 8 - (8 + over)) (drop 8 bits)) ∙ ap (λ (m : ℕ). take m (drop 8 bits)) a in
    append_assoc (zeros (32 - over)) (take over (drop 8 bits)) (take (n - 8 - (8 + over)) (drop (8 + over) bits)) ∙ ap (zeros (32 - over) ++◌) c

pub body-short : (bits : List ℕ) → length bits ≤ most_packet → length (body_of bits) ≤ most_body
unfolding body_of
body-short bits h = omega (arith, length-take (length bits - 8 - 8) (drop 8 bits))

-- ---- words taken one after the other

-- the words so far are taken, and rest is what is left of the part
pub record Onward (part : List ℕ) (s₀ : Taking) (raw₀ : List ℕ) (s : Taking) (raw rest : List ℕ) : Type 0 where
  pub gone : List ℕ
  pub whole : gone ++ rest ≡ part
  pub took : Took gone s₀ raw₀ s raw
  pub are : all_bits rest ≡ true
  pub words : length rest % 32 ≡ 0
  pub long : length raw ≡ length raw₀

module _ {part raw₀ raw rest : List ℕ} {s₀ s : Taking} (o : Onward part s₀ raw₀ s raw rest) (word rest' : List ℕ) (next : rest ≡ word ++ rest') (full : length word ≡ 32) where
  pub word-are : all_bits word ≡ true
  word-are = ap all_bits (sym (ap (take 32) next ∙ take_at word rest' 32 full)) ∙ all_bits-take 32 rest o.are

  rest-are : all_bits rest' ≡ true
  rest-are = ap all_bits (sym (ap (drop 32) next ∙ drop_at word rest' 32 full)) ∙ all_bits-drop 32 rest o.are

  pub word-room : 8 * s₀.count + s₀.have + length part + 32 ≤ 8 * length raw₀ → s.count + 8 ≤ length raw
  word-room h = omega (arith, o.took.more, o.long, ap length o.whole, length-append o.gone rest, ap length next, length-append word rest', full)

  pub onward-next : {v : ℕ} {s' : Taking} {raw' : List ℕ} → v ≡ low_value (take 32 word) → Took (low_first 32 v) s raw s' raw' → length raw' ≡ length raw → Onward part s₀ raw₀ s' raw' rest'
  onward-next ev t long =
      let all : take 32 word ≡ word = take_all 32 word (omega (arith, full)) in
      let is : low_first 32 _ ≡ word = ap (low_first 32) (ev ∙ ap low_value all) ∙ bits_back 32 word full word-are in
      record {
        gone = o.gone ++ word;
        whole = append_assoc o.gone word rest' ∙ ap (o.gone ++◌) (sym next) ∙ o.whole;
        took = took_more o.took (rw is at t);
        are = rest-are;
        words = omega (arith, o.words, ap length next, length-append word rest', full);
        long = long ∙ o.long;
      }
