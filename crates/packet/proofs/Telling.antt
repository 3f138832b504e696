-- What the bytes of a packet tell: its flags, and the check in its last two bytes.
-- Assumes nothing.
use mathlib.Core.Path.{◌≡◌, refl, sym, ap, ap₂, ◌∙◌}
use mathlib.Core.Bool.{Bool, true, false}
use mathlib.Core.List.{List, [], ◌∷◌, ◌++◌, append-nil}
use Prim.Native.Nat.{ℕ, ◌+◌, ◌-◌, ◌*◌, ◌/◌, ◌≤◌, ◌<◌}
use native.Mathlib.Omega.{arith}
use borrow.Author.Tests.{eq-eqb, eqb-true}
use lib.Dec.{eqb}
use lib.ListN.{length, get_or, take, drop, take-append-drop, length-drop}
use lib.Seq.{take_at, drop_at, drop-drop, take_all, get_or-drop, length-take-le}
use Rattle.laws.specs.Lists.{over, same}
use Rattle.laws.proofs.Lists.{next, done, all-bytes, take-bytes, same→eq, same_refl}
use Rattle.limits.specs.Limits.{least_checked, most_checked, least_packet}
use Rattle.bits.specs.Bits.{low_first, high_first, low_value, joined, eights, all_bits, sent_bits, bytes_of}
use Rattle.bits.proofs.Bits.{all_bits-take, all_bits-drop, bits_back, value-back, low-append}
use Rattle.bits.proofs.Bytes.{sent_bits-more, sent_bits-end, sent-append, length-sent, bytes_back}
use Rattle.checking.specs.Check.{zeros, through, mirrored, check_of}
use Rattle.stuffing.specs.Stuff.{flag}
use Rattle.packet.specs.Packet.{whole_bytes, checked, payload_length}
use Rattle.checking.proofs.Register.{mirrored-not, mirrored-bits}
use Rattle.checking.proofs.Checking.{sent-zeros}
use Rattle.packet.proofs.Answers.{whole}

-- two lists are the same exactly when two numbers are, if each says the other
same-is-eqb : (xs ys : List ℕ) (a b : ℕ) → (a ≡ b → xs ≡ ys) → (xs ≡ ys → a ≡ b) → eqb a b ≡ same xs ys
same-is-eqb xs ys a b to from = go (eqb a b) refl (same xs ys) refl
  where
    go : (t : Bool) → eqb a b ≡ t → (u : Bool) → same xs ys ≡ u → eqb a b ≡ same xs ys
    go true e u f = e ∙ sym (ap (λ (zs : List ℕ). same zs ys) (to (eqb-true a b e)) ∙ same_refl ys)
    go false e true f = eq-eqb a b (from (same→eq xs ys f)) ∙ sym f
    go false e false f = e ∙ sym f

flag-value : low_value flag ≡ 126
unfolding low_value flag
flag-value = refl

low-flag : low_first 8 126 ≡ flag
unfolding low_first flag
low-flag = refl

flag-told : (eight : List ℕ) {v : ℕ} → length eight ≡ 8 → all_bits eight ≡ true → v ≡ low_value eight → eqb v 126 ≡ same eight flag
flag-told eight {v} l bits e =
    same-is-eqb eight flag v 126
    (λ h. sym (bits_back 8 eight l bits) ∙ ap (low_first 8) (sym e ∙ h) ∙ low-flag)
    (λ h. e ∙ ap low_value h ∙ flag-value)

-- the flags of a packet, as the code looks at them
module _ (xs : List ℕ) {v : ℕ} (bits : all_bits xs ≡ true) (long : least_packet ≤ length xs) where
  pub first-flag : v ≡ low_value (take 8 xs) → eqb v 126 ≡ same (take 8 xs) flag
  first-flag e = flag-told (take 8 xs) (length-take-le 8 xs (omega arith)) (all_bits-take 8 xs bits) e

  pub last-flag : v ≡ low_value (take 8 (drop (length xs - 8) xs)) → eqb v 126 ≡ same (drop (length xs - 8) xs) flag
  last-flag e =
      let d = drop (length xs - 8) xs in
      let n : length d ≡ 8 = length-drop (length xs - 8) xs ∙ omega arith in
      flag-told d n (all_bits-drop (length xs - 8) xs bits) (e ∙ ap low_value (take_all 8 d (omega arith)))

-- ---- whole bytes, payload and check, behind four others

zeros-back : bytes_of 4 (sent_bits (zeros 4) ++ []) ≡ zeros 4
unfolding bytes_of eights low_value sent_bits joined low_first zeros
zeros-back = refl

module _ (raw : List ℕ) (n : ℕ) (long : length raw ≡ n + 6) (bytes : (i : ℕ) → get_or raw i 0 < 256) where
  telling : ℕ
  telling = get_or raw (4 + n) 0 + get_or raw (4 + n + 1) 0 * 256

  telling-16 : telling < 65536
  unfolding telling
  telling-16 = omega (arith, bytes (4 + n), bytes (4 + n + 1))

  frame_is : sent_bits (drop 4 raw) ≡ sent_bits (take n (drop 4 raw)) ++ low_first 16 telling
  unfolding telling
  frame_is =
      let a = get_or raw (4 + n) 0 in
      let b = get_or raw (4 + n + 1) 0 in
      let p = take n (drop 4 raw) in
      let e : drop n (drop 4 raw) ≡ a ∷ b ∷ [] =
      drop-drop n 4 raw ∙ next raw (4 + n) (omega arith) ∙ ap (λ (t : List ℕ). a ∷ t) (next raw (4 + n + 1) (omega arith) ∙ ap (λ (t : List ℕ). b ∷ t) (done raw (4 + n + 1 + 1) (omega arith))) in
      let two : sent_bits (a ∷ b ∷ []) ≡ low_first 8 a ++ low_first 8 b =
      sent_bits-more a (b ∷ []) ∙ ap (low_first 8 a ++◌) (sent_bits-more b [] ∙ ap (low_first 8 b ++◌) sent_bits-end ∙ append-nil (low_first 8 b)) in
      ap sent_bits (sym (take-append-drop n (drop 4 raw)) ∙ ap (p ++◌) e) ∙ sent-append p (a ∷ b ∷ []) ∙ ap (sent_bits p ++◌) (two ∙ low-append 8 8 a b (bytes (4 + n)))

  frame-long : length (sent_bits (drop 4 raw)) ≡ 8 * n + 16
  frame-long = omega (arith, length-sent (drop 4 raw), length-drop 4 raw)

  pub payload-bytes : length (take n (drop 4 raw)) ≡ n
  payload-bytes = length-take-le n (drop 4 raw) (omega (arith, length-drop 4 raw))

  payload-long : length (sent_bits (take n (drop 4 raw))) ≡ 8 * n
  payload-long = omega (arith, length-sent (take n (drop 4 raw)), payload-bytes)

  pub payload-count : payload_length (sent_bits (drop 4 raw)) ≡ n
  payload-count = omega (arith, frame-long)

  pub frame-whole : 4 + least_checked / 8 ≤ length raw → length raw ≤ 4 + most_checked / 8 → whole_bytes (sent_bits (drop 4 raw)) ≡ true
  frame-whole h k = let l = frame-long in whole (sent_bits (drop 4 raw)) (omega arith) (omega arith) (omega arith)

  pub frame-checked : {r t : ℕ} → t ≡ get_or raw (4 + n) 0 + get_or raw (4 + n + 1) 0 * 256 → r < 65536 → mirrored r ≡ through 0xffff (sent_bits (take n (drop 4 raw)))
      → checked (sent_bits (drop 4 raw)) ≡ eqb (0xffff - r) t
  unfolding checked telling
  frame-checked {r} {t} et small er =
      let P = sent_bits (take n (drop 4 raw)) in
      let l : length (sent_bits (drop 4 raw)) - 16 ≡ 8 * n = omega (arith, frame-long) in
      let p = ap (take (8 * n)) frame_is ∙ take_at P (low_first 16 telling) (8 * n) payload-long in
      let s = ap (drop (8 * n)) frame_is ∙ drop_at P (low_first 16 telling) (8 * n) payload-long in
      let k : high_first 16 (check_of P) ≡ low_first 16 (0xffff - r) = ap (λ (m : ℕ). high_first 16 (0xffff - m)) (sym er) ∙ ap (high_first 16) (sym (mirrored-not r small)) ∙ mirrored-bits (0xffff - r) in
      rw (l, p, s, k, et)
      (sym (same-is-eqb (low_first 16 telling) (low_first 16 (0xffff - r)) (0xffff - r) telling
      (λ h. ap (low_first 16) (sym h))
      (λ h. sym (value-back 16 (0xffff - r) (omega arith)) ∙ ap low_value (sym h) ∙ value-back 16 telling telling-16)))

  payload-out : bytes_of n (sent_bits (drop 4 raw)) ≡ take n (drop 4 raw)
  payload-out =
      let p = take n (drop 4 raw) in
      ap (bytes_of n) frame_is ∙ ap (λ (k : ℕ). bytes_of k (sent_bits p ++ low_first 16 telling)) (sym payload-bytes)
      ∙ bytes_back p (low_first 16 telling) (take-bytes n (drop 4 raw) (all-bytes (drop 4 raw) (λ i. omega (arith, get_or-drop 4 raw i 0, bytes (4 + i)))))

  pub front-zeros : sent_bits (take 4 raw) ≡ zeros 32 → take 4 raw ≡ zeros 4
  front-zeros e =
      let four : length (take 4 raw) ≡ 4 = length-take-le 4 raw (omega arith) in
      sym (bytes_back (take 4 raw) [] (take-bytes 4 raw (all-bytes raw bytes))) ∙ ap₂ (λ (k : ℕ) (t : List ℕ). bytes_of k (t ++ [])) four (e ∙ sym (sent-zeros 4)) ∙ zeros-back

  -- the payload copied to the front of what is lent
  pub copied : (out : List ℕ) {front : List ℕ} {m : ℕ} → m ≡ n → front ≡ take m (drop 4 raw) → front ++ drop n out ≡ over (bytes_of n (sent_bits (drop 4 raw))) out
  unfolding over
  copied out {front} em e =
      let p : front ≡ bytes_of n (sent_bits (drop 4 raw)) = e ∙ rw (em, payload-out) refl in
      ap₂ (λ (a : List ℕ) (k : ℕ). a ++ drop k out) p (sym (ap length payload-out ∙ payload-bytes))
