-- Bytes as bits and back: a list of eight for each byte, and the bits as they are sent.
-- Assumes nothing.
use mathlib.Core.Path.{◌≡◌, refl, sym, ap, ap₂, ◌∙◌}
use mathlib.Core.Bool.{Bool, true}
use mathlib.Core.List.{List, [], ◌∷◌, ◌++◌, append_assoc}
use Prim.Native.Nat.{ℕ, zero, suc, ◌+◌, ◌*◌, ◌≤◌, ◌<◌}
use native.Mathlib.Omega.{arith}
use lib.Dec.{T}
use lib.ListN.{length, get_or, take, drop, length-append, length-drop}
use lib.Seq.{take_at, drop_at, drop-drop, take-add, length-take-le}
use Rattle.std.specs.Simd.{first_chunks}
use Rattle.laws.specs.Lists.{same, AllBytes}
use Rattle.laws.proofs.Tests.{is_true}
use Rattle.laws.proofs.Lists.{same→eq}
use Rattle.laws.proofs.Table.{all_below, below}
use Rattle.bits.specs.Bits.{low_first, high_first, low_value, turned, all_bits, joined, eights, sent_bits, bytes_of}
use Rattle.bits.proofs.Bits.{all_bits-end, all_bits-append, all_bits-take, all_bits-drop, low_bits, length-low_first, value-back, bits_back}

-- ---- a byte: a test at each of 256

turns-well : ℕ → Bool
unfolding same turned high_first low_first
turns-well b = same (high_first 8 (turned b)) (low_first 8 b)

all-turn-well : T (all_below turns-well 256)
unfolding turns-well
all-turn-well = tt

pub sent-byte : (b : ℕ) → b < 256 → high_first 8 (turned b) ≡ low_first 8 b
unfolding turns-well
sent-byte b h = same→eq _ _ (is_true (below turns-well 256 all-turn-well b h))

-- ---- eight elements for each byte, and a byte for each eight

pub joined-append : (f : ℕ → List ℕ) (xs ys : List ℕ) → joined f (xs ++ ys) ≡ joined f xs ++ joined f ys
unfolding joined
joined-append f [] ys = refl
joined-append f (x ∷ xs) ys = ap (f x ++◌) (joined-append f xs ys) ∙ sym (append_assoc (f x) (joined f xs) (joined f ys))

pub length-joined : (f : ℕ → List ℕ) → ((b : ℕ) → length (f b) ≡ 8) → (bs : List ℕ) → length (joined f bs) ≡ 8 * length bs
unfolding joined
length-joined f long [] = refl
length-joined f long (b ∷ bs) = length-append (f b) (joined f bs) ∙ omega (arith, long b, length-joined f long bs)

pub joined-bits : (f : ℕ → List ℕ) → ((b : ℕ) → all_bits (f b) ≡ true) → (bs : List ℕ) → all_bits (joined f bs) ≡ true
unfolding joined
joined-bits f bits [] = all_bits-end
joined-bits f bits (b ∷ bs) = all_bits-append (f b) (joined f bs) (bits b) (joined-bits f bits bs)

pub length-eights : (g : List ℕ → ℕ) (n : ℕ) (bits : List ℕ) → length (eights g n bits) ≡ n
unfolding eights
length-eights g zero bits = refl
length-eights g (suc n) bits = ap suc (length-eights g n (drop 8 bits))

pub eights-joined : (f : ℕ → List ℕ) (g : List ℕ → ℕ) → ((b : ℕ) → length (f b) ≡ 8) → ((b : ℕ) → b < 256 → g (f b) ≡ b)
    → (p ys : List ℕ) → AllBytes p → eights g (length p) (joined f p ++ ys) ≡ p
unfolding eights joined AllBytes
eights-joined f g long back [] ys h = refl
eights-joined f g long back (b ∷ bs) ys h =
    let a = append_assoc (f b) (joined f bs) ys in
    let t = take_at (f b) (joined f bs ++ ys) 8 (long b) in
    let d = drop_at (f b) (joined f bs ++ ys) 8 (long b) in
    rw (a, t, d) (ap₂ ◌∷◌ (back b h.0) (eights-joined f g long back bs ys h.1))

pub joined-eights : (f : ℕ → List ℕ) (g : List ℕ → ℕ) → ((bs : List ℕ) → length bs ≡ 8 → all_bits bs ≡ true → f (g bs) ≡ bs)
    → (n : ℕ) (bits : List ℕ) → 8 * n ≤ length bits → all_bits bits ≡ true → joined f (eights g n bits) ≡ take (8 * n) bits
unfolding joined eights
joined-eights f g back zero bits h e = refl
joined-eights f g back (suc n) bits h e =
    let k : 8 * suc n ≡ 8 + 8 * n = omega arith in
    let b = back (take 8 bits) (length-take-le 8 bits (omega arith)) (all_bits-take 8 bits e) in
    let r = joined-eights f g back n (drop 8 bits) (omega (arith, length-drop 8 bits)) (all_bits-drop 8 bits e) in
    ap₂ ◌++◌ b r ∙ sym (ap (λ (m : ℕ). take m bits) k ∙ take-add 8 (8 * n) bits)

-- ---- a list in chunks of n elements

pub chunk-at : {A : Type 0} (n k i : ℕ) (xs : List A) → i < k → get_or (first_chunks n k xs) i [] ≡ take n (drop (n * i) xs)
chunk-at n zero i xs h = absurd (omega arith)
chunk-at n (suc k) zero xs h = let e : 0 ≡ n * 0 = omega arith in ap (λ (j : ℕ). take n (drop j xs)) e
chunk-at n (suc k) (suc i) xs h =
    let e : n + n * i ≡ n * suc i = omega arith in
    chunk-at n k i (drop n xs) (omega arith) ∙ ap (take n) (drop-drop (n * i) n xs ∙ ap (λ (j : ℕ). drop j xs) e)

-- ---- bytes as sent

pub sent_bits-more : (b : ℕ) (bs : List ℕ) → sent_bits (b ∷ bs) ≡ low_first 8 b ++ sent_bits bs
unfolding sent_bits joined
sent_bits-more b bs = refl

pub sent_bits-end : sent_bits [] ≡ []
unfolding sent_bits joined
sent_bits-end = refl

pub sent-append : (xs ys : List ℕ) → sent_bits (xs ++ ys) ≡ sent_bits xs ++ sent_bits ys
unfolding sent_bits
sent-append xs ys = joined-append (low_first 8) xs ys

pub length-sent : (bs : List ℕ) → length (sent_bits bs) ≡ 8 * length bs
unfolding sent_bits
length-sent bs = length-joined (low_first 8) (length-low_first 8) bs

pub sent-bits : (p : List ℕ) → all_bits (sent_bits p) ≡ true
unfolding sent_bits
sent-bits p = joined-bits (low_first 8) (low_bits 8) p

-- ---- bytes from bits

pub length-bytes_of : (n : ℕ) (bits : List ℕ) → length (bytes_of n bits) ≡ n
unfolding bytes_of
length-bytes_of n bits = length-eights low_value n bits

-- ---- there and back

pub bytes_back : (p ys : List ℕ) → AllBytes p → bytes_of (length p) (sent_bits p ++ ys) ≡ p
unfolding bytes_of sent_bits
bytes_back p ys h = eights-joined (low_first 8) low_value (length-low_first 8) (value-back 8) p ys h

pub sent_back : (n : ℕ) (f : List ℕ) → 8 * n ≤ length f → all_bits f ≡ true → sent_bits (bytes_of n f) ≡ take (8 * n) f
unfolding sent_bits bytes_of
sent_back n f h e = joined-eights (low_first 8) low_value (bits_back 8) n f h e
