-- The register through a list of bytes, four at a time, and behind zeros.
-- Assumes nothing.
use mathlib.Core.Path.{◌≡◌, refl, sym, ap, ap₂, ◌∙◌}
use mathlib.Core.List.{List, [], ◌∷◌, ◌++◌, append-nil}
use Prim.Native.Nat.{ℕ, zero, suc, ◌+◌, ◌-◌, ◌*◌, ◌≤◌, ◌<◌}
use native.Mathlib.Omega.{arith}
use lib.ListN.{length, get_or, take, drop, length-take}
use lib.Seq.{take-add, drop-drop, drop_at, length-take-le}
use Rattle.std.specs.Int.{w32, from_le_bytes}
use Rattle.std.specs.Simd.{first_chunks}
use Rattle.laws.proofs.Lists.{next}
use Rattle.bits.specs.Bits.{low_first, sent_bits}
use Rattle.bits.proofs.Bits.{low-append}
use Rattle.bits.proofs.Bytes.{sent_bits-more, sent_bits-end, sent-append, chunk-at}
use Rattle.checking.specs.Check.{zeros, through, mirrored}
use Rattle.checking.proofs.Zeros.{zeros-low, zeros-more}
use Rattle.checking.proofs.Register.{through-append}

-- the last k of four zeros
zeros-last : (l : List ℕ) (k : ℕ) → take 4 l ≡ zeros 4 → k < 4 → take k (drop (4 - k) l) ≡ zeros k
unfolding zeros
zeros-last l k z few =
    let j : 4 - k + k ≡ 4 = omega arith in
    let s : take (4 - k) l ++ take k (drop (4 - k) l) ≡ zeros 4 = sym (take-add (4 - k) k l) ∙ ap (λ (i : ℕ). take i l) j ∙ z in
    let n : length (take (4 - k) l) ≡ 4 - k = length-take-le (4 - k) l (omega (arith, ap length z, length-take 4 l)) in
    sym (drop_at (take (4 - k) l) (take k (drop (4 - k) l)) (4 - k) n) ∙ ap (drop (4 - k)) s ∙ cut k few
  where
    cut : (k : ℕ) → k < 4 → drop (4 - k) (zeros 4) ≡ zeros k
    cut zero h = refl
    cut (suc zero) h = refl
    cut (suc (suc zero)) h = refl
    cut (suc (suc (suc zero))) h = refl
    cut (suc (suc (suc (suc k)))) h = absurd (omega arith)

-- four bytes as a number
four-sent : (a b c d : ℕ) → a < 256 → b < 256 → c < 256 → d < 256 → sent_bits (a ∷ b ∷ c ∷ d ∷ []) ≡ low_first 32 (a + b * 256 + c * 65536 + d * 16777216)
four-sent a b c d ha hb hc hd =
    let last : sent_bits (d ∷ []) ≡ low_first 8 d = sent_bits-more d [] ∙ ap (low_first 8 d ++◌) sent_bits-end ∙ append-nil (low_first 8 d) in
    let two : sent_bits (c ∷ d ∷ []) ≡ low_first 16 (c + d * 256) = sent_bits-more c (d ∷ []) ∙ ap (low_first 8 c ++◌) last ∙ low-append 8 8 c d hc in
    let three : sent_bits (b ∷ c ∷ d ∷ []) ≡ low_first 24 (b + (c + d * 256) * 256) = sent_bits-more b (c ∷ d ∷ []) ∙ ap (low_first 8 b ++◌) two ∙ low-append 8 16 b (c + d * 256) hb in
    let e : a + (b + (c + d * 256) * 256) * 256 ≡ a + b * 256 + c * 65536 + d * 16777216 = omega arith in
    sent_bits-more a (b ∷ c ∷ d ∷ []) ∙ ap (low_first 8 a ++◌) three ∙ low-append 8 24 a (b + (c + d * 256) * 256) ha ∙ ap (low_first 32) e

four-taken : (l : List ℕ) (i : ℕ) → i + 4 ≤ length l → ((j : ℕ) → get_or l j 0 < 256) → sent_bits (take 4 (drop i l)) ≡ low_first 32 (from_le_bytes w32 (take 4 (drop i l)))
four-taken l i h bytes =
    let a = get_or l i 0 in
    let b = get_or l (i + 1) 0 in
    let c = get_or l (i + 2) 0 in
    let d = get_or l (i + 3) 0 in
    let p : i + 1 + 1 ≡ i + 2 = omega arith in
    let q : i + 2 + 1 ≡ i + 3 = omega arith in
    let n₁ : drop (i + 1) l ≡ b ∷ drop (i + 2) l = rw p at (next l (i + 1) (omega arith)) in
    let n₂ : drop (i + 2) l ≡ c ∷ drop (i + 3) l = rw q at (next l (i + 2) (omega arith)) in
    let n₃ = next l (i + 3) (omega arith) in
    let e : take 4 (drop i l) ≡ a ∷ b ∷ c ∷ d ∷ [] = rw (next l i (omega arith), n₁, n₂, n₃) refl in
    ap sent_bits e ∙ four-sent a b c d (bytes i) (bytes (i + 1)) (bytes (i + 2)) (bytes (i + 3)) ∙ ap (λ (t : List ℕ). low_first 32 (from_le_bytes w32 t)) (sym e)

-- the next of the chunks of four bytes, and its number z
module _ (l : List ℕ) (i k : ℕ) {fours : List (List ℕ)} {z : ℕ} (are : fours ≡ first_chunks 4 k l) (more : i < k) (room : 4 * k ≤ length l) (bytes : (j : ℕ) → get_or l j 0 < 256)
    (tells : z ≡ from_le_bytes w32 (get_or fours i [])) where
  pub chunk-sent : sent_bits (take 4 (drop (4 * i) l)) ≡ low_first 32 z
  chunk-sent =
      let e : get_or fours i [] ≡ take 4 (drop (4 * i) l) = ap (λ (t : List (List ℕ)). get_or t i []) are ∙ chunk-at 4 k i l more in
      four-taken l (4 * i) (omega arith) bytes ∙ ap (low_first 32) (sym (tells ∙ ap (from_le_bytes w32) e))

  pub chunk-more : (from reg reg' : ℕ) → mirrored reg ≡ through from (sent_bits (take (4 * i) l)) → mirrored reg' ≡ through (mirrored reg) (low_first 32 z)
      → mirrored reg' ≡ through from (sent_bits (take (4 * (i + 1)) l))
  chunk-more from reg reg' er e =
      let four = sent_bits (take 4 (drop (4 * i) l)) in
      let m : 4 * (i + 1) ≡ 4 * i + 4 = omega arith in
      let s : sent_bits (take (4 * (i + 1)) l) ≡ sent_bits (take (4 * i) l) ++ four = ap (λ (n : ℕ). sent_bits (take n l)) m ∙ ap sent_bits (take-add (4 * i) 4 l) ∙ sent-append (take (4 * i) l) (take 4 (drop (4 * i) l)) in
      e ∙ ap (through (mirrored reg)) (sym chunk-sent) ∙ ap (λ (r : ℕ). through r four) er ∙ sym (ap (through from) s ∙ through-append (sent_bits (take (4 * i) l)) four from)

pub sent-zeros : (n : ℕ) → sent_bits (zeros n) ≡ zeros (8 * n)
unfolding zeros
sent-zeros zero = sent_bits-end
sent-zeros (suc n) =
    let k : 8 * suc n ≡ 8 + 8 * n = omega arith in
    sent_bits-more 0 (zeros n) ∙ ap (low_first 8 0 ++◌) (sent-zeros n) ∙ ap (◌++ zeros (8 * n)) (zeros-low 8) ∙ zeros-more 8 (8 * n) ∙ ap zeros (sym k)

-- behind four zeros: those that go in before, and the bytes
pub behind-zeros : (l : List ℕ) (n k r₀ r : ℕ) → take 4 l ≡ zeros 4 → k < 4 → n + 4 ≤ length l → through (mirrored r₀) (zeros (8 * k)) ≡ 0xffff
    → mirrored r ≡ through (mirrored r₀) (sent_bits (take (4 + n - (4 - k)) (drop (4 - k) l))) → mirrored r ≡ through 0xffff (sent_bits (take n (drop 4 l)))
behind-zeros l n k r₀ r z few long e₀ e =
    let m : 4 + n - (4 - k) ≡ k + n = omega arith in
    let j : 4 - k + k ≡ 4 = omega arith in
    let front : take k (drop (4 - k) l) ≡ zeros k = zeros-last l k z few in
    let back : drop k (drop (4 - k) l) ≡ drop 4 l = drop-drop k (4 - k) l ∙ ap (λ (i : ℕ). drop i l) j in
    let p : take (4 + n - (4 - k)) (drop (4 - k) l) ≡ zeros k ++ take n (drop 4 l) =
    ap (λ (i : ℕ). take i (drop (4 - k) l)) m ∙ take-add k n (drop (4 - k) l) ∙ ap₂ (λ (a b : List ℕ). a ++ take n b) front back in
    e ∙ ap (through (mirrored r₀)) (ap sent_bits p ∙ sent-append (zeros k) (take n (drop 4 l)) ∙ ap (◌++ sent_bits (take n (drop 4 l))) (sent-zeros k))
    ∙ through-append (zeros (8 * k)) (sent_bits (take n (drop 4 l))) (mirrored r₀) ∙ ap (λ (q : ℕ). through q (sent_bits (take n (drop 4 l)))) e₀
