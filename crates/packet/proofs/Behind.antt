-- A few bytes as the last ones of four whose others are zeros: the number that they make, and the register after them.
-- Assumes nothing.
use mathlib.Core.Path.{◌≡◌, sym, ap, ◌∙◌}
use mathlib.Core.List.{List, [], ◌++◌, append_assoc, append-nil}
use Prim.Native.Nat.{ℕ, ◌+◌, ◌-◌, ◌*◌, ◌/◌, ◌^◌, ◌≤◌, ◌<◌}
use native.Mathlib.Omega.{arith}
use lib.ListN.{length, get_or, take, drop}
use lib.Seq.{take-add, drop_at}
use Rattle.laws.proofs.Lists.{next}
use Rattle.bits.specs.Bits.{low_first, sent_bits}
use Rattle.bits.proofs.Bits.{low-split, low-append, length-low_first}
use Rattle.bits.proofs.Bytes.{sent_bits-more, sent_bits-end, sent-append}
use Rattle.checking.specs.Check.{zeros, through, mirrored}
use Rattle.checking.proofs.Zeros.{length-zeros, zeros-add, zeros-low}
use Rattle.checking.proofs.Register.{through-append}

pub one-taken : (l : List ℕ) (i : ℕ) → i < length l → sent_bits (take 1 (drop i l)) ≡ low_first 8 (get_or l i 0)
one-taken l i h =
    let b = get_or l i 0 in
    ap (λ (t : List ℕ). sent_bits (take 1 t)) (next l i h) ∙ sent_bits-more b [] ∙ ap (low_first 8 b ++◌) sent_bits-end ∙ append-nil (low_first 8 b)

-- the number whose bits are those of the first i bytes, behind zeros
abbrev pub Behind : List ℕ → ℕ → ℕ → Type 0
Behind l i v = low_first 32 v ≡ zeros (32 - 8 * i) ++ sent_bits (take i l)

pub behind-none : (l : List ℕ) → Behind l 0 0
behind-none l = zeros-low 32 ∙ sym (ap (zeros 32 ++◌) sent_bits-end ∙ append-nil (zeros 32))

-- one byte more comes in at the top, and the lowest eight zeros are gone
pub behind_more : (l : List ℕ) (i v : ℕ) → i < length l → length l ≤ 4 → v < 2 ^ 32 → Behind l i v → Behind l (i + 1) (v / 256 + get_or l i 0 * 16777216)
behind_more l i v h short small e =
    let b = get_or l i 0 in
    let before = sent_bits (take i l) in
    let k = 32 - 8 * (i + 1) in
    let fewer : 32 - 8 * i ≡ 8 + (32 - 8 * (i + 1)) = omega arith in
    let split : low_first 8 v ++ low_first 24 (v / 256) ≡ zeros 8 ++ (zeros k ++ before) =
    sym (low-split 24 v) ∙ e ∙ ap (λ (n : ℕ). zeros n ++ before) fewer ∙ sym (zeros-add 8 k before) in
    let rest : low_first 24 (v / 256) ≡ zeros k ++ before = sym (drop_at (low_first 8 v) (low_first 24 (v / 256)) 8 (length-low_first 8 v)) ∙ ap (drop 8) split ∙ drop_at (zeros 8) (zeros k ++ before) 8 (length-zeros 8) in
    let more : sent_bits (take (i + 1) l) ≡ before ++ low_first 8 b = ap sent_bits (take-add i 1 l) ∙ sent-append (take i l) (take 1 (drop i l)) ∙ ap (before ++◌) (one-taken l i h) in
    sym (low-append 24 8 (v / 256) b (omega arith)) ∙ ap (◌++ low_first 8 b) rest ∙ append_assoc (zeros k) before (low_first 8 b) ∙ ap (zeros k ++◌) (sym more)

-- the register that the zeros turn into all ones goes in before them
pub behind-in : (l : List ℕ) (r₀ r v : ℕ) → length l ≤ 4 → through (mirrored r₀) (zeros (8 * (4 - length l))) ≡ 0xffff → low_first 32 v ≡ zeros (32 - 8 * length l) ++ sent_bits l
    → mirrored r ≡ through (mirrored r₀) (low_first 32 v) → mirrored r ≡ through 0xffff (sent_bits l)
behind-in l r₀ r v short start is e =
    let k : 32 - 8 * length l ≡ 8 * (4 - length l) = omega arith in
    e ∙ ap (through (mirrored r₀)) (is ∙ ap (λ (n : ℕ). zeros n ++ sent_bits l) k) ∙ through-append (zeros (8 * (4 - length l))) (sent_bits l) (mirrored r₀) ∙ ap (λ (q : ℕ). through q (sent_bits l)) start
