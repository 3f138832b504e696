-- Sending some bits: what is stored of them, and what is still to come.
-- Assumes nothing.
use Rattle.std.proofs.Common.{◌≡◌, ℕ, zero, suc, ◌+◌, ◌-◌, ◌*◌, ◌/◌, ◌%◌, ◌^◌, ◌<◌, ◌≤◌, List, [], ◌∷◌, ◌++◌, length, take, sym, refl, ap, ◌∙◌, ap₂, append_assoc, suc-add, zero-add, arith, length-append, shr-shr, shr_lt}
use lib.Seq.{sets}
use Rattle.laws.proofs.Lists.{sets-append, stored-and-more}
use Rattle.bits.specs.Bits.{low_first}
use Rattle.bits.proofs.Bits.{low_bits, low_byte, length-low_first}
use Rattle.stuffing.specs.Stuff.{flag, stuffed, left_after}
use Rattle.stuffing.specs.Filling.{left_of, Stuffs}
use Rattle.stuffing.specs.Sending.{to_come, Leads}
use Rattle.stuffing.specs.declared.marks.Marked.{Marked}
use Rattle.stuffing.specs.declared.stuff.Sending.{Sending}
use Rattle.stuffing.proofs.Stuffing.{stuffed-append, stuffed-least}
use Rattle.stuffing.proofs.Marking.{half-shift}
use Rattle.stuffing.proofs.LastFour.{last_four, last-low, last-left}

-- ---- the bits of a number in parts

pub low-cut : (h m x : ℕ) → low_first (h + m) x ≡ low_first h x ++ low_first m (x / 2 ^ h)
unfolding low_first
low-cut zero m x = let e : x / 2 ^ 0 ≡ x = omega arith in rw (zero-add m, e) refl
low-cut (suc h) m x = rw (suc-add h m) (ap (λ (t : List ℕ). x % 2 ∷ t) (low-cut h m (x / 2) ∙ ap (λ (y : ℕ). low_first h (x / 2) ++ low_first m y) (half-shift x h)))

low-take : (j m x : ℕ) → j ≤ m → take j (low_first m x) ≡ low_first j x
unfolding low_first
low-take zero m x h = refl
low-take (suc j) zero x h = absurd (omega arith)
low-take (suc j) (suc m) x h = ap (λ (t : List ℕ). x % 2 ∷ t) (low-take j m (x / 2) (omega arith))

-- the low bits stored, and then the next ones
pub stored_on : (h m x at : ℕ) (out : List ℕ) → sets (sets out at (low_first h x)) (at + h) (low_first m (x / 2 ^ h)) ≡ sets out at (low_first (h + m) x)
stored_on h m x at out =
    let n : at + length (low_first h x) ≡ at + h = omega (arith, length-low_first h x) in
    sym (ap (sets out at) (low-cut h m x) ∙ sets-append (low_first h x) (low_first m (x / 2 ^ h)) out at ∙ ap (λ (k : ℕ). sets (sets out at (low_first h x)) k (low_first m (x / 2 ^ h))) n)

-- .. the next ones being those of a byte
pub byte_more : (h x at : ℕ) (out : List ℕ) {out₁ out₂ : List ℕ} → out₁ ≡ sets out at (low_first h x) → out₂ ≡ sets out₁ (at + h) (low_first 8 (x / 2 ^ h % 256)) → out₂ ≡ sets out at (low_first (h + 8) x)
byte_more h x at out e₁ e₂ = e₂ ∙ ap₂ (λ (o ys : List ℕ). sets o (at + h) ys) e₁ (sym (low_byte (x / 2 ^ h))) ∙ stored_on h 8 x at out

-- ---- from place to place

pub to_come-long : (tail : ℕ) (bits : List ℕ) → length bits + 8 ≤ length (to_come tail bits)
unfolding to_come flag
to_come-long tail bits = simp length-append (omega (arith, stuffed-least (left_of tail) bits))

-- fewer bits take no more
pub to_come-part : (tail : ℕ) (xs ys : List ℕ) → length (to_come tail xs) ≤ length (to_come tail (xs ++ ys))
unfolding to_come
to_come-part tail xs ys = rw (stuffed-append (left_of tail) xs ys) (simp length-append (omega arith))

-- n bits, of which 8 more are stored than there are
module _ (n v : ℕ) {tail : ℕ} {x : Marked} (least : 4 ≤ n) (few : n ≤ 32) (fits : v < 2 ^ n) (four : tail < 16) (s : Stuffs tail v x) (some : x.done ≤ 7) where
  S : List ℕ
  S = stuffed (left_of tail) (low_first n v)

  S-is : low_first (n + x.done) x.bits ≡ S
  unfolding S
  S-is = s.are n few fits

  S-long : length S ≡ n + x.done
  S-long = sym (ap length S-is) ∙ length-low_first (n + x.done) x.bits

  after-four : n + x.done ≡ 4 + (n - 4 + x.done)
  after-four = omega arith

  tail-is : last_four tail S ≡ x.bits / 2 ^ (n - 4 + x.done)
  tail-is =
      let q : (x.bits * 16 + tail) / 2 ^ 4 ≡ x.bits = omega arith in
      ap (last_four tail) (sym S-is) ∙ last-low (n + x.done) tail x.bits (s.small n few fits) ∙ ap (λ (k : ℕ). (x.bits * 16 + tail) / 2 ^ k) after-four
      ∙ sym (shr-shr (x.bits * 16 + tail) 4 (n - 4 + x.done)) ∙ ap (λ (y : ℕ). y / 2 ^ (n - 4 + x.done)) q

  left_is : left_of (x.bits / 2 ^ (n - 4 + x.done)) ≡ left_after (left_of tail) (low_first n v)
  unfolding S
  left_is = ap left_of (sym tail-is) ∙ last-left (left_of tail) tail (low_first n v) (low_bits n v) four refl

  -- the last four bits
  pub tail-four : x.bits / 2 ^ (n - 4 + x.done) < 16
  tail-four = shr_lt 4 (n - 4 + x.done) (rw after-four at (s.small n few fits))

  pub leads : {s s' : Sending} {out out' : List ℕ} → s.tail ≡ tail → s'.at ≡ s.at + n + x.done → s'.tail ≡ x.bits / 2 ^ (n - 4 + x.done) → out' ≡ sets out s.at (low_first (n + 8) x.bits)
      → Leads (low_first n v) s out s' out'
  unfolding to_come S
  leads {s} {s'} {out} {out'} et ea' et' e =
      let X = low_first n v in
      let k = left_of tail in
      let tail' = x.bits / 2 ^ (n - 4 + x.done) in
      let p : s.at + n + x.done ≡ s.at + (n + x.done) = omega arith in
      let split : (rest : List ℕ) → to_come tail (X ++ rest) ≡ S ++ to_come tail' rest = λ rest.
      ap (◌++ flag) (stuffed-append k X rest) ∙ append_assoc S (stuffed (left_after k X) rest) flag ∙ ap (λ (j : ℕ). S ++ (stuffed j rest ++ flag)) (sym left_is) in
      record {
        size = λ rest. rw (ea', et', et) (omega (arith, ap length (split rest), length-append S (to_come tail' rest), S-long));
        stored = λ rest. rw (ea', et', et, p, e) (
            stored-and-more (low_first (n + 8) x.bits) S (to_come tail' rest) out (n + x.done) s.at
            (low-take (n + x.done) (n + 8) x.bits (omega arith) ∙ S-is) S-long (omega (arith, length-low_first (n + 8) x.bits, to_come-long tail' rest))
            ∙ ap (sets out s.at) (sym (split rest)));
      }

pub leads-on : {xs ys out out' out'' : List ℕ} {s s' s'' : Sending} → Leads xs s out s' out' → Leads ys s' out' s'' out'' → Leads (xs ++ ys) s out s'' out''
leads-on {xs} {ys} {out} {out'} {out''} {s} {s'} {s''} a b = record {
  size = λ rest. b.size rest ∙ a.size (ys ++ rest) ∙ ap (λ (t : List ℕ). s.at + length (to_come s.tail t)) (sym (append_assoc xs ys rest));
  stored = λ rest. b.stored rest ∙ a.stored (ys ++ rest) ∙ ap (λ (t : List ℕ). sets out s.at (to_come s.tail t)) (sym (append_assoc xs ys rest));
}

pub leads-nowhere : {out : List ℕ} {s : Sending} → Leads [] s out s out
leads-nowhere = record { size = λ rest. refl; stored = λ rest. refl }
