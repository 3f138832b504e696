-- One step of taking 32 bits: what it leaves pending, what it stores, and that steps go on from each other.
-- Assumes nothing.
use Rattle.std.proofs.Common.{◌≡◌, ℕ, zero, suc, ◌+◌, ◌-◌, ◌*◌, ◌/◌, ◌%◌, ◌^◌, ◌<◌, ◌≤◌, Bool, true, false, List, [], ◌∷◌, ◌++◌, length, take, drop, sym, refl, ap, ◌∙◌, ap₂, append_assoc, mul-le-mul_right, suc-mul, mul_comm, arith, length-append, take-append-drop, length-take-le, take_at, pow-add, shl_exact, shr_lt, eq-eqb, ne_eqb}
use lib.Bits.{bit_and, and_comm}
use lib.Seq.{sets, sets-eq, length-sets, take-append-add, take-append-le}
use Rattle.laws.proofs.Tests.{never}
use Rattle.laws.specs.Tests.{pick}
use Rattle.bits.specs.Bits.{low_first, sent_bits, eight_of}
use Rattle.bits.proofs.Bits.{length-low_first, low-append, low-split, low_byte}
use Rattle.bits.proofs.Bytes.{sent-append, sent_bits-more, sent_bits-end, length-sent}
use Rattle.stuffing.specs.Stuff.{legal, unstuffed}
use Rattle.stuffing.specs.Taking.{left_in, clean, left_by, put_in, Leaves, Sound, pending, lawful, Took}
use Rattle.stuffing.specs.declared.marks.Marked.{Marked}
use Rattle.stuffing.specs.declared.unstuff.Taking.{Taking}
use Rattle.stuffing.proofs.Marking.{marks_of, fives-marks}
use Rattle.stuffing.proofs.PutIn.{Reads, reads}
use Rattle.stuffing.proofs.Sending.{low-cut}

-- ---- one list after the other

unstuffed-append : (k : ℕ) (xs ys : List ℕ) → unstuffed k (xs ++ ys) ≡ unstuffed k xs ++ unstuffed (left_in k xs) ys
unfolding unstuffed left_in
unstuffed-append zero [] ys = refl
unstuffed-append (suc k) [] ys = refl
unstuffed-append zero (x ∷ xs) ys = unstuffed-append 5 xs ys
unstuffed-append (suc k) (zero ∷ xs) ys = ap (λ (t : List ℕ). 0 ∷ t) (unstuffed-append 5 xs ys)
unstuffed-append (suc k) (suc x ∷ xs) ys = ap (λ (t : List ℕ). suc x ∷ t) (unstuffed-append k xs ys)

legal-append : (k : ℕ) (xs ys : List ℕ) → legal k (xs ++ ys) ≡ pick (clean k xs) (legal (left_in k xs) ys) false
unfolding legal clean left_in
legal-append zero [] ys = refl
legal-append (suc k) [] ys = refl
legal-append zero (zero ∷ xs) ys = legal-append 5 xs ys
legal-append (suc k) (zero ∷ xs) ys = legal-append 5 xs ys
legal-append zero (suc x ∷ xs) ys = refl
legal-append (suc k) (suc x ∷ xs) ys = legal-append k xs ys

-- ---- numbers: the bytes begun stay in their width

-- one number above the other
joined_small : (h m a b : ℕ) → a < 2 ^ h → b < 2 ^ m → a + b * 2 ^ h < 2 ^ (h + m)
joined_small h m a b small fits =
    let e : 2 ^ (h + m) ≡ 2 ^ m * 2 ^ h = pow-add 2 h m ∙ mul_comm (2 ^ h) (2 ^ m) in
    omega (arith, e, mul-le-mul_right (2 ^ h) fits, suc-mul b (2 ^ h))

shift-stays : (bits have gone : ℕ) → have < 32 → bits < 2 ^ (32 - gone) → bits * 2 ^ have % 2 ^ 64 ≡ bits * 2 ^ have
shift-stays bits have gone under fits = shl_exact (32 - gone) have 64 fits (omega arith)

-- ---- eight bytes stored, some of which count

one_more : (z x h : ℕ) (xs : List ℕ) → x ≡ z % 256 → sent_bits xs ≡ low_first h (z / 256) → sent_bits (x ∷ xs) ≡ low_first (8 + h) z
one_more z x h xs e r = sent_bits-more x xs ∙ ap₂ ◌++◌ (ap (low_first 8) e ∙ sym (low_byte z)) r ∙ sym (low-split h z)

eight-sent : (z : ℕ) → sent_bits (eight_of z) ≡ low_first 64 z
unfolding eight_of low_first
eight-sent z =
    let a = z / 256 in
    let b = a / 256 in
    let c = b / 256 in
    let d = c / 256 in
    let e = d / 256 in
    let f = e / 256 in
    let g = f / 256 in
    one_more z _ 56 _ refl
    (one_more a _ 48 _ (omega arith)
    (one_more b _ 40 _ (omega arith)
    (one_more c _ 32 _ (omega arith)
    (one_more d _ 24 _ (omega arith)
    (one_more e _ 16 _ (omega arith)
    (one_more f _ 8 _ (omega arith)
    (one_more g _ 0 [] (omega arith) sent_bits-end)))))))

eight-long : (z : ℕ) → length (eight_of z) ≡ 8
unfolding eight_of
eight-long z = refl

some-sent : (k z : ℕ) → k ≤ 8 → sent_bits (take k (eight_of z)) ≡ low_first (8 * k) z
some-sent k z few =
    let E = eight_of z in
    let n : 8 * k + (64 - 8 * k) ≡ 64 = omega arith in
    let l : length (sent_bits (take k E)) ≡ 8 * k = omega (arith, length-sent (take k E), length-take-le k E (omega (arith, eight-long z))) in
    let s : sent_bits (take k E) ++ sent_bits (drop k E) ≡ low_first (8 * k) z ++ low_first (64 - 8 * k) (z / 2 ^ (8 * k)) =
    sym (sent-append (take k E) (drop k E)) ∙ ap sent_bits (take-append-drop k E) ∙ eight-sent z ∙ ap (λ (m : ℕ). low_first m z) (sym n) ∙ low-cut (8 * k) (64 - 8 * k) z in
    sym (take_at (sent_bits (take k E)) (sent_bits (drop k E)) (8 * k) l) ∙ ap (take (8 * k)) s ∙ take_at (low_first (8 * k) z) _ (8 * k) (length-low_first (8 * k) z)

pub stored-sent : (raw : List ℕ) (count k z : ℕ) → count + 8 ≤ length raw → k ≤ 8 → sent_bits (take (count + k) (sets raw count (eight_of z))) ≡ sent_bits (take count raw) ++ low_first (8 * k) z
stored-sent raw count k z room few =
    let E = eight_of z in
    let l : length (take count raw) ≡ count = length-take-le count raw (omega arith) in
    let rest = drop (count + length E) raw in
    let s : sets raw count E ≡ take count raw ++ (E ++ rest) = sets-eq E raw count (omega (arith, eight-long z)) ∙ append_assoc (take count raw) E rest in
    let t : take (count + k) (take count raw ++ (E ++ rest)) ≡ take count raw ++ take k E =
    ap (λ (m : ℕ). take (m + k) (take count raw ++ (E ++ rest))) (sym l) ∙ take-append-add (take count raw) (E ++ rest) k ∙ ap (take count raw ++◌) (take-append-le k E rest (omega (arith, eight-long z))) in
    ap sent_bits (ap (take (count + k)) s ∙ t) ∙ sent-append (take count raw) (take k E) ∙ ap (sent_bits (take count raw) ++◌) (some-sent k z few)

-- ---- the three ways through `take_word`

module _ (v : ℕ) (s : Taking) (raw : List ℕ) (word : v < 2 ^ 32) (so : Sound s raw) {m : ℕ} (em : m ≡ put_in s.tail v) where
  bits-read : Reads 32 s.tail v
  bits-read = reads 32 s.tail v so.five word

  marks-are : m ≡ marks_of 32 (v * 32 + s.tail)
  unfolding put_in
  marks-are = em ∙ fives-marks 32 (v * 32 + s.tail)

  pub took-spoilt : {s' : Taking} → (bit_and v m ≡ 0 → ⊥) → s'.tail ≡ v / 0x8000000 → s'.spoilt ≡ true → s'.part ≡ s.part → s'.have ≡ s.have → s'.count ≡ s.count
      → Took (low_first 32 v) s raw s' raw
  unfolding lawful
  took-spoilt {s'} ne et es ep eh ec =
      let n = rw marks-are at ne in
      let c : clean (left_by s.tail) (low_first 32 v) ≡ false = bits-read.told ∙ ne_eqb _ _ (λ z. n (and_comm v _ ∙ z)) in
      record {
        sound = record { five = omega arith; under = omega (arith, so.under); small = rw (ep, eh) so.small; fits = omega (arith, so.fits) };
        more = omega arith;
        on = λ frame verdict rest g. record {
          law = rw es (sym (no-law s.spoilt (legal (left_by s.tail) (low_first 32 v ++ rest)) (legal-append (left_by s.tail) (low_first 32 v) rest ∙ rw c refl)) ∙ g.law);
          goes = λ z. never (sym z ∙ es);
        };
      }
    where
      no-law : (p l : Bool) → l ≡ false → pick p false l ≡ false
      no-law true l e = refl
      no-law false l e = e

  module _ (none : bit_and v m ≡ 0) {x : Marked} (u : Leaves v m x) (s' : Taking) (et : s'.tail ≡ v / 0x8000000) (es : s'.spoilt ≡ s.spoilt) where
    w : ℕ
    w = s.part + x.bits * 2 ^ s.have

    sum_is : s.part + x.bits * 2 ^ s.have % 2 ^ 64 ≡ w
    unfolding w
    sum_is = ap (s.part +◌) (shift-stays x.bits s.have x.done so.under u.small)

    w-small : w < 2 ^ (s.have + (32 - x.done))
    unfolding w
    w-small = joined_small s.have (32 - x.done) s.part x.bits so.small u.small

    no-marks : bit_and (marks_of 32 (v * 32 + s.tail)) v ≡ 0
    no-marks = and_comm _ v ∙ rw marks-are at none

    left_is : left_by s'.tail ≡ left_in (left_by s.tail) (low_first 32 v)
    left_is =
        let e : (v * 32 + s.tail) / 2 ^ 32 ≡ s'.tail = omega (arith, et, so.five) in
        rw e at (bits-read.left no-marks)

    clean_is : clean (left_by s.tail) (low_first 32 v) ≡ true
    clean_is = bits-read.told ∙ eq-eqb _ _ no-marks

    kept-is : low_first (32 - x.done) x.bits ≡ unstuffed (left_by s.tail) (low_first 32 v)
    kept-is = u.are ∙ rw marks-are (bits-read.are no-marks)

    law-is : (rest : List ℕ) → lawful s (low_first 32 v ++ rest) ≡ lawful s' rest
    unfolding lawful
    law-is rest = rw (es, left_is) (ap (pick s.spoilt false) (legal-append (left_by s.tail) (low_first 32 v) rest ∙ rw clean_is refl))

    pend-is : (rest : List ℕ) → pending s (low_first 32 v ++ rest) ≡ low_first (s.have + (32 - x.done)) w ++ unstuffed (left_by s'.tail) rest
    unfolding pending w
    pend-is rest =
        let r = unstuffed (left_by s'.tail) rest in
        let a = low_first s.have s.part in
        ap (a ++◌) (unstuffed-append (left_by s.tail) (low_first 32 v) rest ∙ ap₂ (λ (y : List ℕ) (n : ℕ). y ++ unstuffed n rest) (sym kept-is) (sym left_is))
        ∙ sym (append_assoc a (low_first (32 - x.done) x.bits) r) ∙ ap (◌++ r) (low-append s.have (32 - x.done) s.part x.bits so.small)

    pub took-part : s.have < x.done → s'.part ≡ s.part + x.bits * 2 ^ s.have % 2 ^ 64 → s'.have ≡ s.have + 32 - x.done → s'.count ≡ s.count → Took (low_first 32 v) s raw s' raw
    unfolding pending
    took-part less ep eh ec =
        let few = u.few in
        let n : s.have + (32 - x.done) ≡ s'.have = omega arith in
        let p : s'.part ≡ w = ep ∙ sum_is in
        let same : (rest : List ℕ) → pending s (low_first 32 v ++ rest) ≡ pending s' rest = λ rest. pend-is rest ∙ ap₂ (λ (k y : ℕ). low_first k y ++ unstuffed (left_by s'.tail) rest) n (sym p) in
        record {
          sound = record { five = omega arith; under = omega arith; small = rw p (rw n at w-small); fits = omega (arith, so.fits) };
          more = omega (arith, length-low_first 32 v);
          on = λ frame verdict rest g. record {
            law = sym (law-is rest) ∙ g.law;
            goes = λ z. ap₂ (λ (k : ℕ) (y : List ℕ). sent_bits (take k raw) ++ y) ec (sym (same rest)) ∙ g.goes (sym es ∙ z);
          };
        }

    pub took-whole : {raw' : List ℕ} → s.count + 8 ≤ length raw → x.done ≤ s.have → s'.part ≡ (s.part + x.bits * 2 ^ s.have % 2 ^ 64) / 0x100000000 → s'.have ≡ s.have - x.done
        → s'.count ≡ s.count + 4 → raw' ≡ sets raw s.count (eight_of (s.part + x.bits * 2 ^ s.have % 2 ^ 64)) → Took (low_first 32 v) s raw s' raw'
    unfolding pending
    took-whole {raw'} room enough ep eh ec er =
        let few = u.few in
        let B = sent_bits (take s.count raw) in
        let n : s.have + (32 - x.done) ≡ 32 + (s.have - x.done) = omega arith in
        let k : s.have + (32 - x.done) ≡ s.have - x.done + 32 = omega arith in
        let p : s'.part ≡ w / 2 ^ 32 = ep ∙ ap (λ (y : ℕ). y / 2 ^ 32) sum_is in
        let stored : sent_bits (take s'.count raw') ≡ B ++ low_first 32 w =
        ap₂ (λ (j : ℕ) (y : List ℕ). sent_bits (take j y)) ec (er ∙ ap (λ (y : ℕ). sets raw s.count (eight_of y)) sum_is) ∙ stored-sent raw s.count 4 w room (omega arith) in
        let split : (rest : List ℕ) → pending s (low_first 32 v ++ rest) ≡ low_first 32 w ++ pending s' rest = λ rest.
        pend-is rest
        ∙ ap (λ (j : ℕ). low_first j w ++ unstuffed (left_by s'.tail) rest) n ∙ ap (◌++ unstuffed (left_by s'.tail) rest) (low-cut 32 (s.have - x.done) w)
        ∙ append_assoc (low_first 32 w) (low_first (s.have - x.done) (w / 2 ^ 32)) (unstuffed (left_by s'.tail) rest)
        ∙ ap₂ (λ (j y : ℕ). low_first 32 w ++ (low_first j y ++ unstuffed (left_by s'.tail) rest)) (sym eh) (sym p) in
        record {
          sound = record { five = omega arith; under = omega (arith, so.under); small = omega (arith, p, ap (2 ^◌) eh, shr_lt (s.have - x.done) 32 (rw k at w-small)); fits = omega (arith, ap length er, length-sets raw s.count (eight_of (s.part + x.bits * 2 ^ s.have % 2 ^ 64))) };
          more = omega (arith, length-low_first 32 v);
          on = λ frame verdict rest g. record {
            law = sym (law-is rest) ∙ g.law;
            goes = λ z. ap (◌++ pending s' rest) stored ∙ append_assoc B (low_first 32 w) (pending s' rest) ∙ ap (B ++◌) (sym (split rest)) ∙ g.goes (sym es ∙ z);
          };
        }

-- ---- step after step

pub took-nothing : {raw : List ℕ} {s : Taking} → Sound s raw → Took [] s raw s raw
took-nothing so = record { sound = so; more = omega arith; on = λ frame verdict rest g. g }

pub took_more : {xs ys raw raw' raw'' : List ℕ} {s s' s'' : Taking} → Took xs s raw s' raw' → Took ys s' raw' s'' raw'' → Took (xs ++ ys) s raw s'' raw''
took_more {xs} {ys} a b = record {
  sound = b.sound;
  more = omega (arith, a.more, b.more, length-append xs ys);
  on = λ frame verdict rest g. b.on frame verdict rest (a.on frame verdict (ys ++ rest) (rw (append_assoc xs ys rest) at g));
}
