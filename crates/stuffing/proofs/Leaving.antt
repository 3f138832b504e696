-- The marked bits of a word left out, one after the other: what is left are those that are kept.
-- Assumes nothing.
use Rattle.std.proofs.Common.{◌≡◌, ℕ, zero, suc, ◌+◌, ◌-◌, ◌*◌, ◌/◌, ◌%◌, ◌^◌, ◌<◌, ◌≤◌, min, List, ◌∷◌, sym, refl, ap, ◌∙◌, lt_of_lt_of_le, arith, pow_mono}
use lib.Bits.{bit_and, and_step, and_le_l, and_mask}
use Rattle.bits.specs.Bits.{low_first}
use Rattle.stuffing.specs.Marks.{up_to_lowest, kept}
use Rattle.stuffing.specs.Taking.{left_out, Leaves}
use Rattle.stuffing.specs.declared.marks.Marked.{Marked}
use Rattle.stuffing.proofs.Marking.{lowest-odd, lowest-even, lowest-none, lowest-small}

-- ---- the lowest marked bit is left out

lowest-is-odd : (m : ℕ) → 0 < m → up_to_lowest m % 2 ≡ 1
lowest-is-odd m some = go (m % 2) refl (omega arith)
  where
    go : (x : ℕ) → m % 2 ≡ x → x < 2 → up_to_lowest m % 2 ≡ 1
    go zero e l = rw (lowest-even m e some) (omega arith)
    go (suc zero) e l = rw (lowest-odd m e) refl
    go (suc (suc x)) e l = absurd (omega arith)

without : ℕ → ℕ → ℕ
without v m = (v + bit_and v (up_to_lowest m)) / 2

marks-left : ℕ → ℕ
marks-left m = (m - bit_and m (up_to_lowest m)) / 2

-- what leaving out one of n + 1 bits comes to
record Shorter (n v m v' m' : ℕ) : Type 0 where
  pub keeps : kept (low_first n m') (low_first n v') ≡ kept (low_first (suc n) m) (low_first (suc n) v)
  pub small : v' < 2 ^ n
  pub marks : m' < 2 ^ n
  pub apart : bit_and v' m' ≡ 0

-- a bit and no mark before
longer : (k v m u q : ℕ) → m % 2 ≡ 0 → Shorter k (v / 2) (m / 2) u q → Shorter (suc k) v m (u * 2 + v % 2) (q * 2)
unfolding low_first kept
longer k v m u q e r =
    let a : q * 2 % 2 ≡ 0 = omega arith in
    let b : q * 2 / 2 ≡ q = omega arith in
    let c : (u * 2 + v % 2) % 2 ≡ v % 2 = omega arith in
    let d : (u * 2 + v % 2) / 2 ≡ u = omega arith in
    record {
      keeps = rw (a, b, c, d, e) (ap (λ (xs : List ℕ). v % 2 ∷ xs) r.keeps);
      small = omega (arith, r.small);
      marks = omega (arith, r.marks);
      apart = and_step (u * 2 + v % 2) (q * 2) ∙ rw (a, b, c, d, r.apart) (omega arith);
    }

module _ (n v m : ℕ) (small : v < 2 ^ suc n) (marks : m < 2 ^ suc n) (apart : bit_and v m ≡ 0) where
  apart-halves : bit_and (v / 2) (m / 2) * 2 + min (v % 2) (m % 2) ≡ 0
  apart-halves = sym (and_step v m) ∙ apart

  shorter-here : m % 2 ≡ 1 → Shorter n v m (without v m) (marks-left m)
  unfolding without marks-left low_first kept
  shorter-here e =
      let low = lowest-odd m e in
      let ev : v % 2 ≡ 0 = omega (arith, apart-halves) in
      let av : bit_and v 1 ≡ v % 2 = and_mask v 1 in
      let am : bit_and m 1 ≡ m % 2 = and_mask m 1 in
      let v' : (v + bit_and v (up_to_lowest m)) / 2 ≡ v / 2 = rw low (omega arith) in
      let m' : (m - bit_and m (up_to_lowest m)) / 2 ≡ m / 2 = rw low (omega arith) in
      rw (v', m') (record { keeps = ends e; small = omega arith; marks = omega arith; apart = omega (arith, apart-halves) })
    where
      ends : m % 2 ≡ 1 → kept (low_first n (m / 2)) (low_first n (v / 2)) ≡ kept (low_first (suc n) m) (low_first (suc n) v)
      ends e = rw e refl

  -- the mark is further up: as the halves go, the first bit stays
  shorter-later : m % 2 ≡ 0 → 0 < m → {u q : ℕ} → u ≡ without (v / 2) (m / 2) → q ≡ marks-left (m / 2) → {k : ℕ} → n ≡ suc k → Shorter k (v / 2) (m / 2) u q → Shorter n v m (without v m) (marks-left m)
  unfolding without marks-left
  shorter-later e some {u} {q} eu eq {k} en r =
      let L = up_to_lowest (m / 2) in
      let low = lowest-even m e some in
      let o = lowest-is-odd (m / 2) (omega arith) in
      let half : (L * 2 + 1) / 2 ≡ L = omega arith in
      let one : (L * 2 + 1) % 2 ≡ 1 = omega arith in
      let A = bit_and (v / 2) L in
      let B = bit_and (m / 2) L in
      let av : bit_and v (L * 2 + 1) ≡ A * 2 + v % 2 = and_step v (L * 2 + 1) ∙ rw (half, one) (omega arith) in
      let am : bit_and m (L * 2 + 1) ≡ B * 2 = and_step m (L * 2 + 1) ∙ rw (half, one, e) (omega arith) in
      let A2 : A % 2 ≡ v / 2 % 2 = omega (arith, and_step (v / 2) L, o) in
      let B2 : B % 2 ≡ m / 2 % 2 = omega (arith, and_step (m / 2) L, o) in
      let v' : (v + bit_and v (up_to_lowest m)) / 2 ≡ u * 2 + v % 2 = rw (low, av, eu) (omega arith) in
      let m' : (m - bit_and m (up_to_lowest m)) / 2 ≡ q * 2 = rw (low, am, eq) (omega (arith, and_le_l (m / 2) L)) in
      rw (v', m', en) (longer k v m u q e r)

shorter : (n v m : ℕ) → v < 2 ^ suc n → m < 2 ^ suc n → bit_and v m ≡ 0 → 0 < m → Shorter n v m (without v m) (marks-left m)
shorter zero v m small marks apart some = shorter-here zero v m small marks apart (omega arith)
shorter (suc n) v m small marks apart some = go (λ h k. shorter n (v / 2) (m / 2) (omega arith) (omega arith) h k) (m % 2) refl (omega arith)
  where
    go : (bit_and (v / 2) (m / 2) ≡ 0 → 0 < m / 2 → Shorter n (v / 2) (m / 2) (without (v / 2) (m / 2)) (marks-left (m / 2))) → (x : ℕ) → m % 2 ≡ x → x < 2
        → Shorter (suc n) v m (without v m) (marks-left m)
    go ih zero e l = shorter-later (suc n) v m small marks apart e some refl refl refl (ih (omega (arith, apart-halves (suc n) v m small marks apart)) (omega arith))
    go ih (suc zero) e l = shorter-here (suc n) v m small marks apart e
    go ih (suc (suc x)) e l = absurd (omega arith)

-- ---- one after the other

kept-all : (n x : ℕ) → kept (low_first n 0) (low_first n x) ≡ low_first n x
unfolding kept low_first
kept-all zero x = refl
kept-all (suc n) x = ap (λ (xs : List ℕ). x % 2 ∷ xs) (kept-all n (x / 2))

-- what is left of the bits and of their marks still gives the same
pub record Leaving (v m : ℕ) (s : Marked) : Type 0 where
  pub width : ℕ
  pub sum : width + s.done ≡ 32
  pub goes : kept (low_first width s.marks) (low_first width s.bits) ≡ kept (low_first 32 m) (low_first 32 v)
  pub small : s.bits < 2 ^ width
  pub marks : s.marks < 2 ^ width
  pub apart : bit_and s.bits s.marks ≡ 0

pub leaving-start : {v m : ℕ} → v < 2 ^ 32 → m < 2 ^ 32 → bit_and v m ≡ 0 → Leaving v m (record { bits = v; marks = m; done = 0 })
leaving-start hv hm e = record { width = 32; sum = refl; goes = refl; small = hv; marks = hm; apart = e }

module _ {v m : ℕ} {s : Marked} (l : Leaving v m s) where
  pub leaving-small : (s.bits < 2 ^ 32) × (s.marks < 2 ^ 32) × (s.done ≤ 32)
  leaving-small =
      let p : 2 ^ l.width ≤ 2 ^ 32 = pow_mono {i = l.width} {j = 32} (omega (arith, l.sum)) in
      (lt_of_lt_of_le l.small p, lt_of_lt_of_le l.marks p, omega (arith, l.sum))

  module _ (none : s.marks ≡ 0) where
    bits-stay : (left_out s).bits ≡ s.bits
    unfolding left_out
    bits-stay =
        let a : bit_and s.bits (2 ^ 64 - 1) ≡ s.bits % 2 ^ 64 = and_mask s.bits 64 in
        rw (none, lowest-none) (omega (arith, a, leaving-small.0))

    marks_stay : (left_out s).marks ≡ 0
    unfolding left_out
    marks_stay = rw none (omega arith)

    done-stays : (left_out s).done ≡ s.done
    unfolding left_out
    done-stays = rw (none, lowest-none) (omega arith)

    leaving-same : Leaving v m (left_out s)
    leaving-same = record {
      width = l.width;
      sum = rw done-stays l.sum;
      goes = rw (marks_stay, bits-stay) (rw none at l.goes);
      small = rw bits-stay l.small;
      marks = rw marks_stay (rw none at l.marks);
      apart = rw (marks_stay, bits-stay) (rw none at l.apart);
    }

    pub leaving-end : Leaves v m s
    leaving-end =
        let w : 32 - s.done ≡ l.width = omega (arith, l.sum) in
        record { few = omega (arith, l.sum); are = rw w (sym (kept-all l.width s.bits) ∙ rw none at l.goes); small = rw w l.small }

  module _ (some : 0 < s.marks) where
    pub done_more : (left_out s).done ≡ s.done + 1
    unfolding left_out
    done_more =
        let h = lowest-small 32 s.marks some leaving-small.1 in
        omega arith

    leaving-more : Leaving v m (left_out s)
    unfolding left_out without marks-left
    leaving-more = go l.width refl
      where
        go : (w : ℕ) → l.width ≡ w → Leaving v m (left_out s)
        go zero e = absurd (omega (arith, rw e at l.marks))
        go (suc n) e =
            let r = shorter n s.bits s.marks (rw e at l.small) (rw e at l.marks) l.apart some in
            record { width = n; sum = omega (arith, done_more, l.sum); goes = r.keeps ∙ rw e at l.goes; small = r.small; marks = r.marks; apart = r.apart }

pub leaving-on : {v m : ℕ} {s : Marked} → Leaving v m s → Leaving v m (left_out s)
leaving-on {v} {m} {s} l = go s.marks refl
  where
    go : (x : ℕ) → s.marks ≡ x → Leaving v m (left_out s)
    go zero e = leaving-same l e
    go (suc x) e = leaving-more l (omega arith)
