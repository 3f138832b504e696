-- The key of a slot by the tests of the code, and the slot that a key ends in.
-- Assumes nothing.
use mathlib.Core.Path.{◌≡◌, sym}
use mathlib.Core.Bool.{true, false}
use Prim.Native.Nat.{ℕ, ◌+◌, ◌-◌, ◌*◌, ◌≤◌, ◌<◌}
use borrow.Author.Tests.{lt-ltb, le-ltb}
use Rattle.distance.specs.Distance.{top}
use Rattle.candidates.specs.declared.rounds.Best.{Best}
use Rattle.candidates.specs.Rounds.{key_of}
use Rattle.candidates.specs.Scanning.{key_hits, reused_by}
use Rattle.candidates.proofs.Ranking.{avail-yes, avail-zero, avail-big, key-avail, key-not}

-- the key by the tests of the code: worth 0, below top, top or more
pub key-zero : (w i : ℕ) → w ≡ 0 → 0 ≡ key_of w i
key-zero w i e = sym (key-not w i (avail-zero w e))

pub key-mid : (w i : ℕ) → 0 < w → w < top → w * 512 + (511 - i) ≡ key_of w i
key-mid w i p l = sym (key-avail w i (avail-yes w p l))

pub key-big : (w i : ℕ) → 0 < w → top ≤ w → 0 ≡ key_of w i
key-big w i p l = sym (key-not w i (avail-big w p l))

-- ---- whether a slot is one of the best, by the tests of the code

module _ (f : ℕ) (b : Best) (i : ℕ) where
  pub over-3 : 3 < f → false ≡ reused_by f b i
  unfolding reused_by
  over-3 l = simp (lt-ltb 3 f l)

  module _ (l₃ : f ≤ 3) where
    pub hit-1 : key_hits b.first i ≡ true → true ≡ reused_by f b i
    unfolding reused_by
    hit-1 e = simp (le-ltb 3 f l₃, e)

    module _ (h₁ : key_hits b.first i ≡ false) where
      pub over-2 : 2 < f → false ≡ reused_by f b i
      unfolding reused_by
      over-2 l = simp (le-ltb 3 f l₃, h₁, lt-ltb 2 f l)

      module _ (l₂ : f ≤ 2) where
        pub hit-2 : key_hits b.second i ≡ true → true ≡ reused_by f b i
        unfolding reused_by
        hit-2 e = simp (le-ltb 3 f l₃, h₁, le-ltb 2 f l₂, e)

        module _ (h₂ : key_hits b.second i ≡ false) where
          pub over-1 : 1 < f → false ≡ reused_by f b i
          unfolding reused_by
          over-1 l = simp (le-ltb 3 f l₃, h₁, le-ltb 2 f l₂, h₂, lt-ltb 1 f l)

          module _ (l₁ : f ≤ 1) where
            pub hit-3 : key_hits b.third i ≡ true → true ≡ reused_by f b i
            unfolding reused_by
            hit-3 e = simp (le-ltb 3 f l₃, h₁, le-ltb 2 f l₂, h₂, le-ltb 1 f l₁, e)

            module _ (h₃ : key_hits b.third i ≡ false) where
              pub over-0 : 0 < f → false ≡ reused_by f b i
              unfolding reused_by
              over-0 l = simp (le-ltb 3 f l₃, h₁, le-ltb 2 f l₂, h₂, le-ltb 1 f l₁, h₃, lt-ltb 0 f l)

              pub hit-4 : f ≤ 0 → key_hits b.fourth i ≡ reused_by f b i
              unfolding reused_by
              hit-4 l = simp (le-ltb 3 f l₃, h₁, le-ltb 2 f l₂, h₂, le-ltb 1 f l₁, h₃, le-ltb 0 f l)
