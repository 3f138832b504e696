-- Texts written into a buffer one behind the other.
-- Assumes nothing.
use mathlib.Core.Path.{◌≡◌, refl, sym, ap, ◌∙◌}
use mathlib.Core.List.{List, [], ◌∷◌, ◌++◌, append_assoc, append-nil}
use Prim.Native.Nat.{ℕ, suc, ◌+◌, ◌-◌, ◌≤◌, ◌<◌}
use native.Mathlib.Numerals.{add-one}
use native.Mathlib.Omega.{arith}
use borrow.Rule.Slice.PartMut.{put_mid}
use lib.ListN.{length, take, drop, set, length-append, length-drop, drop_of_length-le, take-append-drop}
use lib.Seq.{drop-drop, take_at, drop_at, set_split}
use Rattle.laws.specs.Lists.{over}
use Rattle.text.specs.Text.{Stands}

pub length_over : (xs out : List ℕ) → length xs ≤ length out → length (over xs out) ≡ length out
unfolding over
length_over xs out h = omega (arith, length-append xs (drop (length xs) out), length-drop (length xs) out)

-- a part that is all of the rest
none_after : (rest : List ℕ) (k : ℕ) → k ≡ length rest → drop k rest ≡ []
none_after rest k e = drop_of_length-le rest {i = k} (omega arith)

pub whole : (rest : List ℕ) (k : ℕ) → k ≡ length rest → take k rest ≡ rest
whole rest k e = sym (append-nil (take k rest)) ∙ ap (take k rest ++◌) (sym (none_after rest k e)) ∙ take-append-drop k rest

part-over : (text rest ys : List ℕ) (k : ℕ) → k ≡ length rest → ys ≡ over text (take k rest) → ys ++ drop k rest ≡ over text rest
part-over text rest ys k e h = ap (ys ++◌) (none_after rest k e) ∙ append-nil ys ∙ h ∙ ap (over text) (whole rest k e)

-- behind one byte
pub after_one : (a : ℕ) (out text ys : List ℕ) → suc (length text) ≤ length out → ys ≡ text
    → put_mid 1 (1 + length text - 1) (set out 0 a) ys ≡ over (a ∷ text) out
unfolding over
after_one a [] text ys h e = absurd (omega arith)
after_one a (x ∷ out) text ys h e = ap (a ∷◌) (ap (◌++ drop (1 + length text - 1) out) e ∙ ap (λ (k : ℕ). text ++ drop k out) (omega arith))

-- ---- text after text

pub none : (out : List ℕ) → Stands [] out out 0
unfolding over
none out = (refl, refl)

pub reads : {xs xs' : List ℕ} (out out' : List ℕ) (at : ℕ) → xs ≡ xs' → Stands xs out out' at → Stands xs' out out' at
reads out out' at e s = (s.0 ∙ ap length e, s.1 ∙ ap (λ (l : List ℕ). over l out) e)

over-both : (xs text out : List ℕ) → xs ++ over text (drop (length xs) out) ≡ over (xs ++ text) out
unfolding over
over-both xs text out =
    ap (λ (l : List ℕ). xs ++ (text ++ l)) (drop-drop (length text) (length xs) out ∙ ap (λ (k : ℕ). drop k out) (sym (length-append xs text)))
    ∙ sym (append_assoc xs text (drop (length (xs ++ text)) out))

module _ (xs out out' : List ℕ) (at : ℕ) (s : Stands xs out out' at) where
  pub long : length xs ≤ length out → length out' ≡ length out
  long h = ap length s.1 ∙ length_over xs out h

  pub room : (k : ℕ) → length xs + k ≤ length out → at + k ≤ length out'
  room k h = omega (arith, s.0, long (omega arith))

  front : take at out' ≡ xs
  unfolding over
  front = ap (take at) s.1 ∙ take_at xs (drop (length xs) out) at (sym s.0)

  back : drop at out' ≡ drop (length xs) out
  unfolding over
  back = ap (drop at) s.1 ∙ drop_at xs (drop (length xs) out) at (sym s.0)

  -- another text behind it
  pub behind : (text ys : List ℕ) (n : ℕ) → (n ≡ length text) × (ys ≡ over text (take (length out' - at) (drop at out')))
      → Stands (xs ++ text) out (put_mid at (length out' - at) out' ys) (at + n)
  behind text ys n e = (
    omega (arith, s.0, e.0, length-append xs text),
    ap (take at out' ++◌) (part-over text (drop at out') ys (length out' - at) (sym (length-drop at out')) e.1 ∙ ap (over text) back)
        ∙ ap (◌++ over text (drop (length xs) out)) front
        ∙ over-both xs text out,
  )

  -- a byte behind it
  pub ended : (b : ℕ) → length xs < length out → Stands (xs ++ (b ∷ [])) out (set out' at b) (at + 1)
  unfolding over
  ended b h = (
    omega (arith, s.0, length-append xs (b ∷ [])),
    set_split out' at b (omega (arith, room 1 (omega arith)))
        ∙ ap (λ (l : List ℕ). l ++ b ∷ drop (suc at) out') front
        ∙ ap (λ (l : List ℕ). xs ++ b ∷ l) (sym (drop-drop 1 at out' ∙ ap (λ (k : ℕ). drop k out') (add-one at)))
        ∙ ap (λ (l : List ℕ). xs ++ b ∷ drop 1 l) back
        ∙ over-both xs (b ∷ []) out,
  )
