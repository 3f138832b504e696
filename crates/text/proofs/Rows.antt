-- The loop of put_row: the word and the first i numbers stand at the start of out; its start, a turn and its end.
-- Assumes nothing.
use mathlib.Core.Path.{◌≡◌, sym, ap, ◌∙◌}
use mathlib.Core.List.{List, [], ◌∷◌, ◌++◌, append_assoc, append-nil}
use Prim.Native.Nat.{ℕ, ◌+◌, ◌-◌, ◌*◌, ◌≤◌, ◌<◌}
use native.Mathlib.Numerals.{add-one}
use native.Mathlib.Omega.{arith}
use borrow.Rule.Slice.PartMut.{put_mid}
use lib.ListN.{length, get_or, take, drop, length-append, length-take}
use lib.Seq.{take-suc, take_all}
use Rattle.laws.specs.Lists.{over}
use Rattle.limits.specs.Limits.{most_digits, number_room}
use Rattle.text.specs.Text.{decimal, spaced, spaced_all, row, Stands}
use Rattle.text.proofs.Digits.{short}
use Rattle.text.proofs.Parts.{reads, long as still-long, behind}

-- a space and at most 20 digits
pub number_short : (n : ℕ) {at : ℕ} → at ≡ length (spaced (decimal n)) → at ≤ number_room
number_short n e = omega (arith, e, short most_digits n)

numbers-short : (ns : List ℕ) → length (spaced_all ns) ≤ number_room * length ns
unfolding spaced_all
numbers-short [] = omega arith
numbers-short (n ∷ ns) = omega (arith, length-append (spaced (decimal n)) (spaced_all ns), short most_digits n, numbers-short ns)

pub row-short : (word ns : List ℕ) → length (row word ns) ≤ length word + number_room * length ns
unfolding row
row-short word ns = omega (arith, length-append word (spaced_all ns), numbers-short ns)

-- one number more
numbers_more : (ns : List ℕ) (n : ℕ) → spaced_all (ns ++ (n ∷ [])) ≡ spaced_all ns ++ spaced (decimal n)
unfolding spaced_all
numbers_more [] n = append-nil (spaced (decimal n))
numbers_more (m ∷ ns) n = ap (spaced (decimal m) ++◌) (numbers_more ns n) ∙ sym (append_assoc (spaced (decimal m)) (spaced_all ns) (spaced (decimal n)))

row_more : (word ns : List ℕ) (i : ℕ) → i < length ns → row word (take i ns) ++ spaced (decimal (get_or ns i 0)) ≡ row word (take (i + 1) ns)
unfolding row
row_more word ns i h =
    append_assoc word (spaced_all (take i ns)) (spaced (decimal (get_or ns i 0)))
    ∙ ap (word ++◌) (sym (numbers_more (take i ns) (get_or ns i 0)) ∙ ap spaced_all (sym (rw add-one (take-suc ns i 0 h))))

-- after i numbers
pub record Written (word ns out : List ℕ) (i : ℕ) (out' : List ℕ) (at : ℕ) : Type 0 where
  pub room : length word + number_room * length ns ≤ length out
  pub most : i ≤ length ns
  pub stands : Stands (row word (take i ns)) out out' at

pub start : (word ns out ys : List ℕ) → length word + number_room * length ns ≤ length out → ys ≡ word → Written word ns out 0 (ys ++ drop (length word) out) (length word)
unfolding row spaced_all over
start word ns out ys h e =
    record {
      room = h;
      most = omega arith;
      stands = (ap length (sym (append-nil word)), ap (◌++ drop (length word) out) e ∙ ap (λ (l : List ℕ). l ++ drop (length l) out) (sym (append-nil word)));
    }

module _ {word ns out : List ℕ} {i : ℕ} {out' : List ℕ} {at : ℕ} (w : Written word ns out i out' at) where
  so_far : length (row word (take i ns)) + number_room * (length ns - i) ≤ length out
  so_far = omega (arith, w.room, w.most, row-short word (take i ns), length-take i ns)

  -- there is room for the numbers to come
  fits : at + number_room * (length ns - i) ≤ length out
  fits = omega (arith, so_far, w.stands.0)

  long : length out' ≡ length out
  long = still-long (row word (take i ns)) out out' at w.stands (omega (arith, so_far))

  -- for one more
  pub room_for : i < length ns → at + number_room ≤ length out'
  room_for h = omega (arith, fits, long)

  pub turn : (n : ℕ) (ys : List ℕ) → i < length ns
      → (n ≡ length (spaced (decimal (get_or ns i 0)))) × (ys ≡ over (spaced (decimal (get_or ns i 0))) (take (length out' - at) (drop at out')))
      → Written word ns out (i + 1) (put_mid at (length out' - at) out' ys) (at + n)
  turn n ys h e =
      record {
        room = w.room;
        most = omega arith;
        stands = reads out _ _ (row_more word ns i h) (behind (row word (take i ns)) out out' at w.stands (spaced (decimal (get_or ns i 0))) ys n e);
      }

pub end : (word ns out out' : List ℕ) (i at : ℕ) → length ns ≤ i → Written word ns out i out' at → Stands (row word ns) out out' at
end word ns out out' i at h w = reads out out' at (ap (row word) (take_all i ns h)) w.stands
