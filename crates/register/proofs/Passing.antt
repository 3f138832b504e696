-- Slots that pass: n slots, and then the hold-offs n less, are n times one slot.
--     slid-is      one slot, as the code does it.        passes-slid      n of them
-- Assumes nothing.
use mathlib.Core.Path.{◌≡◌, refl, sym, ap, ◌∙◌}
use mathlib.Core.List.{List, [], ◌∷◌, map, map-map, map-id, map_congr_left}
use Prim.Native.Nat.{ℕ, zero, suc, ◌+◌, ◌-◌, ◌%◌}
use native.Mathlib.Omega.{arith}
use lib.ListN.{length}
use Rattle.laws.specs.Loops.{upto}
use Rattle.limits.specs.Limits.{slot_times, records}
use Rattle.ship.specs.declared.Station.{Station}
use Rattle.book.specs.declared.Counts.{Counts}
use Rattle.book.specs.declared.Watch.{Watch}
use Rattle.book.specs.Book.{Book, book_of, counts_of, tallies_of, put_at, Puts}
use Rattle.register.specs.declared.Turn.{Turn}
use Rattle.register.specs.State.{State, state_of, book_in, with_tally, with_hold, with_counts, tallied, settle, moved_on, aged, passed, passes}
use Rattle.register.specs.Register.{slid_one, slid}
use Rattle.register.proofs.Settling.{both-followed, follows, followed-many, followed-bare, settle_is}

-- ---- one slot

abbrev pub moved_to : Watch → ℕ → Counts → Watch
moved_to w p c = record { present = p; channel = record { counts = c; plan = w.channel.plan }; ship = w.ship }

pub slid-is : (s : State) (t : Turn) (book' : List ℕ) → length s.reg ≡ records
    → Puts (λ b. put_at b (s.watch.present % slot_times) 0) s.book s.watch.channel.counts t.handing book' → t.handing.new ≡ 0
    → slid_one s ≡ state_of (both-followed s.reg t) book' (moved_to s.watch ((s.watch.present % slot_times + 1) % slot_times) t.handing.counts)
unfolding slid_one
slid-is s t book' many puts nobody =
    ap moved_on (settle_is s _ (both-followed s.reg t) book' t.handing.counts (followed-many s.reg t many)
    (followed-bare s.reg t many (λ e. omega (arith, nobody, e)))
    (follows s.reg t many (λ b. put_at b (s.watch.present % slot_times) 0) s.book book' s.watch.channel.counts puts))

-- ---- hold-offs that fall first or last

older : ℕ → Station → Station
older n r = with_hold r (r.hold - n)

aged-book : (n : ℕ) (s : State) → book_in (aged n s) ≡ book_in s
unfolding older
aged-book n s = ap (λ (ts : List ℕ). book_of s.book ts s.watch.channel.counts) (map-map (λ (r : Station). r.tally) (older n) s.reg)

aged-tallied : (n : ℕ) (reg : List Station) (ts : List ℕ) → tallied (map (older n) reg) ts ≡ map (older n) (tallied reg ts)
unfolding tallied older
aged-tallied n [] ts = refl
aged-tallied n (r ∷ reg) [] = refl
aged-tallied n (r ∷ reg) (t ∷ ts) = ap (λ (l : List Station). with_hold (with_tally r t) (r.hold - n) ∷ l) (aged-tallied n reg ts)

aged-settle : (n : ℕ) (b : Book) (s : State) → settle b (aged n s) ≡ aged n (settle b s)
unfolding settle older
aged-settle n b s = ap (λ (l : List Station). state_of l b.slots (with_counts s.watch (counts_of b))) (aged-tallied n s.reg (tallies_of b))

aged-more : (n : ℕ) (s : State) → aged 1 (aged n s) ≡ aged (suc n) s
unfolding older
aged-more n s =
    ap (λ (l : List Station). state_of l s.book s.watch)
    (map-map (older 1) (older n) s.reg
    ∙ map_congr_left {l = s.reg} (λ r m. let less : r.hold - n - 1 ≡ r.hold - suc n = omega arith in ap (with_hold r) less))

passed-aged : (n : ℕ) (s : State) → passed (aged n s) ≡ aged (suc n) (slid_one s)
unfolding passed slid_one
passed-aged n s =
    let at = s.watch.present % slot_times in
    ap (λ (b : Book). aged 1 (moved_on (settle (put_at b at 0) (aged n s)))) (aged-book n s)
    ∙ ap (λ (x : State). aged 1 (moved_on x)) (aged-settle n (put_at (book_in s) at 0) s)
    ∙ aged-more n (moved_on (settle (put_at (book_in s) at 0) s))

aged-none : (s : State) → s ≡ aged 0 s
unfolding older
aged-none s =
    ap (λ (l : List Station). state_of l s.book s.watch)
    (sym (map_congr_left {f = older 0} {l = s.reg} (λ r m. let same : r.hold - 0 ≡ r.hold = omega arith in ap (with_hold r) same) ∙ map-id s.reg))

pub passes-slid : (s : State) (n : ℕ) → passes s n ≡ aged n (slid s n)
unfolding upto
passes-slid s zero = aged-none s
passes-slid s (suc n) = ap passed (passes-slid s n) ∙ passed-aged n (slid s n)
