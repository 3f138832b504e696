-- A place that becomes our own, as the code does it: whoever held it has lost it, and is held off.
-- Assumes nothing.
use mathlib.Core.Path.{◌≡◌, refl, sym, ap, ◌∙◌}
use mathlib.Core.List.{List}
use Prim.Native.Nat.{ℕ, ◌-◌}
use lib.ListN.{length, get_or, set, length-map, get_or-map}
use lib.Seq.{map-set_same}
use Rattle.laws.proofs.Tests.{by-test}
use Rattle.limits.specs.Limits.{records, hold_off}
use Rattle.ship.specs.declared.Station.{Station}
use Rattle.ship.specs.Ship.{blank}
use Rattle.book.specs.Book.{ours, is_record, put_at, Puts}
use Rattle.register.specs.declared.Turn.{Turn}
use Rattle.register.specs.State.{State, state_of, tallies_in, book_in, with_tally, with_hold, with_counts, tallied, held_off, owned}
use Rattle.register.proofs.Settling.{bare, both-followed, follows, followed-many, followed-held, settle-parts, tallied-bare, tallied-tallies, tallied-field, map-set}

-- two registers that agree in their tallies and in all else are one
same_parts : (a b : List Station) → bare a ≡ bare b → tallies_in a ≡ tallies_in b → a ≡ b
same_parts a b e f = sym (tallied-bare b a e) ∙ ap (tallied b) f ∙ tallied-bare b b refl

-- a hold-off is no tally
held-tallies : (h : ℕ) (reg : List Station) → tallies_in (held_off h reg) ≡ tallies_in reg
unfolding held_off
held-tallies h reg =
    by-test (is_record h)
    (λ e. rw e (map-set_same (λ (r : Station). r.tally) reg (h - 1) (with_hold (get_or reg (h - 1) blank) hold_off) blank refl)) (λ e. rw e)

-- and does not look at one
bare_set : (k : ℕ) (l : List Station)
    → bare (set l k (with_hold (get_or l k blank) hold_off)) ≡ set (bare l) k (with_hold (get_or (bare l) k (with_tally blank 0)) hold_off)
bare_set k l =
    map-set (λ (r : Station). with_tally r 0) l k (with_hold (get_or l k blank) hold_off)
    ∙ ap (λ (r : Station). set (bare l) k (with_hold r hold_off)) (sym (get_or-map (λ (r : Station). with_tally r 0) l k blank))

bare-held : (h : ℕ) (a b : List Station) → bare a ≡ bare b → bare (held_off h a) ≡ bare (held_off h b)
unfolding held_off
bare-held h a b e =
    by-test (is_record h)
    (λ t. rw t (bare_set (h - 1) a ∙ ap (λ (l : List Station). set l (h - 1) (with_hold (get_or l (h - 1) (with_tally blank 0)) hold_off)) e ∙ sym (bare_set (h - 1) b)))
    (λ t. rw t e)

pub owned-is : (s : State) (t : Turn) (at : ℕ) (book' : List ℕ) → length s.reg ≡ records
    → Puts (λ b. put_at b at ours) s.book s.watch.channel.counts t.handing book'
    → t.handing.old ≡ get_or s.book at 0 → t.handing.new ≡ ours
    → owned s at ≡ state_of (both-followed s.reg t) book' (with_counts s.watch t.handing.counts)
unfolding owned
owned-is s t at book' many puts old new =
    let reg' : List Station = both-followed s.reg t in
    let fits : length (tallies_in reg') ≡ length s.reg = length-map reg' (λ (r : Station). r.tally) ∙ followed-many s.reg t many ∙ sym many in
    let written : List Station = tallied s.reg (tallies_in reg') in
    let held : held_off t.handing.old written ≡ reg' =
    same_parts (held_off t.handing.old written) reg'
    (bare-held t.handing.old written s.reg (tallied-field (λ (r : Station). with_tally r 0) (λ r x. refl) s.reg (tallies_in reg'))
    ∙ sym (followed-held s.reg t many new))
    (held-tallies t.handing.old written ∙ tallied-tallies s.reg (tallies_in reg') fits) in
    let is = follows s.reg t many (λ b. put_at b at ours) s.book book' s.watch.channel.counts puts in
    ap (λ (u : State). state_of (held_off (get_or s.book at 0) u.reg) u.book u.watch)
    (settle-parts s (put_at (book_in s) at ours) reg' book' t.handing.counts (followed-many s.reg t many) is)
    ∙ ap (λ (l : List Station). state_of l book' (with_counts s.watch t.handing.counts)) (ap (λ (h : ℕ). held_off h written) (sym old) ∙ held)
