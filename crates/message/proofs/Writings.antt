-- Rows that are tested and laid part by part, and which answer the tests on the way lead to, where a message is written.
-- Assumes nothing.
use mathlib.Core.Path.{◌≡◌, refl, sym, ap, ap₂, ◌∙◌}
use mathlib.Core.Bool.{Bool, true, false, ◌&&◌}
use mathlib.Core.List.{List, [], ◌∷◌, ◌++◌, append-nil, append_assoc}
use Prim.Native.Nat.{ℕ, ◌+◌, ◌*◌, ◌%◌, ◌≤◌, ◌<◌}
use native.Mathlib.Omega.{arith}
use borrow.Author.Tests.{le-leb, lt-leb}
use lib.Dec.{T, leb, ltb, lit≤, lit<}
use lib.ListN.{length, take, get_or}
use Rattle.std.specs.Prelude.{Option, Some, None, Ok, Err}
use Rattle.laws.specs.Tests.{both}
use Rattle.laws.specs.Lists.{over}
use Rattle.laws.proofs.Tests.{both_yes}
use Rattle.laws.proofs.Lists.{all-bytes}
use Rattle.limits.specs.Limits.{message_bytes}
use Rattle.numbers.specs.declared.Refusal.TheVariants.{NoRoom, UnknownId, TooWide}
use Rattle.bits.specs.Bits.{high_first}
use Rattle.bits.specs.Field.{packed}
use Rattle.bits.specs.Row.{laid, width_of, all_fit, lay_over, four_row, one_of}
use Rattle.bits.proofs.Rows.{laid-append, width-append, fit_append, fit-both, lay-next, lay-whole, one-fit, one-laid}
use Rattle.bits.specs.declared.row.Four.{Four}
use Rattle.message.specs.State.{time_out_of, sub_row, organised_row, incremental_row}
use Rattle.message.specs.Message.{report_row, base_row, row_of, known, write_answer}
use Rattle.message.specs.Sheet.{
  clock_four,
  value_of,
  organised_four,
  organised_value,
  incremental_four,
  incremental_value,
  widths,
  report_layout,
  base_layout,
  after,
  Lies,
  Whole,
  last_four,
  sheet_of,
  row,
  fields_in,
  fields_of,
}
use Rattle.message.specs.declared.Base.{Base}
use Rattle.message.specs.declared.state.SubMessage.{SubMessage}
use Rattle.message.specs.declared.state.SubMessage.TheVariants.{Offset, Time, Slot, Stations}
use Rattle.message.specs.declared.state.SelfOrganised.{SelfOrganised}
use Rattle.message.specs.declared.state.Incremental.{Incremental}
use Rattle.message.specs.declared.layout.Layout.{Layout}
use Rattle.message.specs.declared.layout.Rows.{Rows}
use Rattle.message.specs.declared.writing.Sheet.{Sheet}
use Rattle.message.specs.declared.Message.{Message}
use Rattle.message.specs.declared.Message.TheVariants.{One, Two, Three, Four as Station, Other}

-- ---- two rows, one after the other

module _ (fs gs : List (ℕ × ℕ)) where
  pub fit-two : {t u : Bool} → t ≡ all_fit fs → u ≡ all_fit gs → both t u ≡ all_fit (fs ++ gs)
  fit-two e f = ap₂ both e f ∙ sym (fit_append fs gs)

  lay-more : (l : List ℕ) {l₁ l₂ : List ℕ} {i : ℕ} → width_of fs ≡ i → i + width_of gs ≤ 8 * length l → l₁ ≡ lay_over l 0 fs → l₂ ≡ lay_over l₁ i gs → l₂ ≡ lay_over l 0 (fs ++ gs)
  lay-more l {i = i} w h e f =
      let k : i ≡ 0 + width_of fs = omega arith in
      f ∙ ap₂ (λ (x : List ℕ) (k : ℕ). lay_over x k gs) e k ∙ lay-next l 0 fs gs (omega arith)

-- a field of width 0 says nothing
nothing-fit : (fs : List (ℕ × ℕ)) → all_fit (fs ++ ((0, 0) ∷ [])) ≡ all_fit fs
unfolding all_fit
nothing-fit fs = fit_append fs ((0, 0) ∷ []) ∙ both_yes (all_fit fs)

nothing-laid : (fs : List (ℕ × ℕ)) → laid (fs ++ ((0, 0) ∷ [])) ≡ laid fs
unfolding laid high_first
nothing-laid fs = laid-append fs ((0, 0) ∷ []) ∙ append-nil (laid fs)

-- ---- four rows, as the code tests and lays them

and-both : (t u : Bool) → t && u ≡ both t u
and-both true u = refl
and-both false u = refl

four-width : (f : Four) (a b c d : ℕ) → width_of (four_row f a b c d) ≡ a + b + c + d
unfolding width_of
four-width f a b c d = omega arith

module _ (a b c d : List (ℕ × ℕ)) where
  pub fit_all : {t u v w : Bool} → t ≡ all_fit a → u ≡ all_fit b → v ≡ all_fit c → w ≡ all_fit d → (t && u) && (v && w) ≡ all_fit (a ++ b ++ c ++ d)
  fit_all {t} {u} {v} {w} e f g h =
      and-both (t && u) (v && w) ∙ fit-two (a ++ b) (c ++ d) (and-both t u ∙ fit-two a b e f) (and-both v w ∙ fit-two c d g h)
      ∙ ap all_fit (sym (append_assoc (a ++ b) c d))

  each : all_fit (a ++ b ++ c ++ d) ≡ true → (all_fit a ≡ true) × (all_fit b ≡ true) × (all_fit c ≡ true) × (all_fit d ≡ true)
  each e =
      let f = fit-both (a ++ b ++ c) d e in
      let g = fit-both (a ++ b) c f.0 in
      let h = fit-both a b g.0 in
      (h.0, h.1, g.1, f.1)

  wide : width_of (a ++ b ++ c ++ d) ≡ width_of a + width_of b + width_of c + width_of d
  wide = omega (arith, width-append (a ++ b ++ c) d, width-append (a ++ b) c, width-append a b)

  lays : (l : List ℕ) {l₁ l₂ l₃ l₄ : List ℕ} {i j k : ℕ} → width_of a + width_of b + width_of c + width_of d ≤ 8 * length l
      → i ≡ width_of a → j ≡ i + width_of b → k ≡ j + width_of c
      → l₁ ≡ lay_over l 0 a → l₂ ≡ lay_over l₁ i b → l₃ ≡ lay_over l₂ j c → l₄ ≡ lay_over l₃ k d → l₄ ≡ lay_over l 0 (a ++ b ++ c ++ d)
  lays l {i = i} {j = j} {k = k} room at-b at-c at-d e f g h =
      let two : width_of (a ++ b) ≡ j = omega (arith, width-append a b) in
      let three : width_of (a ++ b ++ c) ≡ k = omega (arith, width-append (a ++ b) c) in
      lay-more (a ++ b ++ c) d l three (omega arith) (lay-more (a ++ b) c l two (omega arith) (lay-more a b l (sym at-b) (omega arith) e f) g) h

pub rows-fit : (y : Layout) (x : Rows) → all_fit (fields_in y x) ≡ true
    → (all_fit (row x.a y.a) ≡ true) × (all_fit (row x.b y.b) ≡ true) × (all_fit (row x.c y.c) ≡ true) × (all_fit (row x.d y.d) ≡ true)
rows-fit y x e = each (row x.a y.a) (row x.b y.b) (row x.c y.c) (row x.d y.d) e

-- the rows of a whole message, one after the other
pub laid-whole : (y : Layout) (x : Rows) → Whole y → (l : List ℕ) {l₁ l₂ l₃ l₄ : List ℕ} {i j k : ℕ} → ((n : ℕ) → get_or l n 0 < 256) → message_bytes ≤ length l
    → i ≡ after 0 y.a → j ≡ i + after 0 y.b → k ≡ j + after 0 y.c
    → l₁ ≡ lay_over l 0 (row x.a y.a) → l₂ ≡ lay_over l₁ i (row x.b y.b) → l₃ ≡ lay_over l₂ j (row x.c y.c) → l₄ ≡ lay_over l₃ k (row x.d y.d)
    → l₄ ≡ over (packed message_bytes (laid (fields_in y x))) l
laid-whole y x w l bytes room at-b at-c at-d e f g h =
    let a = four-width x.a y.a.0 y.a.1 y.a.2 y.a.3 in
    let b = four-width x.b y.b.0 y.b.1 y.b.2 y.b.3 in
    let c = four-width x.c y.c.0 y.c.1 y.c.2 y.c.3 in
    let d = four-width x.d y.d.0 y.d.1 y.d.2 y.d.3 in
    lays (row x.a y.a) (row x.b y.b) (row x.c y.c) (row x.d y.d) l (omega (arith, w.all)) (omega arith) (omega arith) (omega arith) e f g h
    ∙ lay-whole l message_bytes (fields_in y x) (all-bytes l bytes) (wide (row x.a y.a) (row x.b y.b) (row x.c y.c) (row x.d y.d) ∙ omega (arith, w.all)) room

-- ---- rows that say the same

-- rows that fit where these fields do, and then lay the same bits
abbrev Lay : List (ℕ × ℕ) → List (ℕ × ℕ) → Type 0
Lay fs gs = (all_fit fs ≡ all_fit gs) × (all_fit gs ≡ true → laid fs ≡ laid gs)

lay-both : (fs gs fs' gs' : List (ℕ × ℕ)) → Lay fs fs' → Lay gs gs' → Lay (fs ++ gs) (fs' ++ gs')
lay-both fs gs fs' gs' (a, b) (c, d) = (
  fit_append fs gs ∙ ap₂ both a c ∙ sym (fit_append fs' gs'),
  λ e. let h = fit-both fs' gs' e in laid-append fs gs ∙ ap₂ ◌++◌ (b h.0) (d h.1) ∙ sym (laid-append fs' gs'),
)

lay-same : (fs : List (ℕ × ℕ)) → Lay fs fs
lay-same fs = (refl, λ _. refl)

lay-through : (fs gs hs : List (ℕ × ℕ)) → Lay fs gs → Lay gs hs → Lay fs hs
lay-through fs gs hs (a, b) (c, d) = (a ∙ c, λ e. b (c ∙ e) ∙ d e)

nothing-lays : (fs : List (ℕ × ℕ)) → Lay (fs ++ ((0, 0) ∷ [])) fs
nothing-lays fs = (nothing-fit fs, λ _. nothing-laid fs)

-- four numbers as one field
one-lays : (f : Four) (a b c d : ℕ) → Lay ((a + b + c + d, one_of f a b c d) ∷ []) (four_row f a b c d)
one-lays f a b c d = (one-fit f a b c d, one-laid f a b c d)

-- ---- the state as one number

value-lays : (u : SubMessage) → Lay ((14, value_of u) ∷ []) (sub_row u)
value-lays (Offset v) = lay-same _
value-lays (Time c) = lay-through _ (four_row (clock_four c) 5 7 2 0) _ (one-lays (clock_four c) 5 7 2 0) (nothing-lays (sub_row (Time c)))
value-lays (Slot c) = lay-same _
value-lays (Stations c) = lay-same _

front : SelfOrganised → List (ℕ × ℕ)
front s = (2, s.sync) ∷ (3, time_out_of s.sub) ∷ []

organised-lays : (s : SelfOrganised) → Lay ((19, organised_value s) ∷ []) (organised_row s)
unfolding front
organised-lays s =
    lay-through _ (four_row (organised_four s) 2 3 14 0) _ (one-lays (organised_four s) 2 3 14 0)
    (lay-through _ (front s ++ ((14, value_of s.sub) ∷ [])) _ (nothing-lays (front s ++ ((14, value_of s.sub) ∷ []))) (lay-both (front s) _ (front s) _ (lay-same (front s)) (value-lays s.sub)))

incremental-lays : (s : Incremental) → Lay ((19, incremental_value s) ∷ []) (incremental_row s)
incremental-lays s = one-lays (incremental_four s) 2 13 3 1

-- in message 4 the flag is one number with it
last-lays : (b : Base) (state : ℕ) → Lay ((20, one_of (last_four b state) 1 19 0 0) ∷ []) ((1, b.raim) ∷ (19, state) ∷ [])
last-lays b state =
    lay-through _ (four_row (last_four b state) 1 19 0 0) _ (one-lays (last_four b state) 1 19 0 0)
    (lay-through _ ((1, b.raim) ∷ (19, state) ∷ (0, 0) ∷ []) _ (nothing-lays ((1, b.raim) ∷ (19, state) ∷ (0, 0) ∷ [])) (nothing-lays ((1, b.raim) ∷ (19, state) ∷ [])))

-- ---- the rows of a message are its fields

lies : (at a b c d : ℕ) → T (leb 1 a) → T (leb 1 b) → T (leb 1 c) → T (leb 1 d) → T (leb a 32) → T (leb b 32) → T (leb c 32) → T (leb d 32)
    → T (ltb (0 + a + b + c + d) 64) → T (leb (at % 8 + (0 + a + b + c + d)) 64) → Lies at (widths a b c d)
lies at a b c d e f g h i j k l few window =
    record {
      readable =
          record { some-a = lit≤ e; some-b = lit≤ f; some-c = lit≤ g; some-d = lit≤ h; few-a = lit≤ i; few-b = lit≤ j; few-c = lit≤ k; few-d = lit≤ l };
      few = lit< few;
      window = lit≤ window;
    }

pub report-whole : Whole report_layout
report-whole =
    record {
      a = lies 0 6 2 30 4 tt tt tt tt tt tt tt tt tt tt;
      b = lies 42 8 10 1 28 tt tt tt tt tt tt tt tt tt tt;
      c = lies 89 27 12 9 6 tt tt tt tt tt tt tt tt tt tt;
      d = lies 143 2 3 1 19 tt tt tt tt tt tt tt tt tt tt;
      all = refl;
    }

pub base-whole : Whole base_layout
base-whole =
    record {
      a = lies 0 6 2 30 14 tt tt tt tt tt tt tt tt tt tt;
      b = lies 52 4 5 5 6 tt tt tt tt tt tt tt tt tt tt;
      c = lies 72 6 1 28 27 tt tt tt tt tt tt tt tt tt tt;
      d = lies 134 4 1 9 20 tt tt tt tt tt tt tt tt tt tt;
      all = refl;
    }

abbrev before_raim : Base → List (ℕ × ℕ)
before_raim b = take 15 (base_row b)

abbrev pub Says : Message → Option Sheet → Type 0
Says m (Some x) = (known m ≡ true) × Lay (fields_of x) (row_of m)
Says m None = known m ≡ false

pub says : (m : Message) → Says m (sheet_of m)
unfolding sheet_of
says (One r s) = (refl, lay-both (report_row 1 r) _ (report_row 1 r) _ (lay-same _) (organised-lays s))
says (Two r s) = (refl, lay-both (report_row 2 r) _ (report_row 2 r) _ (lay-same _) (organised-lays s))
says (Three r s) = (refl, lay-both (report_row 3 r) _ (report_row 3 r) _ (lay-same _) (incremental-lays s))
says (Station b s) =
    let raim = (1, b.raim) ∷ [] in
    (refl, lay-both (before_raim b) _ (before_raim b) _ (lay-same _) (lay-through _ (raim ++ ((19, organised_value s) ∷ [])) _ (last-lays b (organised_value s)) (lay-both raim _ raim _ (lay-same _) (organised-lays s))))
says Other = refl

-- ---- writing

pub write-room : (m : Message) (room : ℕ) → room < message_bytes → Err NoRoom ≡ write_answer m room
unfolding write_answer
write-room m room h = simp (lt-leb message_bytes room h)

module _ (m : Message) (room : ℕ) (h : message_bytes ≤ room) where
  pub write-unknown : known m ≡ false → Err UnknownId ≡ write_answer m room
  unfolding write_answer
  write-unknown e = simp (le-leb message_bytes room h, e)

  module _ (k : known m ≡ true) where
    pub write-wide : all_fit (row_of m) ≡ false → Err TooWide ≡ write_answer m room
    unfolding write_answer
    write-wide e = simp (le-leb message_bytes room h, k, e)

    pub write-good : all_fit (row_of m) ≡ true → Ok tt ≡ write_answer m room
    unfolding write_answer
    write-good e = simp (le-leb message_bytes room h, k, e)
