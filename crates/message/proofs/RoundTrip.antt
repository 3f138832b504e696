-- Reading what was written gives the message back, what reading accepts is what writing makes of its message, and what was read has its widths.
-- Assumes nothing.
use mathlib.Core.Path.{◌≡◌, refl, sym, ap, ap₂, subst, ◌∙◌}
use mathlib.Core.Bool.{true}
use mathlib.Core.List.{List, [], ◌∷◌, ◌++◌, append-nil}
use Prim.Native.Nat.{ℕ, zero, suc, ◌+◌, ◌-◌, ◌*◌, ◌/◌, ◌%◌, ◌^◌, ◌≤◌, ◌<◌}
use native.Mathlib.Decide.{ℕ_discrete}
use native.Mathlib.Omega.{arith}
use borrow.Author.Tests.{eqb-true, lt-ltb, le-leb}
use lib.Dec.{eqb}
use lib.IntN.{ℤ}
use lib.ListN.{length, drop}
use lib.Seq.{take_all}
use Rattle.std.specs.Prelude.{Ok}
use Rattle.laws.specs.Tests.{pick, between}
use Rattle.laws.specs.Lists.{over, AllBytes}
use Rattle.laws.proofs.Tests.{between_is}
use Rattle.laws.proofs.Unique.{unique}
use Rattle.limits.specs.Limits.{message_bytes}
use Rattle.bits.specs.Bits.{high_value}
use Rattle.bits.specs.Field.{bits_of, packed, field_of}
use Rattle.bits.specs.Row.{laid, width_of, all_fit, row_at, widths_of}
use Rattle.bits.proofs.Bytes.{length-eights}
use Rattle.bits.proofs.Fields.{length-bits, packed-bits, bits-packed, field_bound}
use Rattle.bits.proofs.Rows.{length-laid, laid-bits, row_laid, laid-row}
use Rattle.numbers.specs.Numbers.{number_given}
use Rattle.message.specs.Signs.{signed_of, unsigned_of}
use Rattle.message.specs.State.{clock_of, sub_of, organised_of, incremental_of, time_out_of, sub_row, organised_row, incremental_row}
use Rattle.message.specs.Message.{id_in, report_of, base_of, organised_message, message_of, read_tests, read_answer, report_row, base_row, row_of, known, write_tests, write_answer, bytes_of, write_out}
use Rattle.message.specs.Promises.{ReadAfterWrite, WriteAfterRead, ReadOnce, WriteOnce}
use Rattle.message.specs.declared.Report.{Report}
use Rattle.message.specs.declared.Base.{Base}
use Rattle.message.specs.declared.Message.{Message}
use Rattle.message.specs.declared.Message.TheVariants.{One, Two, Three, Four, Other}
use Rattle.message.specs.declared.state.SubMessage.{SubMessage}
use Rattle.message.specs.declared.state.SubMessage.TheVariants.{Offset, Time, Slot, Stations}
use Rattle.message.specs.declared.state.SelfOrganised.{SelfOrganised}
use Rattle.message.specs.declared.state.Incremental.{Incremental}
use Rattle.message.proofs.Complement.{unsigned_signed, signed-unsigned}
use Rattle.message.proofs.Readings.{sub-slot, sub-stations, sub_is, read-good}
use Rattle.message.proofs.Exactly.{received-exactly, written-exactly}

-- ---- rows

-- the number of field i in a row
abbrev nth : ℕ → List (ℕ × ℕ) → ℕ
nth i [] = 0
nth zero (f ∷ fs) = f.1
nth (suc i) (f ∷ fs) = nth i fs

-- what stands in bytes fits
row_fits : (ws : List ℕ) (at : ℕ) (l : List ℕ) → all_fit (row_at ws at l) ≡ true
unfolding all_fit row_at
row_fits [] at l = refl
row_fits (w ∷ ws) at l = simp (lt-ltb (field_of l at w) (2 ^ w) (field_bound l at w), row_fits ws (at + w) l)

sub-width : (s : SubMessage) → width_of (sub_row s) ≡ 14
unfolding width_of
sub-width (Offset v) = refl
sub-width (Time c) = refl
sub-width (Slot c) = refl
sub-width (Stations c) = refl

row-width : (m : Message) → known m ≡ true → width_of (row_of m) ≡ 168
unfolding width_of
row-width (One r s) e = omega (arith, sub-width s.sub)
row-width (Two r s) e = omega (arith, sub-width s.sub)
row-width (Three r s) e = refl
row-width (Four b s) e = omega (arith, sub-width s.sub)
row-width Other e = cc

-- ---- the parts of a message, read from the row that stands in the bytes

signed-read : (l : List ℕ) (at w : ℕ) (z : ℤ) → 1 ≤ w → field_of l at w ≡ unsigned_of w z → signed_of w (field_of l at w) ≡ z
signed-read l at w z h e = ap (signed_of w) e ∙ signed-unsigned w z h (subst (λ v. v < 2 ^ w) e (field_bound l at w))

module _ (l : List ℕ) where
  report-read : (id : ℕ) (r : Report) (gs : List (ℕ × ℕ)) → row_at (widths_of (report_row id r ++ gs)) 0 l ≡ report_row id r ++ gs
      → (id_in l ≡ id) × (report_of l ≡ r) × (row_at (widths_of gs) 149 l ≡ gs)
  unfolding row_at widths_of id_in report_of
  report-read id r gs e = (
    ap (nth 0) e,
    λ j. record {
      repeat = ap (nth 1) e j;
      source = ap (nth 2) e j;
      status = ap (nth 3) e j;
      turn = signed-read l 42 8 r.turn (omega arith) (ap (nth 4) e) j;
      speed = ap (nth 5) e j;
      accuracy = ap (nth 6) e j;
      longitude = signed-read l 61 28 r.longitude (omega arith) (ap (nth 7) e) j;
      latitude = signed-read l 89 27 r.latitude (omega arith) (ap (nth 8) e) j;
      course = ap (nth 9) e j;
      heading = ap (nth 10) e j;
      second = ap (nth 11) e j;
      manoeuvre = ap (nth 12) e j;
      spare = ap (nth 13) e j;
      raim = ap (nth 14) e j;
    },
    ap (drop 15) e,
  )

  base_read : (b : Base) (gs : List (ℕ × ℕ)) → row_at (widths_of (base_row b ++ gs)) 0 l ≡ base_row b ++ gs
      → (id_in l ≡ 4) × (base_of l ≡ b) × (row_at (widths_of gs) 149 l ≡ gs)
  unfolding row_at widths_of id_in base_of
  base_read b gs e = (
    ap (nth 0) e,
    λ j. record {
      repeat = ap (nth 1) e j;
      source = ap (nth 2) e j;
      year = ap (nth 3) e j;
      month = ap (nth 4) e j;
      day = ap (nth 5) e j;
      hour = ap (nth 6) e j;
      minute = ap (nth 7) e j;
      second = ap (nth 8) e j;
      accuracy = ap (nth 9) e j;
      longitude = signed-read l 79 28 b.longitude (omega arith) (ap (nth 10) e) j;
      latitude = signed-read l 107 27 b.latitude (omega arith) (ap (nth 11) e) j;
      fix = ap (nth 12) e j;
      control = ap (nth 13) e j;
      spare = ap (nth 14) e j;
      raim = ap (nth 15) e j;
    },
    ap (drop 16) e,
  )

  sub_read : (s : SubMessage) → row_at (widths_of (sub_row s)) 154 l ≡ sub_row s → sub_of l (time_out_of s) ≡ s
  unfolding row_at widths_of sub_of clock_of
  sub_read (Offset v) e = ap Offset (ap (nth 0) e)
  sub_read (Time c) e = ap Time (λ j. record { hour = ap (nth 0) e j; minute = ap (nth 1) e j; unused = ap (nth 2) e j })
  sub_read (Slot c) e =
      let t = 2 + 2 * c.pairs in
      let p : (t - 2) / 2 ≡ c.pairs = omega arith in
      sym (sub-slot t (field_of l 154 14) (clock_of l) (λ z. omega arith) (λ o. omega arith) (omega arith) ∙ sub_is l t)
      ∙ ap Slot (λ j. record { pairs = p j; number = ap (nth 0) e j })
  sub_read (Stations c) e =
      let t = 3 + 2 * c.pairs in
      let p : (t - 3) / 2 ≡ c.pairs = omega arith in
      sym (sub-stations t (field_of l 154 14) (clock_of l) (λ z. omega arith) (λ o. omega arith) (λ m. omega arith) ∙ sub_is l t)
      ∙ ap Stations (λ j. record { pairs = p j; number = ap (nth 0) e j })

  organised-read : (s : SelfOrganised) → row_at (widths_of (organised_row s)) 149 l ≡ organised_row s → organised_of l ≡ s
  unfolding row_at widths_of organised_of
  organised-read s e = λ j. record { sync = ap (nth 0) e j; sub = (ap (sub_of l) (ap (nth 1) e) ∙ sub_read s.sub (ap (drop 2) e)) j }

  incremental-read : (s : Incremental) → row_at (widths_of (incremental_row s)) 149 l ≡ incremental_row s → incremental_of l ≡ s
  unfolding row_at widths_of incremental_of
  incremental-read s e = λ j. record { sync = ap (nth 0) e j; increment = ap (nth 1) e j; code = ap (nth 2) e j; keep = ap (nth 3) e j }

-- ---- and the row that stands in the bytes, from the parts that were read

-- a row is what bytes hold from bit at on, cut into fields of some widths
Stands : List ℕ → ℕ → List (ℕ × ℕ) → Type 0
Stands l at fs = (ws : List ℕ) × (fs ≡ row_at ws at l)

stands-fit : (l : List ℕ) (at : ℕ) (fs : List (ℕ × ℕ)) → Stands l at fs → all_fit fs ≡ true
unfolding Stands
stands-fit l at fs s = ap all_fit s.1 ∙ row_fits s.0 at l

module _ (l : List ℕ) where
  signed-again : (at w : ℕ) → 1 ≤ w → unsigned_of w (signed_of w (field_of l at w)) ≡ field_of l at w
  signed-again at w h = unsigned_signed w (field_of l at w) h (field_bound l at w)

  report-again : (id : ℕ) (gs : List (ℕ × ℕ)) → id_in l ≡ id → Stands l 149 gs → Stands l 0 (report_row id (report_of l) ++ gs)
  unfolding Stands row_at id_in report_of
  report-again id gs e t = (
    6 ∷ 2 ∷ 30 ∷ 4 ∷ 8 ∷ 10 ∷ 1 ∷ 28 ∷ 27 ∷ 12 ∷ 9 ∷ 6 ∷ 2 ∷ 3 ∷ 1 ∷ t.0,
    rw (signed-again 42 8 (omega arith), signed-again 61 28 (omega arith), signed-again 89 27 (omega arith), t.1, e),
  )

  base-again : (gs : List (ℕ × ℕ)) → id_in l ≡ 4 → Stands l 149 gs → Stands l 0 (base_row (base_of l) ++ gs)
  unfolding Stands row_at id_in base_of
  base-again gs e t = (
    6 ∷ 2 ∷ 30 ∷ 14 ∷ 4 ∷ 5 ∷ 5 ∷ 6 ∷ 6 ∷ 1 ∷ 28 ∷ 27 ∷ 4 ∷ 1 ∷ 9 ∷ 1 ∷ t.0,
    rw (signed-again 79 28 (omega arith), signed-again 107 27 (omega arith), t.1, e),
  )

  sub-counted : (t : ℕ) → 2 ≤ t → Dec (t % 2 ≡ 0) → (time_out_of (sub_of l t) ≡ t) × Stands l 154 (sub_row (sub_of l t))
  unfolding Stands row_at
  sub-counted t h (yes m) = rw (← sub-slot t (field_of l 154 14) (clock_of l) (λ z. omega arith) (λ o. omega arith) m ∙ sub_is l t) (omega arith, (14 ∷ [], refl))
  sub-counted t h (no m) = rw (← sub-stations t (field_of l 154 14) (clock_of l) (λ z. omega arith) (λ o. omega arith) m ∙ sub_is l t) (omega arith, (14 ∷ [], refl))

  sub-again : (t : ℕ) → (time_out_of (sub_of l t) ≡ t) × Stands l 154 (sub_row (sub_of l t))
  unfolding Stands row_at sub_of clock_of
  sub-again zero = (refl, (14 ∷ [], refl))
  sub-again (suc zero) = (refl, (5 ∷ 7 ∷ 2 ∷ [], refl))
  sub-again (suc (suc n)) = sub-counted (suc (suc n)) (omega arith) (ℕ_discrete (suc (suc n) % 2) 0)

  organised-again : Stands l 149 (organised_row (organised_of l))
  unfolding Stands row_at organised_of
  organised-again =
      let s = sub-again (field_of l 151 3) in
      (2 ∷ 3 ∷ s.1.0, ap₂ (λ (t : ℕ) (fs : List (ℕ × ℕ)). (2, field_of l 149 2) ∷ (3, t) ∷ fs) s.0 s.1.1)

  incremental-again : Stands l 149 (incremental_row (incremental_of l))
  unfolding Stands row_at incremental_of
  incremental-again = (2 ∷ 13 ∷ 3 ∷ 1 ∷ [], refl)

  -- so each part of what was read has its widths
  pub report-fits : (id : ℕ) → id_in l ≡ id → all_fit (report_row id (report_of l)) ≡ true
  unfolding Stands row_at
  report-fits id e = stands-fit l 0 _ (report-again id [] e ([], refl))

  pub base-fits : id_in l ≡ 4 → all_fit (base_row (base_of l)) ≡ true
  unfolding Stands row_at
  base-fits e = stands-fit l 0 _ (base-again [] e ([], refl))

  pub incremental-fits : all_fit (incremental_row (incremental_of l)) ≡ true
  incremental-fits = stands-fit l 149 _ incremental-again

-- ---- the message of an id

abbrev message_at : List ℕ → ℕ → Message
message_at l id = pick (eqb id 3) (Three (report_of l) (incremental_of l)) (organised_message l id)

-- ---- reading what was written

module _ (m : Message) (k : known m ≡ true) (fit : all_fit (row_of m) ≡ true) where
  written-bits : bits_of (bytes_of m) ≡ laid (row_of m)
  unfolding bytes_of
  written-bits = bits-packed message_bytes (laid (row_of m)) (length-laid (row_of m) ∙ row-width m k) (laid-bits (row_of m))

  written_row : row_at (widths_of (row_of m)) 0 (bytes_of m) ≡ row_of m
  written_row = row_laid (row_of m) (bytes_of m) [] [] 0 refl (written-bits ∙ sym (append-nil (laid (row_of m)))) fit

  -- by the id that stands in the bytes
  read_as : (id : ℕ) → between 1 4 id ≡ true → id_in (bytes_of m) ≡ id → read_answer (bytes_of m) ≡ Ok (message_at (bytes_of m) id)
  unfolding bytes_of packed message_of
  read_as id h e =
      let l = bytes_of m in
      sym (read-good l (length-eights (high_value 0) message_bytes (laid (row_of m))) (subst (λ n. between 1 4 n ≡ true) (sym e) h)) ∙ ap (λ (n : ℕ). Ok (message_at l n)) e

message-back : (m : Message) → known m ≡ true → all_fit (row_of m) ≡ true → read_answer (bytes_of m) ≡ Ok m
unfolding organised_message
message-back (One r s) k fit =
    let t = report-read (bytes_of (One r s)) 1 r (organised_row s) (written_row (One r s) k fit) in
    read_as (One r s) k fit 1 refl t.0 ∙ ap Ok (ap₂ One t.1 (organised-read (bytes_of (One r s)) s t.2))
message-back (Two r s) k fit =
    let t = report-read (bytes_of (Two r s)) 2 r (organised_row s) (written_row (Two r s) k fit) in
    read_as (Two r s) k fit 2 refl t.0 ∙ ap Ok (ap₂ Two t.1 (organised-read (bytes_of (Two r s)) s t.2))
message-back (Three r s) k fit =
    let t = report-read (bytes_of (Three r s)) 3 r (incremental_row s) (written_row (Three r s) k fit) in
    read_as (Three r s) k fit 3 refl t.0 ∙ ap Ok (ap₂ Three t.1 (incremental-read (bytes_of (Three r s)) s t.2))
message-back (Four b s) k fit =
    let t = base_read (bytes_of (Four b s)) b (organised_row s) (written_row (Four b s) k fit) in
    read_as (Four b s) k fit 4 refl t.0 ∙ ap Ok (ap₂ Four t.1 (organised-read (bytes_of (Four b s)) s t.2))
message-back Other k fit = cc

-- ---- writing what was read

message-again : (l : List ℕ) (id : ℕ) → id_in l ≡ id → 1 ≤ id → id ≤ 4 → (known (message_at l id) ≡ true) × Stands l 0 (row_of (message_at l id))
unfolding organised_message
message-again l zero e h k = absurd (omega arith)
message-again l (suc zero) e h k = (refl, report-again l 1 _ e (organised-again l))
message-again l (suc (suc zero)) e h k = (refl, report-again l 2 _ e (organised-again l))
message-again l (suc (suc (suc zero))) e h k = (refl, report-again l 3 _ e (incremental-again l))
message-again l (suc (suc (suc (suc zero)))) e h k = (refl, base-again l _ e (organised-again l))
message-again l (suc (suc (suc (suc (suc n))))) e h k = absurd (omega arith)

bytes-again : (l : List ℕ) (m : Message) → length l ≡ message_bytes → known m ≡ true → Stands l 0 (row_of m) → AllBytes l → bytes_of m ≡ l
unfolding Stands bytes_of
bytes-again l m n k s bytes =
    let w : width_of (row_at s.0 0 l) ≡ 168 = ap width_of (sym s.1) ∙ row-width m k in
    let bits : laid (row_of m) ≡ bits_of l =
    ap laid s.1 ∙ laid-row s.0 0 l (omega arith) ∙ take_all (width_of (row_at s.0 0 l)) (bits_of l) (omega (arith, length-bits l)) in
    ap₂ packed (sym n) bits ∙ packed-bits l bytes

-- what an accepted message says stands in the bytes
stands-again : (l : List ℕ) (m : Message) → read_answer l ≡ Ok m → (length l ≡ message_bytes) × (known m ≡ true) × Stands l 0 (row_of m)
unfolding read_tests message_of
stands-again l m e =
    let t = (received-exactly l).none.0 (ap number_given e) in
    let n = eqb-true (length l) message_bytes t.0 in
    let b = between_is 1 4 (id_in l) t.1 in
    let got = read-good l n t.1 ∙ e in
    let is : message_of l ≡ m = cc in
    let a = rw is at (message-again l (id_in l) refl b.0 b.1) in
    (n, a.0, a.1)

-- ---- the promises

pub read-after-write : ReadAfterWrite
unfolding write_tests
read-after-write m room e =
    let t = (written-exactly m room).none.0 (ap number_given e) in
    message-back m t.1.0 t.1.1

pub write-after-read : WriteAfterRead
unfolding write_answer write_out
write-after-read l m bytes e out h =
    let a = stands-again l m e in
    (simp (le-leb message_bytes (length out) h, a.1, stands-fit l 0 (row_of m) a.2), ap (λ (x : List ℕ). over x out) (sym (bytes-again l m a.0 a.1 a.2 bytes)))

pub read-once : ReadOnce
read-once l r r' h k = h ∙ sym k

pub write-once : WriteOnce
write-once m out r r' o o' h k = unique (λ a. write_out a m out) h k
