-- A run of a log is the row of calls that its bytes ask for, and its last line is the sum of the book that it leaves.
-- Assumes nothing.
use Prim.Native.Nat.{ℕ, zero, suc, ◌+◌, ◌≤◌}
use mathlib.Core.Path.{◌≡◌, refl, sym, ap, ap₂, subst, ◌∙◌}
use mathlib.Core.Bool.{Bool, true, false}
use mathlib.Core.List.{List, [], ◌∷◌, ◌++◌, append_assoc}
use native.Mathlib.Nat.{le_refl}
use native.Mathlib.Omega.{arith}
use borrow.Author.Tests.{eq-eqb}
use lib.Dec.{eqb}
use lib.ListN.{length, drop, length-drop, length-map}
use Rattle.std.specs.Prelude.{Some}
use Rattle.std.proofs.lemmas.Option.{same_Some}
use Rattle.laws.specs.Counting.{count, sum as total}
use Rattle.laws.specs.Loops.{upto}
use Rattle.laws.specs.Tests.{pick}
use Rattle.laws.proofs.Tests.{pick_is}
use Rattle.limits.specs.Limits.{slot_times, records}
use Rattle.numbers.specs.declared.Refusal.TheVariants.{OtherLength, CutRecord, UnknownRecord}
use Rattle.book.specs.declared.Counts.{Counts}
use Rattle.book.specs.Book.{ours, counts_of}
use Rattle.book.proofs.Once.{counts-back}
use Rattle.register.specs.declared.Answer.TheVariants.{Begun, Sum as Summed}
use Rattle.register.specs.State.{State, state_of, new_state, tallies_in}
use Rattle.register.specs.Answers.{Answered, answered, no, out_of, sized}
use Rattle.calls.specs.declared.What.TheVariants.{New, Sum}
use Rattle.calls.specs.Calls.{begin, sum, called}
use Rattle.logrecords.specs.LogRecords.{word_at, short_by}
use Rattle.logrecords.specs.Pieces.{ends_inside, is_record}
use Rattle.logrecords.proofs.Pieces.{event_in, piece_by, by_bytes}
use Rattle.lines.specs.Lines.{line, sum_word, refused_line, sum_line, done_line, line_by, line_of}
use Rattle.journal.specs.declared.Next.{Next}
use Rattle.journal.specs.Journal.{Run, start_of, one, refusal, the_sum, waiting, called_by, called_in, ran, next_whole, whole_run}
use Rattle.journal.specs.Promises.{joined}
use Rattle.journal.proofs.Pieces.{last_found}
use Rattle.journal.proofs.Runs.{run_none, run_on, by-calls, whole-next, whole-over, whole-shrinks}
use Rattle.journal.proofs.Promised.{however-cut}
use Rattle.promises.specs.Calls.{Call, after_call, after_all}
use Rattle.promises.specs.Logs.{Entry, call_in, entries_of, entries_in, line_to, printed, made, summing, IsCalls, SumsUp}
use Rattle.promises.specs.Logs.{LogIsCalls, CutLogIsCalls, LastLineSumsUp, BeginIsNew}
use Rattle.promises.specs.Logs.Entry.{asks, unfit}
use Rattle.promises.proofs.Contracts.{by-the-code}
use Rattle.promises.proofs.Counted.{tallies-are-counts, all-make-the-whole}
use Rattle.promises.proofs.Grown.{grown}
use Rattle.promises.proofs.Written.{fine-sized}

-- ---- the same three tests tell the next call and the entries

called-by : (log : List ℕ) → called_in log true ≡ called_by (piece_by (eqb (length log) 0) (ends_inside log) (is_record log) log true) log true
unfolding called_in
called-by log = ap (λ p. called_by p log true) (by_bytes log true)

abbrev entries_by : Bool → Bool → Bool → ℕ → List ℕ → List Entry
entries_by none cut fits n log =
    let others = entries_of n (drop (2 + word_at log 0) log) in
    pick none [] (pick cut (unfit 40 ∷ []) (pick fits (asks (call_in log) ∷ others) (unfit 41 ∷ others)))

-- .. and what is left after the first one has its entries too
entries_by_lem : (n : ℕ) (log : List ℕ) → length log ≤ n
    → (m : ℕ) × (length (drop (2 + word_at log 0) log) ≤ m) × (entries_of n log ≡ entries_by (eqb (length log) 0) (ends_inside log) (is_record log) m log)
unfolding entries_of
entries_by_lem zero log h = (
  0,
  omega (arith, length-drop (2 + word_at log 0) log),
  sym (ap (λ (b : Bool). entries_by b (ends_inside log) (is_record log) 0 log) (eq-eqb (length log) 0 (omega arith))),
)
entries_by_lem (suc n) log h = (n, omega (arith, length-drop (2 + word_at log 0) log), refl)

-- ---- a run goes on with the calls cs made before it

pub record Tells (r : Run) (cs : List Call) (es : List Entry) : Type 0 where
  pub lines : (whole_run r).lines ≡ r.lines ++ (printed cs es ++ line_to (after_all (made cs es)) summing)
  pub state : (whole_run r).state ≡ after_all (made cs es)

-- however many entries are asked for, if there are no fewer than bytes are left
abbrev Told : Run → Type 0
Told r = (n : ℕ) (cs : List Call) → length r.rest ≤ n → r.over ≡ false → r.state ≡ after_all cs → Tells r cs (entries_of n r.rest)

-- the sum leaves the state
sum-keeps : (s : State) (bytes : List ℕ) → (called s 0 bytes Sum).state ≡ s
unfolding called sum upto
sum-keeps s bytes = pick_is (λ (a : Answered). a.state) (sized s) refl refl

module _ (r : Run) (cs : List Call) (e : r.state ≡ after_all cs) where
  -- nothing is left
  sums : next_whole r ≡ Some the_sum → Tells r cs []
  unfolding printed made
  sums c =
      let last = ran the_sum r in
      let ends : whole_run r ≡ last = run_on next_whole whole-shrinks r c ∙ run_none next_whole last (whole-over last refl) in
      record {
        lines = ap (λ (q : Run). q.lines) ends ∙ ap (λ (s : State). r.lines ++ line_to s summing) e;
        state = ap (λ (q : Run). q.state) ends ∙ sum-keeps r.state [] ∙ e;
      }

  -- one call, with its line, and then the others
  goes : (x : Next) (l : List ℕ) (ds : List Call) (es fs : List Entry) → next_whole r ≡ Some x → (ran x r).lines ≡ r.lines ++ l
      → l ++ printed ds es ≡ printed cs fs → made ds es ≡ made cs fs → Tells (ran x r) ds es → Tells r cs fs
  goes x l ds es fs c prints says makes t =
      let on : whole_run r ≡ whole_run (ran x r) = run_on next_whole whole-shrinks r c in
      let end = line_to (after_all (made ds es)) summing in
      record {
        lines =
            ap (λ (q : Run). q.lines) on ∙ t.lines ∙ ap (◌++ (printed ds es ++ end)) prints ∙ append_assoc r.lines l (printed ds es ++ end)
            ∙ ap (r.lines ++◌) (sym (append_assoc l (printed ds es) end))
            ∙ ap₂ (λ (ls : List ℕ) (ks : List Call). r.lines ++ (ls ++ line_to (after_all ks) summing)) says makes;
        state = ap (λ (q : Run). q.state) on ∙ t.state ∙ ap after_all makes;
      }

  module _ (told : (x : Next) → next_whole r ≡ Some x → Told (ran x r)) (m : ℕ) (h : length (drop (2 + word_at r.rest 0) r.rest) ≤ m) where
    abbrev others : List Entry
    others = entries_of m (drop (2 + word_at r.rest 0) r.rest)

    cut_off : next_whole r ≡ Some (refusal (length r.rest) CutRecord) → Tells r cs (unfit 40 ∷ [])
    unfolding printed made entries_of line_of line_by refused_line
    cut_off c =
        goes (refusal (length r.rest) CutRecord) (refused_line CutRecord) cs [] (unfit 40 ∷ []) c refl refl refl
        (told _ c 0 cs (omega (arith, length-drop (length r.rest) r.rest)) refl e)

    no_record : next_whole r ≡ Some (refusal (2 + word_at r.rest 0) UnknownRecord) → Tells r cs (unfit 41 ∷ others)
    unfolding printed made line_of line_by refused_line
    no_record c = goes (refusal (2 + word_at r.rest 0) UnknownRecord) (refused_line UnknownRecord) cs others (unfit 41 ∷ others) c refl refl refl (told _ c m cs h refl e)

    one-call : next_whole r ≡ Some (one (event_in r.rest)) → Tells r cs (asks (call_in r.rest) ∷ others)
    unfolding printed made after_all after_call
    one-call c =
        let asked = call_in r.rest in
        goes (one (event_in r.rest)) (line_to (after_all cs) asked) (asked ∷ cs) others (asks asked ∷ others) c
        (ap (λ (s : State). r.lines ++ line_to s asked) e) refl refl (told _ c m (asked ∷ cs) h refl (ap (λ (s : State). after_call s asked) e))

    by_tests : (none cut fits : Bool) → next_whole r ≡ called_by (piece_by none cut fits r.rest true) r.rest true
        → Tells r cs (entries_by none cut fits m r.rest)
    unfolding short_by waiting
    by_tests true cut fits c = sums c
    by_tests false true fits c = cut_off c
    by_tests false false true c = one-call c
    by_tests false false false c = no_record c

told : (r : Run) → Told r
told =
    by-calls next_whole whole-shrinks Told
    (λ r f n cs h o e. last_found r.rest (sym (whole-next r o) ∙ f))
    (λ r x f t n cs h o e.
    let log = r.rest in
    let (m, k, same) = entries_by_lem n log h in
    let tests = by_tests r cs e (λ y c. subst (λ (z : Next). Told (ran z r)) (same_Some x y (sym f ∙ c)) t) m k (eqb (length log) 0) (ends_inside log) (is_record log) in
    subst (Tells r cs) (sym same) (tests (whole-next r o ∙ called-by log)))

pub log-is-calls : LogIsCalls
log-is-calls log =
    let t = told (start_of (after_all []) log) (length log) [] (le_refl (length log)) refl refl in
    record { lines = t.lines; state = t.state }

pub cut-log-is-calls : CutLogIsCalls
cut-log-is-calls ps ns o = subst (IsCalls (joined ps)) (sym (however-cut (after_all []) ps ns o)) (log-is-calls (joined ps))

-- ---- the sum

-- the line of the sum of a book
abbrev sum_of : List ℕ → ℕ → List ℕ
sum_of book others = line sum_word (count 0 book ∷ count ours book ∷ others ∷ slot_times ∷ [])

summed : (s : State) → sized s ≡ true → called s 0 [] Sum ≡ answered (Summed (total (tallies_in s.reg))) s
unfolding called sum upto
summed s e = ap (λ (b : Bool). pick b (answered (Summed (total (tallies_in s.reg))) s) (no s OtherLength)) e

module _ (cs : List Call) where
  abbrev left : State
  left = after_all cs

  abbrev counts : Counts
  counts = left.watch.channel.counts

  free-is : counts.free ≡ count 0 left.book
  free-is = (tallies-are-counts cs).right 0 (omega arith)

  own_is : counts.own ≡ count ours left.book
  unfolding counts_of
  own_is =
      let many : length (tallies_in left.reg) ≡ records = length-map left.reg _ ∙ (grown cs).register in
      sym (ap (λ (c : Counts). c.own) (counts-back left.book (tallies_in left.reg) counts many)) ∙ (tallies-are-counts cs).right ours (omega arith)

  sum-line : line_to left summing ≡ sum_of left.book (total (tallies_in left.reg))
  unfolding line_of line_by done_line sum_line
  sum-line =
      ap (λ (a : Answered). line_of (out_of a).answer) (summed left (fine-sized left (grown cs)))
      ∙ (λ i. line sum_word (free-is i ∷ own_is i ∷ total (tallies_in left.reg) ∷ all-make-the-whole cs i ∷ []))

  parts-make : count 0 left.book + count ours left.book + total (tallies_in left.reg) ≡ slot_times
  parts-make = omega (arith, free-is, own_is, all-make-the-whole cs)

sums-up : (log : List ℕ) (r : Run) → IsCalls log r → SumsUp log r
sums-up log r c =
    let cs = made [] (entries_in log) in
    let others = total (tallies_in (after_all cs).reg) in
    let here : r.state.book ≡ (after_all cs).book = ap (λ (s : State). s.book) c.state in
    record {
      others = others;
      last = c.lines ∙ ap (printed [] (entries_in log) ++◌) (sum-line cs ∙ sym (ap (λ (b : List ℕ). sum_of b others) here));
      whole = ap (λ (b : List ℕ). count 0 b + count ours b + others) here ∙ parts-make cs;
    }

pub last-line-sums-up : LastLineSumsUp
last-line-sums-up ps ns o = sums-up (joined ps) _ (cut-log-is-calls ps ns o)

-- ---- a new book and register

begun : (s : State) (bytes : List ℕ) → sized s ≡ true → (called s 0 bytes New).state ≡ after_all []
unfolding called begin upto after_all
begun s bytes e = ap (λ (b : Bool). (pick b (answered Begun (new_state slot_times records)) (no s OtherLength)).state) e

pub begin-is-new : BeginIsNew
unfolding after_call
begin-is-new reg book w bytes r reg' book' h k e =
    let s = state_of reg book w in
    by-the-code.begin s bytes r reg' book' e ∙ begun s bytes (fine-sized s (record { register = h; book = k }))
