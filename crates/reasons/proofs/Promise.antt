-- What follows of the promise of reasons: it determines the answer and every byte, what a written list is, what is refused, and that a buffer as long as
-- the longest list has room for every list. Assumes nothing.
use Prim.Native.Nat.{ℕ, ◌*◌, ◌≤◌, ◌<◌}
use mathlib.Core.Path.{◌≡◌, refl, sym, ap, subst, ◌∙◌}
use mathlib.Core.List.{List}
use mathlib.Core.Logic.{◌⊎◌, inl, inr, ⊎_elim}
use native.Mathlib.Omega.{arith}
use borrow.Author.Tests.{le-ltb}
use lib.ListN.{length, take, drop}
use Rattle.refusal.specs.Refusal.{lent_refusal}
use Rattle.refusal.specs.declared.Refusal.{Refusal}
use Rattle.chart.specs.Reading.{chart_in, read_chart}
use Rattle.chart.specs.declared.Shape.{Shape}
use Rattle.chart.proofs.Accepted.{accepted, each_step}
use Rattle.lent.specs.Lent.{writes, refuses, LentPromise}
use Rattle.lent.proofs.Lent.{not_written, no_bytes, lent_determined, refused_by, refused_leaves, short_exactly, written_fills}
use Rattle.reason.specs.Line.{Line, list_bytes, longest_list}
use Rattle.reason.specs.Own.{MarksAre, OwnList}
use Rattle.reason.proofs.Bytes.{bytes_length}
use Rattle.reason.proofs.Determined.{own_determined}
use Rattle.reasons.specs.Promise.{Reasons, Answers, ReasonsPromise}
use Rattle.reasons.proofs.Begun.{own_fits}
use Rattle.std.specs.Prelude.{Result, Ok, Err}

-- ---- any two answers, and any two buffers, that it allows for the same input are equal

pub reasons_determined : (chart old a b : List ℕ) (s t : Result ℕ Refusal) → ReasonsPromise chart old a s → ReasonsPromise chart old b t → (s ≡ t) × (a ≡ b)
reasons_determined chart old a b s t = by_read (read_chart chart) refl
  where
    by_read : (x : Result Shape Refusal) → read_chart chart ≡ x → Answers chart x old a s → Answers chart x old b t → (s ≡ t) × (a ≡ b)
    by_read (Err r) e x y = lent_determined (refuses r) old x y
    by_read (Ok sh) e x y =
        let same : x.lines ≡ y.lines = own_determined sh.n (chart_in chart sh).steps (λ u i. (each_step chart sh e u i).target_in) x.mark y.mark x.marks_are y.marks_are x.lines y.lines x.own y.own in
        lent_determined (writes (list_bytes y.lines)) old (subst (λ (lines : List Line). LentPromise (writes (list_bytes lines)) old a s) same x.written) y.written

-- the chart was read, and the lines are its own list
pub record OwnOf (chart : List ℕ) (lines : List Line) : Type 0 where
  pub shape : Shape
  pub read : read_chart chart ≡ Ok shape
  pub mark : ℕ × ℕ → ℕ
  pub marks_are : MarksAre shape.n (chart_in chart shape).steps mark
  pub own : OwnList shape.n (chart_in chart shape).steps mark lines

own_of : (chart : List ℕ) (sh : Shape) → read_chart chart ≡ Ok sh → {old new : List ℕ} {answer : Result ℕ Refusal} (w : Reasons sh.n (chart_in chart sh).steps old new answer) → OwnOf chart w.lines
own_of chart sh read w = record { shape = sh; read = read; mark = w.mark; marks_are = w.marks_are; own = w.own }

-- ---- of a list that is written

-- the own list fills the start of the buffer, its length, five for each line, stands in the answer, and later bytes stay
pub record Told (chart old new : List ℕ) (length_told : ℕ) : Type 0 where
  pub lines : List Line
  pub own : OwnOf chart lines
  pub length_is : length_told ≡ 5 * length lines
  pub start_is : take length_told new ≡ list_bytes lines
  pub later_stay : drop length_told new ≡ drop length_told old

pub told : (chart old new : List ℕ) (size : ℕ) → ReasonsPromise chart old new (Ok size) → Told chart old new size
told chart old new size = by_read (read_chart chart) refl
  where
    by_read : (x : Result Shape Refusal) → read_chart chart ≡ x → Answers chart x old new (Ok size) → Told chart old new size
    by_read (Err r) e p = not_written (sym p.answered)
    by_read (Ok sh) e p =
        let w = written_fills (writes (list_bytes p.lines)) old new size p.written in
        let i = w.is in
        let same : list_bytes p.lines ≡ w.bytes = cc in
        record {
          lines = p.lines;
          own = own_of chart sh e p;
          length_is = w.size_is ∙ ap length (sym same) ∙ bytes_length p.lines;
          start_is = w.start_is ∙ sym same;
          later_stay = w.later_stay;
        }

-- ---- of a refusal

-- the own list is longer than the buffer
pub record TooShort (chart old : List ℕ) : Type 0 where
  pub lines : List Line
  pub own : OwnOf chart lines
  pub longer : length old < 5 * length lines

-- it is the chart's, or 14 where the buffer is too short; and it leaves every byte
pub reasons_refused : (chart old new : List ℕ) (r : Refusal) → ReasonsPromise chart old new (Err r) → ((read_chart chart ≡ Err r) ⊎ ((r ≡ lent_refusal 14) × TooShort chart old)) × (new ≡ old)
reasons_refused chart old new r = by_read (read_chart chart) refl
  where
    by_read : (x : Result Shape Refusal) → read_chart chart ≡ x → Answers chart x old new (Err r) → ((read_chart chart ≡ Err r) ⊎ ((r ≡ lent_refusal 14) × TooShort chart old)) × (new ≡ old)
    by_read (Err s) e p = let a = p.answered in let i : s ≡ r = cc in (inl (e ∙ ap Err i), p.bytes)
    by_read (Ok sh) e p =
        let list : List ℕ = list_bytes p.lines in
        let is_14 : r ≡ lent_refusal 14 = ⊎_elim (λ w. no_bytes (sym w)) (λ f. f) (refused_by (writes list) old new r p.written) in
        let longer : length old < length list = (short_exactly list old new (Err r) p.written).0 (ap Err is_14) in
        (inr (is_14, record { lines = p.lines; own = own_of chart sh e p; longer = omega (arith, longer, bytes_length p.lines) }), refused_leaves (writes list) old new r p.written)

-- ---- a buffer as long as the longest list

-- it has room: an accepted chart is then answered by its list
pub room_answers : (chart old new : List ℕ) (sh : Shape) (answer : Result ℕ Refusal) → read_chart chart ≡ Ok sh → longest_list ≤ length old → ReasonsPromise chart old new answer → (size : ℕ) × (answer ≡ Ok size)
room_answers chart old new sh answer read room p =
    let w : Reasons sh.n (chart_in chart sh).steps old new answer = subst (λ (x : Result Shape Refusal). Answers chart x old new answer) read p in
    let short : length (list_bytes w.lines) ≤ longest_list = omega (arith, bytes_length w.lines, own_fits sh.n w.lines (accepted chart sh read).states_few w.marks_are w.own) in
    (length (list_bytes w.lines), rw (le-ltb (length old) (length (list_bytes w.lines)) (omega arith)) at w.written.answered)
