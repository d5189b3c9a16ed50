-- What reasons owes in each case: of a chart that is refused, and of one whose marks and list stand in bytes.
use Prim.Native.Nat.{ℕ, ◌+◌, ◌*◌, ◌/◌, ◌%◌, ◌≤◌}
use mathlib.Core.Path.{◌≡◌, refl, sym, ap, ◌∙◌}
use mathlib.Core.List.{List}
use native.Mathlib.Omega.{arith}
use lib.ListN.{length, get_or, take, drop, take-append-drop, length-drop}
use lib.Seq.{ext_get_or, get_or-drop, length-take-le}
use Rattle.refusal.specs.declared.Refusal.{Refusal}
use Rattle.chart.specs.Chart.{Step}
use Rattle.chart.specs.Reading.{chart_in, read_chart}
use Rattle.chart.specs.declared.Shape.{Shape}
use Rattle.chart.proofs.Accepted.{accepted}
use Rattle.ranges.specs.Sources.{Ranged}
use Rattle.ranges.specs.Triples.{steps_of}
use Rattle.ranges.specs.declared.Triples.{Triples}
use Rattle.ranges.proofs.Ranges.{steps_are}
use Rattle.relation.specs.declared.Matrix.{Matrix}
use Rattle.relation.proofs.Cells.{row_in, column_in, pair_cell, cells_few}
use Rattle.marks.specs.Promise.{MarksOf, MarksPromise}
use Rattle.marks.proofs.Promise.{always_answered}
use Rattle.lent.specs.Lent.{writes, LentPromise}
use Rattle.lent.proofs.Lent.{promise_written}
use Rattle.text.specs.Text.{placed}
use Rattle.reason.specs.Line.{list_bytes, lines_in}
use Rattle.reason.specs.Own.{MarksAre, OwnList}
use Rattle.reason.proofs.Bytes.{bytes_length, lines_length, first_bytes}
use Rattle.choice.specs.Choice.{mark_in, MarksBelow}
use Rattle.reasons.specs.Begun.{KeptFrom, ListPut}
use Rattle.reasons.specs.Promise.{Reasons}
use Rattle.std.specs.Prelude.{Result, Ok, Err}

-- the list stands at the start of these bytes, and was written from there
pub reasons_given : (n : ℕ) (steps : List Step) (mark : ℕ × ℕ → ℕ) (list : List ℕ) (k : ℕ) {old new : List ℕ} {answer : Result ℕ Refusal} → 5 * k ≤ length list → MarksAre n steps mark → OwnList n steps mark (lines_in list k)
    → LentPromise (writes (take (5 * k) list)) old new answer → Reasons n steps old new answer
reasons_given n steps mark list k h marks own p = record { mark = mark; marks_are = marks; lines = lines_in list k; own = own; written = rw (first_bytes list k h) p }

-- what stands at the start, where all bytes from there on stayed
at_start : (old new : List ℕ) (k : ℕ) → k ≤ length new → length new ≡ length old → KeptFrom k old new → new ≡ placed old 0 (take k new)
unfolding placed
at_start old new k h same kept =
    let rest : drop k old ≡ drop k new = ext_get_or 0 (drop k old) (drop k new) (omega (arith, length-drop k old, length-drop k new)) (λ i l. get_or-drop k old i 0 ∙ sym (kept (k + i) (omega arith)) ∙ sym (get_or-drop k new i 0)) in
    let size : 0 + length (take k new) ≡ k = omega (arith, length-take-le k new h) in
    rw (size, rest) (sym (take-append-drop k new))

-- the list was written where it belongs
pub reasons_straight : (n : ℕ) (steps : List Step) (mark : ℕ × ℕ → ℕ) (old new : List ℕ) (k : ℕ) → 5 * k ≤ length new → length new ≡ length old → MarksAre n steps mark → ListPut n steps mark old new k → Reasons n steps old new (Ok (5 * k))
reasons_straight n steps mark old new k h same marks put =
    let size : length (list_bytes (lines_in new k)) ≡ 5 * k = omega (arith, bytes_length (lines_in new k), lines_length new k) in
    record {
      mark = mark;
      marks_are = marks;
      lines = lines_in new k;
      own = put.own;
      written = promise_written old refl (omega (arith, size)) (sym size) (rw (first_bytes new k h) (at_start old new (5 * k) h same put.kept));
    }

module _ (chart : List ℕ) where
  module _ (sh : Shape) (read : read_chart chart ≡ Ok sh) where
    -- the marks of an accepted chart, for which 4,096 bytes have room
    module _ (old new : List ℕ) (room : 4096 ≡ length old) where
      has_room : sh.n * sh.n ≤ length old
      has_room = omega (arith, cells_few sh.n (accepted chart sh read).states_few)

      pub not_refused : {r : Refusal} → MarksPromise chart old new (Err r) → ⊥
      not_refused {r} p = always_answered chart sh read old new _ has_room p r refl

      module _ {given : Matrix} (p : MarksPromise chart old new (Ok given)) where
        marked : MarksOf sh.n sh.m (chart_in chart sh).steps new given
        marked = p.then_answered sh read has_room

        pub marks_stand : sh.n * sh.n ≤ length new
        marks_stand = omega (arith, has_room, p.length_stays)

        pub marks_are : MarksAre sh.n (chart_in chart sh).steps (mark_in sh.n new)
        marks_are = marked.marks_are

        pub marks_below : MarksBelow sh.n new
        marks_below y h =
            let n = sh.n in
            omega (arith, marked.rounds_greatest (y / n) (y % n) (row_in n y h) (column_in n y h), marked.rounds_few, ap (λ (x : ℕ). get_or new x 0) (pair_cell n y), row_in n y h)

-- ---- over the triples of the chart

module _ (t : Triples) (r : Ranged t.bytes.now t.shape t.at t.first) where
  -- the matrix has their marks
  pub triples_marked : {bytes old new : List ℕ} → t.bytes.now ≡ bytes → 4096 ≡ length old → {given : Matrix} → MarksPromise bytes old new (Ok given)
      → (t.shape.n * t.shape.n ≤ length new) × MarksAre t.shape.n (steps_of t) (mark_in t.shape.n new) × MarksBelow t.shape.n new
  triples_marked {bytes} {old} {new} e room {given} p =
      let q : MarksPromise t.bytes.now old new (Ok given) = rw e p in
      (marks_stand t.bytes.now t.shape r.read old new room q, rw (steps_are r) (marks_are t.bytes.now t.shape r.read old new room q), marks_below t.bytes.now t.shape r.read old new room q)
