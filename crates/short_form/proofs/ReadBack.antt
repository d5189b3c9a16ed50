-- A short form that was written is a sheet: the reader accepts it, with the table's kind and formula. A refusal leaves every byte.
use Prim.Native.Nat.{ℕ, ◌≤◌}
use mathlib.Core.Path.{◌≡◌, refl, sym, ◌∙◌}
use mathlib.Core.Bool.{So}
use mathlib.Core.List.{List}
use native.Mathlib.Omega.{arith}
use lib.Dec.{eqb}
use lib.ListN.{take, drop}
use Rattle.refusal.specs.declared.Refusal.{Refusal}
use Rattle.chart.specs.Reading.{read_chart}
use Rattle.chart.specs.declared.Shape.{Shape}
use Rattle.chart.proofs.Accepted as Chart
use Rattle.sheet.specs.Formula.{Formula, nodes, variable_free}
use Rattle.sheet.specs.Layout.{encode, LabelIn, LabelsIn, WellFormed}
use Rattle.sheet.specs.Reading.{Sheet, sheet, refused, read_sheet}
use Rattle.sheet.proofs.Accepted.{layout_read, layout_written}
use Rattle.lent.specs.Lent.{writes, LentPromise}
use Rattle.lent.proofs.Lent.{no_bytes, not_written, written_fills, refused_leaves as leaves}
use Rattle.short_form.specs.ShortForm.{short_form, kind_written}
use Rattle.short_form.specs.Promise.{Form, form_of, form_of_sheet, form_of_chart, outcome_of, ShortFormPromise}
use Rattle.short_form.proofs.Pieces.{in_each}
use Rattle.short_form.proofs.Promise.{form_cases}
use Rattle.std.specs.Prelude.{Result, Ok, Err}

-- the sheet that is written is the table's, of at most 200 nodes, and F has no variable
abbrev IsTable : ℕ → Formula → List ℕ → Type 0
IsTable name f bytes = (bytes ≡ encode (kind_written name) (short_form name f)) × (nodes (short_form name f) ≤ 200) × So (variable_free f)

is_table : (name : ℕ) (f : Formula) (bytes : List ℕ) → outcome_of (form_of name f) ≡ writes bytes → IsTable name f bytes
is_table name f bytes = form_cases name f (λ (w : Form). outcome_of w ≡ writes bytes → IsTable name f bytes) no_bytes no_bytes no_bytes (λ v h e. (cc, h, v))

-- a refusal leaves every byte
pub refused_leaves : (chart s : List ℕ) (name : ℕ) (old new : List ℕ) (r : Refusal) → ShortFormPromise chart s name old new (Err r) → new ≡ old
refused_leaves chart s name old new r p = leaves _ old new r p

-- ---- the table's sheets are well formed

labels_kept : (name m : ℕ) (f : Formula) → LabelsIn m f → LabelsIn m (short_form name f)
unfolding LabelsIn LabelIn
labels_kept name m f h = in_each (LabelsIn m) (eqb name 0) (eqb name 1) (eqb name 2) (h, (tt, tt)) (h, (tt, tt)) (h, ((tt, tt), (tt, tt))) (h, ((tt, tt), (tt, tt)))

kind_small : (name : ℕ) → kind_written name ≤ 2
kind_small name = in_each (λ k. k ≤ 2) (eqb name 0) (eqb name 1) (eqb name 2) (omega arith) (omega arith) (omega arith) (omega arith)

-- ---- read back

-- the chart and the sheet were read; the sheet of the table fills the start of the buffer, and is read as such
pub record ReadBack (chart s : List ℕ) (name : ℕ) (old new : List ℕ) (size : ℕ) : Type 0 where
  pub shape : Shape
  pub chart_read : read_chart chart ≡ Ok shape
  pub kind : ℕ
  pub count : ℕ
  pub formula : Formula
  pub sheet_read_lem : read_sheet s shape.m ≡ sheet kind count formula
  pub free : So (variable_free formula)
  pub filled : take size new ≡ encode (kind_written name) (short_form name formula)
  pub stays : drop size new ≡ drop size old
  pub read_back : read_sheet (take size new) shape.m ≡ sheet (kind_written name) (nodes (short_form name formula)) (short_form name formula)

pub written_read_back : (chart s : List ℕ) (name : ℕ) (old new : List ℕ) (size : ℕ)
    → ShortFormPromise chart s name old new (Ok size) → ReadBack chart s name old new size
written_read_back chart s name old new size p = of_chart (read_chart chart) refl p
  where
    of_sheet : (shape : Shape) → read_chart chart ≡ Ok shape → (x : Sheet) → read_sheet s shape.m ≡ x
        → LentPromise (outcome_of (form_of_sheet name x)) old new (Ok size) → ReadBack chart s name old new size
    of_sheet shape c (refused r) e q = not_written (sym q.answered)
    of_sheet shape c (sheet kind count f) e q =
        let done = written_fills (outcome_of (form_of name f)) old new size q in
        let t = is_table name f done.bytes done.is in
        let filled : take size new ≡ encode (kind_written name) (short_form name f) = done.start_is ∙ t.0 in
        let well : WellFormed shape.m (kind_written name) (short_form name f) = record {
          kind_known = kind_small name;
          nodes_few = t.1;
          labels_in = labels_kept name shape.m f (layout_read s shape.m kind count f e).1.labels_in;
        } in
        record {
          shape = shape;
          chart_read = c;
          kind = kind;
          count = count;
          formula = f;
          sheet_read_lem = e;
          free = t.2;
          filled = filled;
          stays = done.later_stay;
          read_back = rw filled (layout_written shape.m (Chart.accepted chart shape c).actions_few (kind_written name) (short_form name f) well);
        }

    of_chart : (x : Result Shape Refusal) → read_chart chart ≡ x → LentPromise (outcome_of (form_of_chart s name x)) old new (Ok size) → ReadBack chart s name old new size
    of_chart (Err r) e q = not_written (sym q.answered)
    of_chart (Ok shape) e q = of_sheet shape e (read_sheet s shape.m) refl q
