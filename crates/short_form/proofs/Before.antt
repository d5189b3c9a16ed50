-- The states that satisfy the sheet of a short form are those that satisfied it before T-06, when unsaid was read as greatest.
use Prim.Native.Nat.{ℕ}
use mathlib.Core.Path.{◌≡◌, refl}
use mathlib.Core.Bool.{Bool, true, false}
use mathlib.Core.Logic.{◌↔◌}
use mathlib.Core.List.{List}
use lib.Dec.{eqb}
use lib.ListN.{take}
use Rattle.settle.specs.Test.{pick}
use Rattle.chart.specs.Chart.{Chart}
use Rattle.chart.specs.Reading.{chart_in}
use Rattle.sheet.specs.Formula.{Formula}
use Rattle.sheet.specs.Reading.{sheet, read_sheet}
use Rattle.sheet.specs.Solution.{asks_least, Satisfies}
use Rattle.sheet.specs.Before.{asked_least, Satisfied}
use Rattle.sheet.proofs.Before.{same_asked}
use Rattle.short_form.specs.ShortForm.{short_form, kind_written}
use Rattle.short_form.specs.Before.{kind_before}
use Rattle.short_form.proofs.ReadBack.{ReadBack}

-- the kind that was written asked for the solution that the kind asks for which is written now
same_solution_asked : (name : ℕ) → asked_least (kind_before name) ≡ asks_least (kind_written name)
same_solution_asked name = go (eqb name 0) (eqb name 1) (eqb name 2)
  where
    go : (p q r : Bool) → asked_least (pick p 0 (pick q 1 (pick r 0 1))) ≡ asks_least (pick p 2 (pick q 1 (pick r 2 1)))
    go true q r = refl
    go false true r = refl
    go false false true = refl
    go false false false = refl

pub satisfied_as_before : (c : Chart) (f : Formula) (name s : ℕ)
    → Satisfied c (kind_before name) (short_form name f) s ↔ Satisfies c (kind_written name) (short_form name f) s
satisfied_as_before c f name s = same_asked c (kind_before name) (kind_written name) (short_form name f) s (same_solution_asked name)

-- and so do those that satisfy the sheet that is read back from the bytes written
pub written_satisfied_as_before : (chart s : List ℕ) (name : ℕ) (old new : List ℕ) (size : ℕ) (b : ReadBack chart s name old new size)
    → (kind count : ℕ) (g : Formula) → read_sheet (take size new) b.shape.m ≡ sheet kind count g → (u : ℕ)
    → Satisfied (chart_in chart b.shape) (kind_before name) (short_form name b.formula) u ↔ Satisfies (chart_in chart b.shape) kind g u
written_satisfied_as_before chart s name old new size b kind count g e u =
    let back = b.read_back in
    let k : kind_written name ≡ kind = cc in
    let h : short_form name b.formula ≡ g = cc in
    rw (← k, ← h) (satisfied_as_before (chart_in chart b.shape) b.formula name u)
