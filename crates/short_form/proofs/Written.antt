-- What the sheet says that eventually F was written as, from the bytes on.
use Prim.Native.Nat.{ℕ, ◌+◌, ◌<◌}
use mathlib.Core.Bool.{So}
use mathlib.Core.List.{List}
use mathlib.Core.Logic.{◌↔◌}
use Rattle.settle.specs.Chain.{empty}
use Rattle.chart.specs.Chart.{actions}
use Rattle.chart.specs.Reading.{chart_in}
use Rattle.chart.proofs.Accepted.{each_step}
use Rattle.chart.proofs.Steps.{bytes_at_length}
use Rattle.sheet.specs.Meaning.{holds}
use Rattle.sheet.specs.Solution.{Satisfies}
use Rattle.short_form.specs.ShortForm.{short_form, kind_written}
use Rattle.short_form.specs.Reachable.{Run}
use Rattle.short_form.proofs.Meaning.{eventually_means}
use Rattle.short_form.proofs.ReadBack.{ReadBack}

-- a state satisfies the sheet that is read back exactly if every run from it comes to F
pub written_eventually_means : (chart s old new : List ℕ) (size : ℕ) (b : ReadBack chart s 3 old new size) (u : ℕ) → u < b.shape.n
    → Satisfies (chart_in chart b.shape) (kind_written 3) (short_form 3 b.formula) u
    ↔ ((at : ℕ → ℕ) → Run (chart_in chart b.shape).steps u at → (k : ℕ) × So (holds (actions (chart_in chart b.shape)) (chart_in chart b.shape).steps b.formula empty (at k)))
written_eventually_means chart s old new size b u h =
    let n = bytes_at_length chart 1 b.shape.n in
    let m = bytes_at_length chart (2 + b.shape.n) b.shape.m in
    eventually_means (chart_in chart b.shape) (λ t i. rw (n, m) (each_step chart b.shape b.chart_read t i)) b.formula b.free u (rw n h)
