-- The layout of a well-formed chart, and of a well-formed sheet, is bytes. Assumes nothing.
use Prim.Native.Nat.{ℕ, ◌<◌, ◌≤◌}
use mathlib.Core.List.Memᴰ.{append_cases}
use mathlib.Core.List.Memᴰ.{cases_cons}
use mathlib.Core.List.Memᴰ.{head as here}
use mathlib.Core.List.Memᴰ.{not-nil}
use mathlib.Core.List.Memᴰ.{tail as there}
use mathlib.Core.List.{List, [], ◌∷◌, ◌++◌, Memᴰ as Mem}
use mathlib.Core.Logic.{⊎_elim}
use mathlib.Core.Path.{refl}
use native.Mathlib.Omega.{arith}
use Rattle.chart.specs.Chart.{Step, Chart, states, actions}
use Rattle.chart.specs.Layout.{step_bytes, encode, Bytes, StepIn, WellFormed}
use Rattle.sheet.specs.Formula.{Label, only, every, Formula, variable, top, bottom, and, or, diamond, box}
use Rattle.sheet.specs.Layout as Sheet
use Rattle.sheet.specs.Layout.{label_byte, formula_bytes, LabelIn, LabelsIn}

no_bytes : Bytes []
no_bytes x l = absurd (not-nil l)

then_bytes : (x : ℕ) (xs : List ℕ) → x < 256 → Bytes xs → Bytes (x ∷ xs)
then_bytes x xs h b y l = ⊎_elim (λ e. omega arith) (λ k. b y k) (cases_cons l)

append_bytes : (xs ys : List ℕ) → Bytes xs → Bytes ys → Bytes (xs ++ ys)
append_bytes xs ys a b x l = ⊎_elim (a x) (b x) (append_cases xs l)

-- ---- a chart

steps_bytes : (n m : ℕ) → n ≤ 64 → m ≤ 32 → (us : List Step) → ((u : Step) → Mem u us → StepIn n m u) → Bytes (step_bytes us)
unfolding step_bytes
steps_bytes n m few some [] f = no_bytes
steps_bytes n m few some (u ∷ us) f =
    let i = f u (here refl) in
    then_bytes _ _ (omega (arith, i.source_in)) (then_bytes _ _ (omega (arith, i.action_in)) (then_bytes _ _ (omega (arith, i.target_in))
    (steps_bytes n m few some us (λ v l. f v (there l)))))

pub chart_bytes : (c : Chart) → WellFormed c → Bytes (encode c)
unfolding encode
chart_bytes c w =
    let n = w.states_few in
    let m = w.actions_few in
    let t = w.transitions_few in
    then_bytes _ _ (omega arith) (append_bytes c.modes _ w.modes_bytes
    (then_bytes _ _ (omega arith) (append_bytes c.codes _ w.codes_bytes
    (then_bytes _ _ (omega arith) (then_bytes _ _ (omega arith) (steps_bytes (states c) (actions c) n m c.steps w.steps_in))))))

-- ---- a sheet

label_bytes : (m : ℕ) → m ≤ 32 → (l : Label) → LabelIn m l → label_byte l < 256
unfolding LabelIn label_byte
label_bytes m few (only a) h = omega arith
label_bytes m few every h = omega arith

formula_bytes_lem : (m : ℕ) → m ≤ 32 → (f : Formula) → LabelsIn m f → Bytes (formula_bytes f)
unfolding formula_bytes LabelsIn
formula_bytes_lem m few variable h = then_bytes _ _ (omega arith) no_bytes
formula_bytes_lem m few top h = then_bytes _ _ (omega arith) no_bytes
formula_bytes_lem m few bottom h = then_bytes _ _ (omega arith) no_bytes
formula_bytes_lem m few (and f g) h = then_bytes _ _ (omega arith) (append_bytes _ _ (formula_bytes_lem m few f h.0) (formula_bytes_lem m few g h.1))
formula_bytes_lem m few (or f g) h = then_bytes _ _ (omega arith) (append_bytes _ _ (formula_bytes_lem m few f h.0) (formula_bytes_lem m few g h.1))
formula_bytes_lem m few (diamond l f) h = then_bytes _ _ (omega arith) (then_bytes _ _ (label_bytes m few l h.0) (formula_bytes_lem m few f h.1))
formula_bytes_lem m few (box l f) h = then_bytes _ _ (omega arith) (then_bytes _ _ (label_bytes m few l h.0) (formula_bytes_lem m few f h.1))

pub sheet_bytes_lem : (m : ℕ) → m ≤ 32 → (kind : ℕ) (f : Formula) → Sheet.WellFormed m kind f → Bytes (Sheet.encode kind f)
unfolding Sheet.encode
sheet_bytes_lem m few kind f w =
    let k = w.kind_known in
    let n = w.nodes_few in
    then_bytes _ _ (omega arith) (then_bytes _ _ (omega arith) (then_bytes _ _ (omega arith) (formula_bytes_lem m few f w.labels_in)))
