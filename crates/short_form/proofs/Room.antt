-- A form's sheet is no longer than the longest sheet; so a buffer of that length has room for every form. And how many nodes F may have.
use Prim.Native.Nat.{ℕ, ◌+◌, ◌<◌, ◌≤◌}
use mathlib.Core.Path.{◌≡◌, refl}
use mathlib.Core.Bool.{Bool, true, false}
use mathlib.Core.List.{List}
use native.Mathlib.Omega.{arith}
use borrow.Author.Tests.{le-ltb}
use lib.Dec.{eqb}
use lib.ListN.{length}
use Rattle.settle.specs.Test.{pick}
use Rattle.refusal.specs.Refusal.{sheet_refusal}
use Rattle.refusal.specs.declared.Refusal.{Refusal}
use Rattle.chart.specs.Reading.{read_chart}
use Rattle.chart.proofs.Refused.{refused as chart_refused}
use Rattle.sheet.specs.Formula.{Formula, variable_free, nodes}
use Rattle.sheet.specs.Layout.{longest_sheet}
use Rattle.sheet.specs.Reading.{Sheet, sheet, refused, read_sheet}
use Rattle.sheet.proofs.Found.{number_few}
use Rattle.sheet.proofs.Accepted.{encode_short, refusal_small}
use Rattle.lent.specs.Lent.{Outcome, writes, refuses, LentPromise}
use Rattle.lent.proofs.Lent.{not_written, written_fills}
use Rattle.short_form.specs.ShortForm.{by_name, short_form, kind_written}
use Rattle.short_form.specs.Promise.{form, wrong, form_of, form_of_sheet, form_of_chart, outcome_of, ShortFormPromise}
use Rattle.short_form.proofs.Pieces.{form_nodes}
use Rattle.short_form.proofs.Promise.{form_large, form_made, form_cases}
use Rattle.std.specs.Prelude.{Result, Ok, Err}
use Rattle.chart.specs.declared.Shape.{Shape}

-- a sheet that is no longer than the longest, or a refusal of something else than the buffer's length
abbrev Short : Outcome → Type 0
Short (writes bytes) = length bytes ≤ longest_sheet
Short (refuses r) = r.number ≡ 14 → ⊥

form_short : (name : ℕ) (f : Formula) → Short (outcome_of (form_of name f))
form_short name f = form_cases name f (λ w. Short (outcome_of w)) (λ e. omega arith) (λ e. omega arith) (λ e. omega arith) (λ v. encode_short (kind_written name) (short_form name f))

outcome_short : (chart s : List ℕ) (name : ℕ) → Short (outcome_of (form_of_chart s name (read_chart chart)))
outcome_short chart s name = of_chart (read_chart chart) refl
  where
    of_sheet : (m : ℕ) (x : Sheet) → read_sheet s m ≡ x → Short (outcome_of (form_of_sheet name x))
    of_sheet m (refused r) e = λ z. omega (arith, number_few (refusal_small s m r e))
    of_sheet m (sheet kind count f) e = form_short name f

    of_chart : (x : Result Shape Refusal) → read_chart chart ≡ x → Short (outcome_of (form_of_chart s name x))
    of_chart (Err r) e = λ z. omega (arith, (chart_refused chart r e).number_few)
    of_chart (Ok shape) e = of_sheet shape.m (read_sheet s shape.m) refl

-- what is written is no longer than the longest sheet
pub written_short : (chart s : List ℕ) (name : ℕ) (old new : List ℕ) (size : ℕ) → ShortFormPromise chart s name old new (Ok size) → size ≤ longest_sheet
written_short chart s name old new size p =
    let done = written_fills _ old new size p in
    let short : length done.bytes ≤ longest_sheet = rw done.is at (outcome_short chart s name) in
    omega (arith, done.size_is)

-- a buffer as long as the longest sheet is never refused 14
pub room_enough : (chart s : List ℕ) (name : ℕ) (old new : List ℕ) (r : Refusal) → longest_sheet ≤ length old → ShortFormPromise chart s name old new (Err r) → r.number ≡ 14 → ⊥
room_enough chart s name old new r room = go (outcome_of (form_of_chart s name (read_chart chart))) (outcome_short chart s name)
  where
    go : (w : Outcome) → Short w → LentPromise w old new (Err r) → r.number ≡ 14 → ⊥
    go (refuses q) short p z = let a = p.answered in let e : r ≡ q = cc in short (rw e at z)
    go (writes bytes) short p z =
        let fits : length bytes ≤ length old = omega arith in
        not_written (rw (le-ltb _ _ fits) at p.answered)

-- ---- the nodes of F

-- with names 0 and 1 F may have at most 197 nodes, with names 2 and 3 at most 194; with one more it is refused 10
pub nodes_limit : (name : ℕ) (f : Formula) → name ≤ 3 → variable_free f ≡ true
    → (nodes f ≤ by_name name 197 197 194 194 → form_of name f ≡ form (kind_written name) (short_form name f))
    × (by_name name 197 197 194 194 < nodes f → form_of name f ≡ wrong (sheet_refusal 10 2))
nodes_limit name f h free =
    let all = filled (eqb name 0) (eqb name 1) (eqb name 2) in
    (λ few. form_made name f free h (omega (arith, all, form_nodes name f)), λ more. form_large name f free h (omega (arith, all, form_nodes name f)))
  where
    filled : (p q r : Bool) → pick p 197 (pick q 197 (pick r 194 194)) + pick p 3 (pick q 3 (pick r 6 6)) ≡ 200
    filled true q r = refl
    filled false true r = refl
    filled false false true = refl
    filled false false false = refl
