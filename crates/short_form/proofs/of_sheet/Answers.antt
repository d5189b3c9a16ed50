use native.Mathlib.Omega.{arith}
use mathlib.Core.Path.{sym}
use Rattle.sheet.proofs.Accepted.{formed, layout_read}
use Rattle.short_form.proofs.Scan.{sheet_length}
use Rattle.short_form.proofs.of_sheet.Goals as goal

pub of_formula-requires-clause-count_bound : goal.of_formula-requires-clause-count_bound
of_formula-requires-clause-count_bound c = (formed c.args.sheet.now c.args.m c.in_ok-outline.outline (sym c.in_ok-outline.ensures.value)).nodes_few

pub of_formula-requires-clause-in_bounds : goal.of_formula-requires-clause-in_bounds
of_formula-requires-clause-in_bounds c =
    let a = c.args in
    let q = formed a.sheet.now a.m c.in_ok-outline.outline (sym c.in_ok-outline.ensures.value) in
    let l = layout_read a.sheet.now a.m _ _ q.formula q.read_is in
    omega (arith, sheet_length a.sheet.now _ q.formula l.0)

pub returns : goal.returns
returns c =
    let a = c.args in
    let q = formed a.sheet.now a.m c.in_ok-outline.outline (sym c.in_ok-outline.ensures.value) in
    let l = layout_read a.sheet.now a.m _ _ q.formula q.read_is in
    rw q.read_is (c.of_formula.ensures _ q.formula l.0 l.2)
