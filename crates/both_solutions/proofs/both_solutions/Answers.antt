use mathlib.Core.Path.{◌≡◌}
use borrow.Author.Rules.{rules}
use Rattle.std.proofs.Common.{Ok, Err}
use Rattle.sheet.specs.Reading.{read_sheet, sheet_read}
use Rattle.both_solutions.specs.Promise.{BothPromise}
use Rattle.both_solutions.proofs.Promise.{by_least, by_greatest, by_both}
use Rattle.both_solutions.proofs.both_solutions.Goals as goal

pub returns-in_err-least : goal.returns-in_err-least
returns-in_err-least c =
    let q = c.in_ok-chart.chart in
    let o = c.in_ok-outline.outline in
    let accepted : sheet_read (read_sheet c.args.sheet.now q.shape.m) ≡ Ok o = search rules in
    let same : q.bytes.now ≡ c.args.chart.now = search rules in
    let told : c.from_residual-in_err-least.result ≡ Err c.in_err-least.field-0.0 = search rules in
    let promise : BothPromise q.bytes.now c.args.sheet.now (Err c.in_err-least.field-0.0) =
    by_least q.bytes.now c.args.sheet.now q.shape o accepted q.read c.solve_in_room.result _ (rw c.from.ensures at c.solve_in_room.ensures) c.in_err-least.was in
    rw told (rw same at promise)

pub returns-in_err-greatest : goal.returns-in_err-greatest
returns-in_err-greatest c =
    let q = c.in_ok-chart.chart in
    let o = c.in_ok-outline.outline in
    let accepted : sheet_read (read_sheet c.args.sheet.now q.shape.m) ≡ Ok o = search rules in
    let same : q.bytes.now ≡ c.args.chart.now = search rules in
    let told : c.from_residual-in_err-greatest.result ≡ Err c.in_err-greatest.field-0.0 = search rules in
    let promise : BothPromise q.bytes.now c.args.sheet.now (Err c.in_err-greatest.field-0.0) =
    by_greatest q.bytes.now c.args.sheet.now q.shape o accepted q.read c.solve_in_room-2.result _ (rw c.from-2.ensures at c.solve_in_room-2.ensures) c.in_err-greatest.was in
    rw told (rw same at promise)

pub returns : goal.returns
returns c =
    let q = c.in_ok-chart.chart in
    let o = c.in_ok-outline.outline in
    let accepted : sheet_read (read_sheet c.args.sheet.now q.shape.m) ≡ Ok o = search rules in
    let same : q.bytes.now ≡ c.args.chart.now = search rules in
    let least = rw (c.in_ok-least.was, c.from.ensures) at c.solve_in_room.ensures in
    let greatest = rw (c.in_ok-greatest.was, c.from-2.ensures) at c.solve_in_room-2.ensures in
    rw same at (by_both q.bytes.now c.args.sheet.now q.shape o accepted q.read c.in_ok-least.least c.in_ok-greatest.greatest least greatest)
