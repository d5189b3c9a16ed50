-- Each way out, by the form that is asked for.
use native.Mathlib.Omega.{arith}
use Rattle.text.specs.Text.{placed}
use Prim.Native.Nat.{ℕ, ◌+◌, ◌<◌, ◌≤◌}
use mathlib.Core.Path.{◌≡◌, ap}
use lib.ListN.{length}
use Rattle.std.specs.Prelude.{Err}
use Rattle.std.proofs.lemmas.Grind.{common_steps}
use Rattle.sheet.specs.Formula.{nodes}
use Rattle.sheet.specs.Layout.{encode}
use Rattle.lent.proofs.Lent.{promise_refused, promise_short, promise_written}
use Rattle.short_form.specs.ShortForm.{short_form, kind_written}
use Rattle.short_form.specs.Promise.{outcome_of}
use Rattle.short_form.specs.Pieces.{number_of}
use Rattle.short_form.proofs.Pieces.{form_nodes, form_length, form_encoded}
use Rattle.short_form.proofs.Promise.{has_variable, has_none, named, name_few, unnamed, form_variable, form_unnamed, form_large, form_made}
use Rattle.short_form.proofs.of_formula.Goals as goal

pub returns-in-Some : goal.returns-in-Some
returns-in-Some c kind f e n =
    let a = c.args in
    let found = has_variable _ _ _ (c.in-Some.ensures kind f e) in
    promise_refused a.buffer.now (ap outcome_of (form_variable a.name f found.0)) (rw found.1 at c.of_sheet.ensures)

pub returns-in_err-name : goal.returns-in_err-name
returns-in_err-name c kind f e n =
    let a = c.args in
    let free = has_none _ _ _ (c.first_variable.ensures kind f e) c.in_default.not-Some in
    let wrong = unnamed a.name _ c.in_err-name.ensures in
    let is : c.from_residual.result ≡ Err c.in_err-name.field-0.0 = grind (arith, common_steps) in
    rw is (promise_refused a.buffer.now (ap outcome_of (form_unnamed a.name f free wrong.0)) wrong.1)

pub returns-then-total-gt200 : goal.returns-then-total-gt200
returns-then-total-gt200 c kind f e n =
    let a = c.args in
    let free = has_none _ _ _ (c.first_variable.ensures kind f e) c.in_default.not-Some in
    let k : ℕ = number_of c.in_ok-name.name in
    let name : a.name ≡ k = named a.name _ c.in_ok-name.ensures in
    let large : 200 < nodes (short_form k f) = omega (arith, c.more_nodes.ensures, form_nodes k f) in
    rw name (promise_refused a.buffer.now (ap outcome_of (form_large k f free (name_few c.in_ok-name.name) large)) c.of_sheet-then-total-gt200.ensures)

pub returns-then-buffer-size : goal.returns-then-buffer-size
returns-then-buffer-size c kind f e n =
    let a = c.args in
    let free = has_none _ _ _ (c.first_variable.ensures kind f e) c.in_default.not-Some in
    let k : ℕ = number_of c.in_ok-name.name in
    let name : a.name ≡ k = named a.name _ c.in_ok-name.ensures in
    let few : nodes (short_form k f) ≤ 200 = omega (arith, c.more_nodes.ensures, form_nodes k f) in
    rw name (promise_short a.buffer.now (ap outcome_of (form_made k f free (name_few c.in_ok-name.name) few)) (omega (arith, form_length a.sheet.now kind f e k, c.operand_size.ensures)) c.of_lent.ensures)

pub returns : goal.returns
returns c kind f e n =
    let a = c.args in
    let free = has_none _ _ _ (c.first_variable.ensures kind f e) c.in_default.not-Some in
    let k : ℕ = number_of c.in_ok-name.name in
    let name : a.name ≡ k = named a.name _ c.in_ok-name.ensures in
    let total : a.count + c.more_nodes.result ≡ nodes (short_form k f) = omega (arith, c.more_nodes.ensures, form_nodes k f) in
    let size : length a.sheet.now + 1 + c.operand_size.result ≡ length (encode (kind_written k) (short_form k f)) = omega (arith, form_length a.sheet.now kind f e k, c.operand_size.ensures) in
    let bytes : c.put_form.new.buffer ≡ placed a.buffer.now 0 (encode (kind_written k) (short_form k f)) = rw (form_encoded a.sheet.now kind f e k _ total) at c.put_form.ensures in
    let room : length (encode (kind_written k) (short_form k f)) ≤ length a.buffer.now = omega (arith, form_length a.sheet.now kind f e k, c.operand_size.ensures) in
    rw name (promise_written a.buffer.now (ap outcome_of (form_made k f free (name_few c.in_ok-name.name) (omega (arith, total)))) room size bytes)
