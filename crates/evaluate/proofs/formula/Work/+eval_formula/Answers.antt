use Prim.Native.Nat.{◌+◌, ◌<◌, ◌^◌}
use mathlib.Core.Path.{sym}
use native.Mathlib.Omega.{arith}
use lib.ListN.{get_or}
use Rattle.evaluate.specs.Evaluating.{read_at, formula_of}
use Rattle.evaluate.proofs.Operands.{action_known}
use Rattle.evaluate.proofs.Evaluating.{word_below, two_value, modal_value}
use Rattle.evaluate.proofs.Rows.{read_labels, modal_same, word_same}
use Rattle.evaluate.proofs.formula.Work.+eval_formula.Goals as goal

pub returns-in-3-clause-value : goal.returns-in-3-clause-value
returns-in-3-clause-value t c =
    let q = c.args.self.now in
    let work = q.words.now in
    let f = c.eval_formula-f in
    let between = f.new.next in
    let again = rw (f.ensures.same.0, f.ensures.same.1, f.ensures.same.2) at c.eval_formula-g.ensures.value in
    let same = word_same q.n q.m work f.new.self.words.now f.ensures.rows (formula_of (read_at q.sheet.now q.m between)) (read_labels q.sheet.now q.m between.at between.left) c.args.set c.requires.set_bound in
    rw (c.joined_word.ensures, again, same, f.ensures.value)
    (sym (two_value q.sheet.now q.m c.args.next.now c.requires.was_read (omega arith) (omega arith) between f.ensures.next_after work q.n c.args.set))

pub returns-in_default-clause-value : goal.returns-in_default-clause-value
returns-in_default-clause-value t c =
    let q = c.args.self.now in
    let work = q.words.now in
    let next = c.args.next.now in
    let f = c.eval_formula-f-in_default in
    let small : f.result < 2 ^ q.n = rw f.ensures.value (word_below work q.n c.args.set c.requires.set_bound _) in
    let again = rw (f.ensures.same.0, f.ensures.same.2) at c.modal_word.ensures.value in
    let same = modal_same q.n q.m work f.new.self.words.now f.ensures.rows (get_or q.sheet.now next.at 0) (get_or q.sheet.now (next.at + 1) 0) f.result q.remembers.serves.actions_few (action_known q.sheet.now q.m next.at next.left c.requires.was_read (omega arith)) small in
    rw (again, same, f.ensures.value) (sym (modal_value q.sheet.now q.m next c.requires.was_read (omega arith) work q.n c.args.set))
