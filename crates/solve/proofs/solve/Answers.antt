use mathlib.Core.Path.{◌∙◌}
use borrow.Author.Rules.{rules}
use native.Mathlib.Omega.{arith}
use Rattle.solve.proofs.Solving.{going_settled, going_on}
use Rattle.solve.proofs.solve.Goals as goal

pub returns-then-settled : goal.returns-then-settled
returns-then-settled c =
    let q = c.args.chart.now in
    let l = c.loop-rounds in
    let I = l.invariant in
    let next = rw (I.same_n, I.same_m, I.same_sheet) at c.round-next.ensures.value in
    going_settled q.bytes.now q.shape c.args.sheet.now c.args.nodes _ l.work.words.now l.set c.round-next.result l.rounds I.going next c.size.result c.size.ensures (omega arith) (search rules)

pub loop-rounds-preserved : goal.loop-rounds-preserved
loop-rounds-preserved c =
    let q = c.args.chart.now in
    let l = c.loop-rounds in
    let I = l.invariant in
    let same = c.round-next.ensures.same in
    let next = rw (I.same_n, I.same_m, I.same_sheet) at c.round-next.ensures.value in
    let rows = rw (I.same_n, I.same_m) at c.round-next.ensures.rows in record {
      same_n = same.0 ∙ I.same_n;
      same_m = same.1 ∙ I.same_m;
      same_sheet = same.2 ∙ I.same_sheet;
      going = going_on q.bytes.now q.shape c.args.sheet.now c.args.nodes _ l.work.words.now l.set c.round-next.result l.rounds I.going next c.round-next.new.work.words.now rows (search rules);
    }
