use mathlib.Core.List.{[], ◌∷◌}
use Rattle.text.specs.Text.{line}
use Rattle.text.proofs.Pieces.{puts_added, added_none}
use Rattle.report.proofs.Laws.{pair_equal, pair_apart}
use Rattle.report.proofs.put_pair.Goals as goal

pub returns-then-mark-ne0 : goal.returns-then-mark-ne0
returns-then-mark-ne0 c =
    let a = c.args in
    let is = pair_apart a.p a.q a.mark c.if-mark-ne0.true in
    rw is (puts_added a.page.now (line (a.p ∷ a.q ∷ a.mark ∷ [])) _ (rw is at c.requires) c.put_line.ensures)

pub returns-else-mark-ne0 : goal.returns-else-mark-ne0
returns-else-mark-ne0 c = rw (pair_equal c.args.p c.args.q c.args.mark c.if-mark-ne0.false) (added_none c.args.page.now)
