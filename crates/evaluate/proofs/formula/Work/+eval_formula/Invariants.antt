-- the nodes still unread fall at each call
use Rattle.evaluate.proofs.formula.Work.+eval_formula.Given as goal

abbrev pub decreases-eval_formula : goal.decreases-eval_formula
decreases-eval_formula l = l.next.now.left
