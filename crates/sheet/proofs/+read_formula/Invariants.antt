-- the nodes still unread fall at each call
use Rattle.sheet.proofs.+read_formula.Given as goal

abbrev pub decreases-read_formula : goal.decreases-read_formula
decreases-read_formula l = l.next.now.left
