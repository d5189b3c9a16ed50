use Rattle.relation.specs.Rows.{Keeps}
use Rattle.classes.specs.Splitting.{undivided}
use Rattle.classes.proofs.splitting.split_by.Given as goal

-- the actions below a have split the rows
abbrev pub invariant-loop-a : goal.invariant-loop-a
invariant-loop-a l = Keeps l.steps.n (undivided l.steps.words.now l.steps.n l.a l.class) l.initial.rows l.rows
