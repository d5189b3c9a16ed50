-- The measure is x: the call is for its tenth.
use Rattle.text.proofs.Page.+add_digits.Given as goal

abbrev pub decreases-add_digits : goal.decreases-add_digits
decreases-add_digits l = l.x
