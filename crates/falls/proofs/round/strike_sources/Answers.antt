use borrow.Author.Rules.{rules}
use mathlib.Core.Path.{◌≡◌}
use Rattle.falls.proofs.Striking.{strike_none, strike_word}
use Rattle.falls.proofs.round.strike_sources.Goals as goal

pub returns-then-sources-ne0 : goal.returns-then-sources-ne0
returns-then-sources-ne0 c = strike_word c.requires.within {new = c.strike.new.rows} _ _ _ c.keeping.ensures c.strike.ensures

pub returns-else-sources-ne0 : goal.returns-else-sources-ne0
returns-else-sources-ne0 c = let none : c.args.sources ≡ 0 = search rules in strike_none c.requires.within _ _ none
