-- Formulas of Hennessy-Milner logic with one variable (001, 000), as trees of any size.
use Rattle.std.specs.Prelude.{ℕ, suc, max, ◌+◌, Bool, true, false}
use Rattle.settle.specs.Test.{both}

-- the action of a diamond or a box: one, by its index, or every one
pub data Label : Type 0 where
  only : ℕ → Label
  every : Label

pub data Formula : Type 0 where
  variable top bottom : Formula
  and or : Formula → Formula → Formula
  diamond box : Label → Formula → Formula

-- the greatest number of diamonds and boxes nested in it
unfoldable pub depth : Formula → ℕ
depth variable = 0
depth top = 0
depth bottom = 0
depth (and f g) = max (depth f) (depth g)
depth (or f g) = max (depth f) (depth g)
depth (diamond l f) = suc (depth f)
depth (box l f) = suc (depth f)

unfoldable pub variable_free : Formula → Bool
variable_free variable = false
variable_free top = true
variable_free bottom = true
variable_free (and f g) = both (variable_free f) (variable_free g)
variable_free (or f g) = both (variable_free f) (variable_free g)
variable_free (diamond l f) = variable_free f
variable_free (box l f) = variable_free f

-- how many nodes it has
unfoldable pub nodes : Formula → ℕ
nodes variable = 1
nodes top = 1
nodes bottom = 1
nodes (and f g) = suc (nodes f + nodes g)
nodes (or f g) = suc (nodes f + nodes g)
nodes (diamond l f) = suc (nodes f)
nodes (box l f) = suc (nodes f)
