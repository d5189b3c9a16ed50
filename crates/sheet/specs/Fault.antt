-- What is wrong at the place of a sheet's refusal, by its number (document 01, 'Refusal numbers'), said of the bytes alone, for a chart of m actions.
-- That it is so of every refusal is `sheet_found` of proofs/Found.antt; that nothing before the place is at fault is `before_the_place` of
-- proofs/Beginning.antt.
use Rattle.std.specs.Prelude.{ℕ, ◌+◌, ◌<◌, ◌≤◌, ◌≡◌, List, ◌∷◌, ◌⊎◌, length, get_or, take}
use Rattle.sheet.specs.Formula.{Formula}
use Rattle.sheet.specs.Formula as Formulas
use Rattle.sheet.specs.Layout.{formula_bytes, encode, WellFormed}

pub data AtFault (s : List ℕ) (m number place : ℕ) : Type 0 where
  -- 1: a needed byte is absent; place: the length
  absent : number ≡ 1 → place ≡ length s → AtFault s m number place
  -- 8: bytes left over after a whole sheet; place: the first
  left_over : number ≡ 8 → place < length s → (kind : ℕ) → (f : Formula) → WellFormed m kind f → take place s ≡ encode kind f → AtFault s m number place
  -- 9: equation count not 1, or kind above 2
  equations : number ≡ 9 → place ≡ 0 → (get_or s 0 0 ≡ 1 → ⊥) → AtFault s m number place
  kind : number ≡ 9 → place ≡ 1 → 2 < get_or s 1 0 → AtFault s m number place
  -- 10: node count 0 or above 200
  count : number ≡ 10 → place ≡ 2 → (get_or s 2 0 ≡ 0) ⊎ (200 < get_or s 2 0) → AtFault s m number place
  -- 11: node above 6
  node : number ≡ 11 → 3 ≤ place → 6 < get_or s place 0 → AtFault s m number place
  -- 12: the action byte of a node 5 or 6 is neither below m nor 255
  label : number ≡ 12 → (at : ℕ) → 3 ≤ at → place ≡ at + 1 → 5 ≤ get_or s at 0 → get_or s at 0 ≤ 6 → m ≤ get_or s place 0 → (get_or s place 0 ≡ 255 → ⊥) → AtFault s m number place
  -- 13: the formula is complete while nodes remain to be read; place: where the next would stand
  nodes_remain : number ≡ 13 → (kind nodes : ℕ) → (f : Formula) → Formulas.nodes f < nodes → take place s ≡ 1 ∷ kind ∷ nodes ∷ formula_bytes f → AtFault s m number place
  -- 13: nodes used up and operands missing, of which the reading alone speaks; place: after the last
  nodes_used_up : number ≡ 13 → 3 ≤ place → place ≤ length s → AtFault s m number place
