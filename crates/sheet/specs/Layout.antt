-- The property sheet of document 01: the bytes of a kind and a formula, and the conditions on them, for a chart of m actions.
use Rattle.std.specs.Prelude.{ℕ, ◌≤◌, ◌<◌, List, [], ◌∷◌, ◌++◌}
use Rattle.sheet.specs.Formula.{Label, only, every, Formula, variable, top, bottom, and, or, diamond, box, nodes}

-- 255 for every action
unfoldable pub label_byte : Label → ℕ
label_byte (only a) = a
label_byte every = 255

-- every operator is followed at once by its operands, left before right
unfoldable pub formula_bytes : Formula → List ℕ
formula_bytes variable = 0 ∷ []
formula_bytes top = 1 ∷ []
formula_bytes bottom = 2 ∷ []
formula_bytes (and f g) = 3 ∷ (formula_bytes f ++ formula_bytes g)
formula_bytes (or f g) = 4 ∷ (formula_bytes f ++ formula_bytes g)
formula_bytes (diamond l f) = 5 ∷ label_byte l ∷ formula_bytes f
formula_bytes (box l f) = 6 ∷ label_byte l ∷ formula_bytes f

-- one equation, its kind, its nodes after their count; nothing after
unfoldable pub encode : ℕ → Formula → List ℕ
encode kind f = 1 ∷ kind ∷ nodes f ∷ formula_bytes f

-- the most bytes that a sheet has: 3, then two for each of 199 nodes and one for the last
abbrev pub longest_sheet : ℕ
longest_sheet = 402

unfoldable pub LabelIn : ℕ → Label → Type 0
LabelIn m (only a) = a < m
LabelIn m every = Unit {0}

unfoldable pub LabelsIn : ℕ → Formula → Type 0
LabelsIn m variable = Unit {0}
LabelsIn m top = Unit {0}
LabelsIn m bottom = Unit {0}
LabelsIn m (and f g) = LabelsIn m f × LabelsIn m g
LabelsIn m (or f g) = LabelsIn m f × LabelsIn m g
LabelsIn m (diamond l f) = LabelIn m l × LabelsIn m f
LabelsIn m (box l f) = LabelIn m l × LabelsIn m f

pub record WellFormed (m kind : ℕ) (f : Formula) : Type 0 where
  pub kind_known : kind ≤ 2
  pub nodes_few : nodes f ≤ 200
  pub labels_in : LabelsIn m f
