-- A formula's own bytes are read back as that formula.
use Prim.Native.Nat.{ℕ, suc, ◌+◌, ◌-◌, ◌<◌, ◌≤◌}
use mathlib.Core.Path.{◌≡◌, refl, ap, sym, ◌∙◌}
use mathlib.Core.Bool.{Bool, true, false}
use mathlib.Core.Logic.{◌⊎◌, inl, inr}
use mathlib.Core.List.{List, [], ◌∷◌, ◌++◌, append_assoc}
use native.Mathlib.Omega.{arith}
use borrow.Author.Tests.{lt-leb, lt-ltb, le-ltb, eq-eqb, ne_eqb}
use lib.Dec.{ltb, eqb}
use lib.ListN.{length, get_or, drop, length-append}
use lib.Seq.{drop-drop, drop-append_seam}
use Rattle.settle.specs.Test.{pick}
use Rattle.chart.proofs.Steps.{first_byte}
use Rattle.sheet.specs.Formula.{Label, only, every, Formula, variable, top, bottom, and, or, diamond, box, nodes}
use Rattle.sheet.specs.Layout.{label_byte, formula_bytes, LabelIn, LabelsIn}
use Rattle.sheet.specs.Reading.{Node, Leaf, Two, One, node_at, leaf_of, two_of, label_of, one_of, parsed, parse}
use Rattle.sheet.proofs.Parsing.{parse_node}

-- ---- a node

pub leaf_at : (s : List ℕ) (m at node : ℕ) → at < length s → get_or s at 0 ≡ node → node < 3 → node_at s m at ≡ Leaf node (at + 1)
unfolding node_at
leaf_at s m at node h e k = rw (e, lt-leb _ _ h, lt-ltb _ _ k)

pub two_at : (s : List ℕ) (m at node : ℕ) → at < length s → get_or s at 0 ≡ node → 3 ≤ node → node < 5 → node_at s m at ≡ Two node (at + 1)
unfolding node_at
two_at s m at node h e k l = rw (e, lt-leb _ _ h, le-ltb _ _ k, lt-ltb _ _ l)

pub one_at : (s : List ℕ) (m at node byte : ℕ) → at + 1 < length s → get_or s at 0 ≡ node → 5 ≤ node → node ≤ 6
    → get_or s (at + 1) 0 ≡ byte → (byte < m) ⊎ (byte ≡ 255) → node_at s m at ≡ One node byte (at + 2)
unfolding node_at
one_at s m at node byte h e k l d b =
    let here : at < length s = omega arith in
    let two : 3 ≤ node = omega arith in
    rw (e, d, lt-leb _ _ here, le-ltb _ _ two, le-ltb _ _ k, le-ltb _ _ l, lt-leb _ _ h) (last b _ _)
  where
    same : (b : Bool) (x : Node) → pick b x x ≡ x
    same true x = refl
    same false x = refl

    last : (byte < m) ⊎ (byte ≡ 255) → (x y : Node) → pick (ltb byte m) x (pick (eqb byte 255) x y) ≡ x
    last (inl below) x y = rw (lt-ltb _ _ below)
    last (inr e) x y = rw (eq-eqb _ _ e) (same (ltb byte m) x)

-- ---- a formula

-- wherever its bytes stand, it is read there, with the place after it and the nodes left
abbrev pub ReadBack : List ℕ → ℕ → Formula → Type 0
ReadBack s m f = (at left : ℕ) (rest : List ℕ) → nodes f ≤ left → drop at s ≡ formula_bytes f ++ rest
    → parse left s m at left ≡ parsed f (at + length (formula_bytes f)) (left - nodes f)

same_parsed : {f g : Formula} {a b c d : ℕ} → f ≡ g → a ≡ b → c ≡ d → parsed f a c ≡ parsed g b d
same_parsed e h k = cc

module _ (s : List ℕ) (m : ℕ) where
  leaf_back : (node : ℕ) (f : Formula) → node < 3 → leaf_of node ≡ f → nodes f ≡ 1 → formula_bytes f ≡ node ∷ [] → ReadBack s m f
  leaf_back node f h e n b at left rest k d =
      let t = first_byte s at (rw b at d) in
      rw (parse_node s m at left (λ z. omega arith), leaf_at s m at node t.0 t.1 h) (same_parsed e (rw b) (omega arith))

  two_back : (node : ℕ) (f g e : Formula) → 3 ≤ node → node < 5 → two_of node f g ≡ e → nodes e ≡ suc (nodes f + nodes g)
      → formula_bytes e ≡ node ∷ (formula_bytes f ++ formula_bytes g) → ReadBack s m f → ReadBack s m g → ReadBack s m e
  two_back node f g e h₁ h₂ q n b F G at left rest k d =
      let t = first_byte s at (rw b at d) in
      let u : drop (at + 1) s ≡ formula_bytes f ++ (formula_bytes g ++ rest) = rw append_assoc at t.2 in
      let v : drop (at + 1 + length (formula_bytes f)) s ≡ formula_bytes g ++ rest =
      sym (drop-drop (length (formula_bytes f)) (at + 1) s) ∙ ap (drop (length (formula_bytes f))) u ∙ drop-append_seam (formula_bytes f) (formula_bytes g ++ rest) in
      rw (
        parse_node s m at left (λ z. omega arith),
        two_at s m at node t.0 t.1 h₁ h₂,
        F (at + 1) (left - 1) _ (omega arith) u,
        G (at + 1 + length (formula_bytes f)) (left - 1 - nodes f) rest (omega arith) v,
      ) (same_parsed q (rw b (omega (arith, length-append (formula_bytes f) (formula_bytes g)))) (omega arith))

  one_back : (node byte : ℕ) (f e : Formula) → 5 ≤ node → node ≤ 6 → (byte < m) ⊎ (byte ≡ 255) → one_of node byte f ≡ e
      → nodes e ≡ suc (nodes f) → formula_bytes e ≡ node ∷ byte ∷ formula_bytes f → ReadBack s m f → ReadBack s m e
  one_back node byte f e h₁ h₂ h₃ q n b F at left rest k d =
      let t = first_byte s at (rw b at d) in
      let u = first_byte s (at + 1) t.2 in
      let two : at + 1 + 1 ≡ at + 2 = omega arith in
      rw (
        parse_node s m at left (λ z. omega arith),
        one_at s m at node byte u.0 t.1 h₁ h₂ u.1 h₃,
        F (at + 2) (left - 1) _ (omega arith) (rw two at u.2),
      ) (same_parsed q (rw b (omega arith)) (omega arith))

-- 255 is no action's index
label_known : (m : ℕ) (l : Label) → LabelIn m l → (label_byte l < m) ⊎ (label_byte l ≡ 255)
unfolding LabelIn label_byte
label_known m (only a) h = inl h
label_known m every h = inr refl

label_back : (m : ℕ) → m ≤ 32 → (l : Label) → LabelIn m l → label_of (label_byte l) ≡ l
unfolding LabelIn label_byte
label_back m few (only a) h = rw (ne_eqb a 255 (λ e. omega arith))
label_back m few every h = refl

pub formula_written : (s : List ℕ) (m : ℕ) → m ≤ 32 → (f : Formula) → LabelsIn m f → ReadBack s m f
unfolding LabelsIn nodes formula_bytes
formula_written s m few variable h = leaf_back s m 0 variable (omega arith) refl refl refl
formula_written s m few top h = leaf_back s m 1 top (omega arith) refl refl refl
formula_written s m few bottom h = leaf_back s m 2 bottom (omega arith) refl refl refl
formula_written s m few (and f g) h =
    two_back s m 3 f g (and f g) (omega arith) (omega arith) refl refl refl (formula_written s m few f h.0) (formula_written s m few g h.1)
formula_written s m few (or f g) h =
    two_back s m 4 f g (or f g) (omega arith) (omega arith) refl refl refl (formula_written s m few f h.0) (formula_written s m few g h.1)
formula_written s m few (diamond l f) h =
    one_back s m 5 (label_byte l) f (diamond l f) (omega arith) (omega arith) (label_known m l h.0)
    (ap (λ l. diamond l f) (label_back m few l h.0)) refl refl (formula_written s m few f h.1)
formula_written s m few (box l f) h =
    one_back s m 6 (label_byte l) f (box l f) (omega arith) (omega arith) (label_known m l h.0)
    (ap (λ l. box l f) (label_back m few l h.0)) refl refl (formula_written s m few f h.1)
