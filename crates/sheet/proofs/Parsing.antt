-- Reading a formula node by node.
use Prim.Native.Nat.{ℕ, zero, suc, ◌-◌, ◌≤◌}
use mathlib.Core.Path.{◌≡◌, refl, sym, ◌∙◌}
use mathlib.Core.List.{List}
use native.Mathlib.Nat.{le_refl}
use native.Mathlib.Decide.{ℕ_discrete}
use native.Mathlib.Omega.{arith}
use borrow.Author.Tests.{eq-eqb, ne_eqb}
use Rattle.refusal.specs.Refusal.{sheet_refusal}
use Rattle.sheet.specs.Formula.{Formula}
use Rattle.sheet.specs.Reading.{Node, Leaf, Two, One, Bad, node_at, two_of, Parsed, parsed, wrong, on_parsed, operands, parse}
use Rattle.sheet.proofs.Found.{formula_found}

pub parse_none : (fuel : ℕ) (s : List ℕ) (m at left : ℕ) → left ≡ 0 → parse fuel s m at left ≡ wrong (sheet_refusal 13 at)
unfolding parse
parse_none zero s m at left e = refl
parse_none (suc deep) s m at left e = rw (eq-eqb _ _ e)

-- as many as `left` are enough for the nesting
parse_step : (fuel : ℕ) (s : List ℕ) (m at left : ℕ) → (left ≡ 0 → ⊥) → left ≤ fuel
    → parse fuel s m at left ≡ operands (node_at s m at) (left - 1) (λ after rest. parse (fuel - 1) s m after rest)
unfolding parse
parse_step zero s m at left ne h = absurd (ne (omega arith))
parse_step (suc deep) s m at left ne h =
    let e : suc deep - 1 ≡ deep = omega arith in
    rw (ne_eqb _ _ ne, e)

-- ---- the nodes left are bound enough for the nesting

-- operands are read at most twice: at the nodes left, and where the first of two ended
operands_same : (node : Node) (left : ℕ) (read other : ℕ → ℕ → Parsed)
    → ((at : ℕ) → read at left ≡ other at left)
    → ((at : ℕ) (f : Formula) (between some : ℕ) → read at left ≡ parsed f between some → read between some ≡ other between some)
    → operands node left read ≡ operands node left other
operands_same (Bad r) left read other first second = refl
operands_same (Leaf node at) left read other first second = refl
operands_same (One node byte at) left read other first second = rw (first at)
operands_same (Two node at) left read other first second = rw (← first at) (go (read at left) refl)
  where
    go : (p : Parsed) → read at left ≡ p
        → on_parsed p (λ f between some. on_parsed (read between some) (λ g after rest. parsed (two_of node f g) after rest))
        ≡ on_parsed p (λ f between some. on_parsed (other between some) (λ g after rest. parsed (two_of node f g) after rest))
    go (parsed f between some) e = rw (second at f between some e)
    go (wrong r) e = refl

parse_enough : (fuel other : ℕ) (s : List ℕ) (m at left : ℕ) → left ≤ fuel → left ≤ other → parse fuel s m at left ≡ parse other s m at left
parse_enough zero other s m at left h k = parse_none zero s m at left (omega arith) ∙ sym (parse_none other s m at left (omega arith))
parse_enough (suc deep) other s m at left h k =
    let same : suc deep - 1 ≡ deep = omega arith in
    let down : (next some : ℕ) → some ≤ left - 1 → parse (suc deep - 1) s m next some ≡ parse (other - 1) s m next some =
    λ next some l. rw same (parse_enough deep (other - 1) s m next some (omega arith) (omega arith)) in
    elim (ℕ_discrete left 0) [
      | yes e ↦ parse_none (suc deep) s m at left e ∙ sym (parse_none other s m at left e)
      | no ne ↦ parse_step (suc deep) s m at left ne h ∙ operands_same (node_at s m at) (left - 1) _ _
          (λ next. down next (left - 1) (omega arith))
          (λ next f between some e. down between some (omega (arith, (formula_found (suc deep - 1) s m next (left - 1) f between some e).counted)))
          ∙ sym (parse_step other s m at left ne k)
    ]

-- a formula is its first node and the formulas after it, each bounded by its own nodes
pub parse_node : (s : List ℕ) (m at left : ℕ) → (left ≡ 0 → ⊥)
    → parse left s m at left ≡ operands (node_at s m at) (left - 1) (λ after rest. parse rest s m after rest)
parse_node s m at left ne = parse_step left s m at left ne (le_refl left) ∙ operands_same (node_at s m at) (left - 1) _ _
    (λ next. refl)
    (λ next f between some e. parse_enough (left - 1) some s m between some (omega (arith, (formula_found (left - 1) s m next (left - 1) f between some e).counted)) (le_refl some))
