-- The partnerless states of a matrix, state by state, as they are written after the place of their count.
use Prim.Native.Nat.{ℕ, zero, suc, ◌+◌, ◌-◌, ◌*◌, ◌≤◌, ◌<◌}
use mathlib.Core.Path.{◌≡◌, refl, sym, ap, ◌∙◌}
use mathlib.Core.Bool.{Bool, true, false, So}
use mathlib.Core.List.{List, [], ◌∷◌, ◌++◌, append_assoc}
use native.Mathlib.Omega.{arith}
use native.Mathlib.Nat.{mul-le-mul_right, suc-mul}
use borrow.Author.Tests.{eq-eqb, eqb-true}
use lib.ListN.{length, take, drop, get_or, length-append, length-drop}
use lib.Seq.{length-take-le, get_or-take, get_or-drop}
use Rattle.std.specs.Prelude.{nat_eq, ◌||◌}
use Rattle.std.specs.List.{list_any}
use Rattle.settle.proofs.Test.{never, ext, any_i, any_e}
use Rattle.settle.proofs.Finite.{below_i, below_e}
use Rattle.text.specs.Text.{HasRoom, Puts}
use Rattle.text.specs.declared.Page.{Page}
use Rattle.text.proofs.Pieces.{puts_added, room_first, puts_next, added_stands}
use Rattle.relation.specs.Promise.{byte_at}
use Rattle.beside.specs.Chosen.{chosen}
use Rattle.beside.proofs.Chosen.{chosen_length}
use Rattle.compare.specs.Comparison.{counted, listed}
use Rattle.compare.specs.Found.{some_zero, partnerless, found}

-- the columns of a row lie inside the matrix
pub row_inside : (n p other count : ℕ) {cells : ℕ} → p < n → other + count ≤ n → n * n ≤ cells → p * n + other + count ≤ cells
row_inside n p other count h k room = omega (arith, mul-le-mul_right n h, suc-mul p n)

-- one of the cells is 0
some_in : (p : ℕ → Bool) (s : List ℕ) → So (list_any p s) → (i : ℕ) × (i < length s) × So (p (get_or s i 0))
some_in p [] t = never t
some_in p (x ∷ s) t = go (p x) refl t (some_in p s)
  where
    go : (b : Bool) → p x ≡ b → So (b || list_any p s) → (So (list_any p s) → (i : ℕ) × (i < length s) × So (p (get_or s i 0))) → (i : ℕ) × (i < length (x ∷ s)) × So (p (get_or (x ∷ s) i 0))
    go true e t rest = (0, omega arith, e)
    go false e t rest = let r = rest t in (suc r.0, omega (arith, r.1), r.2)

in_some : (p : ℕ → Bool) (s : List ℕ) (i : ℕ) → i < length s → So (p (get_or s i 0)) → So (list_any p s)
in_some p [] i h t = absurd (omega arith)
in_some p (x ∷ s) zero h t = rw t refl
in_some p (x ∷ s) (suc i) h t = go (p x) (in_some p s i (omega arith) t)
  where
    go : (b : Bool) → So (list_any p s) → So (b || list_any p s)
    go true t = refl
    go false t = t

pub zero_among : (matrix : List ℕ) (from count : ℕ) → from + count ≤ length matrix → list_any (λ y. nat_eq y 0) (take (from + count - from) (drop from matrix)) ≡ some_zero matrix from count
zero_among matrix from count room =
    let e : from + count - from ≡ count = omega arith in
    let size : length (take count (drop from matrix)) ≡ count = length-take-le count (drop from matrix) (omega (arith, length-drop from matrix)) in
    rw e (ext
    (λ t. (let r = some_in (λ y. nat_eq y 0) _ t in any_i _ (below_i count r.0 (omega (arith, r.1))) (eq-eqb _ _ (sym (cell r.0 (omega (arith, r.1))) ∙ eqb-true _ _ r.2))))
    (λ t. (let r = any_e _ _ t in let h = below_e count r.0 r.1 in in_some (λ y. nat_eq y 0) _ r.0 (omega (arith, h)) (eq-eqb _ _ (cell r.0 h ∙ eqb-true _ _ r.2)))))
  where
    cell : (i : ℕ) → i < count → get_or (take count (drop from matrix)) i 0 ≡ get_or matrix (from + i) 0
    cell i h = get_or-take count (drop from matrix) i 0 h ∙ get_or-drop from matrix i 0

pub partnerless_start : (passes : ℕ → Bool) (list : List ℕ) → list ≡ [] → list ≡ chosen passes 0
unfolding chosen
partnerless_start passes list e = e

-- no more states are partnerless than there are
pub partnerless_few : (matrix : List ℕ) (n low own other count : ℕ) → length (partnerless matrix n low own other count) ≤ own
partnerless_few matrix n low own other count = chosen_length _ own

pub listed_length : (mark : ℕ) (first second : List ℕ) → length (listed mark first second) ≡ 3 + length first + length second
listed_length mark first second = omega (arith, length-append (counted first) (counted second))

-- the list has three bytes and at most one for each state
pub found_short : (matrix : List ℕ) (first second : ℕ) → length (found matrix first second) ≤ 3 + first + second
found_short matrix first second =
    let a = partnerless_few matrix (first + second) 0 first first second in
    let b = partnerless_few matrix (first + second) first second 0 first in
    omega (arith, listed_length (byte_at (first + second) matrix 0 first) (partnerless matrix (first + second) 0 first first second) (partnerless matrix (first + second) first second 0 first))

-- the mark, then one list after its count, then the other, on a page
pub list_put : (p₀ p₁ p₂ p₃ p₄ : Page) (mark : ℕ) (first second : List ℕ) → p₀.at ≡ 0 → 3 + length first + length second ≤ length p₀.bytes.now
    → Puts p₀ (mark ∷ length first ∷ []) p₁ → Puts p₁ first p₂ → Puts p₂ (length second ∷ []) p₃ → Puts p₃ second p₄
    → (take p₄.at p₄.bytes.now ≡ listed mark first second) × (p₄.at ≤ length p₄.bytes.now)
list_put p₀ p₁ p₂ p₃ p₄ mark first second start room q₁ q₂ q₃ q₄ =
    let u : List ℕ = mark ∷ length first ∷ [] in
    let v : List ℕ = length second ∷ [] in
    let same : listed mark first second ≡ u ++ first ++ v ++ second = sym (append_assoc (u ++ first) v second) in
    let all : HasRoom p₀ (u ++ first ++ v ++ second) = omega (arith, ap length same, listed_length mark first second) in
    let room₃ = room_first p₀ (u ++ first ++ v) second all in
    let room₂ = room_first p₀ (u ++ first) v room₃ in
    let room₁ = room_first p₀ u first room₂ in
    let a₁ = puts_added p₀ u p₁ room₁ q₁ in
    let a₂ = puts_next p₀ u first p₁ p₂ room₂ a₁ q₂ in
    let a₃ = puts_next p₀ (u ++ first) v p₂ p₃ room₃ a₂ q₃ in
    let stands = added_stands p₀ (u ++ first ++ v ++ second) p₄ start all (puts_next p₀ (u ++ first ++ v) second p₃ p₄ all a₃ q₄) in
    (stands.0 ∙ sym same, stands.1)
