-- What the first bytes of a sheet say of the whole: a refusal other than 1 stands whatever follows, anything after a whole sheet is refused 8,
-- and 403 bytes decide.
use Prim.Native.Nat.{ℕ, zero, suc, ◌+◌, ◌*◌, ◌-◌, ◌<◌, ◌≤◌}
use mathlib.Core.Path.{◌≡◌, refl, ap, sym, ◌∙◌}
use mathlib.Core.List.{List, ◌∷◌, ◌++◌}
use mathlib.Core.Logic.{◌⊎◌, inl, inr}
use native.Mathlib.Omega.{arith}
use native.Mathlib.Decide.{dec_le, ℕ_discrete}
use lib.ListN.{length, get_or, take, drop, length-append, take-append-drop, get_or-append}
use lib.Seq.{length-take-le, take_all}
use lib.Dec.{ltb, eqb}
use Rattle.refusal.specs.Refusal.{sheet_refusal}
use Rattle.refusal.specs.declared.Refusal.{Refusal}
use Rattle.chart.proofs.Continued.{same_test, needed_byte, left_over}
use Rattle.sheet.specs.Formula.{Formula}
use Rattle.sheet.specs.Layout.{longest_sheet}
use Rattle.sheet.specs.Reading.{Node, Leaf, Two, One, Bad, node_at, Parsed, parsed, wrong, on_parsed, operands, parse}
use Rattle.sheet.specs.Reading.{Sheet, sheet, refused, ending, read_nodes, read_sheet}
use Rattle.sheet.proofs.Found.{FaultBy, formula_found, fault_found}
use Rattle.sheet.proofs.Accepted.{layout_read, accepted_short, refusal_small}

-- ---- a node, a formula: a needed byte is absent from s, or s is read as the whole is

abbrev Kept : {A : Type 0} → (Refusal → A) → List ℕ → A → A → Type 0
Kept refuse s a whole = (a ≡ refuse (sheet_refusal 1 (length s))) ⊎ (whole ≡ a)

node_kept : (s more : List ℕ) (m at : ℕ) → Kept Bad s (node_at s m at) (node_at (s ++ more) m at)
unfolding node_at
node_kept s more m at =
    let node : ℕ = get_or s at 0 in
    needed_byte (Kept Bad s) s more at _ (λ _. inl refl) (λ h.
    rw (get_or-append s more 0 at h)
    (same_test (Kept Bad s) (ltb node 3) (inr refl)
    (same_test (Kept Bad s) (ltb node 5) (inr refl)
    (same_test (Kept Bad s) (ltb 6 node) (inr refl)
    (needed_byte (Kept Bad s) s more (at + 1) _ (λ _. inl refl) (λ l. inr (rw (get_or-append s more 0 (at + 1) l))))))))

on_kept : (s : List ℕ) (p p' : Parsed) (next next' : Formula → ℕ → ℕ → Parsed) → Kept wrong s p p'
    → ((f : Formula) (at left : ℕ) → Kept wrong s (next f at left) (next' f at left)) → Kept wrong s (on_parsed p next) (on_parsed p' next')
on_kept s (parsed f at left) p' next next' (inl e) g = let z : ◌≡◌ {A = ℕ} 0 1 = cc in absurd (omega arith)
on_kept s (parsed f at left) p' next next' (inr e) g = rw e (g f at left)
on_kept s (wrong r) p' next next' (inl e) g = inl e
on_kept s (wrong r) p' next next' (inr e) g = rw e (inr refl)

operands_kept : (s : List ℕ) (node node' : Node) (left : ℕ) (read read' : ℕ → ℕ → Parsed) → Kept Bad s node node'
    → ((at some : ℕ) → Kept wrong s (read at some) (read' at some)) → Kept wrong s (operands node left read) (operands node' left read')
operands_kept s node node' left read read' (inl e) g = rw e (inl refl)
operands_kept s node node' left read read' (inr e) g = rw e (same node)
  where
    same : (node : Node) → Kept wrong s (operands node left read) (operands node left read')
    same (Bad r) = inr refl
    same (Leaf node at) = inr refl
    same (One node byte at) = on_kept s (read at left) _ _ _ (g at left) (λ f after rest. inr refl)
    same (Two node at) =
        on_kept s (read at left) _ _ _ (g at left) (λ f between some.
        on_kept s (read between some) _ _ _ (g between some) (λ h after rest. inr refl))

parse_kept : (fuel : ℕ) (s more : List ℕ) (m at left : ℕ) → Kept wrong s (parse fuel s m at left) (parse fuel (s ++ more) m at left)
unfolding parse
parse_kept zero s more m at left = inr refl
parse_kept (suc deep) s more m at left =
    same_test (Kept wrong s) (eqb left 0) (inr refl)
    (operands_kept s (node_at s m at) _ (left - 1) _ _ (node_kept s more m at) (parse_kept deep s more m))

-- ---- section by section: the same, or s is a whole sheet and what follows is refused 8

abbrev Fate : List ℕ → Sheet → Sheet → Type 0
Fate s a whole =
    Kept refused s a whole
    ⊎ ((kind count : ℕ) × (f : Formula) × (a ≡ sheet kind count f) × (whole ≡ refused (sheet_refusal 8 (length s))))

ending_kept : (s more : List ℕ) (kind count : ℕ) (p p' : Parsed) → ((f : Formula) (at left : ℕ) → p ≡ parsed f at left → at ≤ length s) → Kept wrong s p p'
    → Fate s (ending s kind count p) (ending (s ++ more) kind count p')
ending_kept s more kind count (parsed f at left) p' inside (inl e) = let z : ◌≡◌ {A = ℕ} 0 1 = cc in absurd (omega arith)
ending_kept s more kind count (parsed f at left) p' inside (inr e) =
    rw e (same_test (Fate s) (ltb 0 left) (inl (inr refl))
    (left_over (Fate s) s more at (inside f at left refl) (inl (inr refl)) (inl (inr refl)) (λ z.
    inr (kind, count, f, refl, ap (λ (k : ℕ). refused (sheet_refusal 8 k)) z))))
ending_kept s more kind count (wrong r) p' inside (inl e) = let z : r ≡ sheet_refusal 1 (length s) = cc in inl (inl (ap refused z))
ending_kept s more kind count (wrong r) p' inside (inr e) = rw e (inl (inr refl))

nodes_kept : (s more : List ℕ) (m kind : ℕ) → Fate s (read_nodes s m kind) (read_nodes (s ++ more) m kind)
unfolding read_nodes
nodes_kept s more m kind =
    let count : ℕ = get_or s 2 0 in
    needed_byte (Fate s) s more 2 _ (λ _. inl (inl refl)) (λ h.
    rw (get_or-append s more 0 2 h)
    (same_test (Fate s) (ltb count 1) (inl (inr refl))
    (same_test (Fate s) (ltb 200 count) (inl (inr refl))
    (ending_kept s more kind count (parse count s m 3 count) _
    (λ f at left e. (formula_found count s m 3 count f at left e).stands.inside) (parse_kept count s more m 3 count)))))

sheet_kept : (s more : List ℕ) (m : ℕ) → Fate s (read_sheet s m) (read_sheet (s ++ more) m)
unfolding read_sheet
sheet_kept s more m =
    needed_byte (Fate s) s more 0 _ (λ _. inl (inl refl)) (λ h.
    rw (get_or-append s more 0 0 h)
    (same_test (Fate s) (eqb (get_or s 0 0) 1)
    (needed_byte (Fate s) s more 1 _ (λ _. inl (inl refl)) (λ l.
    rw (get_or-append s more 0 1 l)
    (same_test (Fate s) (ltb 2 (get_or s 1 0)) (inl (inr refl))
    (nodes_kept s more m (get_or s 1 0)))))
    (inl (inr refl))))

-- ---- what follows the first bytes

-- a refusal other than 1 stands, whatever follows
pub refusal_stands : (s more : List ℕ) (m : ℕ) (r : Refusal) → read_sheet s m ≡ refused r → (r.number ≡ 1 → ⊥) → read_sheet (s ++ more) m ≡ refused r
refusal_stands s more m r e f = go (read_sheet s m) (read_sheet (s ++ more) m) e (sheet_kept s more m)
  where
    go : (a whole : Sheet) → a ≡ refused r → Fate s a whole → whole ≡ refused r
    go a whole e (inl (inl g)) = let z : r ≡ sheet_refusal 1 (length s) = cc in absurd (f (ap (λ (x : Refusal). x.number) z))
    go a whole e (inl (inr g)) = g ∙ e
    go a whole e (inr (kind, count, f, g, h)) = let z : ◌≡◌ {A = ℕ} 0 1 = cc in absurd (omega arith)

-- bytes, and the same with more after them, are not accepted as one formula
one_whole : (s : List ℕ) (x : ℕ) (more : List ℕ) (m kind count : ℕ) (f : Formula) → read_sheet s m ≡ sheet kind count f → read_sheet (s ++ (x ∷ more)) m ≡ sheet kind count f → ⊥
one_whole s x more m kind count f e h =
    omega (arith, ap length (layout_read s m kind count f e).0, ap length (layout_read (s ++ (x ∷ more)) m kind count f h).0, length-append s (x ∷ more))

-- bytes after a whole sheet are refused 8 at the first
pub whole_then_more : (s : List ℕ) (x : ℕ) (more : List ℕ) (m kind count : ℕ) (f : Formula) → read_sheet s m ≡ sheet kind count f
    → read_sheet (s ++ (x ∷ more)) m ≡ refused (sheet_refusal 8 (length s))
whole_then_more s x more m kind count f e = go (read_sheet s m) (read_sheet (s ++ (x ∷ more)) m) e refl (sheet_kept s (x ∷ more) m)
  where
    go : (a whole : Sheet) → a ≡ sheet kind count f → read_sheet (s ++ (x ∷ more)) m ≡ whole → Fate s a whole → whole ≡ refused (sheet_refusal 8 (length s))
    go a whole i w (inl (inl g)) = let z : ◌≡◌ {A = ℕ} 0 1 = cc in absurd (omega arith)
    go a whole i w (inl (inr g)) = absurd (one_whole s x more m kind count f e (w ∙ (g ∙ i)))
    go a whole i w (inr (_, _, _, g, h)) = h

-- a sheet that breaks off is refused 1, and not 13, which comes first at the same place: where an accepted sheet goes on, nodes are left
pub beginning_refused : (s : List ℕ) (x : ℕ) (more : List ℕ) (m kind count : ℕ) (f : Formula) → read_sheet (s ++ (x ∷ more)) m ≡ sheet kind count f
    → read_sheet s m ≡ refused (sheet_refusal 1 (length s))
beginning_refused s x more m kind count f e = go (read_sheet s m) refl (sheet_kept s (x ∷ more) m)
  where
    go : (a : Sheet) → read_sheet s m ≡ a → Fate s a (read_sheet (s ++ (x ∷ more)) m) → a ≡ refused (sheet_refusal 1 (length s))
    go a i (inl (inl g)) = g
    go a i (inl (inr g)) = absurd (one_whole s x more m kind count f (i ∙ (sym g ∙ e)) e)
    go a i (inr (_, _, _, g, h)) = let z : ◌≡◌ {A = ℕ} 0 1 = cc in absurd (omega arith)

-- 403 bytes, one more than the longest sheet has, decide as the whole would
pub first_bytes_decide : (s : List ℕ) (m k : ℕ) → longest_sheet < k → read_sheet (take k s) m ≡ read_sheet s m
first_bytes_decide s m k h = elim (dec_le (length s) k) [ yes l ↦ ap (λ t. read_sheet t m) (take_all k s l) | no l ↦ longer (omega arith) ]
  where
    longer : k < length s → read_sheet (take k s) m ≡ read_sheet s m
    longer l = go (length-take-le k s (omega arith)) (sheet_kept (take k s) (drop k s) m)
      where
        go : length (take k s) ≡ k → Fate (take k s) (read_sheet (take k s) m) (read_sheet (take k s ++ drop k s) m) → read_sheet (take k s) m ≡ read_sheet s m
        go q (inl (inl g)) = absurd (omega (arith, (refusal_small (take k s) m _ g).absent_nearer refl))
        go q (inl (inr g)) = sym g ∙ ap (λ t. read_sheet t m) (take-append-drop k s)
        go q (inr (kind, count, f, g, _)) = absurd (omega (arith, accepted_short (take k s) m kind count f g))

-- and so do the first bytes of a formula, two for each node
pub first_bytes_parse : (s : List ℕ) (m at left k : ℕ) → at + 2 * left ≤ k → parse left (take k s) m at left ≡ parse left s m at left
first_bytes_parse s m at left k h = elim (dec_le (length s) k) [ yes l ↦ ap (λ t. parse left t m at left) (take_all k s l) | no l ↦ longer (omega arith) ]
  where
    longer : k < length s → parse left (take k s) m at left ≡ parse left s m at left
    longer l = go (length-take-le k s (omega arith)) (parse_kept left (take k s) (drop k s) m at left)
      where
        go : length (take k s) ≡ k → Kept wrong (take k s) (parse left (take k s) m at left) (parse left (take k s ++ drop k s) m at left)
            → parse left (take k s) m at left ≡ parse left s m at left
        go q (inl g) = absurd (omega (arith, (fault_found left (take k s) m at left _ g).absent_nearer refl))
        go q (inr g) = sym g ∙ ap (λ t. parse left t m at left) (take-append-drop k s)

-- nothing before the place of a refusal is at fault: the bytes before it only break off. Before that of 8 stands a whole sheet, and 13 is said of all
-- the nodes before it
pub before_the_place : (s : List ℕ) (m : ℕ) (r : Refusal) → read_sheet s m ≡ refused r → (r.number ≡ 8 → ⊥) → (r.number ≡ 13 → ⊥)
    → read_sheet (take r.place s) m ≡ refused (sheet_refusal 1 r.place)
before_the_place s m r e not-8 not-13 = go (length-take-le r.place s (w.within tt)) (rw (take-append-drop r.place s) at (sheet_kept (take r.place s) (drop r.place s) m))
  where
    w : FaultBy s m (Unit {0}) 403 r
    w = refusal_small s m r e

    number_8 : {k : ℕ} → refused r ≡ refused (sheet_refusal 8 k) → r.number ≡ 8
    number_8 {k} d = let y : r ≡ sheet_refusal 8 k = cc in ap (λ (x : Refusal). x.number) y

    same : read_sheet (take r.place s) m ≡ refused r → r.number ≡ 1 → read_sheet (take r.place s) m ≡ refused (sheet_refusal 1 r.place)
    same g one = g ∙ ap refused w.of_sheet ∙ ap (λ (k : ℕ). refused (sheet_refusal k r.place)) one

    go : length (take r.place s) ≡ r.place → Fate (take r.place s) (read_sheet (take r.place s) m) (read_sheet s m) → read_sheet (take r.place s) m ≡ refused (sheet_refusal 1 r.place)
    go q (inl (inl g)) = g ∙ ap (λ (k : ℕ). refused (sheet_refusal 1 k)) q
    go q (inr (kind, count, f, g, h)) = absurd (not-8 (number_8 (sym e ∙ h)))
    go q (inl (inr g)) = elim (ℕ_discrete r.number 1) [
      | yes one ↦ same (sym g ∙ e) one
      | no other ↦ absurd (omega (arith, (refusal_small (take r.place s) m r (sym g ∙ e)).here other not-13))
    ]
