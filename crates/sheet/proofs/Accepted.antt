-- A sheet is accepted exactly if it follows the layout, and a refusal lies within its first 403 bytes or at their end.
use Prim.Native.Nat.{ℕ, ◌+◌, ◌-◌, ◌<◌, ◌≤◌}
use mathlib.Core.Path.{◌≡◌, refl, ap, sym, ◌∙◌}
use mathlib.Core.Logic.{◌↔◌}
use mathlib.Core.List.{List, [], ◌∷◌, append-nil}
use native.Mathlib.Omega.{arith}
use borrow.Author.Tests.{le-ltb, lt-leb}
use lib.ListN.{length, get_or, drop, drop_of_length-le}
use Rattle.refusal.specs.declared.Refusal.{Refusal}
use Rattle.chart.proofs.Steps.{byte_then}
use Rattle.sheet.specs.Formula.{Formula, nodes}
use Rattle.sheet.specs.Layout.{formula_bytes, encode, longest_sheet, WellFormed}
use Rattle.sheet.specs.WithKind.{with_kind}
use Rattle.sheet.specs.Reading.{parsed, parse, Sheet, sheet, refused, read_nodes, read_sheet, sheet_read, AcceptedExactly}
use Rattle.sheet.specs.Kinds.{kind_number, kind_of}
use Rattle.sheet.specs.declared.Kind.{Kind}
use Rattle.sheet.specs.declared.Outline.{Outline}
use Rattle.sheet.proofs.KindBytes.{kind_back, number_back}
use Rattle.sheet.proofs.Found.{FaultBy, nodes_positive, bytes_few, formula_found, SheetAt, SheetFound, sheet_found}
use Rattle.sheet.proofs.Written.{formula_written}
use Rattle.std.specs.Prelude.{Result, Ok, Err}

-- ---- what the reader's answer says

sheet_at : (s : List ℕ) (m kind count : ℕ) (f : Formula) → read_sheet s m ≡ sheet kind count f → SheetAt s m kind count f
unfolding SheetFound
sheet_at s m kind count f e = rw e at (sheet_found s m)

-- an accepted sheet's formula, and where it ends
pub record Formed (s : List ℕ) (m : ℕ) (o : Outline) : Type 0 where
  pub formula : Formula
  pub after : ℕ
  pub parsed_is : parse o.nodes s m 3 o.nodes ≡ parsed formula after 0
  pub read_is : read_sheet s m ≡ sheet (kind_number o.kind) o.nodes formula
  pub kind_known : kind_number o.kind ≤ 2
  pub nodes_few : o.nodes ≤ 200
  pub whole : length s ≡ after

pub formed : (s : List ℕ) (m : ℕ) (o : Outline) → sheet_read (read_sheet s m) ≡ Ok o → Formed s m o
formed s m o e = go (read_sheet s m) refl e
  where
    recount : {a b after : ℕ} {f : Formula} → a ≡ b → parse a s m 3 a ≡ parsed f after 0 → parse b s m 3 b ≡ parsed f after 0
    recount e h = rw e at h

    go : (x : Sheet) → read_sheet s m ≡ x → sheet_read x ≡ Ok o → Formed s m o
    go (refused r) q e = let z : ◌≡◌ {A = ℕ} 0 1 = cc in absurd (omega arith)
    go (sheet kind count f) q e =
        let same : ◌≡◌ {A = Outline} (record { kind = kind_of kind; nodes = count }) o = cc in
        let here = sheet_at s m kind count f q in
        let k : kind ≡ kind_number o.kind = sym (kind_back kind here.kind_known) ∙ ap (λ (x : Outline). kind_number x.kind) same in
        let c : count ≡ o.nodes = ap (λ (x : Outline). x.nodes) same in
        let found = formula_found count s m 3 count f here.after 0 here.formula_is in
        record {
          formula = f;
          after = here.after;
          parsed_is = recount c here.formula_is;
          read_is = rw (k, c) at q;
          kind_known = omega (arith, here.kind_known);
          nodes_few = omega (arith, here.count_few);
          whole = omega (arith, here.ends, found.stands.inside);
        }

pub refused_exactly : (s : List ℕ) (m : ℕ) (r : Refusal) → (sheet_read (read_sheet s m) ≡ Err r) ↔ (read_sheet s m ≡ refused r)
refused_exactly s m r = (go (read_sheet s m), λ e. ap sheet_read e)
  where
    go : (x : Sheet) → sheet_read x ≡ Err r → x ≡ refused r
    go (refused q) e = cc
    go (sheet kind count f) e = let z : ◌≡◌ {A = ℕ} 0 1 = cc in absurd (omega arith)

-- ---- accepted exactly if the layout is followed

-- a sheet that was read is its own layout
pub layout_read : (s : List ℕ) (m kind count : ℕ) (f : Formula) → read_sheet s m ≡ sheet kind count f
    → (s ≡ encode kind f) × WellFormed m kind f × (count ≡ nodes f)
unfolding encode
layout_read s m kind count f e =
    let here = sheet_at s m kind count f e in
    let found = formula_found count s m 3 count f here.after 0 here.formula_is in
    let same : count ≡ nodes f = omega (arith, found.counted) in
    let nothing : drop here.after s ≡ [] = drop_of_length-le s here.ends in
    let formula : drop 3 s ≡ formula_bytes f = rw (nothing, append-nil) at found.stands.bytes in
    let begins : 2 < length s = here.begins in
    let first : s ≡ get_or s 0 0 ∷ drop 1 s = byte_then s 0 (omega arith) in
    let second : drop 1 s ≡ get_or s 1 0 ∷ drop 2 s = byte_then s 1 (omega arith) in
    let third : drop 2 s ≡ get_or s 2 0 ∷ drop 3 s = byte_then s 2 begins in
    let q : s ≡ 1 ∷ kind ∷ nodes f ∷ formula_bytes f = cc (here.one_equation, here.kind_is, here.count_is) in (
      q,
      record { kind_known = here.kind_known; nodes_few = omega (arith, here.count_few); labels_in = found.labels_in },
      same,
    )

-- a well-formed sheet's layout is read as that sheet
pub layout_written : (m : ℕ) → m ≤ 32 → (kind : ℕ) (f : Formula) → WellFormed m kind f → read_sheet (encode kind f) m ≡ sheet kind (nodes f) f
unfolding read_sheet read_nodes encode
layout_written m few kind f w =
    let known : kind ≤ 2 = w.kind_known in
    let some : 1 ≤ nodes f = nodes_positive f in
    let small : nodes f ≤ 200 = w.nodes_few in
    let s : List ℕ = encode kind f in
    let left : nodes f - nodes f ≡ 0 = omega arith in
    let whole : length s ≤ 3 + length (formula_bytes f) = omega arith in
    let formula : parse (nodes f) s m 3 (nodes f) ≡ parsed f (3 + length (formula_bytes f)) 0 =
    rw left at (formula_written s m few f w.labels_in 3 (nodes f) [] (omega arith) (rw append-nil)) in
    let long : 2 < length s = omega arith in
    rw (
      lt-leb (length s) 0 (omega arith),
      lt-leb (length s) 1 (omega arith),
      lt-leb (length s) 2 long,
      le-ltb 2 kind known,
      le-ltb (nodes f) 1 some,
      le-ltb 200 (nodes f) small,
      formula,
      le-ltb _ _ whole,
    )

pub encode_short : (kind : ℕ) (f : Formula) → nodes f ≤ 200 → length (encode kind f) ≤ longest_sheet
unfolding encode
encode_short kind f few = omega (arith, bytes_few f)

-- no accepted sheet is longer than the longest
pub accepted_short : (s : List ℕ) (m kind count : ℕ) (f : Formula) → read_sheet s m ≡ sheet kind count f → length s ≤ longest_sheet
accepted_short s m kind count f e =
    let q = layout_read s m kind count f e in
    rw q.0 (encode_short kind f q.1.nodes_few)

pub accepted_exactly : (s : List ℕ) (m : ℕ) → m ≤ 32 → (kind : ℕ) (f : Formula)
    → (read_sheet s m ≡ sheet kind (nodes f) f) ↔ ((s ≡ encode kind f) × WellFormed m kind f)
accepted_exactly s m few kind f = (
  λ e. let q = layout_read s m kind (nodes f) f e in (q.0, q.1),
  λ q. ap (λ s. read_sheet s m) q.0 ∙ layout_written m few kind f q.1,
)

-- an accepted sheet stays one with another kind, and its formula stays
pub read_with_kind : (s : List ℕ) (m : ℕ) → m ≤ 32 → (kind count : ℕ) (f : Formula) → read_sheet s m ≡ sheet kind count f
    → (other : ℕ) → other ≤ 2 → read_sheet (with_kind other s) m ≡ sheet other count f
unfolding encode
read_with_kind s m few kind count f e other known =
    let q = layout_read s m kind count f e in
    let w : WellFormed m other f = record { kind_known = known; nodes_few = q.1.nodes_few; labels_in = q.1.labels_in } in
    rw (q.0, q.2) (layout_written m few other f w)

pub read_count : (s : List ℕ) (m kind count : ℕ) (f : Formula) → read_sheet s m ≡ sheet kind count f → count ≡ nodes f
read_count s m kind count f e = (layout_read s m kind count f e).2

-- what the reader promises of its bytes
pub read_exactly : (s : List ℕ) (m : ℕ) {answer : Result Outline Refusal} → answer ≡ sheet_read (read_sheet s m) → (answer ≡ sheet_read (read_sheet s m)) × AcceptedExactly s m answer
read_exactly s m {answer} e = (e, λ few o. (forth o, back few o))
  where
    forth : (o : Outline) → answer ≡ Ok o → (f : Formula) × (nodes f ≡ o.nodes) × (s ≡ encode (kind_number o.kind) f) × WellFormed m (kind_number o.kind) f
    forth o h =
        let F = formed s m o (sym e ∙ h) in
        let q = layout_read s m (kind_number o.kind) o.nodes F.formula F.read_is in
        (F.formula, sym q.2, q.0, q.1)

    back : m ≤ 32 → (o : Outline) → (f : Formula) × (nodes f ≡ o.nodes) × (s ≡ encode (kind_number o.kind) f) × WellFormed m (kind_number o.kind) f → answer ≡ Ok o
    back few o (f, count, h, w) =
        e ∙ ap sheet_read ((accepted_exactly s m few (kind_number o.kind) f).1 (h, w))
        ∙ ap (λ (k : Kind). Ok (record { kind = k; nodes = nodes f })) (number_back o.kind)
        ∙ ap (λ (k : ℕ). Ok (record { kind = o.kind; nodes = k })) count

-- no two well-formed sheets have the same bytes
pub same_bytes : (m : ℕ) → m ≤ 32 → (k l : ℕ) (f g : Formula) → WellFormed m k f → WellFormed m l g → encode k f ≡ encode l g → (k ≡ l) × (f ≡ g)
same_bytes m few k l f g v w e =
    let q : sheet k (nodes f) f ≡ sheet l (nodes g) g = sym (layout_written m few k f v) ∙ ap (λ s. read_sheet s m) e ∙ layout_written m few l g w in
    (cc, cc)

-- ---- refusals

pub refusal_small : (s : List ℕ) (m : ℕ) (r : Refusal) → read_sheet s m ≡ refused r → FaultBy s m (Unit {0}) 403 r
unfolding SheetFound
refusal_small s m r e = rw e at (sheet_found s m)
