-- The tables of codes, code by code: the flags that are set, and the flagged codes that are numbered. Assumes nothing.
use Prim.Native.Nat.{ℕ, ◌+◌, ◌≤◌, ◌<◌}
use mathlib.Core.Path.{◌≡◌, refl, ap, sym, ◌∙◌}
use mathlib.Core.Bool.{Bool, true, false, So}
use mathlib.Core.List.{List, [], ◌∷◌, ◌++◌, Memᴰ as Mem}
use native.Mathlib.Numerals.{add-one}
use native.Mathlib.Decide.{ℕ_discrete}
use native.Mathlib.Omega.{arith}
use lib.ListN.{length, get_or, take, set, length-append}
use lib.Seq.{get_or-set_same, get_or-set_other, take-suc, take_all}
use lib.Dec.{eqb}
use borrow.Author.Tests.{eq-eqb, ne_eqb}
use Rattle.settle.specs.Test.{either, any_of}
use Rattle.settle.proofs.Test.{either_l, either_r, either_false, any_more}
use Rattle.chart.specs.Chart.{Chart}
use Rattle.beside.specs.Chosen.{chosen}
use Rattle.beside.specs.Beside.{declares, joint_codes, index_of}
use Rattle.beside.proofs.Chosen.{chosen_i, chosen_e, chosen_more, chosen_skip, chosen_cong}
use Rattle.beside.proofs.Codes.{index_append, index_last}
use Rattle.side_by_side.specs.Table.{Flagged, flagged, Numbered}

-- ---- flags

declares_more : (codes : List ℕ) (x y : ℕ) → declares (codes ++ (y ∷ [])) x ≡ either (declares codes x) (eqb x y)
unfolding declares
declares_more codes x y = any_more (eqb x) codes y

pub flagged_none : (flags : List Bool) → Flagged [] flags flags
unfolding declares any_of either
flagged_none flags = record { flags = λ x h. refl }

-- one flag more
pub flagged_more : (s : List ℕ) (i : ℕ) (old flags : List Bool) → i < length s → get_or s i 0 < length flags → Flagged (take i s) old flags
    → Flagged (take (i + 1) s) old (set flags (get_or s i 0) true)
flagged_more s i old flags h room F = record { flags = λ x l. rw (add-one, take-suc s i 0 h, declares_more (take i s) x (get_or s i 0)) (flag x l (ℕ_discrete x (get_or s i 0))) }
  where
    flag : (x : ℕ) → x < 256 → Dec (x ≡ get_or s i 0)
        → get_or (set flags (get_or s i 0) true) x false ≡ either (either (declares (take i s) x) (eqb x (get_or s i 0))) (get_or old x false)
    flag x l (yes e) = let set_there : get_or (set flags (get_or s i 0) true) x false ≡ true = rw e (get_or-set_same flags (get_or s i 0) true false room) in set_there ∙ sym (either_l _ (either_r _ (eq-eqb _ _ e)))
    flag x l (no n) = rw (ne_eqb _ _ n, either_false) (get_or-set_other flags (get_or s i 0) x true false n ∙ F.flags x l)

pub flagged_all : (s : List ℕ) (i : ℕ) (old flags : List Bool) → length s ≤ i → Flagged (take i s) old flags → Flagged s old flags
flagged_all s i old flags h F = rw (take_all i s h) at F

-- ---- numbers

-- the same of the codes below x
pub record Numbering (flags : List Bool) (places codes : List ℕ) (x : ℕ) : Type 0 where
  pub few : length codes ≤ x
  pub codes_are : codes ≡ chosen (flagged flags) x
  pub places_are : (y : ℕ) → y < x → So (flagged flags y) → get_or places y 0 ≡ index_of y (chosen (flagged flags) x)

pub numbering_none : (flags : List Bool) (places codes : List ℕ) → codes ≡ [] → Numbering flags places codes 0
unfolding chosen
numbering_none flags places codes e = record { few = omega (arith, ap length e); codes_are = e; places_are = λ y h t. absurd (omega arith) }

module _ (flags : List Bool) (places codes : List ℕ) (x : ℕ) (N : Numbering flags places codes x) where
  -- a code with the flag
  pub numbering_more : x < length places → get_or flags x false ≡ true → Numbering flags (set places x (length codes)) (codes ++ (x ∷ [])) (x + 1)
  numbering_more l t =
      let more = chosen_more (flagged flags) x t in
      record {
        few = omega (arith, N.few, length-append codes (x ∷ []));
        codes_are = rw (more, N.codes_are);
        places_are = λ y below flag. rw more (place y flag (ℕ_discrete y x) (omega arith));
      }
    where
      place : (y : ℕ) → So (flagged flags y) → Dec (y ≡ x) → y ≤ x → get_or (set places x (length codes)) y 0 ≡ index_of y (chosen (flagged flags) x ++ (x ∷ []))
      place y flag (yes same) below = rw same (get_or-set_same places x (length codes) 0 l ∙ ap length N.codes_are ∙ sym (index_last x (chosen (flagged flags) x) (λ m. absurd (omega (arith, (chosen_e (flagged flags) x x m).0)))))
      place y flag (no other) below = get_or-set_other places x y (length codes) 0 other ∙ N.places_are y (omega arith) flag ∙ sym (index_append y (chosen (flagged flags) x) (x ∷ []) (chosen_i (flagged flags) x y (omega arith) flag))

  -- a code without it
  pub numbering_skip : get_or flags x false ≡ false → Numbering flags places codes (x + 1)
  numbering_skip f =
      let none : So (flagged flags x) → ⊥ = λ t. (let z : true ≡ false = cc in let w : ◌≡◌ {A = ℕ} 0 1 = cc in omega arith) in
      let skip = chosen_skip (flagged flags) x none in
      record {
        few = omega (arith, N.few);
        codes_are = rw skip N.codes_are;
        places_are = λ y below flag. rw skip (N.places_are y (earlier y flag none below) flag);
      }
    where
      earlier : (y : ℕ) → So (flagged flags y) → (So (flagged flags x) → ⊥) → y < x + 1 → y < x
      earlier y flag none below = elim (ℕ_discrete y x) [ yes same ↦ absurd (none (rw same at flag)) | no other ↦ omega arith ]

-- all of them
pub numbering_all : (flags : List Bool) (places codes : List ℕ) (x : ℕ) → x ≡ 256 → Numbering flags places codes x → Numbered flags places codes
numbering_all flags places codes x e N = let M : Numbering flags places codes 256 = rw e at N in record { codes_are = M.codes_are; places_are = M.places_are }

-- ---- the codes of two charts

-- where no code bore the flag, those of both charts bear it
both_flagged : {codes others : List ℕ} {none once both : List Bool} → ((x : ℕ) → x < 256 → get_or none x false ≡ false) → Flagged codes none once → Flagged others once both
    → (x : ℕ) → x < 256 → flagged both x ≡ either (declares codes x) (declares others x)
unfolding either
both_flagged {codes} {others} empty F G x h = rw (G.flags x h, F.flags x h, empty x h) (go (declares codes x) (declares others x))
  where
    go : (p q : Bool) → either q (either p false) ≡ either p q
    go true true = refl
    go true false = refl
    go false true = refl
    go false false = refl

-- the codes of both, and where each of them stands
pub record Joint (c d : Chart) (places codes : List ℕ) : Type 0 where
  pub codes_are : codes ≡ joint_codes c d
  pub places_are : (x : ℕ) → Mem x (joint_codes c d) → get_or places x 0 ≡ index_of x (joint_codes c d)

pub joint_numbered : (c d : Chart) {none once both : List Bool} {places codes : List ℕ} → ((x : ℕ) → x < 256 → get_or none x false ≡ false)
    → Flagged c.codes none once → Flagged d.codes once both → Numbered both places codes → Joint c d places codes
unfolding joint_codes
joint_numbered c d {both} empty F G N =
    let joint : chosen (flagged both) 256 ≡ joint_codes c d = chosen_cong _ _ 256 (both_flagged empty F G) in
    record {
      codes_are = N.codes_are ∙ joint;
      places_are = λ x m. (let e = chosen_e (flagged both) 256 x (rw joint m) in N.places_are x e.0 e.1 ∙ ap (index_of x) joint);
    }
