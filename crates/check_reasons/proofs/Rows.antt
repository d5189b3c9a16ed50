-- The words of the pairs listed, one line after another, and that a line which passes is a good one.
use Prim.Native.Nat.{ℕ, zero, suc, ◌^◌, ◌≤◌, ◌<◌}
use mathlib.Core.Path.{◌≡◌, refl, ap, ap₂, sym, subst, subst⁻¹, ◌∙◌}
use mathlib.Core.Bool.{Bool, So}
use mathlib.Core.List.Memᴰ
use mathlib.Core.List.Memᴰ.{head as here}
use mathlib.Core.List.Memᴰ.{tail as there}
use mathlib.Core.List.{List, [], ◌∷◌, Memᴰ as Mem}
use mathlib.Core.Logic.{◌↔◌, ⊎_elim}
use native.Mathlib.Omega.{arith}
use native.Mathlib.Decide.{ℕ_discrete}
use lib.Bits.{bit_or}
use lib.Dec.{eqb}
use lib.ListN.{get_or, set, replicate, length-set, get_or-replicate}
use lib.Seq.{get_or-set_same, get_or-set_other}
use borrow.Author.Tests.{eq-eqb, eqb-true}
use Rattle.settle.specs.Test.{either}
use Rattle.settle.proofs.Test.{never, either_l, either_r, either_e}
use Rattle.words.specs.Words.{member, word_of, With}
use Rattle.words.proofs.Words.{word_lt, word_ext, step_word_lem, word_member, none_member}
use Rattle.chart.specs.Chart.{Step}
use Rattle.sheet.proofs.Meaning.{TargetsBelow}
use Rattle.reason.specs.Line.{Line, pair_of, IsMove, relies}
use Rattle.reason.specs.Good.{Listed, GoodLine}
use Rattle.reason.proofs.Spelled.{listed_cases}
use Rattle.reason.proofs.Own.{relies_in}
use Rattle.check_reasons.specs.Judging.{in_words, Holds, Words, Whether, Rests, Passes}
use Rattle.check_reasons.proofs.Leads.{whether_also}

-- ---- a word with one state more

module _ (set s r : ℕ) (small : set < 2 ^ 64) (s_in : s < 64) (w : With set s r) where
  with_word : r ≡ word_of 64 (λ x. either (member set x) (eqb s x))
  with_word = w.0 s_in ∙ subst (λ (v : ℕ). bit_or v (2 ^ s) ≡ word_of 64 (λ x. either (member set x) (eqb s x))) (word_ext 64 set small) (step_word_lem 64 s (member set) s_in)

  with_small : r < 2 ^ 64
  with_small = rw with_word (word_lt 64 (λ x. either (member set x) (eqb s x)))

  with_member : (x : ℕ) → x < 64 → member r x ≡ either (member set x) (eqb s x)
  with_member x h = ap (λ (v : ℕ). member v x) with_word ∙ word_member 64 x (λ y. either (member set y) (eqb s y)) h

-- ---- the words of the pairs listed

pub words_none : Words [] (replicate 64 0)
words_none =
    record {
      sixty_four = refl;
      small = λ k. small 64 k;
      holds = λ p q h k. (λ s. never (sym (ap (λ (v : ℕ). member v q) (get_or-replicate 64 p 0 0 h) ∙ none_member q) ∙ s), λ l. absurd (Memᴰ.not-nil l.1));
    }
  where
    small : (n k : ℕ) → get_or (replicate n 0) k 0 < 2 ^ 64
    small zero k = omega arith
    small (suc n) zero = omega arith
    small (suc n) (suc k) = small n k

module _ (lines : List Line) (rows : List ℕ) (l : Line) (r : ℕ) (w : Words lines rows) (p_in : l.p < 64) (q_in : l.q < 64) (more : With (get_or rows l.p 0) l.q r) where
  same : (k : ℕ) → k ≡ l.p → get_or (set rows l.p r) k 0 ≡ r
  same k e = rw e (get_or-set_same rows l.p r 0 (omega (arith, w.sixty_four)))

  other : (k : ℕ) → (k ≡ l.p → ⊥) → get_or (set rows l.p r) k 0 ≡ get_or rows k 0
  other k f = get_or-set_other rows l.p k r 0 f

  -- the word of the line's p has its q, and what it had
  row_is : (p q : ℕ) → p ≡ l.p → q < 64 → in_words (set rows l.p r) (p, q) ≡ either (in_words rows (p, q)) (eqb l.q q)
  row_is p q e k =
      ap (λ (v : ℕ). member v q) (same p e)
      ∙ with_member (get_or rows l.p 0) l.q r (w.small l.p) q_in more q k
      ∙ ap (λ (s : ℕ). either (in_words rows (s, q)) (eqb l.q q)) (sym e)

  row_other : (p q : ℕ) → (p ≡ l.p → ⊥) → in_words (set rows l.p r) (p, q) ≡ in_words rows (p, q)
  row_other p q f = ap (λ (v : ℕ). member v q) (other p f)

  to_listed : (p q : ℕ) → p < 64 → q < 64 → So (in_words (set rows l.p r) (p, q)) → Listed (l ∷ lines) (p, q)
  to_listed p q h k s = elim (ℕ_discrete p l.p) [
    | yes e ↦ ⊎_elim (λ t. later ((w.holds p q h k).0 t)) (λ t. (l, here refl, ap₂ (λ (a b : ℕ). (a, b)) (sym e) (eqb-true l.q q t))) (either_e _ _ (sym (row_is p q e k) ∙ s))
    | no f ↦ later ((w.holds p q h k).0 (sym (row_other p q f) ∙ s))
  ]
    where
      later : Listed lines (p, q) → Listed (l ∷ lines) (p, q)
      later (j, m, e) = (j, there m, e)

  from_listed : (p q : ℕ) → p < 64 → q < 64 → Listed (l ∷ lines) (p, q) → So (in_words (set rows l.p r) (p, q))
  from_listed p q h k m = ⊎_elim
      (λ g. row_is p q (sym (ap (λ (x : ℕ × ℕ). x.0) g)) k ∙ either_r _ (eq-eqb l.q q (ap (λ (x : ℕ × ℕ). x.1) g)))
      (λ j. (let t = (w.holds p q h k).1 j in elim (ℕ_discrete p l.p) [ yes e ↦ row_is p q e k ∙ either_l _ t | no f ↦ row_other p q f ∙ t ]))
      (listed_cases l lines (p, q) m)

  pub words_more : Words (l ∷ lines) (set rows l.p r)
  words_more = record {
    sixty_four = length-set rows l.p r ∙ w.sixty_four;
    small = λ k. elim (ℕ_discrete k l.p) [ yes e ↦ rw (same k e) (with_small (get_or rows l.p 0) l.q r (w.small l.p) q_in more) | no f ↦ rw (other k f) (w.small k) ];
    holds = λ p q h k. (to_listed p q h k, from_listed p q h k);
  }

-- ---- a line is good exactly if it passes

module _ (n : ℕ) (steps : List Step) (few : n ≤ 64) (targets : TargetsBelow n steps) (earlier : List Line) (rows : List ℕ) (h : Holds earlier rows) (l : Line) where
  held : IsMove steps l → (x : ℕ × ℕ) → Mem x (relies steps l) → So (in_words rows x) ↔ Listed earlier x
  held v x m = let i = relies_in n steps l targets v x m in h x.0 x.1 (omega (arith, i.0)) (omega (arith, i.1))

  pub passes_good : Passes n steps rows l → GoodLine n steps earlier l
  passes_good g =
      record {
        p_in = g.p_in;
        q_in = g.q_in;
        moves = g.rests.0;
        rests = λ x m. (held g.rests.0 x m).0 (g.rests.1 x m);
        new = λ j. g.new ((h l.p l.q (omega (arith, g.p_in)) (omega (arith, g.q_in))).1 j);
      }

  pub good_passes : GoodLine n steps earlier l → Passes n steps rows l
  good_passes g =
      record {
        p_in = g.p_in;
        q_in = g.q_in;
        new = λ s. g.new ((h l.p l.q (omega (arith, g.p_in)) (omega (arith, g.q_in))).0 s);
        rests = (g.moves, λ x m. (held g.moves x m).1 (g.rests x m));
      }

-- ---- the answer for a line by its side

module _ (n : ℕ) (steps : List Step) (rows : List ℕ) (l : Line) where
  pub side_passes : l.p < n → l.q < n → (So (in_words rows (pair_of l)) → ⊥) → (side : ℕ) → l.side ≡ side
      → (b : Bool) → Whether (Rests steps rows (record { p = l.p; q = l.q; side = side; action = l.action; target = l.target })) b → Whether (Passes n steps rows l) b
  side_passes p_in q_in new side e b w = whether_also b
      (λ r. record { p_in = p_in; q_in = q_in; new = new; rests = r })
      (λ g. g.rests)
      (subst⁻¹ (λ (s : ℕ). Whether (Rests steps rows (record { p = l.p; q = l.q; side = s; action = l.action; target = l.target })) b) e w)
