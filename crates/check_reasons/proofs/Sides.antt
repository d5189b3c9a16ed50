-- The answer for a line by its side, over the triples of a chart. Assumes nothing.
use Prim.Native.Nat.{ℕ, ◌<◌}
use mathlib.Core.Path.{◌≡◌, sym, ◌∙◌}
use mathlib.Core.Bool.{Bool, false, false≢true}
use mathlib.Core.List.{List}
use Rattle.ranges.specs.Triples.{steps_of}
use Rattle.ranges.specs.declared.Triples.{Triples}
use Rattle.reason.specs.Line.{Line, pair_of}
use Rattle.check_reasons.specs.Judging.{in_words, Whether, Passes}
use Rattle.check_reasons.specs.Lines.{RestsSo}
use Rattle.check_reasons.proofs.Leads.{forth_rests, back_rests}
use Rattle.check_reasons.proofs.Rows.{side_passes}

module _ (t : Triples) (rows : List ℕ) (l : Line) (p_in : l.p < t.shape.n) (q_in : l.q < t.shape.n) (b listed : Bool) (listed_is : listed ≡ in_words rows (pair_of l)) (new : listed ≡ false) where
  pub forth_passes : l.side ≡ 0 → Whether (RestsSo t l.p l.q l.action l.target (λ u. in_words rows (l.target, u))) b → Whether (Passes t.shape.n (steps_of t) rows l) b
  forth_passes e w = side_passes t.shape.n (steps_of t) rows l p_in q_in (λ s. false≢true (sym new ∙ listed_is ∙ s)) 0 e b (forth_rests t.bytes.now t.at t.shape.n t.first t.ranged.sorted rows l.p l.q p_in q_in l.action l.target b w)

  pub back_passes : l.side ≡ 1 → Whether (RestsSo t l.q l.p l.action l.target (λ u. in_words rows (u, l.target))) b → Whether (Passes t.shape.n (steps_of t) rows l) b
  back_passes e w = side_passes t.shape.n (steps_of t) rows l p_in q_in (λ s. false≢true (sym new ∙ listed_is ∙ s)) 1 e b (back_rests t.bytes.now t.at t.shape.n t.first t.ranged.sorted rows l.p l.q p_in q_in l.action l.target b w)
