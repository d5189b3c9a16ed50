-- Putting the line of a pair leaves no choice. Assumes nothing.
use Prim.Native.Nat.{ℕ, zero, suc, ◌+◌, ◌-◌, ◌<◌}
use mathlib.Core.Path.{◌≡◌, sym, ap, ◌∙◌}
use mathlib.Core.List.{List}
use native.Mathlib.Omega.{arith}
use native.Mathlib.Decide.{dec_le}
use lib.ListN.{get_or}
use lib.Seq.{ext_get_or}
use Rattle.chart.specs.Chart.{Step}
use Rattle.reason.specs.Line.{Line, line_at}
use Rattle.reason.proofs.Determined.{chosen_unique}
use Rattle.choice.specs.Choice.{LinePut}

-- the bytes of two lines that are the same
same_byte : (a b : List ℕ) (place k : ℕ) → line_at a place ≡ line_at b place → k < 5 → get_or a (place + k) 0 ≡ get_or b (place + k) 0
same_byte a b place zero e h = let z : place + 0 ≡ place = omega arith in rw z (ap (λ (l : Line). l.p) e)
same_byte a b place (suc zero) e h = ap (λ (l : Line). l.q) e
same_byte a b place (suc (suc zero)) e h = ap (λ (l : Line). l.side) e
same_byte a b place (suc (suc (suc zero))) e h = ap (λ (l : Line). l.action) e
same_byte a b place (suc (suc (suc (suc zero)))) e h = ap (λ (l : Line). l.target) e
same_byte a b place (suc (suc (suc (suc (suc k))))) e h = absurd (omega arith)

pub line_determined : (n : ℕ) (steps : List Step) (mark : ℕ × ℕ → ℕ) (p q : ℕ) (old : List ℕ) (place : ℕ) (a b : List ℕ) → LinePut n steps mark p q old place a → LinePut n steps mark p q old place b → a ≡ b
line_determined n steps mark p q old place a b x y = ext_get_or 0 a b (x.same_length ∙ sym y.same_length) (λ i h. byte i)
  where
    line : line_at a place ≡ line_at b place
    line = chosen_unique n steps mark (line_at a place) (line_at b place) (x.pair_is ∙ sym y.pair_is) x.chosen y.chosen

    byte : (i : ℕ) → get_or a i 0 ≡ get_or b i 0
    byte i = elim (dec_le place i) [
      | no f ↦ x.before i (omega arith) ∙ sym (y.before i (omega arith))
      | yes h ↦ elim (dec_le (place + 5) i) [
        | yes g ↦ x.after i g ∙ sym (y.after i g)
        | no f ↦ (let k : (j : ℕ) × (i ≡ place + j) = (i - place, omega arith) in rw k.1 (same_byte a b place k.0 line (omega (arith, k.1))))
      ]
    ]
