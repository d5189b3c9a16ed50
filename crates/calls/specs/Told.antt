-- What the code that a call returns tells C: 0 exactly where the question was answered; else the parts of the refusal.
use Rattle.std.specs.Prelude.{ℕ, ◌≡◌, ◌↔◌}
use Rattle.refusal.specs.declared.Refusal.{Refusal}
use Rattle.calls.specs.Packing.{Parts}

-- an answer is given or refused; Promise is what the question promises of it
pub record Told {A G : Type 0} (given : G → A) (refused : Refusal → A) (Promise : A → Type 0) (code : ℕ) : Type 0 where
  pub zero_exactly : (code ≡ 0) ↔ ((g : G) × Promise (given g))
  pub else_parts : (code ≡ 0 → ⊥) → (r : Refusal) × Promise (refused r) × Parts code r
