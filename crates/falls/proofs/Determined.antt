-- What a round notes for the next leaves no choice; its rows are `keeps_determined` of relation. Assumes nothing.
use Prim.Native.Nat.{ℕ, ◌-◌, ◌^◌, ◌<◌}
use mathlib.Core.Path.{◌≡◌, sym, ap, ◌∙◌}
use mathlib.Core.Bool.{Bool}
use mathlib.Core.List.{List}
use lib.ListN.{length, get_or}
use lib.Seq.{ext_get_or}
use Rattle.settle.specs.Test.{pick}
use Rattle.words.specs.Words.{member}
use Rattle.words.proofs.Words.{same_members}
use Rattle.falls.specs.Round.{fallen, Noted}

pub noted_determined : (n : ℕ) (among : ℕ → Bool) (near next old a b : List ℕ) (v w : ℕ) → length a ≡ length b → v < 2 ^ 64 → w < 2 ^ 64
    → Noted n among near next old a v → Noted n among near next old b w → (v ≡ w) × (a ≡ b)
noted_determined n among near next old a b v w size h k s t = (
  e,
  ext_get_or 0 a b size (λ p i. s.fell_noted p ∙ ap (λ (x : ℕ). pick (member x p) (fallen (2 ^ n - 1) near next p) (get_or old p 0)) e ∙ sym (t.fell_noted p)),
)
  where
    e : v ≡ w
    e = same_members 64 v w h k (λ p l. s.rows_changed p ∙ sym (t.rows_changed p))
