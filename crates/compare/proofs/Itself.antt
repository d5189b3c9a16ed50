-- A chart against itself, where not refused, gives three zeros. Assumes nothing.
use Prim.Native.Nat.{ℕ, ◌<◌}
use mathlib.Core.Path.{◌≡◌, refl, sym, ap, subst, ◌∙◌}
use mathlib.Core.List.Memᴰ.{head as here}
use mathlib.Core.List.{List, [], ◌∷◌}
use lib.ListN.{length, take}
use Rattle.chart.specs.Chart.{Chart, states}
use Rattle.chart.specs.Layout.{Bytes}
use Rattle.chart.specs.Reading.{chart_in}
use Rattle.chart.proofs.Accepted.{same_shape}
use Rattle.beside.proofs.Partner.{self_partners}
use Rattle.beside.proofs.Reading.{two_read, first_formed}
use Rattle.compare.specs.Comparison.{listed, Alone, Comparison}
use Rattle.compare.specs.Promise.{ComparePromise}
use Rattle.compare.specs.declared.Comparison as Struct
use Rattle.compare.proofs.Told.{told}
use Rattle.std.specs.Prelude.{Ok}

-- where all are matched, none is listed
none_alone : {n : ℕ} {Matched : ℕ → Type 0} (list : List ℕ) → Alone n Matched list → ((p : ℕ) → p < n → Matched p) → list ≡ []
none_alone [] a all = refl
none_alone (p ∷ list) a all = let x = (a.exactly p).0 (here refl) in absurd (x.1 (all p x.0))

-- every state is its own partner
pub itself_compared : (c : Chart) {mark rounds : ℕ} {first second : List ℕ} → 0 < states c → Comparison c c mark first second rounds → (mark ≡ 0) × (first ≡ []) × (second ≡ [])
itself_compared c {mark} {rounds} {first} {second} some w = (
  w.zero_exactly_if_partners.1 (self_partners c 0 some),
  none_alone first w.first_alone (λ p h. (p, self_partners c p h)),
  none_alone second w.second_alone (λ p h. (p, self_partners c p h)),
)

pub itself_three_zeros : (chart : List ℕ) → Bytes chart → (old new : List ℕ) (given : Struct.Comparison) → ComparePromise chart chart old new (Ok given)
    → (given.written ≡ 3) × (take 3 new ≡ 0 ∷ 0 ∷ 0 ∷ [])
itself_three_zeros chart bytes old new given p =
    let t = told chart chart old new given p in
    let both = two_read chart chart t.c t.d t.read in
    let same : t.d ≡ t.c = sym both.second_is ∙ ap (chart_in chart) (same_shape both.second_read both.first_read) ∙ both.first_is in
    let z = itself_compared t.c (first_formed both bytes bytes).states_some (subst (λ (x : Chart). Comparison t.c x t.mark t.of_first t.of_second given.rounds) same t.comparison) in
    let list : listed t.mark t.of_first t.of_second ≡ 0 ∷ 0 ∷ 0 ∷ [] = rw (z.0, z.1, z.2) in
    let size : given.written ≡ 3 = t.written_is ∙ ap length list in
    (size, ap (λ (k : ℕ). take k new) (sym size) ∙ t.start_is ∙ list)
