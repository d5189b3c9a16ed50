-- What the first bytes of a file say of the whole: a refusal other than 1 stands whatever follows, anything after a whole chart is refused 8,
-- and 3,173 bytes decide.
use Prim.Native.Nat.{ℕ, zero, suc, ◌+◌, ◌-◌, ◌*◌, ◌<◌, ◌≤◌}
use mathlib.Core.Path.{◌≡◌, refl, ap, ap₂, sym, ◌∙◌}
use mathlib.Core.Bool.{Bool, true, false}
use mathlib.Core.List.{List, ◌∷◌, ◌++◌}
use mathlib.Core.Logic.{◌⊎◌, inl, inr}
use native.Mathlib.Omega.{arith}
use native.Mathlib.Decide.{dec_le, ℕ_discrete}
use lib.ListN.{length, get_or, take, drop, length-append, take-append-drop, get_or-append}
use lib.Seq.{length-take-le, take_all}
use lib.Dec.{ltb, eqb}
use Rattle.settle.specs.Test.{pick}
use Rattle.refusal.specs.Refusal.{chart_refusal}
use Rattle.refusal.specs.declared.Input as Input
use Rattle.refusal.specs.declared.Refusal.{Refusal}
use Rattle.chart.specs.Layout.{longest_chart}
use Rattle.chart.specs.Reading.{and_then, presence, code_order, judge_codes, judge_byte, triple_order, judge_triple, judge_triples, and_then, read_transitions, read_actions, read_chart}
use Rattle.chart.specs.Fault.{states_in, actions_in, triple_at, fault_at}
use Rattle.chart.specs.declared.Shape.{Shape}
use Rattle.chart.proofs.Reading.{present, byte_fine}
use Rattle.chart.proofs.Judging.{triples_fine}
use Rattle.chart.proofs.Accepted.{accepted, accepted_short, reached}
use Rattle.chart.proofs.Refused.{Placed, refused}
use Rattle.chart.proofs.Continued.{same_test, needed_byte, left_over}
use Rattle.std.specs.Prelude.{Result, Ok, Err}
use Rattle.chart.specs.Reading.{Judged}
use Rattle.chart.specs.Reading.{faultless}

-- ---- judging: a needed byte is absent from s, or s is judged as the whole is

abbrev Kept : List ℕ → Judged → Judged → Type 0
Kept s a whole = (a ≡ Err (chart_refusal 1 (length s) 0)) ⊎ (whole ≡ a)

then_kept : (s : List ℕ) (a a' b b' : Judged) → Kept s a a' → (a ≡ faultless → Kept s b b') → Kept s (and_then a b) (and_then a' b')
then_kept s (Ok tt) a' b b' (inl e) g = let z : ◌≡◌ {A = ℕ} 0 1 = cc in absurd (omega arith)
then_kept s (Ok tt) a' b b' (inr e) g = rw e (g refl)
then_kept s (Err r) a' b b' (inl e) g = inl e
then_kept s (Err r) a' b b' (inr e) g = rw e (inr refl)

presence_kept : (s more : List ℕ) (p : ℕ) → Kept s (presence s p) (presence (s ++ more) p)
presence_kept s more p = needed_byte (Kept s) s more p _ (λ _. inl refl) (λ _. inr refl)

codes_kept : (s more : List ℕ) (p i left : ℕ) → Kept s (judge_codes s p i left) (judge_codes (s ++ more) p i left)
unfolding judge_codes
codes_kept s more p i zero = inr refl
codes_kept s more p i (suc k) =
    then_kept s (presence s p) _ _ _ (presence_kept s more p) (λ e.
    then_kept s (code_order s p i) _ _ _ (inr (order (present s p e))) (λ _.
    codes_kept s more (p + 1) (i + 1) k))
  where
    order : p < length s → code_order (s ++ more) p i ≡ code_order s p i
    order h = rw (get_or-append s more 0 (p - 1) (omega arith), get_or-append s more 0 p h)

byte_kept : (s more : List ℕ) (p bound i byte : ℕ) → Kept s (judge_byte s p bound i byte) (judge_byte (s ++ more) p bound i byte)
byte_kept s more p bound i byte =
    then_kept s (presence s p) _ _ _ (presence_kept s more p) (λ e. inr (rw (get_or-append s more 0 p (present s p e))))

triple_kept : (s more : List ℕ) (n m p i : ℕ) → Kept s (judge_triple s n m p i) (judge_triple (s ++ more) n m p i)
triple_kept s more n m p i =
    then_kept s (judge_byte s p n i 0) _ _ _ (byte_kept s more p n i 0) (λ _.
    then_kept s (judge_byte s (p + 1) m i 1) _ _ _ (byte_kept s more (p + 1) m i 1) (λ _.
    then_kept s (judge_byte s (p + 2) n i 2) _ _ _ (byte_kept s more (p + 2) n i 2) (λ e.
    inr (order (byte_fine s (p + 2) n i 2 e).0))))
  where
    order : p + 2 < length s → triple_order (s ++ more) p i ≡ triple_order s p i
    order h =
        rw (
          get_or-append s more 0 p (omega arith),
          get_or-append s more 0 (p + 1) (omega arith),
          get_or-append s more 0 (p + 2) h,
          get_or-append s more 0 (p - 3) (omega arith),
          get_or-append s more 0 (p - 3 + 1) (omega arith),
          get_or-append s more 0 (p - 3 + 2) (omega arith),
        )

triples_kept : (s more : List ℕ) (n m p i left : ℕ) → Kept s (judge_triples s n m p i left) (judge_triples (s ++ more) n m p i left)
unfolding judge_triples
triples_kept s more n m p i zero = inr refl
triples_kept s more n m p i (suc k) =
    then_kept s (judge_triple s n m p i) _ _ _ (triple_kept s more n m p i) (λ _. triples_kept s more n m (p + 3) (i + 1) k)

-- ---- section by section: a needed byte is absent from s, or s is read as the whole is, or s is a whole chart and what follows is refused 8

abbrev Fate : List ℕ → Result Shape Refusal → Result Shape Refusal → Type 0
Fate s a whole =
    (a ≡ Err (chart_refusal 1 (length s) 0))
    ⊎ ((whole ≡ a) ⊎ ((sh : Shape) × (a ≡ Ok sh) × (whole ≡ Err (chart_refusal 8 (length s) 0))))

where_kept : (s : List ℕ) (a a' : Judged) (k k' : Result Shape Refusal) → Kept s a a' → (a ≡ faultless → Fate s k k') → Fate s (and_then a k) (and_then a' k')
where_kept s (Ok tt) a' k k' (inl e) g = let z : ◌≡◌ {A = ℕ} 0 1 = cc in absurd (omega arith)
where_kept s (Ok tt) a' k k' (inr e) g = rw e (g refl)
where_kept s (Err r) a' k k' (inl e) g = let z : r ≡ chart_refusal 1 (length s) 0 = cc in inl (ap Err z)
where_kept s (Err r) a' k k' (inr e) g = rw e (inr (inl refl))

-- a chart that ends at q
abbrev ended : List ℕ → ℕ → Shape → Result Shape Refusal
ended s q sh = pick (ltb q (length s)) (Err (chart_refusal 8 q 0)) (Ok sh)

end_kept : (s more : List ℕ) (q : ℕ) (sh : Shape) → q ≤ length s → Fate s (ended s q sh) (ended (s ++ more) q sh)
end_kept s more q sh h = left_over (Fate s) s more q h (inr (inl refl)) (inr (inl refl)) (λ e. inr (inr (sh, refl, ap (λ (k : ℕ). Err (chart_refusal 8 k 0)) e)))

steps_kept : (s more : List ℕ) (p : ℕ) (sh : Shape) → p ≤ length s
    → Fate s (and_then (judge_triples s sh.n sh.m p 0 sh.t) (ended s (p + 3 * sh.t) sh)) (and_then (judge_triples (s ++ more) sh.n sh.m p 0 sh.t) (ended (s ++ more) (p + 3 * sh.t) sh))
steps_kept s more p sh h =
    where_kept s (judge_triples s sh.n sh.m p 0 sh.t) _ _ _ (triples_kept s more sh.n sh.m p 0 sh.t) (λ e.
    end_kept s more (p + 3 * sh.t) sh (reached s sh.n sh.m p sh.t h (triples_fine s sh.n sh.m p 0 sh.t e)))

transitions_kept : (s more : List ℕ) (n m p : ℕ) → Fate s (read_transitions s n m p) (read_transitions (s ++ more) n m p)
unfolding read_transitions
transitions_kept s more n m p =
    where_kept s (presence s p) _ _ _ (presence_kept s more p) (λ _.
    where_kept s (presence s (p + 1)) _ _ _ (presence_kept s more (p + 1)) (λ e.
    let h : p + 1 < length s = present s (p + 1) e in
    rw (get_or-append s more 0 p (omega arith), get_or-append s more 0 (p + 1) h)
    (same_test (Fate s) (ltb 1024 (get_or s p 0 + 256 * get_or s (p + 1) 0)) (inr (inl refl))
    (steps_kept s more (p + 2) (record { n = n; m = m; t = get_or s p 0 + 256 * get_or s (p + 1) 0 }) (omega arith)))))

actions_kept : (s more : List ℕ) (n p : ℕ) → Fate s (read_actions s n p) (read_actions (s ++ more) n p)
unfolding read_actions
actions_kept s more n p =
    where_kept s (presence s p) _ _ _ (presence_kept s more p) (λ e.
    rw (get_or-append s more 0 p (present s p e))
    (same_test (Fate s) (ltb 32 (get_or s p 0)) (inr (inl refl))
    (where_kept s (judge_codes s (p + 1) 0 (get_or s p 0)) _ _ _ (codes_kept s more (p + 1) 0 (get_or s p 0)) (λ _.
    transitions_kept s more n (get_or s p 0) (p + 1 + get_or s p 0)))))

chart_kept : (s more : List ℕ) → Fate s (read_chart s) (read_chart (s ++ more))
unfolding read_chart
chart_kept s more =
    where_kept s (presence s 0) _ _ _ (presence_kept s more 0) (λ e.
    rw (get_or-append s more 0 0 (present s 0 e))
    (same_test (Fate s) (ltb (get_or s 0 0) 1) (inr (inl refl))
    (same_test (Fate s) (ltb 64 (get_or s 0 0)) (inr (inl refl))
    (where_kept s (presence s (get_or s 0 0)) _ _ _ (presence_kept s more (get_or s 0 0)) (λ _.
    actions_kept s more (get_or s 0 0) (1 + get_or s 0 0))))))

-- ---- what follows the first bytes

-- a refusal other than 1 stands, whatever follows
pub refusal_stands : (s more : List ℕ) (r : Refusal) → read_chart s ≡ Err r → (r.number ≡ 1 → ⊥) → read_chart (s ++ more) ≡ Err r
refusal_stands s more r e f = go (read_chart s) (read_chart (s ++ more)) e (chart_kept s more)
  where
    go : (a whole : Result Shape Refusal) → a ≡ Err r → Fate s a whole → whole ≡ Err r
    go a whole e (inl g) = let z : r ≡ chart_refusal 1 (length s) 0 = cc in absurd (f (ap (λ (x : Refusal). x.number) z))
    go a whole e (inr (inl g)) = g ∙ e
    go a whole e (inr (inr (sh, g, h))) = let z : ◌≡◌ {A = ℕ} 0 1 = cc in absurd (omega arith)

-- bytes after a whole chart are refused 8 at the first
pub whole_then_more : (s : List ℕ) (x : ℕ) (more : List ℕ) (sh : Shape) → read_chart s ≡ Ok sh → read_chart (s ++ (x ∷ more)) ≡ Err (chart_refusal 8 (length s) 0)
whole_then_more s x more sh e = go (read_chart s) (read_chart (s ++ (x ∷ more))) e refl (chart_kept s (x ∷ more))
  where
    go : (a whole : Result Shape Refusal) → a ≡ Ok sh → read_chart (s ++ (x ∷ more)) ≡ whole → Fate s a whole → whole ≡ Err (chart_refusal 8 (length s) 0)
    go a whole i w (inl g) = let z : ◌≡◌ {A = ℕ} 0 1 = cc in absurd (omega arith)
    go a whole i w (inr (inl g)) =
        absurd (omega (arith, (accepted s sh e).whole, (accepted (s ++ (x ∷ more)) sh (w ∙ (g ∙ i))).whole, length-append s (x ∷ more)))
    go a whole i w (inr (inr (_, g, h))) = h

-- a chart that breaks off is refused 1
pub beginning_refused : (s : List ℕ) (x : ℕ) (more : List ℕ) (sh : Shape) → read_chart (s ++ (x ∷ more)) ≡ Ok sh → read_chart s ≡ Err (chart_refusal 1 (length s) 0)
beginning_refused s x more sh e = go (read_chart s) refl (chart_kept s (x ∷ more))
  where
    go : (a : Result Shape Refusal) → read_chart s ≡ a → Fate s a (read_chart (s ++ (x ∷ more))) → a ≡ Err (chart_refusal 1 (length s) 0)
    go a i (inl g) = g
    go a i (inr (inl g)) = absurd (omega (arith, (accepted s sh (i ∙ sym g ∙ e)).whole, (accepted (s ++ (x ∷ more)) sh e).whole, length-append s (x ∷ more)))
    go a i (inr (inr (_, g, h))) = let z : ◌≡◌ {A = ℕ} 0 1 = cc in absurd (omega arith)

-- 3,173 bytes, one more than the longest chart has, decide as the whole would
pub first_bytes_decide : (s : List ℕ) (k : ℕ) → longest_chart < k → read_chart (take k s) ≡ read_chart s
first_bytes_decide s k h = elim (dec_le (length s) k) [ yes l ↦ ap read_chart (take_all k s l) | no l ↦ longer (omega arith) ]
  where
    longer : k < length s → read_chart (take k s) ≡ read_chart s
    longer l = go (length-take-le k s (omega arith)) (chart_kept (take k s) (drop k s))
      where
        go : length (take k s) ≡ k → Fate (take k s) (read_chart (take k s)) (read_chart (take k s ++ drop k s)) → read_chart (take k s) ≡ read_chart s
        go q (inl g) = absurd (omega (arith, (refused (take k s) _ g).place_few))
        go q (inr (inl g)) = sym g ∙ ap read_chart (take-append-drop k s)
        go q (inr (inr (sh, g, f))) = absurd (omega (arith, accepted_short (take k s) sh g))

-- ---- what stands before the fault

-- the counts of the states and of the actions stand in the first bytes
counts_stay : (s more : List ℕ) → 1 + states_in (s ++ more) < length s → (states_in (s ++ more) ≡ states_in s) × (actions_in (s ++ more) ≡ actions_in s)
counts_stay s more h =
    let n : states_in (s ++ more) ≡ states_in s = get_or-append s more 0 0 (omega arith) in
    (n, get_or-append s more 0 (1 + states_in (s ++ more)) h ∙ ap (λ (k : ℕ). get_or s (1 + k) 0) n)

-- so a fault is not past the bytes that end where it stands in the whole
fault_stays : (s more : List ℕ) (number place byte : ℕ) → length s ≡ fault_at (s ++ more) number place byte → fault_at s number place byte < length s → ⊥
fault_stays s more number place byte e h = go (eqb number 6) (eqb number 7) e h
  where
    in_triple : length s ≡ triple_at (s ++ more) place + byte → triple_at s place + byte < length s → ⊥
    in_triple e h = let c = counts_stay s more (omega arith) in omega (arith, c.0, c.1)

    go : (x y : Bool) → length s ≡ pick x (triple_at (s ++ more) place + byte) (pick y (triple_at (s ++ more) place + byte) place)
        → pick x (triple_at s place + byte) (pick y (triple_at s place + byte) place) < length s → ⊥
    go true y e h = in_triple e h
    go false true e h = in_triple e h
    go false false e h = omega arith

-- nothing before the byte at fault is at fault: the bytes before it only break off. 8 is left out, whose place is where the triples end
pub before_the_fault : (s : List ℕ) (r : Refusal) → read_chart s ≡ Err r → (r.number ≡ 8 → ⊥)
    → let at = fault_at s r.number r.place r.byte in read_chart (take at s) ≡ Err (chart_refusal 1 at 0)
before_the_fault s r e not-8 = elim (ℕ_discrete r.number 1) [ yes one ↦ breaks one | no other ↦ cut other (w.here other) ]
  where
    at : ℕ
    at = fault_at s r.number r.place r.byte

    w : Placed s r
    w = refused s r e

    breaks : r.number ≡ 1 → read_chart (take at s) ≡ Err (chart_refusal 1 at 0)
    breaks one =
        let q : at ≡ r.place = ap (λ (k : ℕ). fault_at s k r.place r.byte) one in
        let z : r ≡ chart_refusal 1 r.place 0 =
        ap₂ (λ (i : Input.Input) (k : ℕ). record { input = i; number = k; place = r.place; byte = r.byte }) w.of_chart one
        ∙ ap (chart_refusal 1 r.place) (w.byte_but_in_6 (λ six. omega arith)) in
        rw q (ap read_chart (take_all r.place s (omega (arith, w.absent_at one))) ∙ e ∙ ap Err z)

    number_8 : {k : ℕ} → ◌≡◌ {A = Result Shape Refusal} (Err r) (Err (chart_refusal 8 k 0)) → r.number ≡ 8
    number_8 {k} d = let y : r ≡ chart_refusal 8 k 0 = cc in ap (λ (x : Refusal). x.number) y

    cut : (r.number ≡ 1 → ⊥) → at < length s → read_chart (take at s) ≡ Err (chart_refusal 1 at 0)
    cut other here = go (length-take-le at s (omega arith)) (rw (take-append-drop at s) at (chart_kept (take at s) (drop at s)))
      where
        go : length (take at s) ≡ at → Fate (take at s) (read_chart (take at s)) (read_chart s) → read_chart (take at s) ≡ Err (chart_refusal 1 at 0)
        go q (inl g) = g ∙ ap (λ (k : ℕ). Err (chart_refusal 1 k 0)) q
        go q (inr (inl g)) = absurd (fault_stays (take at s) (drop at s) r.number r.place r.byte (rw (take-append-drop at s) q) ((refused (take at s) r (sym g ∙ e)).here other))
        go q (inr (inr (sh, g, h))) = absurd (not-8 (number_8 (sym e ∙ h)))
