use Rattle.std.proofs.Common.{◌≡◌, ℕ, ◌≤◌, ◌⊎◌, ◌++◌, inl, inr, List, [], length, take, None, Some, sym, ap, ◌∙◌, subst, arith, rules}
use Rattle.std.proofs.lemmas.List.{append-nil, length-take-le, take_all, take_at}
use Rattle.std.proofs.lemmas.Result.{on_ok_weaker}
use Rattle.std.specs.Prelude.{Option, Ok}
use Rattle.printer.specs.Filled.{TakenFrom, ToTheEnd, Within}
use Rattle.printer.specs.Printed.{IsBeginning}
use Rattle.printer.proofs.print_file.Goals as goal

-- what was read until the buffer was full or the file ended is how the file begins
is_first : (size : ℕ) (p all rest : List ℕ) → length p ≡ size → size ≤ 4096 → all ≡ p ++ rest → (size ≡ 4096) ⊎ (rest ≡ []) → p ≡ take 4096 all
is_first size p all rest l h e (inl full) = sym (ap (take 4096) e ∙ take_at p rest 4096 (l ∙ full))
is_first size p all rest l h e (inr end) =
    let whole : all ≡ p = e ∙ ap (λ z. p ++ z) end ∙ append-nil p in
    sym (ap (take 4096) whole ∙ take_all 4096 p (omega (arith, l, h)))

is_beginning : (input rest : Option (List ℕ)) (size : ℕ) (bytes : List ℕ) → length bytes ≡ 4096 → Within {E = ℕ} 0 (length bytes) (Ok size)
    → TakenFrom {E = ℕ} input rest 0 bytes (Ok size) → ToTheEnd {E = ℕ} rest (length bytes) (Ok size) → IsBeginning input (take size bytes)
is_beginning None rest size bytes l w t e = (omega (arith, l, w.0, length-take-le size bytes w.0), tt)
is_beginning (Some all) None size bytes l w t e = absurd t
is_beginning (Some all) (Some rest) size bytes l w t e =
    let n = length-take-le size bytes w.0 in
    (omega (arith, l, w.0, n), is_first size (take size bytes) all rest n (omega (arith, l, w.0)) t (subst (λ z. (size ≡ z) ⊎ (rest ≡ [])) l e))

pub returns-in-Ok : goal.returns-in-Ok
returns-in-Ok g c =
    let d = c.in-Ok.ensures in
    let b = is_beginning _ _ c.in-Ok.size c.fill.new.bytes (search rules) d.within d.taken d.to_the_end in
    on_ok_weaker _ (λ r. inl (_, b, r)) c.print_report.ensures
