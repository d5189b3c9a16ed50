-- The kinds that short forms wrote before T-06, while unsaid still asked for the greatest solution.
use Rattle.std.specs.Prelude.{ℕ}
use Rattle.short_form.specs.ShortForm.{by_name}

abbrev pub kind_before : ℕ → ℕ
kind_before name = by_name name 0 1 0 1
