-- What the program writes of a file, after what was written before.
use Rattle.std.specs.Prelude.{ℕ, ◌≤◌, ◌≡◌, ◌⊎◌, List, length, take, codes, Option, IfSome}
use Rattle.std.specs.Io.KnownBytes.{Appends}
use Rattle.report.specs.Promise.{ReportOf}

-- the report on these bytes
abbrev pub Reports : List ℕ → Option (List ℕ) → Option (List ℕ) → Type 0
Reports bytes before after = (text : List ℕ) × ReportOf bytes text × Appends before after text

-- where there is no file, or none that can be read
abbrev pub no_file_text : List ℕ
no_file_text = codes "no file\n"

-- the first 4,096 bytes that a reader gives, where it is known what it gives
abbrev pub IsBeginning : Option (List ℕ) → List ℕ → Type 0
IsBeginning input bytes = (length bytes ≤ 4096) × IfSome input (λ all. bytes ≡ take 4096 all)

-- the report on how the file begins, or the line that it cannot be read: which of the two is not said, since no contract tells when a read fails
abbrev pub PrintsFile : Option (List ℕ) → Option (List ℕ) → Option (List ℕ) → Type 0
PrintsFile input before after = ((bytes : List ℕ) × IsBeginning input bytes × Reports bytes before after) ⊎ Appends before after no_file_text
