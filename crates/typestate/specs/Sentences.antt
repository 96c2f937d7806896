-- Only the proofs of this crate rest on this module.
-- What is said on standard error of a file: no name in it can end a line.
use Rattle.std.specs.Prelude.{ℕ, ◌==◌, List, [], ◌∷◌, if◌then◌else◌}
use Rattle.std.specs.List.{flat_map}
use Rattle.site_report.specs.Printed.{printed}

-- A space stays, and each other byte is written as in the names of lines.
abbrev pub said_byte : ℕ → List ℕ
said_byte b = if b == 32 then 32 ∷ [] else printed (b ∷ [])

abbrev pub said : List ℕ → List ℕ
said text = flat_map said_byte text
