-- Public contracts rest on this module.
-- How names are printed.
use Rattle.std.specs.Prelude.{ℕ, ◌+◌, ◌/◌, ◌%◌, Bool, ◌&&◌, not, ◌==◌, nat_le, nat_lt, List, [], ◌∷◌, if◌then◌else◌}
use Rattle.std.specs.List.{flat_map}

-- A byte that is printed as it is: a visible ASCII character other than the backslash.
abbrev pub is_printed_plainly : ℕ → Bool
is_printed_plainly b = nat_le 0x21 b && nat_le b 0x7E && not (b == 0x5C)

-- A hexadecimal digit, in lower case.
abbrev pub hex_digit : ℕ → ℕ
hex_digit n = if nat_lt n 10 then 48 + n else 87 + n

-- A byte as it is, or as \x and two hexadecimal digits.
abbrev pub printed_byte : ℕ → List ℕ
printed_byte b = if is_printed_plainly b then b ∷ [] else 0x5C ∷ 120 ∷ hex_digit (b / 16) ∷ hex_digit (b % 16) ∷ []

-- A name in output.
abbrev pub printed : List ℕ → List ℕ
printed name = flat_map printed_byte name
