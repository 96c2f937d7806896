-- Only the proofs of this crate rest on this module.
-- The folder that the words of the program name.
use Rattle.std.specs.Prelude.{codes, ℕ, ◌&&◌, ◌==◌, List, [], ◌∷◌, Option, Some, None, length, nat_lt, slice_get, unwrap_or, if◌then◌else◌}
use Rattle.std.specs.List.{before_first, after_first, position_or_len}
use Rattle.std.specs.Str.{bytes_eq}

-- The word after the first `--classes`, if one stands there.
abbrev pub word_after_option : List (List ℕ) → Option (List ℕ)
word_after_option [] = None
word_after_option (word ∷ others) = if bytes_eq word (codes "--classes") then slice_get others 0 else word_after_option others

-- What stands after the first `=` of a word, where `--classes` stands before it.
abbrev pub value_in : List ℕ → Option (List ℕ)
value_in word =
    if nat_lt (position_or_len (λ b. b == 61) word) (length word) && bytes_eq (before_first (λ b. b == 61) word) (codes "--classes") then Some (after_first (λ b. b == 61) word)
    else None

-- That of the first word that has it.
abbrev pub first_value : List (List ℕ) → Option (List ℕ)
first_value [] = None
first_value (word ∷ others) = or_else (value_in word) (first_value others)
  where
    or_else : Option (List ℕ) → Option (List ℕ) → Option (List ℕ)
    or_else None o = o
    or_else (Some x) o = Some x

-- The first of these two that there is, and else the current folder.
abbrev pub folder_in : List (List ℕ) → List ℕ
folder_in words = unwrap_or (word_after_option words) (unwrap_or (first_value words) (codes "."))
