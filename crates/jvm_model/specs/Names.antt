-- Public contracts rest on this module.
-- The names of JVMS 4.2, as bytes. Of all bytes only the ASCII characters that it forbids are forbidden.
use Rattle.std.specs.Prelude.{codes, ◌≡◌, ℕ, ◌<◌, Bool, false, ◌||◌, ◌&&◌, not, ◌==◌, List, [], ◌∷◌, length, All, IsTrue}
use Rattle.std.specs.List.{list_all, join_with_byte}
use Rattle.std.specs.Str.{bytes_eq}

-- A byte that may stand in an unqualified name: none of . ; [ and /.
abbrev pub is_name_byte : ℕ → Bool
is_name_byte b = not (b == 46 || b == 59 || b == 91 || b == 47)

-- An unqualified name (JVMS 4.2.2): at least one byte, and each may stand there.
abbrev pub is_unqualified_name : List ℕ → Bool
is_unqualified_name [] = false
is_unqualified_name (b ∷ bytes) = list_all is_name_byte (b ∷ bytes)

-- None of < and >.
abbrev pub is_plain_byte : ℕ → Bool
is_plain_byte b = not (b == 60 || b == 62)

-- The name of a method (JVMS 4.2.2): <init>, <clinit>, or an unqualified name without < and >.
abbrev pub is_method_name : List ℕ → Bool
is_method_name name =
    bytes_eq name (codes "<init>") || bytes_eq name (codes "<clinit>") || (is_unqualified_name name && list_all is_plain_byte name)

-- The name of a class or an interface (JVMS 4.2.1): unqualified names with / between them.
pub record IsClassName (name : List ℕ) : Type 0 where
  pub parts : List (List ℕ)
  pub some : 0 < length parts
  pub each : All (λ part. IsTrue (is_unqualified_name part)) parts
  pub joined : name ≡ join_with_byte 47 parts
