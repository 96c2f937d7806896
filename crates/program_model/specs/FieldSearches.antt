-- Public contracts rest on this module.
-- The search for a field, by numbers of classes.
use Rattle.std.specs.Prelude.{◌≡◌, ◌⊎◌, ℕ, List, [], ◌∷◌, Option, Some, None}
use Rattle.jvm_model.specs.Lookups.{Signature}
use Rattle.jvm_model.specs.Programs.{Class, Program}
use Rattle.jvm_model.specs.Resolution.{DeclaresField, FindsAmong}
use Rattle.program_model.specs.Numbers.{name_at}

-- The field is that of the first of the classes that declares one of the signature; there is none if none does.
abbrev pub IsFirstField : Program → Signature → List ℕ → Option ℕ → Type 0
IsFirstField p s [] found = found ≡ None
IsFirstField p s (n ∷ others) found =
    ((number : ℕ) × (found ≡ Some number) × DeclaresField p s (name_at p n) number)
    ⊎ (((other : ℕ) → DeclaresField p s (name_at p n) other → ⊥) × IsFirstField p s others found)

-- To look at the classes one after another is to search the superinterfaces of the class for a field (JVMS 5.4.3.2).
pub record IsSearchOrder (p : Program) (c : Class) (numbers : List ℕ) : Type 0 where
  pub finds : (s : Signature) (found : Option ℕ) → IsFirstField p s numbers found → FindsAmong p s c.interfaces found
