-- Public contracts rest on this module.
-- What stands in a table of TOML: the value at a key, and the keys that it has beside some.
use Rattle.std.specs.Prelude.{◌≡◌, ℕ, Bool, false, List, [], ◌∷◌, cond, Option, MatchOption, Some, All, Contains, IsTrue}
use Rattle.std.specs.List.{list_any}
use Rattle.std.specs.Option.{option_map_or}
use Rattle.std.specs.Ordering.{nat_cmp, is_le}
use Rattle.std.specs.Cmp.Lexicographic.{slice_cmp}
use Rattle.std.specs.Str.{bytes_eq}
use Rattle.toml.specs.Data.{Data, string, boolean, Members, no_members, member, get_member}

-- The answer has the property, and None is answered only where nothing has it.
abbrev pub Finds : {X : Type 0} → (X → Type 0) → Option X → Type 0
Finds {X} P answer = MatchOption answer ((x : X) → P x → ⊥) P

-- The value at a key, or else this one.
abbrev pub value_or : Data → List ℕ → Members → Data
value_or default key members = option_map_or (λ value. value) (get_member key members) default

-- The text at a key.
abbrev pub IsTextAt : List ℕ → Members → List ℕ → Type 0
IsTextAt key members text = get_member key members ≡ Some (string text)

-- The flag at a key. Without the key it is false.
abbrev pub IsFlagAt : List ℕ → Members → Bool → Type 0
IsFlagAt key members flag = value_or (boolean false) key members ≡ boolean flag

-- The keys of a table that are none of these, in the table's order.
abbrev pub other_keys : List (List ℕ) → Members → List (List ℕ)
other_keys keys no_members = []
other_keys keys (member key value members) = cond (list_any (bytes_eq key) keys) (other_keys keys members) (key ∷ other_keys keys members)

-- Each key of a table is one of these.
abbrev pub HasOnly : List (List ℕ) → Members → Type 0
HasOnly keys members = other_keys keys members ≡ []

-- The least of some keys, in the order of their bytes.
pub record IsLeast (keys : List (List ℕ)) (key : List ℕ) : Type 0 where
  pub among : Contains keys key
  pub least : All (λ other. IsTrue (is_le (slice_cmp nat_cmp key other))) keys

-- The answer is the least key of a table that is none of these keys, and None where there is no such key.
abbrev pub FindsOtherKey : List (List ℕ) → Members → Option (List ℕ) → Type 0
FindsOtherKey keys members answer = MatchOption answer (HasOnly keys members) (IsLeast (other_keys keys members))
