-- Public contracts rest on this module.
-- Lists by number.
use Rattle.std.specs.Prelude.{◌≡◌, ◌==◌, ℕ, List, [], ◌∷◌, ◌++◌, Option, Some, None, slice_get, if◌then◌else◌}
use Rattle.std.specs.declared.vec.Vec.{Vec}
use Rattle.std.specs.declared.alloc.Global.{Global}

-- The values, where there is a list of them.
abbrev pub values_in : {V : Type 0} → Option (Vec V Global) → List V
values_in None = []
values_in (Some v) = v.items

-- The values of a number.
abbrev pub values_at : {V : Type 0} → List (Vec V Global) → ℕ → List V
values_at groups number = values_in (slice_get groups number)

-- One more value at a number.
abbrev pub IsPut : {V : Type 0} → List (Vec V Global) → List (Vec V Global) → ℕ → V → Type 0
IsPut old new number value = (q : ℕ) → values_at new q ≡ (if number == q then values_at old q ++ value ∷ [] else values_at old q)

-- The same values at each number.
abbrev pub IsSame : {V : Type 0} → List (Vec V Global) → List (Vec V Global) → Type 0
IsSame old new = (q : ℕ) → values_at new q ≡ values_at old q
