-- Public contracts rest on this module.
-- An edge is taken into a list in which each stands once.
use Rattle.std.specs.Prelude.{◌≡◌, Bool, true, false, List, [], ◌∷◌, ◌++◌, Contains}
use Rattle.edge_numbers.specs.declared.numbered.NumberedEdge.{NumberedEdge}

-- It was there, and nothing has changed; or it was not, and is the last one now.
pub data IsInserted : Bool → (old new : List NumberedEdge) → NumberedEdge → Type 0 where
  was_held : (old new : List NumberedEdge) (e : NumberedEdge) → Contains old e → new ≡ old → IsInserted false old new e
  is_added : (old new : List NumberedEdge) (e : NumberedEdge) → (Contains old e → ⊥) → new ≡ old ++ e ∷ [] → IsInserted true old new e
