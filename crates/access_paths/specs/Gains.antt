-- Proofs of this crate alone rest on this module.
-- What each path of a set adds to it, and a cut that takes that in.
use Rattle.std.specs.Prelude.{◌≡◌, ℕ, ◌≤◌, nat_le, nat_lt, Bool, insert, min, ◌&&◌, ◌||◌, List, [], ◌∷◌, length, take, Option, Some, None, if◌then◌else◌}
use Rattle.jvm_model.specs.declared.number.FieldNo.{FieldNo}
use Rattle.access_paths.specs.declared.root.Root.{Root}
use Rattle.access_paths.specs.declared.cut.Cut.{Cut}
use Rattle.access_paths.specs.declared.gain.Gain.{Gain}
use Rattle.access_paths.specs.declared.gain.Gain.TheVariants.{Copied, Stored, Loaded}
use Rattle.access_paths.specs.Followed.{most_fields}
use Rattle.access_paths.specs.Paths.{Path, most_paths, with_path}
use Rattle.access_paths.specs.Operations.{begins_at, behind, is_short, same_field, with_root}

-- What is left behind the first field, if it is this one, as a path of the target.
abbrev pub rest_behind : FieldNo → (target : Root) → List FieldNo → Option Path
rest_behind f target [] = None
rest_behind f target (g ∷ rest) = if same_field f g then Some (record { root = target; fields = rest }) else None

-- The path that a path adds.
abbrev pub gained : Gain → Path → Option Path
gained (Copied source target) x = if begins_at source x then Some (with_root target x) else None
gained (Stored source object f depth) x = if begins_at source x && is_short depth (behind object f x) then Some (behind object f x) else None
gained (Loaded object f target) x = if begins_at object x then rest_behind f target x.fields else None

-- The path is one of the source, and would be too long behind a field more.
abbrev pub is_long_store : (source : Root) → (depth : ℕ) → Path → Bool
is_long_store source depth x = begins_at source x && nat_le (min depth most_fields) (length x.fields)

-- The set with a path more has it at this place.
pub record IsPlace (x : Path) (set : List Path) (at : ℕ) : Type 0 where
  pub within : at ≤ length set
  pub put : with_path x set ≡ insert set at x

-- A cut that takes a path in.
abbrev pub with_gain : Cut → Option Path → Cut
with_gain c None = c
with_gain c (Some x) = record { set = take most_paths (with_path x c.set); dropped = c.dropped || nat_lt most_paths (length (with_path x c.set)) }
