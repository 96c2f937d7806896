-- Public contracts rest on this module.
-- What is gathered of a tuple, before it gets the normal form of its stage.
use Rattle.std.specs.Prelude.{◌≡◌, ℕ, nat_eq, nat_lt, Bool, true, not, ◌&&◌, List, length, take, Option, Some, None}
use Rattle.access_paths.specs.declared.root.Root.TheVariants.{Slot}
use Rattle.access_paths.specs.Paths.{Path, bare, most_paths, with_path}
use Rattle.stage_facts.specs.Facts.{Tuple}
use Rattle.stage_views.specs.declared.draft.Draft.{Draft}
use Rattle.stage_views.specs.declared.gathering.Gathering.{Gathering}

-- The second stage knows no paths.
abbrev pub has_paths : (stage : ℕ) → Bool
has_paths stage = not (nat_eq stage 2)

-- The third knows no paths that do not refer to the object.
abbrev pub has_others : (stage : ℕ) → Bool
has_others stage = not (nat_eq stage 2) && not (nat_eq stage 3)

-- Of this set the least paths were gathered, and others were left out just where there are too many.
pub record IsCutOf (g : Gathering) (paths : List Path) : Type 0 where
  pub set : g.set ≡ take most_paths paths
  pub dropped : g.dropped ≡ nat_lt most_paths (length paths)

-- The draft is that of the tuple, as far as the stage asks for it.
pub record IsDraftAt (stage : ℕ) (d : Draft) (t : Tuple) : Type 0 where
  pub unique : d.unique ≡ t.unique
  pub state : d.state ≡ t.state
  pub must : has_paths stage ≡ true → IsCutOf d.must t.must
  pub may : has_paths stage ≡ true → d.may ≡ t.may
  pub must_not : has_others stage ≡ true → d.must_not ≡ take most_paths t.must_not

-- The same at any stage.
pub record IsDraft (d : Draft) (t : Tuple) : Type 0 where
  pub unique : d.unique ≡ t.unique
  pub state : d.state ≡ t.state
  pub must : IsCutOf d.must t.must
  pub may : d.may ≡ t.may
  pub must_not : d.must_not ≡ take most_paths t.must_not

-- The least paths of the set and of the slot, if there is one.
abbrev pub cut_with : (slot : Option ℕ) → List Path → List Path
cut_with None set = set
cut_with (Some z) set = take most_paths (with_path (bare (Slot z)) set)
