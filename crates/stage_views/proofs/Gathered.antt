-- What is gathered when a path more comes: to cut at each path is to cut at the end. What was gathered is cut, and a set that is whole was gathered.
use Rattle.std.proofs.Common.{◌≡◌, ◌≤◌, Bool, true, false, nat_lt, ◌||◌, List, [], ◌∷◌, ◌++◌, length, take, refl, sym, ◌∙◌, ap}
use Rattle.std.proofs.lemmas.Bool.{false≢true}
use Rattle.access_paths.specs.declared.cut.Cut.{Cut}
use Rattle.access_paths.specs.Paths.{Path, most_paths, path_set, with_path}
use Rattle.access_paths.specs.Sets.{AreInOrder}
use Rattle.access_paths.proofs.Cuts.{cut-with, cut_small}
use Rattle.access_paths.proofs.SetMembers.{path_set_push, path_set_same}
use Rattle.stage_views.specs.declared.gathering.Gathering.{Gathering}
use Rattle.stage_views.specs.Drafts.{IsCutOf}
use Rattle.stage_views.specs.Views.{Gathers}

-- the least paths of some, with one more
more_set : (paths : List Path) (x : Path) → take most_paths (with_path x (take most_paths (path_set paths))) ≡ take most_paths (path_set (paths ++ x ∷ []))
more_set paths x = ap (λ (c : Cut). c.set) (cut-with x (path_set paths)) ∙ ap (take most_paths) (sym (path_set_push paths x))

more_dropped : (paths : List Path) (x : Path)
    → (nat_lt most_paths (length (path_set paths)) || nat_lt most_paths (length (with_path x (take most_paths (path_set paths)))))
    ≡ nat_lt most_paths (length (path_set (paths ++ x ∷ [])))
more_dropped paths x =
    ap (λ (c : Cut). c.dropped) (cut-with x (path_set paths)) ∙ ap (λ (set : List Path). nat_lt most_paths (length set)) (sym (path_set_push paths x))

-- a path more is gathered
pub gathers_more : (before after : Gathering) (paths : List Path) (x : Path) → Gathers before paths
    → after.set ≡ take most_paths (with_path x before.set)
    → after.dropped ≡ (before.dropped || nat_lt most_paths (length (with_path x before.set)))
    → Gathers after (paths ++ x ∷ [])
gathers_more before after paths x gathers kept dropped = record {
  set = kept ∙ ap (λ (set : List Path). take most_paths (with_path x set)) gathers.set ∙ more_set paths x;
  dropped =
      dropped
      ∙ (λ i. gathers.dropped i || nat_lt most_paths (length (with_path x (gathers.set i))))
      ∙ more_dropped paths x;
}

-- ---- sets

pub cut_of_gathered : (g : Gathering) (paths : List Path) → Gathers g paths → IsCutOf g (path_set paths)
cut_of_gathered g paths gathers = record { set = gathers.set; dropped = gathers.dropped }

-- a whole set
pub gathers_whole : (g : Gathering) (set : List Path) → AreInOrder set → length set ≤ most_paths → g.set ≡ set → g.dropped ≡ false → Gathers g set
gathers_whole g set ordered few same none =
    let whole = cut_small set few in
    let one = path_set_same set ordered in
    record {
      set = same ∙ sym (ap (λ (c : Cut). c.set) whole) ∙ ap (take most_paths) (sym one);
      dropped = none ∙ sym (ap (λ (c : Cut). c.dropped) whole) ∙ ap (λ (xs : List Path). nat_lt most_paths (length xs)) (sym one);
    }

-- ---- tests

-- Two tests that are true of the same are one.
pub one_test : (a b : Bool) → (a ≡ true → b ≡ true) → (b ≡ true → a ≡ true) → a ≡ b
one_test true b to back = sym (to refl)
one_test false true to back = back refl
one_test false false to back = refl

pub or_by_first : (a b d : Bool) → a ≡ true → d ≡ true → d ≡ (a || b)
or_by_first true b d first e = e
or_by_first false b d first e = absurd (false≢true first)

pub or_by_second : (a b d : Bool) → a ≡ false → d ≡ b → d ≡ (a || b)
or_by_second true b d first e = absurd (false≢true (sym first))
or_by_second false b d first e = e
