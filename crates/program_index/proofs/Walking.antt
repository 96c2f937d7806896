-- A walk over all that is above a class, one class of it after another.
use Rattle.std.proofs.Common.{◌≡◌, ℕ, ◌+◌, ◌<◌, ◌≤◌, true, List, [], length, Some, sym, ◌∙◌, ap, subst, arith, inl, inr}
use Rattle.std.specs.List.{slice_get, Contains, All}
use Rattle.std.proofs.lemmas.Option.{slice_get_within, same_Some}
use Rattle.std.proofs.lemmas.Bool.{cases_lt}
use Rattle.std.proofs.lemmas.List.Elements.{All-nil, All-weaker, All-contains, All-contains_itself}
use Rattle.list_laws.proofs.Places.{all_at, place_of, stands_below}
use Rattle.program_index.specs.declared.parents.Parents.{Parents}
use Rattle.program_index.specs.Supertypes.{IsDirect, IsAbove, one_step, more_steps, direct_of}
use Rattle.program_index.specs.ClassSets.{has, with_classes}
use Rattle.program_index.specs.Walks.{IsWalk}
use Rattle.program_index.proofs.ClassLists.{has_from_contains, contains_from_has, with_classes_old, with_classes_new, with_classes_at, with_classes_all}
use Rattle.program_index.proofs.UpwardSteps.{above_trans}

-- the direct supertypes of a class are among those of its entry
direct_has : (g : List Parents) (x y : ℕ) (p : Parents) → slice_get g x ≡ Some p → IsDirect g x y → has (direct_of p) y ≡ true
direct_has g x y p stands d =
    has_from_contains (direct_of p) y (subst (λ (q : Parents). Contains (direct_of q) y) (same_Some d.parents p (sym d.stands ∙ stands)) d.among)

all_direct : (g : List Parents) (x : ℕ) (p : Parents) → slice_get g x ≡ Some p → All (IsAbove g x) (direct_of p)
all_direct g x p stands =
    All-weaker (Contains (direct_of p)) (IsAbove g x) (λ y among. one_step x y (record { parents = p; stands = stands; among = among })) (direct_of p)
    (All-contains_itself (direct_of p))

-- it begins with the direct supertypes
pub walk_start : (g : List Parents) (class : ℕ) (p : Parents) → slice_get g class ≡ Some p → IsWalk g class (with_classes [] (direct_of p)) 0
walk_start g class p stands = record {
  above = with_classes_all (IsAbove g class) [] (direct_of p) (All-nil (IsAbove g class)) (all_direct g class p stands);
  start = λ y d. with_classes_new [] (direct_of p) y (direct_has g class y p stands d);
  closed = λ k x y l e d. absurd (omega arith);
}

-- the direct supertypes of the next class are added
pub walk_more : (g : List Parents) (class : ℕ) (walked : List ℕ) (done next : ℕ) (p : Parents) → IsWalk g class walked done → slice_get walked done ≡ Some next
    → slice_get g next ≡ Some p → IsWalk g class (with_classes walked (direct_of p)) (done + 1)
walk_more g class walked done next p walk turn stands = record {
  above = with_classes_all (IsAbove g class) walked (direct_of p) walk.above
      (All-weaker (IsAbove g next) (IsAbove g class) (λ y a. above_trans g class next y (all_at (IsAbove g class) walked done next walk.above turn) a) (direct_of p)
      (all_direct g next p stands));
  start = λ y d. with_classes_old walked (direct_of p) y (walk.start y d);
  closed = λ k x y l e d.
      let within = slice_get_within walked done next turn in
      let below : k < length walked = omega arith in
      let old = stands_below walked k below in
      let same : x ≡ old.0 = same_Some x old.0 (sym e ∙ with_classes_at walked (direct_of p) k old.0 old.1) in
      let here : slice_get walked k ≡ Some x = old.1 ∙ ap Some (sym same) in
      elim (cases_lt k done) [
        | inl before ↦ with_classes_old walked (direct_of p) y (walk.closed k x y before here d)
        | inr last ↦ (let at_done : k ≡ done = omega arith in
            let is : x ≡ next = same_Some x next (sym here ∙ ap (slice_get walked) at_done ∙ turn) in
            with_classes_new walked (direct_of p) y (direct_has g x y p (ap (slice_get g) is ∙ stands) d))
      ];
}

-- in the end it has all that is above what it has
walked_on : (g : List Parents) (class : ℕ) (walked : List ℕ) (done : ℕ) → IsWalk g class walked done → length walked ≤ done → (x y : ℕ) → has walked x ≡ true → IsAbove g x y
    → has walked y ≡ true
walked_on g class walked done walk l x y h (one_step _ _ d) =
    let p = place_of walked x (contains_from_has walked x h) in
    let within = slice_get_within walked p.0 x p.1 in
    walk.closed p.0 x y (omega arith) p.1 d
walked_on g class walked done walk l x z h (more_steps _ y _ d a) =
    let p = place_of walked x (contains_from_has walked x h) in
    let within = slice_get_within walked p.0 x p.1 in
    walked_on g class walked done walk l y z (walk.closed p.0 x y (omega arith) p.1 d) a

pub walked_all : (g : List Parents) (class : ℕ) (walked : List ℕ) (done : ℕ) → IsWalk g class walked done → length walked ≤ done → (y : ℕ) → IsAbove g class y → has walked y ≡ true
walked_all g class walked done walk l y (one_step _ _ d) = walk.start y d
walked_all g class walked done walk l z (more_steps _ y _ d a) = walked_on g class walked done walk l y z (walk.start y d) a

-- and nothing else
pub walked_only : (g : List Parents) (class : ℕ) (walked : List ℕ) (done : ℕ) → IsWalk g class walked done → (y : ℕ) → has walked y ≡ true → IsAbove g class y
walked_only g class walked done walk y h = All-contains (IsAbove g class) walked y walk.above (contains_from_has walked y h)
