-- Facts whose paths are in order are normal once the normal form of the stage and the limit were applied.
use Rattle.std.proofs.Common.{◌≡◌, ℕ, Bool, true, false, cond, nat_eq, List, [], ◌∷◌, take, map, refl, inl, inr, arith}
use Rattle.std.specs.List.{AllByRecursion}
use Rattle.std.proofs.lemmas.List.{length-take}
use Rattle.std.proofs.lemmas.Bool.Decides.{nat_tests}
use Rattle.list_laws.proofs.Members.{each_contained}
use Rattle.access_paths.specs.Paths.{Path, most_paths}
use Rattle.access_paths.specs.Sets.{AreInOrder, IsPathSet}
use Rattle.access_paths.proofs.SetMembers.{front_ordered}
use Rattle.stage_facts.specs.Facts.{Tuple, SiteFact, none_yet, some_yet, of_object}
use Rattle.stage_transfer.specs.Settings.{Setting}
use Rattle.stage_transfer.specs.Stages.{finished, limited, normal}
use Rattle.stage_laws.specs.Normal.{AreNormal, IsNormal, IsNormalTuple}
use Rattle.stage_laws.proofs.OrderedFacts.{Each, IsOrdered, Ordered}

-- a front of a set
front_set : (set : List Path) → AreInOrder set → IsPathSet (take most_paths set)
front_set set ordered = record { ordered = front_ordered most_paths set ordered; few = omega (arith, length-take most_paths set) }

normal_tuple : (stage : ℕ) (t : Tuple) → IsOrdered t → IsNormalTuple stage (limited (normal stage t))
normal_tuple stage t ordered = by (nat_eq stage 2) refl (nat_eq stage 3) refl
  where
    none : IsPathSet []
    none = record { ordered = tt; few = omega arith }

    by : (a : Bool) → nat_eq stage 2 ≡ a → (b : Bool) → nat_eq stage 3 ≡ b
        → IsNormalTuple stage (limited (cond a (record { unique = t.unique; state = t.state; must = []; may = true; must_not = [] })
        (cond b (record { unique = t.unique; state = t.state; must = t.must; may = t.may; must_not = [] }) t)))
    by true is b other = record { must = none; must_not = none; second = λ e. (refl, refl); third = λ e. refl }
    by false is true other = record {
      must = front_set t.must ordered.must;
      must_not = none;
      second = λ e. absurd (grind (arith, nat_tests, is, e));
      third = λ e. refl;
    }
    by false is false other = record {
      must = front_set t.must ordered.must;
      must_not = front_set t.must_not ordered.must_not;
      second = λ e. absurd (grind (arith, nat_tests, is, e));
      third = λ e. absurd (elim e [ inl two ↦ grind (arith, nat_tests, is, two) | inr three ↦ grind (arith, nat_tests, other, three) ]);
    }

pub finished_normal : (w : Setting) (fact : SiteFact) → Ordered fact → IsNormal w.stage (finished w fact)
finished_normal w none_yet ordered = tt
finished_normal w some_yet ordered = tt
finished_normal w (of_object t) ordered = normal_tuple w.stage t ordered

each_finished : (w : Setting) (facts : List SiteFact) → Each facts → AllByRecursion (IsNormal w.stage) (map (finished w) facts)
each_finished w [] each = tt
each_finished w (f ∷ fs) (first, rest) = (finished_normal w f first, each_finished w fs rest)

pub all_finished : (w : Setting) (facts : List SiteFact) → Each facts → AreNormal w.stage (map (finished w) facts)
all_finished w facts each g there = each_contained (IsNormal w.stage) (map (finished w) facts) g (each_finished w facts each) there

-- a normal fact has its paths in order
pub normal_ordered : (stage : ℕ) (fact : SiteFact) → IsNormal stage fact → Ordered fact
normal_ordered stage none_yet is = tt
normal_ordered stage some_yet is = tt
normal_ordered stage (of_object t) is = record { must = is.must.ordered; must_not = is.must_not.ordered }
