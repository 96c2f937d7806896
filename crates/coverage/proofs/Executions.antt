-- Each step keeps covered states covered, and so each state of an execution is.
use Rattle.std.proofs.Common.{inl, inr, List, [], ◌∷◌, Contains, subst}
use Rattle.list_laws.proofs.Members.{contains_cases, contains_none}
use Rattle.least_sets.specs.Rules.{IsClosedSet}
use Rattle.op_model.specs.Supplies.{Given, GivenAs, IsMapOf}
use Rattle.machine_bytecode.specs.Objects.{Subject}
use Rattle.machine_bytecode.specs.States.{State}
use Rattle.machine_nodes.specs.NodeExecutions.{AreNodeSteps}
use Rattle.machine_nodes.specs.NodeSteps.{NodeStep, advances, enters, gets_result, gets_exception, enters_entry, returns, resumes, ends, raises, throws, catches, unwinds, starts, wraps}
use Rattle.points_to_rules.specs.Facts.{Fact}
use Rattle.points_to_rules.specs.Rules.{Instance}
use Rattle.points_to_rules.specs.WholeMethods.{AreWholeMethods, as_given}
use Rattle.coverage.proofs.RefusedCalls.{HasNoRefusedCall}
use Rattle.coverage.specs.Covering.{Covers, CoversAll}
use Rattle.coverage.proofs.Advancing.{advances_cover}
use Rattle.coverage.proofs.Calls.{enters_cover, returns_cover, resumes_cover, ends_cover}
use Rattle.coverage.proofs.Stubs.{gets_result_covers}
use Rattle.coverage.proofs.Throws.{raises_cover, throws_cover}
use Rattle.coverage.proofs.Catches.{catches_cover, unwinds_cover, wraps_cover, gets_exception_covers}
use Rattle.coverage.proofs.Starts.{starts_cover, enters_entry_covers}
use Rattle.coverage.proofs.FirstStates.{first_covered}

module _ (x : Subject) (given : Given) (gives : GivenAs) (S : Fact → Type 0) (map : IsMapOf given gives) (closed : IsClosedSet (Instance x.program gives (record { 0 = x.entry })) S)
    (whole : AreWholeMethods x.program gives) (unrefused : HasNoRefusedCall x.program gives S) where
  pub step_covers : (s t : State) → NodeStep x given s t → Covers x gives S s → Covers x gives S t
  step_covers s t (advances at h) c = advances_cover x given gives S map closed whole s t at h c
  step_covers s t (enters at h) c = enters_cover x given gives S map closed whole unrefused s t at h c
  step_covers s t (gets_result at h) c = gets_result_covers x given gives S map closed whole unrefused s t at h c
  step_covers s t (gets_exception at h) c = gets_exception_covers x given gives S map closed whole unrefused s t at h c
  step_covers s t (enters_entry at h) c = enters_entry_covers x given gives S map closed whole s t at h c
  step_covers s t (returns at h) c = returns_cover x given gives S map closed whole s t at h c
  step_covers s t (resumes at h) c = resumes_cover x given gives S map closed whole s t at h c
  step_covers s t (ends at h) c = ends_cover x given gives S map closed whole s t at h c
  step_covers s t (raises at h) c = raises_cover x given gives S map closed whole s t at h c
  step_covers s t (throws at h) c = throws_cover x given gives S map closed whole s t at h c
  step_covers s t (catches at h) c = catches_cover x given gives S map closed whole s t at h c
  step_covers s t (unwinds at h) c = unwinds_cover x given gives S map closed whole s t at h c
  step_covers s t (starts at h) c = starts_cover x given gives S map closed whole s t at h c
  step_covers s t (wraps at h) c = wraps_cover x given gives S map closed whole s t at h c

  pub steps_cover : (s : State) (states : List State) → AreNodeSteps x given s states → Covers x gives S s → (t : State) → Contains (s ∷ states) t → Covers x gives S t
  steps_cover s [] steps c t there = elim (contains_cases s t [] there) [ inl e ↦ subst (λ (u : State). Covers x gives S u) e c | inr later ↦ absurd (contains_none t later) ]
  steps_cover s (u ∷ states) steps c t there =
      elim (contains_cases s t (u ∷ states) there) [
        | inl e ↦ subst (λ (r : State). Covers x gives S r) e c
        | inr later ↦ steps_cover u states steps.1 (step_covers s u steps.0 c) t later
      ]

  pub covers_all : CoversAll x given gives S
  covers_all states run t there =
      steps_cover run.first run.others run.steps (first_covered x gives S closed run.first run.is_first) t (subst (λ (ss : List State). Contains ss t) run.begins there)

-- a map as a supplier of what it has
pub own_map : (given : Given) → IsMapOf given (as_given given)
own_map given = record { entries = λ method answer. ((λ e. e), (λ e. e)) }
