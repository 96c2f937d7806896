-- A closed set of path edges describes every execution: each step keeps what it says, and so it says it of each state.
use Rattle.std.proofs.Common.{◌≡◌, inl, inr, ℕ, zero, suc, Bool, true, false, List, [], ◌∷◌, ◌++◌, map, Some, Contains, refl, sym, ap, ◌∙◌, subst}
use Rattle.std.specs.Prelude.{slice_get, MatchBool}
use Rattle.std.proofs.lemmas.Option.{none-some, same_Some, slice_get_cases}
use Rattle.list_laws.proofs.Members.{contains_cases, contains_first, contains_later, contains_none}
use Rattle.jvm_model.specs.declared.site.Site.{Site}
use Rattle.jvm_model.specs.declared.site.SiteKind.TheVariants as kinds
use Rattle.op_model.specs.Supplies.{Given, GivenAs}
use Rattle.machine_bytecode.specs.Objects.{Subject}
use Rattle.machine_bytecode.specs.Start.{boot_classes, boot_object, IsArgumentArray, IsFirst}
use Rattle.machine_bytecode.specs.States.{Object, State}
use Rattle.machine_nodes.specs.NodeExecutions.{AreNodeSteps, IsNodeExecution}
use Rattle.machine_nodes.specs.NodeSteps.{NodeStep, advances, enters, gets_result, gets_exception, enters_entry, returns, resumes, ends, raises, throws, catches, unwinds, starts, wraps}
use Rattle.slot_names.specs.Sharing.{VariablesHaveValues}
use Rattle.points_to_rules.specs.Facts.{Fact}
use Rattle.coverage.proofs.Executions.{covers_all}
use Rattle.coverage.proofs.Uses.{informs_all}
use Rattle.stage_facts.specs.Facts.{none_yet}
use Rattle.stage_transfer.specs.Stages.{Transfer}
use Rattle.stage_edges.specs.Rules.{Edge, Instance}
use Rattle.stage_steps.specs.Said.{IsTracked}
use Rattle.stage_soundness.proofs.Bounded.{frames_bounded}
use Rattle.stage_soundness.proofs.Known.{described_as, Described, IsKnown, Premises, tracked_before}
use Rattle.stage_soundness.proofs.Returning.{ends_good, enters_entry_good, resumes_good, returns_good, starts_good}
use Rattle.stage_soundness.proofs.Running.{advances_good, enters_good, gets_result_good}
use Rattle.stage_soundness.proofs.Thrown.{catches_good, raises_good, throws_good, unwinds_good, wraps_good}
use Rattle.stage_soundness.proofs.Failing.{described_throws_good}

-- what is there from the start has sites of a kind of its own
arguments_boot : (x : Subject) (objects : List Object) (b : Bool) → MatchBool b (objects ≡ []) (IsArgumentArray x objects) → (place : ℕ) (o : Object) → slice_get objects place ≡ Some o
    → o.site.kind ≡ kinds.Boot
arguments_boot x objects true e place o stands = absurd (none-some o (sym (ap (λ (os : List Object). slice_get os place) e) ∙ stands))
arguments_boot x objects false a zero o stands =
    sym (ap (λ (u : Object). u.site.kind) (same_Some _ o (sym (ap (λ (os : List Object). slice_get os 0) a.is) ∙ stands)))
arguments_boot x objects false a (suc place) o stands = absurd (none-some o (sym (ap (λ (os : List Object). slice_get os (suc place)) a.is) ∙ stands))

start_boot : (x : Subject) (classes : List (List ℕ)) (objects : List Object) (place : ℕ) (o : Object) → ((q : ℕ) (u : Object) → slice_get objects q ≡ Some u → u.site.kind ≡ kinds.Boot)
    → slice_get (map (boot_object x) classes ++ objects) place ≡ Some o → o.site.kind ≡ kinds.Boot
start_boot x [] objects place o others stands = others place o stands
start_boot x (class ∷ classes) objects zero o others stands = sym (ap (λ (u : Object). u.site.kind) (same_Some (boot_object x class) o stands))
start_boot x (class ∷ classes) objects (suc place) o others stands = start_boot x classes objects place o others stands

module _ (x : Subject) (given : Given) (gives : GivenAs) (S : Fact → Type 0) (s : Site) (t : Transfer) (E : Edge → Type 0) (k : Premises x given gives S s t E) where
  abbrev Good : State → Type 0
  Good state = (place : ℕ) → IsTracked s place state.world.heap → Described x given gives S s t E k place state

  step_good : (state after : State) → NodeStep x given state after → IsKnown x given gives S state → IsKnown x given gives S after → (place : ℕ) → IsTracked s place after.world.heap
      → Described x given gives S s t E k place state → Described x given gives S s t E k place after
  step_good state after (advances at a) known later place tracked d = advances_good x given gives S s t E k state after at a known place tracked d
  step_good state after (enters at a) known later place tracked d = enters_good x given gives S s t E k state after at a known later place d
  step_good state after (gets_result at a) known later place tracked d = gets_result_good x given gives S s t E k state after at a known place tracked d
  step_good state after (gets_exception at a) known later place tracked d = described_throws_good x given gives S s t E k state after at a known place tracked d
  step_good state after (enters_entry at a) known later place tracked d =
      enters_entry_good x given gives S s t E k state after at a known place (tracked_before x given gives S s t E k state after place (enters_entry at a) tracked) d
  step_good state after (returns at a) known later place tracked d = returns_good x given gives S s t E k state after at a place d
  step_good state after (resumes at a) known later place tracked d = resumes_good x given gives S s t E k state after at a place d
  step_good state after (ends at a) known later place tracked d = ends_good x given gives S s t E k state after at a place d
  step_good state after (raises at a) known later place tracked d = raises_good x given gives S s t E k state after at a known place tracked d
  step_good state after (throws at a) known later place tracked d = throws_good x given gives S s t E k state after at a known place tracked d
  step_good state after (catches at a) known later place tracked d = catches_good x given gives S s t E k state after at a known place tracked d
  step_good state after (unwinds at a) known later place tracked d = unwinds_good x given gives S s t E k state after at a known place tracked d
  step_good state after (starts at a) known later place tracked d = starts_good x given gives S s t E k state after at a known place d
  step_good state after (wraps at a) known later place tracked d = wraps_good x given gives S s t E k state after at a known place tracked d

  steps_good : (state : State) (states : List State) → AreNodeSteps x given state states → ((u : State) → Contains (state ∷ states) u → IsKnown x given gives S u) → Good state
      → (u : State) → Contains (state ∷ states) u → Good u
  steps_good state [] steps known good u there = elim (contains_cases state u [] there) [ inl e ↦ subst Good e good | inr none ↦ absurd (contains_none u none) ]
  steps_good state (next ∷ states) steps known good u there =
      elim (contains_cases state u (next ∷ states) there) [
        | inl e ↦ subst Good e good
        | inr later ↦
            steps_good next states steps.1 (λ v among. known v (contains_later state v (next ∷ states) among))
            (λ place tracked. step_good state next steps.0 (known state (contains_first state (next ∷ states))) (known next (contains_later state next (next ∷ states) (contains_first next states))) place tracked
            (good place (tracked_before x given gives S s t E k state next place steps.0 tracked))) u later
      ]

  not_boot_kind : s.kind ≡ kinds.Boot → ⊥
  not_boot_kind e = elim k.trackable.made [ inl new ↦ cc (sym e ∙ new) | inr result ↦ cc (sym e ∙ result) ]

  -- no object of the site is there from the start
  first_good : (state : State) → IsFirst x state → Good state
  first_good state first place tracked =
      let heap = map (boot_object x) (boot_classes x.program) ++ first.objects in
      let boot : (q : ℕ) (o : Object) → slice_get heap q ≡ Some o → o.site.kind ≡ kinds.Boot =
      λ q o stands. start_boot x (boot_classes x.program) first.objects q o (arguments_boot x first.objects _ first.arguments) stands in
      let other : (q : ℕ) (o : Object) → slice_get heap q ≡ Some o → o.site ≡ s → ⊥ = λ q o stands is. not_boot_kind (sym (ap (λ (r : Site). r.kind) is) ∙ boot q o stands) in
      let free : IsTracked s place heap = subst (λ (u : State). IsTracked s place u.world.heap) first.is tracked in
      described_as x given gives S s t E k place state _ first.is (record {
        entry = none_yet;
        fact = none_yet;
        held = k.edges _ _ Instance.start tt;
        says = (elim (slice_get_cases heap place).1 [ inl (o, less, at, same) ↦ absurd (other place o at (free o at)) | inr (past, none) ↦ past ], record { none = λ some. other some.place some.object some.stands some.of_site });
        waiting = (refl, refl);
      })

  pub described_all : VariablesHaveValues x given → (states : List State) → IsNodeExecution x given states → (state : State) → Contains states state → Good state
  described_all share states run state there =
      steps_good run.first run.others run.steps
      (λ u among. (let listed : Contains states u = subst (λ (us : List State). Contains us u) (sym run.begins) among in known u listed))
      (first_good run.first run.is_first) state (subst (λ (us : List State). Contains us state) run.begins there)
    where
      known : (u : State) → Contains states u → IsKnown x given gives S u
      known u listed = record {
        covers = covers_all x given gives S k.map k.points k.whole k.unrefused states run u listed;
        informs = informs_all x given gives S k.map k.points k.whole k.unrefused states run u listed;
        alike = λ runs f below frames. share states run u listed runs f below frames;
        bounded = λ f among z q is. frames_bounded x given gives S k.map k.points k.whole k.unrefused states run u listed f among z q is;
      }
