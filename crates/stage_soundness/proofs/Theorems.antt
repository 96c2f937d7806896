-- The theorems on path edges and executions, from what their clauses have as premises.
use Rattle.std.proofs.Common.{◌≡◌, inl, inr, ℕ, false, List, Some, Ok, Contains}
use Rattle.std.specs.Prelude.{slice_get}
use Rattle.std.proofs.lemmas.Bool.{cases_Bool}
use Rattle.jvm_model.specs.declared.site.Site.{Site}
use Rattle.jvm_model.specs.LinkedPrograms.{IsProgram}
use Rattle.jvm_model.specs.Names.{IsClassName}
use Rattle.jvm_model.specs.Soundness.{is_array}
use Rattle.least_sets.specs.Rules.{IsClosedSet}
use Rattle.op_model.specs.Supplies.{Given, GivenAs, IsMapOf}
use Rattle.machine_bytecode.specs.Executions.{Errs}
use Rattle.machine_bytecode.specs.Objects.{Subject}
use Rattle.machine_bytecode.specs.States.{Object, State}
use Rattle.machine_laws.specs.NodeSurvival.{Survives}
use Rattle.machine_laws.proofs.StartNodes.{some_start}
use Rattle.machine_nodes.specs.NodeExecutions.{IsNodeExecution}
use Rattle.machine_nodes.specs.NodeSteps.{NodeStep}
use Rattle.lowering_supply.proofs.EachAnswer.{each_answer}
use Rattle.lowering_supply.proofs.Maps.{is_map}
use Rattle.lowering_supply.specs.Supplied.{IsSupplied}
use Rattle.slot_names.specs.Sharing.{AreReachedMethods, VariablesHaveValues}
use Rattle.points_to_rules.specs.Facts.{Fact}
use Rattle.points_to_rules.specs.Refusals.{IsUnrefused}
use Rattle.points_to_rules.specs.Rules.{Instance as PointsToInstance}
use Rattle.points_to_rules.specs.WholeMethods.{AreWholeMethods}
use Rattle.points_to_rules.specs.Writes.{AnyInstance}
use Rattle.coverage.proofs.Refused.{calls_unrefused}
use Rattle.simulation.proofs.ArrayNames.{array_no_class}
use Rattle.simulation.proofs.CoveredExecutions.{executions_covered}
use Rattle.simulation.proofs.Supplied.{supplied_runs}
use Rattle.simulation.proofs.Whole.{supplied_whole}
use Rattle.simulation.specs.Simulation.{HasEntry, HasExceptions}
use Rattle.stage_facts.specs.Facts.{of_object}
use Rattle.stage_transfer.specs.Settings.{AreAnswersOf, Setting}
use Rattle.stage_transfer.specs.Stages.{Transfer, transfer_of}
use Rattle.stage_transfer_laws.proofs.Lawful.{lawful}
use Rattle.stage_edges.specs.Edges.{IsSafeBelow, StageInstance}
use Rattle.stage_edges.specs.Rules.{Edge, Instance}
use Rattle.stage_relations.specs.Laws.{IsStage}
use Rattle.stage_soundness.specs.Describing.{AreErrorFree, AreThrownPlainly, DescribesAll, DescribesEnds, ErrsOnNodes, IsOwnSite, IsTrackable}
use Rattle.stage_soundness.proofs.Described.{described_all}
use Rattle.stage_soundness.proofs.Ends.{ends_at}
use Rattle.stage_soundness.proofs.Errors.{never_errs}
use Rattle.stage_soundness.proofs.Known.{Premises}
use Rattle.stage_soundness.proofs.Placed.{number_as}
use Rattle.stage_soundness.proofs.PlainThrows.{supplied_make_no_arrays, supplied_throw_plainly}

-- two slots of one variable have one value, and objects stay
abbrev pub Share : Type 0
Share = (x : Subject) (given : Given) → AreReachedMethods given → VariablesHaveValues x given

abbrev pub Survive : Type 0
Survive = (x : Subject) (given : Given) (s t : State) → NodeStep x given s t → (place : ℕ) (o : Object) → slice_get s.world.heap place ≡ Some o → Survives x given s t place o

module _ (share : Share) (survive : Survive) (x : Subject) (given : Given) (gives : GivenAs) (map : IsMapOf given gives) (S : Fact → Type 0) (s : Site) (t : Transfer) (E : Edge → Type 0) (program : IsProgram x.program)
    (whole : AreWholeMethods x.program gives) (plain : AreThrownPlainly x.program gives) (closed : IsClosedSet (AnyInstance x.program gives (number_as x.entry)) S) (unrefused : IsUnrefused x.program gives S)
    (trackable : IsTrackable x gives s) (laws : IsStage x S s t) (edges : IsClosedSet (Instance x gives S t) E) where
  premises : (states : List State) → IsNodeExecution x given states → Premises x given gives S s t E
  premises states run = record {
    program = program;
    start = some_start x run.is_first.entry run.is_first.stands program;
    survives = survive x given;
    map = map;
    points = λ facts fact instance hold. closed facts fact (inl instance) hold;
    writes = λ facts fact instance hold. closed facts fact (inr instance) hold;
    whole = whole;
    unrefused = calls_unrefused x.program gives S program whole unrefused;
    plain = plain;
    trackable = trackable;
    laws = laws;
    edges = edges;
  }

  shared : VariablesHaveValues x given
  shared = share x given (λ number l is. (whole number l ((map.entries number (Ok l)).0 is)).reached)

  pub edges_describe : DescribesAll x given gives S s t E
  edges_describe states run state there place tracked = described_all x given gives S s t E (premises states run) shared states run state there place tracked

  pub edges_never_err : AreErrorFree x E → ErrsOnNodes x given s → ⊥
  edges_never_err free errs = never_errs x s E free given gives S t (λ e. premises e.states e.execution) shared errs

  pub edges_describe_ends : DescribesEnds x given s E
  edges_describe_ends states run state there end place tracked =
      let k = premises states run in
      ends_at x given gives S s t E k state end place (described_all x given gives S s t E k shared states run state there place tracked)

-- ---- programs of a folder

-- the name of a class is no array's
plain_name : (class : List ℕ) → IsClassName class → is_array class ≡ false
plain_name class named = elim (cases_Bool (is_array class)) [ inl array ↦ absurd (array_no_class class array named) | inr plain ↦ plain ]

pub stages_never_err : Share → Survive → (x : Subject) (facts : List Fact) (w : Setting) (E : Edge → Type 0) → IsProgram x.program → HasExceptions x.program → HasEntry x
    → IsClosedSet (AnyInstance x.program (IsSupplied x.program) (number_as x.entry)) (Contains facts) → IsUnrefused x.program (IsSupplied x.program) (Contains facts) → IsOwnSite x w.site
    → w.property ≡ x.property → AreAnswersOf (Contains facts) w.answers → IsClosedSet (StageInstance x (IsSupplied x.program) (Contains facts) w) E → AreErrorFree x E → Errs x w.site → ⊥
stages_never_err share survive x facts w E program exceptions entry closed unrefused own property answers edges free e =
    let gives = IsSupplied x.program in
    let S = Contains facts in
    let m = is_map x.program program in
    let run = supplied_runs x m.0 program exceptions entry m.1 in
    let points : IsClosedSet (PointsToInstance x.program gives (number_as x.entry)) S = λ premises fact instance hold. closed premises fact (inl instance) hold in
    let all = executions_covered x m.0 gives S run m.1 (λ number coded. each_answer x.program number program coded) (supplied_whole x.program) points unrefused e.states e.execution in
    edges_never_err share survive x m.0 gives m.1 S w.site (transfer_of w) E program (supplied_whole x.program) (supplied_throw_plainly x.program) closed unrefused
    (record { made = own.made; no_array = plain_name w.site.class own.named; observed = own.observed; no_arrays_there = supplied_make_no_arrays x.program w.site own.named })
    (lawful x S w property answers) edges free
    (record { states = e.states; execution = all.1; state = e.state; reached = e.reached; object = e.object; lives = e.lives; of_site = e.of_site; in_error = e.in_error })

pub safe_never_errs : Share → Survive → (x : Subject) (facts : List Fact) (w : Setting) (limit : ℕ) → IsProgram x.program → HasExceptions x.program → HasEntry x
    → IsClosedSet (AnyInstance x.program (IsSupplied x.program) (number_as x.entry)) (Contains facts) → IsUnrefused x.program (IsSupplied x.program) (Contains facts) → IsOwnSite x w.site
    → IsSafeBelow x (IsSupplied x.program) (Contains facts) w limit → Errs x w.site → ⊥
safe_never_errs share survive x facts w limit program exceptions entry closed unrefused own safe e =
    stages_never_err share survive x facts w (Contains safe.edges) program exceptions entry closed unrefused own safe.setting.property safe.setting.answers safe.are.least.closed
    (λ m entered spot t held error. safe.no_error (record { method = m; entry = entered; spot = spot; fact = of_object t }) held error) e
