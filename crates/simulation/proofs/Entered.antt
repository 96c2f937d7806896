-- The methods that may run and have code are given as nodes, where nothing is refused; and a step enters only methods that may run.
use Rattle.std.proofs.Common.{◌≡◌, ℕ, Bool, true, false, cond, ◌||◌, List, [], ◌∷◌, filter, Some, Result, Ok, Err, refl, sym, ap, ◌∙◌, subst}
use Rattle.std.specs.List.{Contains, list_any}
use Rattle.jvm_model.specs.declared.number.ClassNo.{ClassNo}
use Rattle.jvm_model.specs.declared.reason.Refusal.{Refusal}
use Rattle.jvm_model.specs.LinkedPrograms.{IsProgram}
use Rattle.jvm_model.specs.Programs.{Program}
use Rattle.jvm_model.specs.Soundness.{is_code}
use Rattle.least_sets.specs.Rules.{IsClosedSet}
use Rattle.op_model.specs.declared.lowered.LoweredMethod.{LoweredMethod}
use Rattle.op_model.specs.Supplies.{Given, GivenAs, IsCodedMethod, IsMapOf, IsServed}
use Rattle.machine_bytecode.specs.Machine.{At, Calls, IsInitialiser, IsTriggered, MethodCode, by_instruction, by_start}
use Rattle.machine_bytecode.specs.Objects.{Subject}
use Rattle.machine_bytecode.specs.States.{Frame, State}
use Rattle.machine_nodes.specs.Nodes.{IsClassNumber, IsCodedInitialiser}
use Rattle.machine_nodes.specs.NodeSteps.{AtNode}
use Rattle.machine_nodes.specs.NodeSteps.{Calls as NodeCalls}
use Rattle.machine_laws.proofs.CodedInitialisers.{coded_initialiser}
use Rattle.points_to_rules.specs.Facts.{Fact, may_run}
use Rattle.points_to_rules.specs.Refusals.{IsUnrefused, of_method}
use Rattle.points_to_rules.specs.Rules.{Instance, StartsAt, at_node, before_entry, entry_runs, initialiser_runs, node_of, target_runs}
use Rattle.lowering_supply.proofs.CodedMethods.{with_code}
use Rattle.simulation.proofs.Fits.{Fits}
use Rattle.simulation.proofs.Known.{LoweredCode}
use Rattle.simulation.proofs.StartFrames.{OneConcerned, is_triggered}
use Rattle.simulation.specs.Simulation.{AreLowered, exception_names}
use Rattle.coverage.specs.Covering.{Covers}
use Rattle.points_to_rules.specs.WholeMethods.{AreWholeMethods}
use Rattle.coverage.proofs.Calls.{called_by, inside_of}
use Rattle.coverage.proofs.Frames.{frames_are}
use Rattle.coverage.proofs.RefusedCalls.{HasNoRefusedCall}
use Rattle.simulation.proofs.CallsOfNodes.{lc, lowered, node_at, node_calls, place}

some_of_filter : {X : Type 0} (f : X → Bool) (xs : List X) (y : X) (ys : List X) → filter f xs ≡ y ∷ ys → list_any f xs ≡ true
some_of_filter f [] y ys e = absurd cc
some_of_filter f (x ∷ xs) y ys e = by (f x) refl (λ other. some_of_filter f xs y ys other)
  where
    by : (b : Bool) → f x ≡ b → (filter f xs ≡ y ∷ ys → list_any f xs ≡ true) → list_any f (x ∷ xs) ≡ true
    by true is later = ap (λ (b : Bool). b || list_any f xs) is
    by false is later = ap (λ (b : Bool). b || list_any f xs) is ∙ later (sym (ap (λ (b : Bool). cond b (x ∷ filter f xs) (filter f xs)) is) ∙ e)

-- a method with code is one that a supplier serves
coded : (p : Program) → IsProgram p → (number : ℕ) → MethodCode p number → IsCodedMethod p number
coded p program number c =
    with_code p program number c.method c.stands c.file c.place c.member c.of_file
    (some_of_filter (is_code c.file.pool) c.member.attributes c.has.code [] c.has.only)

-- each method with code is served
abbrev pub ServesCode : Program → GivenAs → Type 0
ServesCode p gives = (number : ℕ) → IsCodedMethod p number → IsServed gives number

module _ (x : Subject) (program : IsProgram x.program) (given : Given) (gives : GivenAs) (S : Fact → Type 0) (map : IsMapOf given gives)
    (serves : ServesCode x.program gives) (unrefused : IsUnrefused x.program gives S) where
  pub given_as_nodes : (number : ℕ) → MethodCode x.program number → S (may_run (record { 0 = number })) → (l : LoweredMethod) × (given number ≡ Some (Ok l))
  given_as_nodes number c runs = let served = serves number (coded x.program program number c) in by served.0 served.1
    where
      by : (answer : Result LoweredMethod Refusal) → gives number answer → (l : LoweredMethod) × (given number ≡ Some (Ok l))
      by (Ok l) is = (l, (map.entries number (Ok l)).1 is)
      by (Err r) is = absurd (unrefused (record { 0 = number }) r (of_method runs is))

module _ (x : Subject) (program : IsProgram x.program) (given : Given) (gives : GivenAs) (S : Fact → Type 0) (map : IsMapOf given gives)
    (closed : IsClosedSet (Instance x.program gives (record { 0 = x.entry })) S) (whole : AreWholeMethods x.program gives) (calls : HasNoRefusedCall x.program gives S)
    (known : (number : ℕ) (l : LoweredMethod) → given number ≡ Some (Ok l) → LoweredCode x.program number l)
    (exceptions : (name : List ℕ) → Contains exception_names name → (c : ClassNo) × IsClassNumber x.program c name) (once : OneConcerned x.program)
    (s : State) (fits : Fits x s) (low : AreLowered given s) (covered : Covers x gives S s) where
  -- the method that a call goes to
  pub target_may_run : (at : At x.program s) (c : Calls x s at) → MethodCode x.program c.target → S (may_run (record { 0 = c.target }))
  target_may_run at c code =
      let here : AtNode x given s = node_at x program given known exceptions s fits low at in
      let call : NodeCalls x given s here = node_calls x program given known exceptions s fits low at c in
      let inside = inside_of x given gives S map closed whole here.frame here.now call.number call.in_method in
      let is = called_by x given gives S map closed whole calls s here call inside code.method code.stands covered in
      closed _ _ (target_runs (node_of inside.method here.now.node) (record { 0 = c.target })) (is.targeted.called, tt)

  -- the entry
  pub entry_may_run : S (may_run (record { 0 = x.entry }))
  entry_may_run = closed _ _ entry_runs tt

  -- an initialiser that is started
  pub initialiser_may_run : (frame : Frame) (below : List Frame) (class : List ℕ) → IsTriggered x s frame below class → (number : ℕ) → IsInitialiser x.program class number → S (may_run (record { 0 = number }))
  initialiser_may_run frame below class (by_instruction at fe be trig concerns) number is =
      let here : AtNode x given s = node_at x program given known exceptions s fits low at in
      let l = lowered x program given known exceptions s fits low at in
      let code = lc x program given known exceptions s fits low at in
      let step = place x program given known exceptions s fits low at in
      let triggers = is_triggered x.program once at.frame at.now l.0 code step.1.step step.1.there step.1.offset_is trig class concerns in
      let inside = inside_of x given gives S map closed whole here.frame here.now at.now.here.number at.now.here.of_frame in
      let frames = frames_are x gives S s.world.heap s.frames here.below here.frame here.frames covered.frames in
      let starts : StartsAt x.program here.now.node (record { 0 = number }) =
      record { trigger = triggers.number; is_trigger = triggers.trigger_is; class = class; is_class = triggers.is_class; initialiser = coded_initialiser x.program class number is } in
      closed _ _ (initialiser_runs (may_run inside.method ∷ []) (record { 0 = number }) (at_node inside.method inside.lowered here.now.node inside.here.node starts refl)) (frames.0.runs inside.method inside.here.in_method, tt)
  initialiser_may_run frame below class (by_start at fe be e stands class_is) number is =
      let coded : IsCodedInitialiser x.program e.class number = subst (λ (c : List ℕ). IsCodedInitialiser x.program c number) (sym class_is) (coded_initialiser x.program class number is) in
      closed _ _ (initialiser_runs [] (record { 0 = number }) (before_entry e stands coded refl)) tt
