-- Each step of the start, and each that starts or denies an initialiser, is a step of its node.
use Rattle.std.proofs.Common.{codes, ◌≡◌, ◌⊎◌, inl, inr, ℕ, ◌-◌, ◌≤◌, Bool, true, false, cond, List, [], ◌∷◌, ◌++◌, length, replicate, Some, None, Ok, refl, sym, ap, ◌∙◌, subst, arith, length-append}
use Rattle.std.specs.Bool.{IsTrue}
use Rattle.std.specs.List.{Contains, slice_get}
use Rattle.std.specs.Str.{bytes_eq}
use Rattle.std.proofs.lemmas.List.{length-replicate}
use Rattle.std.proofs.lemmas.List.Elements.{All-from_recursion}
use Rattle.std.proofs.lemmas.Option.{same_Some}
use Rattle.jvm_model.specs.declared.number.ClassNo.{ClassNo}
use Rattle.jvm_model.specs.Code.{CodeBody}
use Rattle.jvm_model.specs.Descriptors.{IsFieldDescriptor, IsMethodDescriptor}
use Rattle.jvm_model.specs.Instructions.{HasDescriptorUnits}
use Rattle.jvm_model.specs.LinkedPrograms.{IsProgram}
use Rattle.jvm_model.specs.Names.{IsClassName, is_unqualified_name}
use Rattle.jvm_model.specs.Programs.{Method, Program}
use Rattle.jvm_model.specs.Soundness.{plain_descriptor}
use Rattle.jvm_model.specs.Table.{UnitKind, reference, null_pointer}
use Rattle.op_model.specs.declared.lowered.LoweredMethod.{LoweredMethod}
use Rattle.op_model.specs.declared.node.Node.{Node}
use Rattle.op_model.specs.Supplies.{Given}
use Rattle.machine_bytecode.specs.Machine.{AtStart, Denies, Ends, EntersEntry, IsInitialiser, IsTriggered, MethodCode, Starts, ThrowsNew, by_instruction, by_start, entered, exception_class}
use Rattle.machine_bytecode.specs.Objects.{Subject}
use Rattle.machine_bytecode.specs.Start.{arguments_of}
use Rattle.machine_bytecode.specs.States.{Frame, running, State, primitive_value, runs_on, waiting, with_started}
use Rattle.machine_nodes.specs.Nodes.{AreStartNodes, HasInitialiser, IsClassNumber}
use Rattle.machine_nodes.specs.NodeSteps.{AtNode, NodeStep}
use Rattle.machine_nodes.specs.NodeSteps.{Starts as NodeStarts, starts, Raises as NodeRaises, raises, EntersEntry as NodeEntry, enters_entry, Ends as NodeEnds, ends}
use Rattle.machine_laws.proofs.CodedInitialisers.{coded_initialiser}
use Rattle.program_laws.proofs.Orders.{first_there}
use Rattle.simulation.proofs.Fits.{Fits, RunsAt, at_start, by_instruction as trigger_at, by_start as trigger_start, called, fits_at, from_start, in_code, running_throws, runs_in, triggered}
use Rattle.simulation.proofs.Known.{LoweredCode, same_code}
use Rattle.simulation.proofs.Left.{arguments_same}
use Rattle.lowering_laws.proofs.OneRow.{units_agree}
use Rattle.simulation.proofs.Parameters.{parameters_fit}
use Rattle.simulation.proofs.Running.{stands_in}
use Rattle.simulation.proofs.StartFrames.{OneConcerned, call_stands, error_listed, is_triggered, return_stands, start_lists, start_trigger}
use Rattle.simulation.specs.Simulation.{AreLowered, HasEntry, HasNodes, exception_names}

-- ---- the entry's descriptor

plain_method : IsMethodDescriptor (codes "()V")
plain_method = record { parameters = []; outcome = codes "V"; spelled = refl; each = All-from_recursion IsFieldDescriptor [] tt; units = omega arith; outcome_is = inl refl }

string_class : IsClassName (codes "java/lang/String")
string_class = record {
  parts = codes "java" ∷ codes "lang" ∷ codes "String" ∷ [];
  some = omega arith;
  each = All-from_recursion (λ part. IsTrue (is_unqualified_name part)) (codes "java" ∷ codes "lang" ∷ codes "String" ∷ []) (refl, (refl, (refl, tt)));
  joined = refl;
}

strings_type : IsFieldDescriptor (codes "[Ljava/lang/String;")
strings_type = record { dimensions = 1; limit = omega arith; type_is = (codes "Ljava/lang/String;", refl, inr (codes "java/lang/String", string_class, refl)) }

strings_method : IsMethodDescriptor (codes "([Ljava/lang/String;)V")
strings_method = record {
  parameters = codes "[Ljava/lang/String;" ∷ [];
  outcome = codes "V";
  spelled = refl;
  each = All-from_recursion IsFieldDescriptor (codes "[Ljava/lang/String;" ∷ []) (strings_type, tt);
  units = omega arith;
  outcome_is = inl refl;
}

-- the entry takes its arguments, and has no result
record TakesArguments (p : Program) (m : Method) : Type 0 where
  pub parameters : List UnitKind
  pub described : HasDescriptorUnits m.signature.descriptor parameters []
  pub enough : length (arguments_of p m) ≤ length parameters

takes_plain : (p : Program) (m : Method) → m.signature.descriptor ≡ plain_descriptor → TakesArguments p m
unfolding plain_method
takes_plain p m e = record {
  parameters = [];
  described = subst (λ (d : List ℕ). HasDescriptorUnits d [] []) (sym e) (record { is = plain_method; parameters_are = refl; results_are = refl });
  enough = let none : ◌≡◌ {A = ℕ} (length (arguments_of p m)) 0 = ap (λ (d : List ℕ). length (cond (bytes_eq d plain_descriptor) [] (arguments_of p (record m { signature = record { name = m.signature.name; descriptor = codes "" } })))) e in omega (arith, none);
}

takes_strings : (p : Program) (m : Method) → m.signature.descriptor ≡ codes "([Ljava/lang/String;)V" → TakesArguments p m
unfolding strings_method
takes_strings p m e = record {
  parameters = reference ∷ [];
  described = subst (λ (d : List ℕ). HasDescriptorUnits d (reference ∷ []) []) (sym e) (record { is = strings_method; parameters_are = refl; results_are = refl });
  enough = few (bytes_eq m.signature.descriptor plain_descriptor);
}
  where
    few : (b : Bool) → length (cond b [] (arguments_of p (record m { signature = record { name = m.signature.name; descriptor = codes "" } }))) ≤ 1
    few true = omega arith
    few false = omega arith

takes_arguments : (x : Subject) (entry : HasEntry x) (m : Method) → slice_get x.program.methods x.entry ≡ Some m → TakesArguments x.program m
takes_arguments x entry m stands = subst (TakesArguments x.program) (same_Some entry.method m (sym entry.stands ∙ stands)) (by entry.descriptor)
  where
    by : (entry.method.signature.descriptor ≡ plain_descriptor) ⊎ (entry.method.signature.descriptor ≡ codes "([Ljava/lang/String;)V") → TakesArguments x.program entry.method
    by (inl e) = takes_plain x.program entry.method e
    by (inr e) = takes_strings x.program entry.method e

no_class_def : codes "java/lang/NoClassDefFoundError" ≡ exception_class null_pointer → ⊥
no_class_def e = let never : false ≡ true = ap (λ (c : List ℕ). bytes_eq c (exception_class null_pointer)) e in cc never

-- a new frame without arguments
fresh_runs : (p : Program) (number : ℕ) (code : MethodCode p number) → RunsAt p (entered number code.body [])
fresh_runs p number code = in_code number refl (λ k lc.
    (let body : code.body.max_locals ≡ lc.code.max_locals = ap (λ (b : CodeBody). b.max_locals) (same_code p number code k lc).body ∙ sym lc.same.max_locals in
    (0, lc.flow.has_first, length-replicate (code.body.max_locals - 0) primitive_value ∙ omega (arith, body))))

module _ (x : Subject) (program : IsProgram x.program) (given : Given) (known : (number : ℕ) (l : LoweredMethod) → given number ≡ Some (Ok l) → LoweredCode x.program number l)
    (exceptions : (name : List ℕ) → Contains exception_names name → (c : ClassNo) × IsClassNumber x.program c name) (once : OneConcerned x.program) (nodes : List Node) (are : AreStartNodes x nodes) (entry : HasEntry x) where
  module _ (s t : State) (fits : Fits x s) (low : AreLowered given s) where
    abbrev Shown : Type 0
    Shown = NodeStep x given s t × Fits x t

    nodes_of : (f : Frame) (below : List Frame) → s.frames ≡ f ∷ below → HasNodes given f
    nodes_of f below frames = low.each f (subst (λ (fs : List Frame). Contains fs f) (sym frames) (first_there f below))

    -- ---- the start

    pub enter_entry : AreLowered given t → (at : AtStart s 0) → EntersEntry x s t at → Shown
    enter_entry low_t at e =
        let arguments = arguments_of x.program e.code.method in
        let new = entered x.entry e.enters.code.body arguments in
        let frames : t.frames ≡ new ∷ waiting at.frame at.frame.slots ∷ at.below = ap (λ (u : State). u.frames) e.enters.after in
        let l = low_t.each new (subst (λ (fs : List Frame). Contains fs new) (sym frames) (first_there new (waiting at.frame at.frame.slots ∷ at.below))) x.entry refl in
        let node_step : NodeEntry x given s t at = record {
          entry = e.code.method;
          stands = e.code.stands;
          left = at.frame.slots;
          are_left = λ z. refl;
          enters = record {
            method = l.0;
            is_given = l.1;
            slots = arguments ++ replicate (e.enters.code.body.max_locals - length arguments) primitive_value;
            arguments = arguments_same arguments (e.enters.code.body.max_locals - length arguments);
            after = e.enters.after;
          };
        } in
        let takes = takes_arguments x entry e.code.method e.code.stands in
        let fits_here = fits_at x s running (at.frame ∷ at.below) at.runs at.frames fits in
        let runs : RunsAt x.program new = in_code x.entry refl (λ k code.
        (let method : e.code.method ≡ code.method = same_Some e.code.method code.method (sym e.code.stands ∙ code.stands) in
        let fit = parameters_fit x.program program x.entry k code takes.parameters [] (subst (λ (m : Method). HasDescriptorUnits m.signature.descriptor takes.parameters []) method takes.described) in
        let enough = takes.enough in
        let body : e.enters.code.body.max_locals ≡ code.code.max_locals = ap (λ (b : CodeBody). b.max_locals) (same_code x.program x.entry e.enters.code k code).body ∙ sym code.same.max_locals in
        (0, code.flow.has_first, omega (arith, fit, enough, body, length-append arguments (replicate (e.enters.code.body.max_locals - length arguments) primitive_value), length-replicate (e.enters.code.body.max_locals - length arguments) primitive_value)))) in
        let no_result : (number : ℕ) (m : Method) → Some x.entry ≡ Some number → slice_get x.program.methods number ≡ Some m → (ps rs : List UnitKind) → HasDescriptorUnits m.signature.descriptor ps rs → rs ≡ [] = λ number m same stands ps rs u.
        (let method : e.code.method ≡ m = same_Some e.code.method m (sym e.code.stands ∙ ap (slice_get x.program.methods) (same_Some x.entry number same) ∙ stands) in
        sym (units_agree e.code.method.signature.descriptor m.signature.descriptor takes.parameters [] ps rs (ap (λ (k : Method). k.signature.descriptor) method) takes.described u).1) in (
          enters_entry at node_step,
          subst (λ (u : State). Fits x u) (sym e.enters.after) (record { awake = refl; place = runs }, (called refl (from_start at.no_method at.stands no_result), fits_here.1)),
        )

    pub end : (at : AtStart s 1) → Ends s t at → Shown
    end at e =
        let here : AtNode x given s = record { frame = at.frame; below = at.below; runs = at.runs; frames = at.frames; now = return_stands x given nodes are at.frame at.no_method at.stands } in
        let node_step : NodeEnds x given s t here = record { value = None; is_return = are.is_return.op; no_method = at.no_method; after = e.after } in
        (ends here node_step, subst (λ (u : State). Fits x u) (sym e.after) tt)

    -- ---- initialisers

    has : (class : List ℕ) (number : ℕ) → IsInitialiser x.program class number → HasInitialiser x.program class
    has class number is = record { number = number; initialiser = coded_initialiser x.program class number is }

    abbrev Started : Frame → List Frame → (class : List ℕ) (number : ℕ) → IsInitialiser x.program class number → Type 0
    Started frame below class number is = t ≡ runs_on (entered number is.code.body [] ∷ frame ∷ below) (with_started s.world number)

    new_nodes : (frame : Frame) (below : List Frame) (class : List ℕ) (number : ℕ) (is : IsInitialiser x.program class number) → AreLowered given t → Started frame below class number is → (l : LoweredMethod) × (given number ≡ Some (Ok l))
    new_nodes frame below class number is low_t after =
        low_t.each (entered number is.code.body []) (subst (λ (fs : List Frame). Contains fs (entered number is.code.body [])) (sym (ap (λ (u : State). u.frames) after)) (first_there (entered number is.code.body []) (frame ∷ below))) number refl

    start_by : AreLowered given t → (frame : Frame) (below : List Frame) (class : List ℕ) → IsTriggered x s frame below class → (number : ℕ) (is : IsInitialiser x.program class number) → (Contains s.world.started number → ⊥)
        → Started frame below class number is → Shown
    start_by low_t frame below class (by_instruction at fe be trig concerns) number is fresh after =
        let after_at : Started at.frame at.below class number is = after
        ∙ ap (λ (g : Frame). runs_on (entered number is.code.body [] ∷ g ∷ below) (with_started s.world number)) fe
        ∙ ap (λ (gs : List Frame). runs_on (entered number is.code.body [] ∷ at.frame ∷ gs) (with_started s.world number)) be in
        let fits_here = fits_at x s running (at.frame ∷ at.below) at.runs at.frames fits in
        let l = nodes_of at.frame at.below at.frames at.now.here.number at.now.here.of_frame in
        let code = known at.now.here.number l.0 l.1 in
        let h = runs_in x.program at.frame at.now.here.number at.now.here.of_frame fits_here.0.place l.0 code in
        let here : AtNode x given s = record { frame = at.frame; below = at.below; runs = at.runs; frames = at.frames; now = stands_in x program given known exceptions at.frame at.now.here.number at.now.here.of_frame l.0 l.1 h.1.step h.1.there h.1.offset_is } in
        let at_node = is_triggered x.program once at.frame at.now l.0 code h.1.step h.1.there h.1.offset_is trig class concerns in
        let m = new_nodes at.frame at.below class number is low_t after_at in
        let node_step : NodeStarts x given s t here = record {
          trigger = at_node.number;
          is_trigger = at_node.trigger_is;
          class = class;
          is_class = at_node.is_class;
          number = number;
          initialiser = is;
          fresh = fresh;
          method = m.0;
          is_given = m.1;
          slots = [] ++ replicate (is.code.body.max_locals - 0) primitive_value;
          empty = arguments_same [] (is.code.body.max_locals - 0);
          after = after_at;
        } in (
          starts here node_step,
          subst (λ (u : State). Fits x u) (sym after_at) (record { awake = refl; place = fresh_runs x.program number is.code }, (triggered fits_here.0 (trigger_at at.now trig class concerns (has class number is)), fits_here.1)),
        )
    start_by low_t frame below class (by_start at fe be e stands class_is) number is fresh after =
        let after_at : Started at.frame at.below class number is = after
        ∙ ap (λ (g : Frame). runs_on (entered number is.code.body [] ∷ g ∷ below) (with_started s.world number)) fe
        ∙ ap (λ (gs : List Frame). runs_on (entered number is.code.body [] ∷ at.frame ∷ gs) (with_started s.world number)) be in
        let fits_here = fits_at x s running (at.frame ∷ at.below) at.runs at.frames fits in
        let here : AtNode x given s = record { frame = at.frame; below = at.below; runs = at.runs; frames = at.frames; now = call_stands x given nodes are at.frame at.no_method at.stands } in
        let m = new_nodes at.frame at.below class number is low_t after_at in
        let init : HasInitialiser x.program e.class = subst (HasInitialiser x.program) (sym class_is) (has class number is) in
        let node_step : NodeStarts x given s t here = record {
          trigger = are.is_call.class;
          is_trigger = are.is_call.trigger;
          class = class;
          is_class = subst (IsClassNumber x.program are.is_call.class) class_is (start_trigger x nodes are e stands);
          number = number;
          initialiser = is;
          fresh = fresh;
          method = m.0;
          is_given = m.1;
          slots = [] ++ replicate (is.code.body.max_locals - 0) primitive_value;
          empty = arguments_same [] (is.code.body.max_locals - 0);
          after = after_at;
        } in (
          starts here node_step,
          subst (λ (u : State). Fits x u) (sym after_at) (record { awake = refl; place = fresh_runs x.program number is.code }, (triggered fits_here.0 (trigger_start at.no_method at.stands e stands init), fits_here.1)),
        )

    pub start : AreLowered given t → Starts x s t → Shown
    start low_t a = start_by low_t a.frame a.below a.class a.triggered a.number a.initialiser a.fresh a.after

    deny_by : (frame : Frame) (below : List Frame) (class : List ℕ) → IsTriggered x s frame below class → HasInitialiser x.program class → ThrowsNew x s.world frame below (codes "java/lang/NoClassDefFoundError") t → Shown
    deny_by frame below class (by_instruction at fe be trig concerns) init new =
        let new_at : ThrowsNew x s.world at.frame at.below (codes "java/lang/NoClassDefFoundError") t =
        subst (λ (gs : List Frame). ThrowsNew x s.world at.frame gs (codes "java/lang/NoClassDefFoundError") t) be (subst (λ (g : Frame). ThrowsNew x s.world g below (codes "java/lang/NoClassDefFoundError") t) fe new) in
        let fits_here = fits_at x s running (at.frame ∷ at.below) at.runs at.frames fits in
        let l = nodes_of at.frame at.below at.frames at.now.here.number at.now.here.of_frame in
        let code = known at.now.here.number l.0 l.1 in
        let h = runs_in x.program at.frame at.now.here.number at.now.here.of_frame fits_here.0.place l.0 code in
        let here : AtNode x given s = record { frame = at.frame; below = at.below; runs = at.runs; frames = at.frames; now = stands_in x program given known exceptions at.frame at.now.here.number at.now.here.of_frame l.0 l.1 h.1.step h.1.there h.1.offset_is } in
        let c = exceptions (codes "java/lang/NoClassDefFoundError") (1, omega arith, refl) in
        let node_step : NodeRaises x given s t here = record {
          number = c.0;
          listed = error_listed x.program once at.frame at.now l.0 code h.1.step h.1.there h.1.offset_is trig class concerns init (codes "java/lang/NoClassDefFoundError") (inr refl) c.0 c.1;
          class = codes "java/lang/NoClassDefFoundError";
          is_class = c.1;
          of_null = λ value is e. absurd (no_class_def e);
          throws = new_at;
        } in
        (raises here node_step, subst (λ (u : State). Fits x u) (sym new_at.after) (running_throws x.program at.frame at.now fits_here.0.place, fits_here.1))
    deny_by frame below class (by_start at fe be e stands class_is) init new =
        let new_at : ThrowsNew x s.world at.frame at.below (codes "java/lang/NoClassDefFoundError") t =
        subst (λ (gs : List Frame). ThrowsNew x s.world at.frame gs (codes "java/lang/NoClassDefFoundError") t) be (subst (λ (g : Frame). ThrowsNew x s.world g below (codes "java/lang/NoClassDefFoundError") t) fe new) in
        let fits_here = fits_at x s running (at.frame ∷ at.below) at.runs at.frames fits in
        let here : AtNode x given s = record { frame = at.frame; below = at.below; runs = at.runs; frames = at.frames; now = call_stands x given nodes are at.frame at.no_method at.stands } in
        let c = exceptions (codes "java/lang/NoClassDefFoundError") (1, omega arith, refl) in
        let node_step : NodeRaises x given s t here = record {
          number = c.0;
          listed = start_lists x nodes are e stands (subst (HasInitialiser x.program) (sym class_is) init) (codes "java/lang/NoClassDefFoundError") (inr refl) c.0 c.1;
          class = codes "java/lang/NoClassDefFoundError";
          is_class = c.1;
          of_null = λ value is e. absurd (no_class_def e);
          throws = new_at;
        } in
        (raises here node_step, subst (λ (u : State). Fits x u) (sym new_at.after) (at_start at.no_method at.stands, fits_here.1))

    pub deny : Denies x s t → Shown
    deny a = deny_by a.frame a.below a.class a.triggered (has a.class a.number a.initialiser) a.throws
