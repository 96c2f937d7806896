-- Exceptions: each listed class is raised, and an object that is thrown is taken by the first handler that takes it, leaves the
-- frame, or leaves an initialiser.
use Rattle.std.proofs.Common.{◌≡◌, ◌⊎◌, inl, inr, ℕ, false, List, [], ◌∷◌, Option, Some, None, refl, sym, ap, ◌∙◌, subst}
use Rattle.std.specs.List.{slice_get, Contains}
use Rattle.std.specs.Prelude.{codes}
use Rattle.std.proofs.lemmas.List.{append-nil}
use Rattle.std.proofs.lemmas.Option.{none-some, same_Some}
use Rattle.list_laws.proofs.Members.{contains_cases, contains_none}
use Rattle.jvm_model.specs.declared.number.ClassNo.{ClassNo}
use Rattle.jvm_model.specs.Programs.{Program, Class}
use Rattle.jvm_model.specs.Subtypes.{Fits}
use Rattle.op_model.specs.declared.node.NodeHandler.{NodeHandler}
use Rattle.op_model.specs.declared.op.Op.TheVariants.{Throw}
use Rattle.op_model.specs.Supplies.{Given}
use Rattle.machine_bytecode.specs.Machine.{Throwing, unwound}
use Rattle.machine_bytecode.specs.Objects.{Subject, IsOf}
use Rattle.machine_bytecode.specs.States.{reference_to, Frame, State, runs_on, throws_on, moved_to, with_kept, slot_at}
use Rattle.machine_nodes.specs.Nodes.{IsClassNumber, StandsAt}
use Rattle.machine_nodes.specs.NodeSteps.{AtNode, Takes, all, fitting, IsFirstTaking, IsUncaught, Throws, Catches, Unwinds, raises, wraps}
use Rattle.machine_laws.proofs.ProgressDecided.{DecidesFits}
use Rattle.machine_laws.proofs.ProgressSteps.{thrown_by, throws_new}
use Rattle.program_laws.proofs.Choices.{OrNot}
use Rattle.machine_laws.specs.NodeProgress.{MayRaise, ThrowsOne}
use Rattle.machine_laws.proofs.Slots.{some_caught}

-- ---- handlers

-- a number is that of one class
one_class : (p : Program) (number other : ClassNo) (c : Class) (name : List ℕ) → number ≡ other → slice_get p.classes other.0 ≡ Some c → IsClassNumber p number name → name ≡ c.name
one_class p number other c name same held is =
    let at_it : slice_get p.classes other.0 ≡ Some is.class = subst (λ (n : ClassNo). slice_get p.classes n.0 ≡ Some is.class) same is.stands in
    sym is.named ∙ ap (λ (d : Class). d.name) (same_Some is.class c (sym at_it ∙ held))

-- a typed handler takes an object where it fits the type
typed_or_not : (p : Program) → DecidesFits p → (h : NodeHandler) (class : List ℕ) (number : ClassNo) → h.catch ≡ Some number → (o : Option Class) → slice_get p.classes number.0 ≡ o
    → OrNot (Takes p h class)
typed_or_not p decides h class number is None none = inr missing where
  missing : Takes p h class → ⊥
  missing (all e) = none-some number (sym e ∙ is)
  missing (fitting other name e named fits) =
      let same : other ≡ number = same_Some other number (sym e ∙ is) in
      none-some named.class (sym none ∙ subst (λ (n : ClassNo). slice_get p.classes n.0 ≡ Some named.class) same named.stands)
typed_or_not p decides h class number is (Some c) held = by (decides c.name class) where
  by : OrNot (Fits p c.name class) → OrNot (Takes p h class)
  by (inl fits) = inl (fitting number c.name is (record { class = c; stands = held; named = refl }) fits)
  by (inr misfit) = inr missing where
    missing : Takes p h class → ⊥
    missing (all e) = none-some number (sym e ∙ is)
    missing (fitting other name e named fits) =
        let same : other ≡ number = same_Some other number (sym e ∙ is) in
        misfit (subst (λ (n : List ℕ). Fits p n class) (one_class p other number c name same held named) fits)

takes_or_not : (p : Program) → DecidesFits p → (h : NodeHandler) (class : List ℕ) → OrNot (Takes p h class)
takes_or_not p decides h class = by h.catch refl where
  by : (o : Option ClassNo) → h.catch ≡ o → OrNot (Takes p h class)
  by None is = inl (all is)
  by (Some number) is = typed_or_not p decides h class number is (slice_get p.classes number.0) refl

abbrev IsFound : Program → List ℕ → List NodeHandler → Type 0
IsFound p class handlers = (h : NodeHandler) × IsFirstTaking p class handlers h

abbrev IsNone : Program → List ℕ → List NodeHandler → Type 0
IsNone p class handlers = (h : NodeHandler) → Contains handlers h → Takes p h class → ⊥

none_here : (p : Program) (class : List ℕ) (g : NodeHandler) (handlers : List NodeHandler) → (Takes p g class → ⊥) → IsNone p class handlers → IsNone p class (g ∷ handlers)
none_here p class g handlers not_it none h c takes = by (contains_cases g h handlers c) where
  by : (g ≡ h) ⊎ Contains handlers h → ⊥
  by (inl e) = not_it (subst (λ (k : NodeHandler). Takes p k class) (sym e) takes)
  by (inr there) = none h there takes

handler_or_none : (p : Program) → DecidesFits p → (class : List ℕ) (handlers : List NodeHandler) → IsFound p class handlers ⊎ IsNone p class handlers
handler_or_none p decides class [] = inr (λ h c takes. contains_none h c)
handler_or_none p decides class (g ∷ handlers) = by (takes_or_not p decides g class) (handler_or_none p decides class handlers) where
  by : OrNot (Takes p g class) → IsFound p class handlers ⊎ IsNone p class handlers → IsFound p class (g ∷ handlers) ⊎ IsNone p class (g ∷ handlers)
  by (inl takes) rest = inl (g, inl (takes, refl))
  by (inr not_it) (inl found) = inl (found.0, inr (not_it, found.1))
  by (inr not_it) (inr none) = inr (none_here p class g handlers not_it none)

-- ---- the steps

pub throws_object : (x : Subject) (given : Given) (s : State) (at : AtNode x given s) (value : ℕ) → at.now.node.op ≡ Throw value
    → IsOf x.program (codes "java/lang/Throwable") s.world (slot_at at.frame.slots value) → (t : State) × Throws x given s t at
throws_object x given s at value is thrown = (throws_on (at.frame ∷ at.below) s.world thrown.to.place, record { value = value; is_throw = is; thrown = thrown; after = refl })

pub raises_listed : (x : Subject) (given : Given) (s : State) (at : AtNode x given s) (number : ClassNo) (class : List ℕ) → Contains at.now.node.throws number
    → IsClassNumber x.program number class → MayRaise at.now.node.op at.frame.slots class → ThrowsOne x given s at.frame at.below [] class
raises_listed x given s at number class listed is_class may = record {
  next = thrown_by x s.world at.frame at.below class;
  step = raises at (record { number = number; listed = listed; class = class; is_class = is_class; of_null = may; throws = throws_new x s.world at.frame at.below class });
  object = _;
  heap = refl;
  class_is = refl;
  throws = refl;
  frames = refl;
  kept = sym (append-nil s.world.kept);
}

pub throwing_goes_on : (x : Subject) → DecidesFits x.program → (given : Given) (s : State) (at : Throwing s) → StandsAt x given at.frame
    → ((t : State) × Catches x given s t at) ⊎ ((t : State) × Unwinds x given s t at)
throwing_goes_on x decides given s at now = by (handler_or_none x.program decides at.object.class now.node.handlers) where
  by : IsFound x.program at.object.class now.node.handlers ⊎ IsNone x.program at.object.class now.node.handlers
      → ((t : State) × Catches x given s t at) ⊎ ((t : State) × Unwinds x given s t at)
  by (inl found) =
      let c = some_caught now.locals (reference_to at.place) at.frame.slots in
      inl (
        runs_on (moved_to at.frame found.0.target c.slots ∷ at.below) s.world,
        record { now = now; handler = found.0; first = found.1; left = c.slots; are_caught = c.are_caught; after = refl },
      )
  by (inr none) = inr (unwound at.below s.world at.place, record { uncaught = record { now = now; none = none }; after = refl })

pub initialisers_wrap : (x : Subject) (given : Given) (s : State) (at : Throwing s) (caller : Frame) (rest : List Frame) → IsUncaught x given at.frame at.object.class
    → at.below ≡ caller ∷ rest → caller.waits ≡ false → (now : StandsAt x given caller) (number : ClassNo) → Contains now.node.throws number
    → IsClassNumber x.program number (codes "java/lang/ExceptionInInitializerError")
    → ThrowsOne x given s caller rest (at.place ∷ []) (codes "java/lang/ExceptionInInitializerError")
initialisers_wrap x given s at caller rest uncaught below resumed now number listed is_class = record {
  next = thrown_by x (with_kept s.world (at.place ∷ [])) caller rest (codes "java/lang/ExceptionInInitializerError");
  step = wraps at (record {
    uncaught = uncaught;
    caller = caller;
    rest = rest;
    below = below;
    triggered = resumed;
    caller_at = now;
    number = number;
    listed = listed;
    is_class = is_class;
    throws = throws_new x _ caller rest _;
  });
  object = _;
  heap = refl;
  class_is = refl;
  throws = refl;
  frames = refl;
  kept = refl;
}
