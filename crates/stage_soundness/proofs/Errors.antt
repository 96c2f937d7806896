-- Where no edge is in the error state, no object of the site ever is; and what the edges say where the program's start returns.
use Rattle.std.proofs.Common.{◌≡◌, ◌≢◌, ◌⊎◌, inl, inr, ℕ, zero, suc, ◌<◌, ◌≤◌, List, [], ◌∷◌, length, Option, Some, None, Contains, refl, sym, ap, ◌∙◌, subst, arith}
use Rattle.std.specs.Prelude.{slice_get}
use Rattle.std.proofs.lemmas.Option.{none-some, same_Some, slice_get_cases}
use Rattle.list_laws.proofs.Members.{contains_cases, contains_none}
use Rattle.list_laws.proofs.Places.{place_of}
use Rattle.jvm_model.specs.declared.number.ClassNo.{ClassNo}
use Rattle.jvm_model.specs.declared.site.Site.{Site}
use Rattle.jvm_model.specs.Programs.{Class, Program}
use Rattle.jvm_model.specs.Subtypes.{Fits}
use Rattle.op_model.specs.declared.node.Node.{Node}
use Rattle.op_model.specs.declared.node.NodeHandler.{NodeHandler}
use Rattle.op_model.specs.declared.node.Spot.{Spot}
use Rattle.op_model.specs.declared.node.Spot.TheVariants as spots
use Rattle.op_model.specs.Supplies.{Given, GivenAs}
use Rattle.program_laws.proofs.Decided.{fits_or_not}
use Rattle.machine_bytecode.specs.Objects.{Subject}
use Rattle.machine_bytecode.specs.States.{Value, primitive_value, reference_to, Object, Frame, Mode, running, throwing, ended, World, slot_at}
use Rattle.machine_nodes.specs.NodeSteps.{all, fitting, IsFirstTaking, Takes}
use Rattle.machine_nodes.specs.Slots.{AreCaught}
use Rattle.slot_names.specs.Sharing.{VariablesHaveValues}
use Rattle.points_to_rules.specs.Facts.{Fact}
use Rattle.stage_facts.specs.Facts.{none_yet, of_object, Says, SiteFact, some_yet}
use Rattle.stage_facts.specs.Values.{of_return, of_slots, of_throw, View}
use Rattle.stage_transfer.specs.Stages.{Transfer}
use Rattle.stage_edges.specs.Rules.{caught, Edge, edge, GoesTo, uncaught}
use Rattle.stage_steps.specs.Said.{SaysCaught}
use Rattle.stage_soundness.specs.Describing.{AreErrorFree, ErrsOnNodes, IsDescribed}
use Rattle.stage_soundness.proofs.Described.{described_all}
use Rattle.stage_soundness.proofs.Known.{Premises}

-- ---- where a thrown object goes

takes_or_not : (p : Program) (h : NodeHandler) (class : List ℕ) → Takes p h class ⊎ (Takes p h class → ⊥)
takes_or_not p h class = by h.catch refl
  where
    named : (c : ClassNo) → h.catch ≡ Some c → (o : Option Class) → slice_get p.classes c.0 ≡ o → Takes p h class ⊎ (Takes p h class → ⊥)
    named c e None none = inr (λ takes. no_class takes)
      where
        no_class : Takes p h class → ⊥
        no_class (all free) = none-some c (sym free ∙ e)
        no_class (fitting number name is is_class fits) =
            let same : number ≡ c = same_Some number c (sym is ∙ e) in
            none-some is_class.class (sym none ∙ sym (ap (λ (d : ClassNo). slice_get p.classes d.0) same) ∙ is_class.stands)
    named c e (Some k) stands = elim (fits_or_not p k.name class) [
      | inl fits ↦ inl (fitting c k.name e (record { class = k; stands = stands; named = refl }) fits)
      | inr not ↦ inr (λ takes. misfit not takes)
    ]
      where
        misfit : (Fits p k.name class → ⊥) → Takes p h class → ⊥
        misfit not (all free) = none-some c (sym free ∙ e)
        misfit not (fitting number name is is_class fits) =
            let same : number ≡ c = same_Some number c (sym is ∙ e) in
            let one : is_class.class ≡ k = same_Some is_class.class k (sym is_class.stands ∙ ap (λ (d : ClassNo). slice_get p.classes d.0) same ∙ stands) in
            not (subst (λ (text : List ℕ). Fits p text class) (sym is_class.named ∙ ap (λ (d : Class). d.name) one) fits)

    by : (o : Option ClassNo) → h.catch ≡ o → Takes p h class ⊎ (Takes p h class → ⊥)
    by None free = inl (all free)
    by (Some c) e = named c e (slice_get p.classes c.0) refl

-- the first handler that takes the object, or none
first_or_none : (p : Program) (class : List ℕ) (handlers : List NodeHandler)
    → ((h : NodeHandler) × IsFirstTaking p class handlers h) ⊎ ((h : NodeHandler) → Contains handlers h → Takes p h class → ⊥)
first_or_none p class [] = inr (λ h there takes. contains_none h there)
first_or_none p class (g ∷ handlers) = by (takes_or_not p g class) (first_or_none p class handlers)
  where
    by : Takes p g class ⊎ (Takes p g class → ⊥) → ((h : NodeHandler) × IsFirstTaking p class handlers h) ⊎ ((h : NodeHandler) → Contains handlers h → Takes p h class → ⊥)
        → ((h : NodeHandler) × IsFirstTaking p class (g ∷ handlers) h) ⊎ ((h : NodeHandler) → Contains (g ∷ handlers) h → Takes p h class → ⊥)
    by (inl takes) rest = inl (g, inl (takes, refl))
    by (inr not) (inl later) = inl (later.0, inr (not, later.1))
    by (inr not) (inr none) = inr (λ h there takes. elim (contains_cases g h handlers there) [
      | inl e ↦ not (subst (λ (f : NodeHandler). Takes p f class) (sym e) takes)
      | inr later ↦ none h later takes
    ])

pub record GoesSomewhere (x : Subject) (n : Node) (class : List ℕ) : Type 0 where
  pub handler : Option ℕ
  pub spot : Spot
  pub goes : GoesTo x n class handler spot

pub goes_somewhere : (x : Subject) (n : Node) (class : List ℕ) → GoesSomewhere x n class
goes_somewhere x n class = elim (first_or_none x.program class n.handlers) [
  | inl first ↦ record { handler = Some first.0.target; spot = spots.Node first.0.target; goes = caught first.0 first.1 }
  | inr none ↦ record { handler = None; spot = spots.Thrown; goes = uncaught none }
]

-- slots as a handler gets them
abbrev caught_slots : ℕ → List Value → Value → List Value
caught_slots zero slots v = v ∷ []
caught_slots (suc n) [] v = primitive_value ∷ caught_slots n [] v
caught_slots (suc n) (u ∷ slots) v = u ∷ caught_slots n slots v

are_caught : (locals : ℕ) (slots : List Value) (v : Value) → AreCaught locals v slots (caught_slots locals slots v)
are_caught locals slots v = record { kept = kept locals slots; given = given locals slots; cleared = cleared locals slots }
  where
    kept : (n : ℕ) (us : List Value) (z : ℕ) → z < n → slot_at (caught_slots n us v) z ≡ slot_at us z
    kept zero us z less = absurd (omega (arith, less))
    kept (suc n) [] zero less = refl
    kept (suc n) [] (suc z) less = kept n [] z (omega (arith, less))
    kept (suc n) (u ∷ us) zero less = refl
    kept (suc n) (u ∷ us) (suc z) less = kept n us z (omega (arith, less))

    given : (n : ℕ) (us : List Value) → slot_at (caught_slots n us v) n ≡ v
    given zero us = refl
    given (suc n) [] = given n []
    given (suc n) (u ∷ us) = given n us

    cleared : (n : ℕ) (us : List Value) (z : ℕ) → n < z → slot_at (caught_slots n us v) z ≡ primitive_value
    cleared n us zero less = absurd (omega (arith, less))
    cleared zero us (suc z) less = refl
    cleared (suc n) [] (suc z) less = cleared n [] z (omega (arith, less))
    cleared (suc n) (u ∷ us) (suc z) less = cleared n us z (omega (arith, less))

module _ (x : Subject) (s : Site) (E : Edge → Type 0) (free : AreErrorFree x E) where
  there_less : (w : World) (place : ℕ) (o : Object) → slice_get w.heap place ≡ Some o → length w.heap ≤ place → ⊥
  there_less w place o stands past = elim (slice_get_cases w.heap place).1 [
    | inl (other, less, at, same) ↦ omega (arith, less, past)
    | inr (beyond, none) ↦ none-some o (sym none ∙ stands)
  ]

  says_free : (e : Edge) (f : SiteFact) (place : ℕ) (w : World) (view : View) (o : Object) → e.fact ≡ f → E e → slice_get w.heap place ≡ Some o → Says s f place w view → o.automaton ≢ x.property.error
  says_free e none_yet place w view o is held stands says error = there_less w place o stands says.0
  says_free e some_yet place w view o is held stands says error = there_less w place o stands says.0
  says_free e (of_object t) place w view o is held stands says error =
      free e.method e.entry e.spot t (subst (λ (f : SiteFact). E (edge e.method e.entry e.spot f)) is held)
      (sym says.in_state ∙ ap (λ (u : Object). u.automaton) (same_Some says.object o (sym says.stands ∙ stands)) ∙ error)

  caught_free : (e : Edge) (f : SiteFact) (place : ℕ) (w : World) (slots : List Value) (locals thrown : ℕ) (handler : Option ℕ) (o : Object) → e.fact ≡ f → E e → slice_get w.heap place ≡ Some o
      → SaysCaught s f place w slots locals thrown handler → o.automaton ≢ x.property.error
  caught_free e f place w slots locals thrown None o is held stands says = says_free e f place w (of_throw thrown) o is held stands says
  caught_free e f place w slots locals thrown (Some offset) o is held stands says =
      let left = caught_slots locals slots (reference_to thrown) in
      says_free e f place w (of_slots left) o is held stands (says left (are_caught locals slots (reference_to thrown)))

  described_free : (gives : GivenAs) (S : Fact → Type 0) (t : Transfer) (place : ℕ) (w : World) (mode : Mode) (frames : List Frame) (o : Object) → slice_get w.heap place ≡ Some o
      → IsDescribed x gives S s t E place w mode frames → o.automaton ≢ x.property.error
  described_free gives S t place w running [] o stands d = absurd d
  described_free gives S t place w running (f ∷ below) o stands d = says_free _ d.fact place w (of_slots f.slots) o refl d.held stands d.says
  described_free gives S t place w (throwing thrown) [] o stands d = absurd d
  described_free gives S t place w (throwing thrown) (f ∷ below) o stands d =
      let way = goes_somewhere x d.node d.object.class in
      let l = d.lands way.handler way.spot way.goes in
      caught_free _ l.fact place w f.slots d.lowered.slots thrown way.handler o refl l.held stands l.says
  described_free gives S t place w ended frames o stands d = elim d.says [
    | inl returned ↦ says_free _ d.fact place w (of_return returned.0) o refl d.held stands returned.1
    | inr thrown ↦ says_free _ d.fact place w (of_throw thrown.0) o refl d.held stands thrown.1
  ]

  pub never_errs : (given : Given) (gives : GivenAs) (S : Fact → Type 0) (t : Transfer) → ((e : ErrsOnNodes x given s) → Premises x given gives S s t E) → VariablesHaveValues x given → ErrsOnNodes x given s → ⊥
  never_errs given gives S t premises share e =
      let k = premises e in
      let at = place_of e.state.world.heap e.object e.lives in
      let d = described_all x given gives S s t E k share e.states e.execution e.state e.reached at.0 (λ o stands. ap (λ (u : Object). u.site) (same_Some o e.object (sym stands ∙ at.1)) ∙ e.of_site) in
      described_free gives S t at.0 e.state.world e.state.mode e.state.frames e.object at.1 d e.in_error
