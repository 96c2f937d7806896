-- What is known of a program, of a stage and of closed edges; and of each state of an execution.
use Rattle.std.proofs.Common.{◌≡◌, ◌≢◌, ◌⊎◌, inl, inr, ℕ, ◌<◌, List, [], ◌∷◌, Option, Some, None, Ok, Contains, refl, sym, ap, ◌∙◌, subst}
use Rattle.std.specs.Prelude.{slice_get, length}
use Rattle.std.specs.Option.{option_map}
use Rattle.std.proofs.lemmas.Option.{same_Some, none-some}
use Rattle.list_laws.proofs.Members.{contains_cases, contains_none}
use Rattle.jvm_model.specs.declared.number.MethodNo.{MethodNo}
use Rattle.jvm_model.specs.declared.site.Site.{Site}
use Rattle.jvm_model.specs.declared.site.SiteKind.TheVariants as kinds
use Rattle.jvm_model.specs.LinkedPrograms.{IsProgram}
use Rattle.least_sets.specs.Rules.{IsClosedSet}
use Rattle.op_model.specs.declared.lowered.LoweredMethod.{LoweredMethod}
use Rattle.op_model.specs.declared.node.Node.{Node}
use Rattle.op_model.specs.declared.node.Spot.TheVariants as spots
use Rattle.op_model.specs.declared.op.Op.TheVariants.{NewArray, Throw}
use Rattle.op_model.specs.Supplies.{Given, GivenAs, IsMapOf}
use Rattle.machine_bytecode.specs.Objects.{Subject}
use Rattle.machine_bytecode.specs.Start.{boot_site}
use Rattle.machine_bytecode.specs.States.{reference_to, Object, Frame, Mode, running, State, slot_at}
use Rattle.machine_nodes.specs.Nodes.{AreStartNodes, IsStartCall, IsStartReturn}
use Rattle.machine_nodes.specs.NodeSteps.{NodeStep}
use Rattle.machine_laws.specs.NodeSurvival.{Survives}
use Rattle.slot_names.specs.Sharing.{ReadsAlike}
use Rattle.points_to_rules.specs.Facts.{Fact}
use Rattle.points_to_rules.specs.Rules.{Instance as PointsToInstance, IsNodeOf}
use Rattle.points_to_rules.specs.WholeMethods.{AreWholeMethods}
use Rattle.points_to_rules.specs.Writes.{WriteInstance}
use Rattle.coverage.specs.Covering.{Covers}
use Rattle.coverage.specs.References.{LeadsTo}
use Rattle.coverage.specs.Uses.{Informs}
use Rattle.coverage.proofs.Places.{IsStartNode}
use Rattle.coverage.proofs.RefusedCalls.{HasNoRefusedCall}
use Rattle.stage_facts.specs.Facts.{SiteFact}
use Rattle.stage_transfer.specs.Stages.{Transfer}
use Rattle.stage_edges.specs.Rules.{before, Edge, edge, Instance, IsMethod, IsNode}
use Rattle.stage_relations.specs.Roots.{HasVariables}
use Rattle.stage_relations.specs.Laws.{IsStage}
use Rattle.stage_steps.specs.Said.{IsTracked}
use Rattle.stage_steps.proofs.Roots.{IsNoConstant}
use Rattle.stage_soundness.specs.Describing.{AreThrownPlainly, IsDescribed, IsTrackable, method_of}
use Rattle.stage_soundness.proofs.Placed.{number_as}

pub record Premises (x : Subject) (given : Given) (gives : GivenAs) (S : Fact → Type 0) (s : Site) (t : Transfer) (E : Edge → Type 0) : Type 0 where
  pub program : IsProgram x.program
  pub start : (nodes : List Node) × AreStartNodes x nodes
  pub survives : (state after : State) → NodeStep x given state after → (place : ℕ) (o : Object) → slice_get state.world.heap place ≡ Some o → Survives x given state after place o
  pub map : IsMapOf given gives
  pub points : IsClosedSet (PointsToInstance x.program gives (number_as x.entry)) S
  pub writes : IsClosedSet (WriteInstance x.program gives) S
  pub whole : AreWholeMethods x.program gives
  pub unrefused : HasNoRefusedCall x.program gives S
  pub plain : AreThrownPlainly x.program gives
  pub trackable : IsTrackable x gives s
  pub laws : IsStage x S s t
  pub edges : IsClosedSet (Instance x gives S t) E

-- In a state of an execution: it is covered, what calls go to is known, slots of one variable agree, and slots refer to objects that are there.
pub record IsKnown (x : Subject) (given : Given) (gives : GivenAs) (S : Fact → Type 0) (state : State) : Type 0 where
  pub covers : Covers x gives S state
  pub informs : Informs x given gives S state
  pub alike : state.mode ≡ running → (f : Frame) (below : List Frame) → state.frames ≡ f ∷ below → ReadsAlike given f
  pub bounded : (f : Frame) → Contains state.frames f → (z place : ℕ) → slot_at f.slots z ≡ reference_to place → place < length state.world.heap

-- ---- methods of frames

pub method_is : (f : Frame) (m : MethodNo) → method_of f ≡ Some m → f.method ≡ Some m.0
method_is f m e = by f.method refl
  where
    by : (o : Option ℕ) → f.method ≡ o → f.method ≡ Some m.0
    by None none = absurd (none-some m (sym (ap (option_map number_as) none) ∙ e))
    by (Some number) some = some ∙ ap (λ (k : MethodNo). Some k.0) (same_Some (number_as number) m (sym (ap (option_map number_as) some) ∙ e))

pub method_as : (f : Frame) (number : ℕ) → f.method ≡ Some number → method_of f ≡ Some (number_as number)
method_as f number e = ap (option_map number_as) e

module _ (x : Subject) (gives : GivenAs) where
  pub given_of : (l : LoweredMethod) (o : Option MethodNo) (m : MethodNo) → o ≡ Some m → IsMethod x gives l o → gives m.0 (Ok l)
  given_of l _ m e (IsMethod.of_file k is_given) = subst (λ (j : MethodNo). gives j.0 (Ok l)) (same_Some k m e) is_given
  given_of l _ m e (IsMethod.of_start are slots stack params) = absurd (none-some m e)

  pub node_in : (l : LoweredMethod) (n : Node) (o : Option MethodNo) (m : MethodNo) → o ≡ Some m → IsNode x gives o l n → IsNodeOf gives m l n
  node_in l n o m e is = record { given = given_of l o m e is.method; stands = is.stands }

  pub start_node : (nodes : List Node) (n : Node) → AreStartNodes x nodes → Contains nodes n → IsStartNode x n
  start_node nodes n are there = by (contains_cases are.call n (are.return ∷ []) (subst (λ (ns : List Node). Contains ns n) are.is there))
    where
      by : (are.call ≡ n) ⊎ Contains (are.return ∷ []) n → IsStartNode x n
      by (inl e) = inl (subst (λ (k : Node). IsStartCall x k) e are.is_call)
      by (inr later) =
          elim (contains_cases are.return n [] later) [
            | inl e ↦ inr (subst (λ (k : Node). IsStartReturn k) e are.is_return)
            | inr none ↦ absurd (contains_none n none)
          ]

  -- where a node stands, the slots have variables
  pub variables_of : AreWholeMethods x.program gives → (o : Option MethodNo) (l : LoweredMethod) (n : Node) → IsNode x gives o l n → HasVariables l n
  variables_of whole o l n is = by is.method
    where
      by : {o : Option MethodNo} → IsMethod x gives l o → HasVariables l n
      by (IsMethod.of_file m is_given) = HasVariables.of_method (whole m.0 l is_given).reached is.stands
      by (IsMethod.of_start are slots stack params) = HasVariables.of_start slots stack

  -- an operation that is no call and no return is one of a method
  pub record IsOfMethod (o : Option MethodNo) (l : LoweredMethod) : Type 0 where
    pub method : MethodNo
    pub is : o ≡ Some method
    pub given : gives method.0 (Ok l)

  pub method_or_start : (o : Option MethodNo) (l : LoweredMethod) (n : Node) → IsNode x gives o l n → IsOfMethod o l ⊎ IsStartNode x n
  method_or_start o l n is = by is.method
    where
      by : {o : Option MethodNo} → IsMethod x gives l o → IsOfMethod o l ⊎ IsStartNode x n
      by (IsMethod.of_file m is_given) = inl (record { method = m; is = refl; given = is_given })
      by (IsMethod.of_start are slots stack params) = inr (start_node l.nodes n are is.stands)

-- ---- nodes of the start

pub start_throws_not : (x : Subject) (n : Node) (value : ℕ) → IsStartNode x n → n.op ≡ Throw value → ⊥
start_throws_not x n value (inl c) e = absurd (let bad = sym c.op ∙ e in cc bad)
start_throws_not x n value (inr r) e = absurd (let bad = sym r.op ∙ e in cc bad)

pub start_makes_not : (x : Subject) (n : Node) (sites : List Site) (target : ℕ) → IsStartNode x n → n.op ≡ NewArray sites target → ⊥
start_makes_not x n sites target (inl c) e = absurd (let bad = sym c.op ∙ e in cc bad)
start_makes_not x n sites target (inr r) e = absurd (let bad = sym r.op ∙ e in cc bad)

module _ (x : Subject) (given : Given) (gives : GivenAs) (S : Fact → Type 0) (s : Site) (t : Transfer) (E : Edge → Type 0) (k : Premises x given gives S s t E) where
  -- no node makes arrays at the site
  pub no_arrays : (o : Option MethodNo) (l : LoweredMethod) (n : Node) → IsNode x gives o l n → (sites : List Site) (target : ℕ) → n.op ≡ NewArray sites target → Contains sites s → ⊥
  no_arrays o l n is sites target op among = elim (method_or_start x gives o l n is) [
    | inl m ↦ k.trackable.no_arrays_there m.method.0 l n sites target m.given is.stands op among
    | inr start ↦ start_makes_not x n sites target start op
  ]

  not_boot : (class : List ℕ) → s ≡ boot_site class → ⊥
  not_boot class e = elim k.trackable.made [
    | inl new ↦ cc (sym (ap (λ (r : Site). r.kind) e) ∙ new)
    | inr result ↦ cc (sym (ap (λ (r : Site). r.kind) e) ∙ result)
  ]

  pub not_thrown : s.kind ≢ kinds.Thrown
  not_thrown e = elim k.trackable.made [
    | inl new ↦ cc (sym e ∙ new)
    | inr result ↦ cc (sym e ∙ result)
  ]

  -- an object of a site from the start does not stand at a tracked place
  pub not_tracked : (heap : List Object) (place : ℕ) (class : List ℕ) → IsTracked s place heap → LeadsTo (λ r. r ≡ boot_site class) heap place → ⊥
  not_tracked heap place class tracked leads = not_boot class (sym (tracked leads.object leads.held) ∙ leads.among)

  pub no_constant : (state : State) (place : ℕ) → Covers x gives S state → IsTracked s place state.world.heap → IsNoConstant place
  no_constant state place covers tracked other class there same =
      not_tracked state.world.heap place class tracked
      (subst (λ (p : ℕ). LeadsTo (λ r. r ≡ boot_site class) state.world.heap p) same (covers.world.start.constants other class there))

  -- what is tracked after a step was tracked before
  pub tracked_before : (state after : State) (place : ℕ) → NodeStep x given state after → IsTracked s place after.world.heap → IsTracked s place state.world.heap
  tracked_before state after place step tracked o held =
      let survives = k.survives state after step place o held in
      sym survives.site ∙ tracked survives.later survives.held

  pub tracked_in : (a b : State) (place : ℕ) → a ≡ b → IsTracked s place a.world.heap → IsTracked s place b.world.heap
  tracked_in a b place e tracked = subst (λ (u : State). IsTracked s place u.world.heap) e tracked

  -- ---- edges

  -- the edge of a frame, before its node
  pub edge_before : (o : Option MethodNo) (e f : SiteFact) (n : Node) (offset : ℕ) → n.offset ≡ offset → E (edge o e (spots.Node offset) f) → E (edge o e (before n) f)
  edge_before o e f n offset at held = subst (λ (j : ℕ). E (edge o e (spots.Node j) f)) (sym at) held

  pub edge_at : (o : Option MethodNo) (e f : SiteFact) (n : Node) (offset : ℕ) → n.offset ≡ offset → E (edge o e (before n) f) → E (edge o e (spots.Node offset) f)
  edge_at o e f n offset at held = subst (λ (j : ℕ). E (edge o e (spots.Node j) f)) at held

  -- ---- states

  abbrev pub Described : ℕ → State → Type 0
  Described place state = IsDescribed x gives S s t E place state.world state.mode state.frames

  pub described_as : (place : ℕ) (a b : State) → a ≡ b → Described place b → Described place a
  described_as place a b e d = subst (λ (u : State). Described place u) (sym e) d

  pub described_in : (place : ℕ) (state : State) (mode : Mode) (f : Frame) (below : List Frame) → state.mode ≡ mode → state.frames ≡ f ∷ below → Described place state
      → IsDescribed x gives S s t E place state.world mode (f ∷ below)
  described_in place state mode f below is frames d =
      subst (λ (fs : List Frame). IsDescribed x gives S s t E place state.world mode fs) frames
      (subst (λ (m : Mode). IsDescribed x gives S s t E place state.world m state.frames) is d)
