-- Each object of an execution has followed a word over the events that may occur at its site.
use Rattle.std.proofs.Common.{◌≡◌, inl, inr, ℕ, List, [], ◌∷◌, ◌++◌, Contains, refl, sym, ap, ◌∙◌, subst}
use Rattle.std.specs.Prelude.{All, slice_index}
use Rattle.std.proofs.lemmas.List.Elements.{All-nil, All-cons, All-append}
use Rattle.jvm_model.specs.declared.automaton.Event.{Event}
use Rattle.jvm_model.specs.declared.site.Site.{Site}
use Rattle.least_sets.specs.Rules.{IsClosedSet}
use Rattle.op_model.specs.declared.op.Op.TheVariants.{Call}
use Rattle.op_model.specs.Supplies.{Given, GivenAs, IsMapOf}
use Rattle.machine_bytecode.specs.Events.{IsEvent}
use Rattle.machine_bytecode.specs.Objects.{Subject}
use Rattle.machine_bytecode.specs.States.{State, slot_at}
use Rattle.machine_nodes.specs.NodeExecutions.{AreNodeSteps}
use Rattle.machine_nodes.specs.NodeSteps.{AtNode, Calls, is_selecting_kind}
use Rattle.machine_nodes.specs.Slots.{argument_values}
use Rattle.points_to_rules.specs.Facts.{Fact}
use Rattle.points_to_rules.specs.Rules.{Instance}
use Rattle.prune_stage.specs.StageOne.{state_after}
use Rattle.coverage.specs.Covering.{MayHold, Covers}
use Rattle.points_to_rules.specs.WholeMethods.{AreWholeMethods}
use Rattle.coverage.proofs.Advancing.{slots_here}
use Rattle.coverage.proofs.Calls.{inside_of}
use Rattle.coverage.proofs.Executions.{covers_all}
use Rattle.coverage.proofs.Frames.{frames_are}
use Rattle.program_laws.proofs.Orders.{none_there, where_there, first_there, more_there}
use Rattle.coverage.proofs.Lists.{placed}
use Rattle.coverage.proofs.RefusedCalls.{HasNoRefusedCall}
use Rattle.coverage.proofs.Slots.{operand_of}
use Rattle.coverage.proofs.Targets.{first_unit}
use Rattle.coverage.proofs.Units.{argument_there}
use Rattle.coverage.proofs.Values.{among_from}
use Rattle.prune_stage.specs.Pruning.{MayOccur, IsPruned}
use Rattle.run_soundness.specs.Words.{IsWordState, FollowWords, ErrsOnNodes}
use Rattle.run_soundness.proofs.Heaps.{first_have}
use Rattle.run_soundness.proofs.Steps.{Have, step_has}

-- one more event
state_after_one : (q : ℕ) (word : List Event) (e : Event) → state_after q (word ++ e ∷ []) ≡ slice_index e.next (state_after q word)
state_after_one q [] e = refl
state_after_one q (f ∷ word) e = state_after_one (slice_index f.next q) word e

module _ (x : Subject) (given : Given) (gives : GivenAs) (S : Fact → Type 0) (map : IsMapOf given gives) (closed : IsClosedSet (Instance x.program gives (record { 0 = x.entry })) S)
    (whole : AreWholeMethods x.program gives) (unrefused : HasNoRefusedCall x.program gives S) where
  abbrev Follows : Site → ℕ → Type 0
  Follows s state = IsWordState gives S x.property s state

  begins : (s : Site) → Follows s x.property.initial
  begins s = record { word = []; occur = All-nil (MayOccur gives S x.property s); leads = refl }

  -- an event of an object may occur at its site
  occurs : (s : State) → Covers x gives S s → (at : AtNode x given s) (calls : Calls x given s at)
      (e : IsEvent x (is_selecting_kind calls.call.kind) (record { name = calls.call.name; descriptor = calls.call.descriptor }) (argument_values calls.call.arguments at.frame.slots) s.world)
      → MayOccur gives S x.property e.receiver.object.site e.event
  occurs s c at calls e =
      let i = inside_of x given gives S map closed whole at.frame at.now calls.number calls.in_method in
      let frames = frames_are x gives S s.world.heap s.frames at.below at.frame at.frames c.frames in
      let u = first_unit calls.call at.frame.slots e.receiver.place e.receiver.is in
      let o = operand_of x gives S closed whole i.method i.lowered at.now.node (Call calls.call) u.z s.world.heap at.frame.slots i.here.node calls.is_call (argument_there calls.call.arguments 0 u.z u.at)
      (slots_here x given gives S map closed whole s.world.heap at.frame i.method i.lowered at.now.node i.here frames.0) in
      record {
        m = i.method;
        l = i.lowered;
        n = at.now.node;
        c = calls.call;
        runs = frames.0.runs i.method i.here.in_method;
        node = i.here.node;
        is_call = calls.is_call;
        selecting = e.selecting;
        event = e.named;
        z = u.z;
        receiver = u.at;
        from = o.holder;
        slot = o.slot;
        holds = among_from (MayHold S o.holder) s.world.heap (slot_at at.frame.slots u.z) e.receiver.place e.receiver.object o.covered u.is e.receiver.held;
      }

  -- and makes the word longer
  follows_on : (s : Site) (state : ℕ) (e : Event) → MayOccur gives S x.property s e → Follows s state → Follows s (slice_index e.next state)
  follows_on s state e may f = record {
    word = f.word ++ e ∷ [];
    occur = All-append (MayOccur gives S x.property s) f.word (e ∷ []) f.occur (All-cons (MayOccur gives S x.property s) e [] may (All-nil (MayOccur gives S x.property s)));
    leads = state_after_one x.property.initial f.word e ∙ ap (slice_index e.next) f.leads;
  }

  events_lead : (s : State) → Covers x gives S s → (at : AtNode x given s) (calls : Calls x given s at)
      (e : IsEvent x (is_selecting_kind calls.call.kind) (record { name = calls.call.name; descriptor = calls.call.descriptor }) (argument_values calls.call.arguments at.frame.slots) s.world)
      → Follows e.receiver.object.site e.receiver.object.automaton → Follows e.receiver.object.site (slice_index e.event.next e.receiver.object.automaton)
  events_lead s c at calls e f = follows_on e.receiver.object.site e.receiver.object.automaton e.event (occurs s c at calls e) f

  steps_follow : (s : State) (states : List State) → AreNodeSteps x given s states → ((t : State) → Contains (s ∷ states) t → Covers x gives S t) → Have x Follows begins s.world
      → (t : State) → Contains (s ∷ states) t → Have x Follows begins t.world
  steps_follow s [] steps covered h t there =
      elim (where_there s t [] there) [
        | inl e ↦ subst (λ (u : State). Have x Follows begins u.world) e h
        | inr later ↦ absurd (none_there t later)
      ]
  steps_follow s (u ∷ states) steps covered h t there =
      elim (where_there s t (u ∷ states) there) [
        | inl e ↦ subst (λ (r : State). Have x Follows begins r.world) e h
        | inr later ↦
            steps_follow u states steps.1 (λ r among. covered r (more_there s r (u ∷ states) among))
            (step_has x Follows begins given s u (events_lead s (covered s (first_there s (u ∷ states)))) steps.0 h) t later
      ]

  pub follow_words : FollowWords x given gives S
  follow_words states run t there o lives =
      let covered = covers_all x given gives S map closed whole unrefused states run in
      let have = steps_follow run.first run.others run.steps (λ r among. covered r (subst (λ (ss : List State). Contains ss r) (sym run.begins) among))
      (first_have x Follows begins run.first run.is_first) t (subst (λ (ss : List State). Contains ss t) run.begins there) in
      have.each lives.0 o (placed t.world.heap o lives)

  pub never_errs : (s : Site) → IsPruned gives S x.property s → ErrsOnNodes x given s → ⊥
  never_errs s pruned e =
      let f = follow_words e.states e.execution e.state e.reached e.object e.lives in
      pruned.no_word f.word (subst (λ (r : Site). All (MayOccur gives S x.property r) f.word) e.of_site f.occur) (f.leads ∙ e.in_error)
