-- An event by the state that it leads to.
use Rattle.std.proofs.Common.{◌≡◌, ℕ, List, Option, Some, None, slice_get, slice_index, map, sym, ap, ◌∙◌}
use Rattle.std.specs.Option.{option_flatten}
use Rattle.jvm_model.specs.declared.automaton.Automaton.{Automaton}
use Rattle.jvm_model.specs.declared.automaton.Event.{Event}
use Rattle.op_model.specs.declared.lowered.LoweredMethod.{LoweredMethod}
use Rattle.op_model.specs.declared.node.Node.{Node}
use Rattle.op_model.specs.declared.op.Call.{Call as NodeCall}
use Rattle.points_to_rules.specs.Facts.{variable}
use Rattle.stage_facts.specs.Facts.{of_object, SiteFact, Tuple}
use Rattle.stage_transfer.specs.Settings.{alike, Setting}
use Rattle.stage_transfer.specs.Calls.{event_at, event_of_call}
use Rattle.stage_transfer.specs.Stages.{finished}
use Rattle.stage_calls.specs.Events.{after_state, next_state, states_after}

-- the event leads to this state, and the receiver is in this slot
happens : (w : Setting) (l : LoweredMethod) (n : Node) (t : Tuple) (next z : ℕ) (o : Option Event) (r : Option ℕ) → next_state t.state o ≡ Some next → r ≡ Some z
    → after_state w next (variable (w.answers.variable_at l n z)) z (alike w l n z) t ≡ event_at w l n o r t
happens w l n t next z None r leads stands = absurd cc
happens w l n t next z (Some e) None leads stands = absurd cc
happens w l n t next z (Some e) (Some y) leads stands =
    let number : next ≡ slice_index e.next t.state = cc in
    let slot : z ≡ y = cc in
    λ i. after_state w (number i) (variable (w.answers.variable_at l n (slot i))) (slot i) (alike w l n (slot i)) t

states_of : (w : Setting) (l : LoweredMethod) (n : Node) (c : NodeCall) (t : Tuple) (a : Automaton) (state next z : ℕ) → w.property ≡ a → state ≡ t.state
    → Some next ≡ next_state state (event_of_call a c) → Some z ≡ option_flatten (slice_get c.arguments 0)
    → after_state w next (variable (w.answers.variable_at l n z)) z (alike w l n z) t ≡ states_after w l n c t
states_of w l n c t a state next z property same leads stands =
    let here : Some next ≡ next_state t.state (event_of_call w.property c) = leads ∙ (λ i. next_state (same i) (event_of_call (sym property i) c)) in
    happens w l n t next z (event_of_call w.property c) (option_flatten (slice_get c.arguments 0)) (sym here) (sym stands)

pub facts_after : (w : Setting) (l : LoweredMethod) (n : Node) (c : NodeCall) (t : Tuple) (a : Automaton) (state next z : ℕ) (facts : List SiteFact)
    → w.property ≡ a → state ≡ t.state → Some next ≡ next_state state (event_of_call a c) → Some z ≡ option_flatten (slice_get c.arguments 0)
    → facts ≡ map (finished w) (map of_object (after_state w next (variable (w.answers.variable_at l n z)) z (alike w l n z) t))
    → facts ≡ map (finished w) (map of_object (states_after w l n c t))
facts_after w l n c t a state next z facts property same leads stands are =
    are ∙ ap (λ (ts : List Tuple). map (finished w) (map of_object ts)) (states_of w l n c t a state next z property same leads stands)
