-- What described methods give: a primitive, nothing of a reference, an argument, and a new object.
use Rattle.std.proofs.Common.{codes, [], ◌∷◌, refl}
use Rattle.jvm_model.specs.declared.site.SiteKind.TheVariants.{Result}
use Rattle.machine_bytecode.specs.Machine.{gets_result}
use Rattle.machine_bytecode.specs.States.{primitive_value, null_value, reference_to, World, with_object, new_object, site_at}
use Rattle.example_machine.specs.Calling.{program_with, runs, counts, gets_none, gets_same, gets_fresh}
use Rattle.example_machine.specs.Taking.{Shows, HasObject}
use Rattle.example_machine.proofs.Facts.{call_row, described_at, field_row, has_object, shows}
use Rattle.example_machine.proofs.Runs.{advance, frame_at}
use Rattle.example_machine.proofs.CallSteps.{get as get_result, not_selecting}
use Rattle.example_machine.proofs.CallStart.{outside, main_of, world, int_units, door_units, door_to_door_units, door_type, names_gate, house_named}
use Rattle.machine_nodes.specs.NodeSteps.{gets_result as gets_result_node}
use Rattle.example_nodes.specs.Calling.{given_with, Steps, counts_nodes, gets_none_nodes, gets_same_nodes, gets_fresh_nodes}
use Rattle.example_nodes.specs.Taking.{GettingOnNode}
use Rattle.example_nodes.proofs.CallRuns.{begun}
use Rattle.example_nodes.proofs.CallSteps.{get}
use Rattle.example_nodes.proofs.Slots.{are_left_by}
use Rattle.example_nodes.proofs.Steps.{takes, operate, advanced}

pub a_primitive_is_given : Steps counts counts_nodes (λ s t. GettingOnNode (runs counts) (given_with counts_nodes) 8 s t × Shows 3 (primitive_value ∷ []) t)
a_primitive_is_given =
    let x = runs counts in
    let given = given_with counts_nodes in
    let c = main_of counts refl in
    let w = world counts refl in
    let step = get_result x 4 c outside 0 [] w _ refl _ (call_row _ _ _ _ _ _ refl int_units) _
    (record { is_there = refl; names = house_named counts 35 8 _ _ refl refl refl refl refl; target = 8; is_target = (refl, refl); events = not_selecting _ _ _ _ _ refl })
    (described_at _ _ _ _ refl refl refl int_units.is) 0 _ refl (primitive_value) w (refl, refl) in
    let node_step = get x given 4 counts_nodes refl outside 0 [] w _ refl w
    (record { call = _; is_call = refl; resolved = _; stands = refl; target = 8; is_target = refl; events = not_selecting _ _ _ _ _ refl })
    (primitive_value) w (record { called = described_at _ _ _ _ refl refl refl int_units.is; place = 0; result = _; listed = refl; gives = (refl, refl) }) (primitive_value ∷ []) refl 3 refl in
    takes _ _ _ _ _ (begun counts refl counts_nodes refl refl) (gets_result step.at step.step) (gets_result_node node_step.at node_step.step) (node_step, shows _ _ _)

pub null_is_given : Steps gets_none gets_none_nodes (λ s t. GettingOnNode (runs gets_none) (given_with gets_none_nodes) 10 s t × Shows 3 (null_value ∷ []) t)
null_is_given =
    let x = runs gets_none in
    let given = given_with gets_none_nodes in
    let c = main_of gets_none refl in
    let w = world gets_none refl in
    let step = get_result x 4 c outside 0 [] w _ refl _ (call_row _ _ _ _ _ _ refl door_units) _
    (record { is_there = refl; names = house_named gets_none 42 10 _ _ refl refl refl refl refl; target = 10; is_target = (refl, refl); events = not_selecting _ _ _ _ _ refl })
    (described_at _ _ _ _ refl refl refl door_units.is) 0 _ refl (null_value) w (refl, refl) in
    let node_step = get x given 4 gets_none_nodes refl outside 0 [] w _ refl w
    (record { call = _; is_call = refl; resolved = _; stands = refl; target = 10; is_target = refl; events = not_selecting _ _ _ _ _ refl })
    (null_value) w (record { called = described_at _ _ _ _ refl refl refl door_units.is; place = 0; result = _; listed = refl; gives = (refl, refl) }) (null_value ∷ []) refl 3 refl in
    takes _ _ _ _ _ (begun gets_none refl gets_none_nodes refl refl) (gets_result step.at step.step) (gets_result_node node_step.at node_step.step) (node_step, shows _ _ _)

abbrev with_fresh : World
with_fresh = with_object (world gets_fresh refl) (new_object (program_with gets_fresh) (site_at Result (frame_at 4 0 []) (codes "Gate")) 0)

pub a_new_object_is_given : Steps gets_fresh gets_fresh_nodes (λ s t. GettingOnNode (runs gets_fresh) (given_with gets_fresh_nodes) 12 s t × Shows 3 (reference_to 3 ∷ []) t × HasObject 3 Result (codes "Gate") t)
a_new_object_is_given =
    let x = runs gets_fresh in
    let given = given_with gets_fresh_nodes in
    let c = main_of gets_fresh refl in
    let w = world gets_fresh refl in
    let step = get_result x 4 c outside 0 [] w _ refl _ (call_row _ _ _ _ _ _ refl door_units) _
    (record { is_there = refl; names = house_named gets_fresh 48 12 _ _ refl refl refl refl refl; target = 12; is_target = (refl, refl); events = not_selecting _ _ _ _ _ refl })
    (described_at _ _ _ _ refl refl refl door_units.is) 0 _ refl (reference_to 3) with_fresh (record { made_is = refl; after_is = refl }) in
    let node_step = get x given 4 gets_fresh_nodes refl outside 0 [] w _ refl w
    (record { call = _; is_call = refl; resolved = _; stands = refl; target = 12; is_target = refl; events = not_selecting _ _ _ _ _ refl })
    (reference_to 3) with_fresh (record { called = described_at _ _ _ _ refl refl refl door_units.is; place = 0; result = _; listed = refl; gives = (record { made_is = refl; after_is = refl }) }) (reference_to 3 ∷ []) refl 3 refl in
    takes _ _ _ _ _ (begun gets_fresh refl gets_fresh_nodes refl refl) (gets_result step.at step.step) (gets_result_node node_step.at node_step.step) (node_step, shows _ _ _, has_object _ _ _ refl)

pub an_argument_is_given_back : Steps gets_same gets_same_nodes (λ s t. GettingOnNode (runs gets_same) (given_with gets_same_nodes) 11 s t × Shows 6 (reference_to 2 ∷ []) t)
an_argument_is_given_back =
    let x = runs gets_same in
    let given = given_with gets_same_nodes in
    let c = main_of gets_same refl in
    let w = world gets_same refl in
    let first = advanced _ _ _ _ _ _ (begun gets_same refl gets_same_nodes refl refl)
    (advance x 4 c outside 0 [] w _ refl _ (field_row _ _ _ _ _ refl door_type) refl (reference_to 2) _ _ (names_gate gets_same, (refl, refl)) refl)
    (operate x given 4 c gets_same_nodes refl outside 0 [] w _ refl _ _ _ (record { value = reference_to 2; is_read = refl; are_left = are_left_by _ _ _ _ _ refl; same = refl }) refl) in
    let step = get_result x 4 c outside 3 (reference_to 2 ∷ []) w _ refl _ (call_row _ _ _ _ _ _ refl door_to_door_units) _
    (record { is_there = refl; names = house_named gets_same 45 11 _ _ refl refl refl refl refl; target = 11; is_target = (refl, refl); events = not_selecting _ _ _ _ _ refl })
    (described_at _ _ _ _ refl refl refl door_to_door_units.is) 0 _ refl (reference_to 2) w (refl, refl) in
    let node_step = get x given 4 gets_same_nodes refl outside 3 (reference_to 2 ∷ []) w _ refl w
    (record { call = _; is_call = refl; resolved = _; stands = refl; target = 11; is_target = refl; events = not_selecting _ _ _ _ _ refl })
    (reference_to 2) w (record { called = described_at _ _ _ _ refl refl refl door_to_door_units.is; place = 0; result = _; listed = refl; gives = (refl, refl) }) (reference_to 2 ∷ []) refl 6 refl in
    takes _ _ _ _ _ first (gets_result step.at step.step) (gets_result_node node_step.at node_step.step) (node_step, shows _ _ _)
