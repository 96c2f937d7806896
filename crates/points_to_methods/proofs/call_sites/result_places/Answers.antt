use Rattle.std.proofs.Common.{◌≡◌, ℕ, List, refl, sym, ap, subst, ◌∙◌, arith}
use Rattle.std.specs.List.{AllZip}
use Rattle.op_model.specs.declared.node.Node.{Node}
use Rattle.points_to_numbers.proofs.Growing.{grows_same}
use Rattle.points_to_methods.proofs.NamedSlots.{read_node}
use Rattle.slot_names.proofs.ListPlaces.{stands_below}
use Rattle.points_to_methods.specs.CallEntries.{GrowsTo, StandsForResult}
use Rattle.points_to_methods.proofs.EntryLists.{entry_more, entries_all}
use Rattle.points_to_methods.proofs.NumberedSites.{longer_result, no_results, results_there, successors_stand}
use Rattle.points_to_methods.proofs.call_sites.result_places.Goals as goal

pub returns-in_default : goal.returns-in_default
returns-in_default c = λ n at.
    no_results c.args.at.now.method.now n c.args.tables.now c.args.target c.from_vec.result c.in_default.is (c.from_vec.ensures ∙ c.new-places.ensures.items)

pub loop-offset-init : goal.loop-offset-init
loop-offset-init c = record { grows = grows_same c.args.tables.now; calls = refl; holds = rw c.new-places.ensures.items tt }

pub result_place-requires-clause-there : goal.result_place-requires-clause-there
result_place-requires-clause-there c =
    let l = c.args.at.now.method.now in
    let (n, at) = stands_below l.nodes c.args.node c.requires.there in
    let read = c.index-as_slice-node.result in
    let same : read ≡ n = read_node l.nodes c.as_slice.result.now c.args.node n read c.as_slice.ensures c.requires.there c.index-as_slice-node.is at in
    let list : c.as_slice-offset-items.result.now ≡ n.successors = c.as_slice-offset-items.ensures ∙ ap (λ (m : Node). m.successors) (sym c.index-as_slice-node.is ∙ same) in
    successors_stand c.args.at.now.program.now l c.requires.known.in_program c.args.node n at c.as_slice-offset-items.result.now list c.loop-offset.offset-index _ c.loop-offset-test.true

pub loop-offset-preserved : goal.loop-offset-preserved
loop-offset-preserved c =
    let l = c.args.at.now.method.now in
    let slot = c.in-Some.slot in
    rw c.in_ok-push.ensures.items (entry_more (StandsForResult l slot) (longer_result l slot) c.args.tables.now c.loop-offset.tables c.result_place.new.tables c.as_slice-offset-items.result.now c.loop-offset.offset-index _
    c.loop-offset.places.items c.in_ok-place.place c.loop-offset-test.true c.loop-offset.invariant c.in_ok-place.ensures)

pub returns : goal.returns
returns c = λ n at.
    let l = c.args.at.now.method.now in
    let slot = c.in-Some.slot in
    let one = c.args.tables.now in
    let two = c.loop-offset.tables in
    let read = c.index-as_slice-node.result in
    let items = c.as_slice-offset-items.result.now in
    let places = c.loop-offset.places.items in
    let same : read ≡ n = read_node l.nodes c.as_slice.result.now c.args.node n read c.as_slice.ensures c.requires.there c.index-as_slice-node.is at in
    let list : items ≡ n.successors = c.as_slice-offset-items.ensures ∙ ap (λ (m : Node). m.successors) (sym c.index-as_slice-node.is ∙ same) in
    let all = entries_all (StandsForResult l slot) (longer_result l slot) one two items c.loop-offset.offset-index places (omega arith) c.loop-offset.invariant in
    rw c.from_vec-2.ensures (results_there l n one two c.args.target slot places c.in-Some.is
    (subst (λ (offsets : List ℕ). GrowsTo (λ numbered. AllZip (StandsForResult l slot numbered) offsets places) one two) list all))
