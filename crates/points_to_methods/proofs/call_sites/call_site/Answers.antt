use Rattle.std.proofs.Common.{◌≡◌, ℕ, ◌+◌, sym, ap, ◌∙◌}
use Rattle.op_model.specs.declared.node.Node.{Node}
use Rattle.points_to_numbers.proofs.Growing.{grows_on}
use Rattle.points_to_methods.proofs.NamedSlots.{read_node}
use Rattle.slot_names.proofs.ListPlaces.{stands_below}
use Rattle.points_to_methods.proofs.NumberedSites.{sited_then}
use Rattle.points_to_methods.proofs.call_sites.call_site.Goals as goal

pub call-requires : goal.call-requires
call-requires c =
    let l = c.args.at.now.method.now in
    let (n, at) = stands_below l.nodes c.args.node c.requires.there in
    let read = c.index-as_slice-node.result in
    let same : read ≡ n = read_node l.nodes c.as_slice-2.result.now c.args.node n read c.as_slice-2.ensures c.requires.there c.index-as_slice-node.is at in
    let sited = sited_then l n c.args.call.now c.as_slice.result.now _ c.in_ok-arguments.arguments c.in_ok-results.results c.in_ok-catch_chain.catch_chain
    c.args.tables.now c.argument_places.new.tables c.result_places.new.tables c.catch_chain_of.new.tables c.as_slice.ensures (ap (λ (m : Node). m.offset) (sym same ∙ c.index-as_slice-node.is))
    (c.in_ok-arguments.ensures n at) (c.in_ok-results.ensures n at) c.in_ok-catch_chain.ensures.grows (c.in_ok-catch_chain.ensures.stands n at) in
    (sited.site, sited.stands)

pub returns-clause-grows : goal.returns-clause-grows
returns-clause-grows c =
    let l = c.args.at.now.method.now in
    let (n, at) = stands_below l.nodes c.args.node c.requires.there in
    let one = c.args.tables.now in
    let two = c.argument_places.new.tables in
    let three = c.result_places.new.tables in
    let four = c.catch_chain_of.new.tables in
    let five = c.call.new.self in
    grows_on one two five (c.in_ok-arguments.ensures n at).grows
    (grows_on two three five (c.in_ok-results.ensures n at).grows
    (grows_on three four five c.in_ok-catch_chain.ensures.grows c.in_ok-number.ensures.grows))

pub returns-clause-added : goal.returns-clause-added
returns-clause-added c =
    let (n, at) = stands_below c.args.at.now.method.now.nodes c.args.node c.requires.there in
    c.in_ok-number.ensures.added ∙ c.in_ok-catch_chain.ensures.calls ∙ (c.in_ok-results.ensures n at).calls ∙ (c.in_ok-arguments.ensures n at).calls

pub returns-clause-one : goal.returns-clause-one
returns-clause-one c =
    let (n, at) = stands_below c.args.at.now.method.now.nodes c.args.node c.requires.there in
    c.in_ok-number.ensures.one ∙ ap (λ (count : ℕ). count + 1) (c.in_ok-catch_chain.ensures.calls ∙ (c.in_ok-results.ensures n at).calls ∙ (c.in_ok-arguments.ensures n at).calls)

pub returns-clause-stands : goal.returns-clause-stands
returns-clause-stands c = λ n at.
    let l = c.args.at.now.method.now in
    let read = c.index-as_slice-node.result in
    let same : read ≡ n = read_node l.nodes c.as_slice-2.result.now c.args.node n read c.as_slice-2.ensures c.requires.there c.index-as_slice-node.is at in
    let sited = sited_then l n c.args.call.now c.as_slice.result.now _ c.in_ok-arguments.arguments c.in_ok-results.results c.in_ok-catch_chain.catch_chain
    c.args.tables.now c.argument_places.new.tables c.result_places.new.tables c.catch_chain_of.new.tables c.as_slice.ensures (ap (λ (m : Node). m.offset) (sym same ∙ c.index-as_slice-node.is))
    (c.in_ok-arguments.ensures n at) (c.in_ok-results.ensures n at) c.in_ok-catch_chain.ensures.grows (c.in_ok-catch_chain.ensures.stands n at) in
    (sited.site, sited.is_site, c.in_ok-number.ensures.stands sited.site sited.stands)
