use Rattle.std.proofs.Common.{◌≡◌, List, refl, sym, ap, subst, ◌∙◌, arith, take}
use Rattle.std.specs.List.{AllZip}
use Rattle.std.proofs.lemmas.List.{take_all}
use Rattle.op_model.specs.declared.node.Node.{Node}
use Rattle.op_model.specs.declared.node.NodeHandler.{NodeHandler}
use Rattle.points_to_numbers.proofs.Growing.{grows_on, grows_same}
use Rattle.points_to_methods.specs.CatchChains.{StandsForCatchClause}
use Rattle.points_to_methods.proofs.LandedNodes.{more_catch_clauses, handlers_stand}
use Rattle.points_to_methods.proofs.NamedSlots.{read_node}
use Rattle.slot_names.proofs.ListPlaces.{stands_below}
use Rattle.points_to_methods.proofs.catch_chains.catch_clauses_of.Goals as goal

pub loop-handler-init : goal.loop-handler-init
loop-handler-init c = record { grows = grows_same c.args.tables.now; calls = refl; stand = rw c.new-catch_clauses.ensures.items tt }

pub catch_clause_of-requires-clause-there : goal.catch_clause_of-requires-clause-there
catch_clause_of-requires-clause-there c =
    let l = c.args.at.now.method.now in
    let (n, at) = stands_below l.nodes c.args.node c.requires.there in
    let read = c.index-as_slice-node.result in
    let same : read ≡ n = read_node l.nodes c.as_slice.result.now c.args.node n read c.as_slice.ensures c.requires.there c.index-as_slice-node.is at in
    let list : c.as_slice-handler-items.result.now ≡ n.handlers = c.as_slice-handler-items.ensures ∙ ap (λ (m : Node). m.handlers) (sym c.index-as_slice-node.is ∙ same) in
    handlers_stand c.args.at.now.program.now l c.requires.known.in_program c.args.node n at c.as_slice-handler-items.result.now list c.loop-handler.handler-index _ c.loop-handler-test.true

pub loop-handler-preserved : goal.loop-handler-preserved
loop-handler-preserved c =
    let l = c.args.at.now.method.now in
    let so_far = c.loop-handler.invariant in
    let more = more_catch_clauses l c.loop-handler.tables c.catch_clause_of.new.tables c.as_slice-handler-items.result.now c.loop-handler.handler-index _ c.loop-handler.catch_clauses.items c.in_ok-catch_clause.catch_clause
    c.in_ok-catch_clause.ensures.grows c.loop-handler-test.true so_far.stand c.in_ok-catch_clause.ensures.stands in
    record {
      grows = grows_on c.args.tables.now c.loop-handler.tables c.catch_clause_of.new.tables so_far.grows c.in_ok-catch_clause.ensures.grows;
      calls = c.in_ok-catch_clause.ensures.calls ∙ so_far.calls;
      stand = rw c.in_ok-push.ensures.items more;
    }

pub returns-clause-grows : goal.returns-clause-grows
returns-clause-grows c = c.loop-handler.invariant.grows

pub returns-clause-calls : goal.returns-clause-calls
returns-clause-calls c = c.loop-handler.invariant.calls

pub returns-clause-stands : goal.returns-clause-stands
returns-clause-stands c = λ n at.
    let l = c.args.at.now.method.now in
    let read = c.index-as_slice-node.result in
    let items = c.as_slice-handler-items.result.now in
    let same : read ≡ n = read_node l.nodes c.as_slice.result.now c.args.node n read c.as_slice.ensures c.requires.there c.index-as_slice-node.is at in
    let list : items ≡ n.handlers = c.as_slice-handler-items.ensures ∙ ap (λ (m : Node). m.handlers) (sym c.index-as_slice-node.is ∙ same) in
    let all : take c.loop-handler.handler-index items ≡ n.handlers = take_all c.loop-handler.handler-index items (omega arith) ∙ list in
    rw c.from_vec.ensures (subst (λ (hs : List NodeHandler). AllZip (StandsForCatchClause l c.loop-handler.tables) hs c.loop-handler.catch_clauses.items) all c.loop-handler.invariant.stand)
