use Rattle.points_to_numbers.proofs.Growing.{grows_on}
use Rattle.slot_names.proofs.ListPlaces.{stands_below}
use Rattle.points_to_methods.proofs.LandedNodes.{landed, longer_catch_clauses}
use Rattle.points_to_methods.proofs.catch_chains.catch_chain_of.Goals as goal

pub catch_chain-requires : goal.catch_chain-requires
catch_chain-requires c =
    let l = c.args.at.now.method.now in
    let tables = c.outside_of.new.tables in
    let (n, at) = stands_below l.nodes c.args.node c.requires.there in
    let (catch_chain, is_catch_chain, stands) = landed l n tables _ (longer_catch_clauses l c.catch_clauses_of.new.tables tables c.in_ok-outside.ensures.grows n.handlers c.in_ok-catch_clauses.catch_clauses (c.in_ok-catch_clauses.ensures.stands n at)) c.in_ok-outside.ensures.stands in
    (catch_chain, stands)

pub returns-clause-grows : goal.returns-clause-grows
returns-clause-grows c =
    grows_on c.args.tables.now c.catch_clauses_of.new.tables c.catch_chain.new.self c.in_ok-catch_clauses.ensures.grows
    (grows_on c.catch_clauses_of.new.tables c.outside_of.new.tables c.catch_chain.new.self c.in_ok-outside.ensures.grows c.in_ok-number.ensures.grows)

pub returns-clause-stands : goal.returns-clause-stands
returns-clause-stands c = λ n at.
    let l = c.args.at.now.method.now in
    let tables = c.outside_of.new.tables in
    let (catch_chain, is_catch_chain, stands) = landed l n tables _ (longer_catch_clauses l c.catch_clauses_of.new.tables tables c.in_ok-outside.ensures.grows n.handlers c.in_ok-catch_clauses.catch_clauses (c.in_ok-catch_clauses.ensures.stands n at)) c.in_ok-outside.ensures.stands in
    (catch_chain, is_catch_chain, c.in_ok-number.ensures.stands catch_chain stands)
