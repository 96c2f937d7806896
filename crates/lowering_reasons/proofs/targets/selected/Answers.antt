use Rattle.jvm_model.specs.Lookups.{lent_reference}
use Rattle.program_model.specs.Numbers.{name_at}
use Rattle.hierarchy.proofs.ClassPlaces.{method_there}
use Rattle.lowering_reasons.specs.Judgements.{judged}
use Rattle.lowering_reasons.proofs.Dispatch.{called_signature, special_found, special_nowhere}
use Rattle.lowering_reasons.proofs.OtherKinds.{method_within}
use Rattle.lowering_reasons.proofs.targets.selected.Goals as goal

pub returns-in_default-find_class : goal.returns-in_default-find_class
returns-in_default-find_class c = special_nowhere (judged c.args.instruction) (lent_reference c.in-Some.method) c.in-Some.ensures c.in_default-find_class.ensures.none

pub special_search-requires-clause-resolved : goal.special_search-requires-clause-resolved
special_search-requires-clause-resolved c = method_within (judged c.args.instruction) c.args.resolved.0 c.requires.resolved

pub returns : goal.returns
returns c =
    let j = judged c.args.instruction in
    let number = c.args.resolved.0 in
    let method = lent_reference c.in-Some.method in
    let there = method_there j.program number (method_within j number c.requires.resolved) in
    special_found j method number c.special_search.result (name_at j.program c.in-Some-find_class.named.0) there.0.signature c.well_formed-2.ensures.program c.in-Some.ensures
    c.requires.resolved c.in-Some-find_class.ensures.found.1 (called_signature j method number there.0 c.in-Some.ensures c.requires.resolved there.1)
    (c.special_search.ensures.search there.0 there.1)
