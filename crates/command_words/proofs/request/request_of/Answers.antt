use Rattle.std.proofs.Common.{◌∙◌, ℕ, List, refl, sym, subst}
use Rattle.command_words.specs.Requests.{NamesMethod}
use Rattle.command_words.proofs.Asking.{names_none, names_some}
use Rattle.command_words.proofs.request.request_of.Goals as goal

pub returns-in_default-clause-fault : goal.returns-in_default-clause-fault
returns-in_default-clause-fault c = names_none c.args.values.start.now c.as_bytes.result.now c.as_bytes.ensures.value c.in_default.ensures.none

pub returns-in-Err-clause-fault : goal.returns-in-Err-clause-fault
returns-in-Err-clause-fault c =
    let word = c.as_bytes in
    let names = names_some c.args.values.start.now word.result.now c.in-Some.class.now c.in-Some.method.now word.ensures.value c.in-Some.ensures.found in
    (names, sym c.are_two_modes.ensures ∙ c.if-are_two_modes.false, c.in-Err.ensures.fault)

pub returns-clause-asks : goal.returns-clause-asks
returns-clause-asks c =
    let are = c.in-Ok.ensures.found in
    record {
      names = subst (λ (text : List ℕ). NamesMethod text c.in-Some.class.now c.in-Some.method.now) c.as_bytes.ensures.value c.in-Some.ensures.found;
      property = refl;
      stubs = refl;
      stages = are.stages;
      depth = are.depth;
      fact_limit = are.fact_limit;
      pair_limit = are.pair_limit;
      mode = c.mode_of.ensures;
    }
