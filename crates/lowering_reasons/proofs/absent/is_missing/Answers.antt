use Rattle.lowering_reasons.proofs.Supertypes.{missing_test}
use Rattle.lowering_reasons.proofs.absent.is_missing.Goals as goal

pub returns : goal.returns
returns c =
    missing_test c.args.program.now c.well_formed-2.ensures.program c.args.name.now c.find_class.result c.is_none.result c.is_none.ensures c.find_class.ensures.found
    c.find_class.ensures.none
