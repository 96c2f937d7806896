use Rattle.jvm_model.specs.Lookups.{lent_signature}
use Rattle.program_model.specs.Numbers.{name_at}
use Rattle.hierarchy.specs.Searches.{IsSuch}
use Rattle.hierarchy.proofs.Declaring.{walk_found}
use Rattle.hierarchy.proofs.search.found_upward.Goals as goal

pub returns : goal.returns
returns g c =
    let p = c.args.program.now in
    walk_found p (IsSuch (lent_signature c.args.signature) (g.S.Sought.takes c.args.sought.now p)) (name_at p c.args.class.0) c.first_upward.result c.first_upward.ensures
