use Rattle.jvm_model.specs.Lookups.{lent_signature}
use Rattle.program_model.specs.Numbers.{name_at}
use Rattle.hierarchy.proofs.Hiding.{hidden_found}
use Rattle.hierarchy.proofs.select.is_hidden.Goals as goal

pub returns : goal.returns
returns c =
    let p = c.args.program.now in
    rw c.unwrap_or.ensures (hidden_found p (name_at p c.args.class.0) (name_at p c.args.owner.0) (lent_signature c.args.signature) c.first_upward.result c.first_upward.ensures)
