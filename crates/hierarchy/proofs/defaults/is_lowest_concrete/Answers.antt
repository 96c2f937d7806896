use Rattle.std.proofs.Common.{◌∙◌, sym}
use Rattle.jvm_model.specs.Lookups.{lent_signature}
use Rattle.program_model.specs.Numbers.{name_at}
use Rattle.hierarchy.proofs.Specific.{none_iff, lowest_iff}
use Rattle.hierarchy.proofs.defaults.is_lowest_concrete.Goals as goal

pub returns : goal.returns
returns c = λ m stands.
    let p = c.args.program.now in
    lowest_iff p (name_at p c.args.class.0) (lent_signature c.args.signature) m (name_at p c.class_of.result.0) c.is_none.result (sym (c.is_abstract.ensures m stands) ∙ c.if-is_abstract.false)
    (c.class_of.ensures.class m stands)
    (none_iff _ c.first_inherited.result c.is_none.result c.is_none.ensures c.first_inherited.ensures)
