use Rattle.std.proofs.Common.{sym, Option, ◌∙◌, ap}
use Rattle.jvm_model.specs.declared.number.SiteNo.{SiteNo}
use Rattle.points_to_calls.specs.Describing.{origin_of_unit}
use Rattle.points_to_calls.proofs.Stubs.{later_unit}
use Rattle.points_to_calls.proofs.described.origin_of_unit.Goals as goal

pub returns : goal.returns
returns c = sym (ap (λ (receiver : Option SiteNo). origin_of_unit receiver c.args.unit) c.in-Some.is ∙ later_unit c.in-Some.site c.args.unit c.if-unit-eq0.false)
