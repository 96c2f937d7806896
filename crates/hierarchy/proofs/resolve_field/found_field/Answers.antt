use Rattle.std.proofs.Common.{Some}
use Rattle.jvm_model.specs.Lookups.{lent_signature}
use Rattle.program_model.specs.Numbers.{name_at}
use Rattle.hierarchy.proofs.FieldWalks.{field_first, field_within}
use Rattle.hierarchy.proofs.resolve_field.found_field.Goals as goal

pub returns : goal.returns
returns c =
    let p = c.args.program.now in
    let s = lent_signature c.args.signature in
    let walk = c.first_upward.ensures in
    record {
      finds = field_first p s (Some (name_at p c.args.class.0)) walk.chain c.first_upward.result walk.of_start walk.first;
      within = field_within p s walk.chain c.first_upward.result walk.first;
    }
