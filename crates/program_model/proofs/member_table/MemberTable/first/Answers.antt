use Rattle.std.proofs.Common.{◌<◌, length, arith}
use Rattle.std.proofs.lemmas.List.{length-map}
use Rattle.std.proofs.lemmas.Option.{IfSome_then}
use Rattle.jvm_model.specs.Linking.{class_from}
use Rattle.jvm_model.specs.Lookups.{lent_signature}
use Rattle.program_index.proofs.SpelledKeys.{if_none_more}
use Rattle.program_model.proofs.MembersTold.{declared_at, declared_nowhere}
use Rattle.program_model.proofs.member_table.MemberTable.first.Goals as goal

pub returns-clause-found : goal.returns-clause-found
returns-clause-found g c =
    IfSome_then c.first.result c.first.ensures.found (λ n is.
    declared_at g.K.MemberKind.members g.met.K.MemberKind.of_class c.args.order.now c.args.self.now.index c.requires.table.told_by_keys c.args.class.0 (lent_signature c.args.signature) n is.stands)

pub returns-clause-none : goal.returns-clause-none
returns-clause-none g c =
    let order = c.args.order.now in
    let within : c.args.class.0 < length order = omega (arith, length-map order class_from, c.requires.there) in
    if_none_more c.first.result _ _
    (declared_nowhere g.K.MemberKind.members g.met.K.MemberKind.of_class order c.args.self.now.index c.requires.table.told_by_keys c.args.class.0 (lent_signature c.args.signature) c.requires.differ within)
    c.first.ensures.none
