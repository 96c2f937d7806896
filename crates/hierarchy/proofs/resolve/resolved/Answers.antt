use Rattle.std.proofs.Common.{Some, None}
use Rattle.jvm_model.specs.Lookups.{lent_signature}
use Rattle.jvm_model.specs.Resolution.{itself, by_default}
use Rattle.program_model.specs.Numbers.{name_at}
use Rattle.hierarchy.proofs.ClassPlaces.{class_of_number}
use Rattle.hierarchy.proofs.Resolving.{resolves_least}
use Rattle.hierarchy.proofs.Selecting.{finds_any}
use Rattle.hierarchy.proofs.resolve.resolved.Goals as goal

pub returns-in-Some : goal.returns-in-Some
returns-in-Some c =
    let p = c.args.program.now in
    let class = class_of_number p c.well_formed-2.ensures.program c.args.class.0 c.requires in
    let own = finds_any p (lent_signature c.args.signature) class.0 (Some c.in-Some.method) (c.in-Some.ensures class.0 class.1.stands) in
    record { class = class.0; named = class.1.named; search = itself own }

pub returns-in-Some-only_default : goal.returns-in-Some-only_default
returns-in-Some-only_default c =
    let p = c.args.program.now in
    let class = class_of_number p c.well_formed-2.ensures.program c.args.class.0 c.requires in
    let none = finds_any p (lent_signature c.args.signature) class.0 None (c.in_default.ensures class.0 class.1.stands) in
    record { class = class.0; named = class.1.named; search = by_default none c.in-Some-only_default.ensures }

pub returns : goal.returns
returns c =
    let p = c.args.program.now in
    let s = lent_signature c.args.signature in
    let class = class_of_number p c.well_formed-2.ensures.program c.args.class.0 c.requires in
    let none = finds_any p s class.0 None (c.in_default.ensures class.0 class.1.stands) in
    resolves_least p (name_at p c.args.class.0) s class.0 c.least_inherited.result class.1.named none c.in_default-only_default.ensures c.least_inherited.ensures
