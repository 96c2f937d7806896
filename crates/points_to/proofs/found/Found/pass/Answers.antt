use Rattle.std.proofs.Common.{◌↔◌}
use Rattle.points_to.specs.declared.refusals.RefusedCall.{RefusedCall}
use Rattle.points_to.specs.Passing.{IsPassed, IsLackOf, NotesReason}
use Rattle.points_to.proofs.Lacking.{lacks_are}
use Rattle.points_to.proofs.Noting.{calls_same}
use Rattle.points_to.proofs.PassedOn.{reason_before, passed_here}
use Rattle.points_to_numbers.proofs.Adding.{adds_same}
use Rattle.points_to.proofs.found.Found.pass.Goals as goal

pub returns-clause-adds : goal.returns-clause-adds
returns-clause-adds c =
    let n = c.args.self.now.work.tables in
    let p = c.args.program.now in
    let constraint = c.args.constraint in
    let site = c.args.site in
    let adds = c.in_ok-lacks.ensures.adds in
    adds_same c.pass.new.work.tables _ (IsPassed p n constraint site) c.args.self.now.work.steps.items c.pass.new.work.steps.items (passed_here p n constraint site c.requires.constraint.numbered c.requires.site)
    (adds c.requires.constraint.numbered.0 c.requires.site.0 c.requires.constraint.numbered.1 c.requires.site.1)

pub returns-clause-lacks : goal.returns-clause-lacks
returns-clause-lacks c =
    let n = c.args.self.now.work.tables in
    let m = c.pass.new.work.tables in
    let p = c.args.program.now in
    let constraint = c.args.constraint in
    let site = c.args.site in
    let lacks = c.in_ok-lacks.lacks in
    let grows = c.in_ok-lacks.ensures.grows in
    let told = c.in_ok-lacks.ensures.lacks in
    let back = reason_before n m grows constraint c.requires.constraint.numbered lacks in
    let are = lacks_are p c.well_formed-2.ensures.program n constraint site c.requires.constraint.numbered.0 c.requires.site.0 lacks c.requires.constraint.numbered.1 c.requires.site.1
    (told c.requires.constraint.numbered.0 c.requires.site.0 c.requires.constraint.numbered.1 c.requires.site.1) in
    let same : (call : RefusedCall) → NotesReason m constraint lacks call ↔ IsLackOf p n constraint site call = λ call. ((λ h. (are call).0 ((back call).0 h)), (λ h. (back call).1 ((are call).1 h))) in
    calls_same (NotesReason m constraint lacks) (IsLackOf p n constraint site) c.args.self.now.refusals.call c.note_lack.new.refusals.call same c.note_lack.ensures.call
