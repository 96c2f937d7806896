use Rattle.std.proofs.Common.{sym, subst}
use Rattle.jvm_model.specs.Programs.{Program}
use Rattle.program_model.specs.Numbers.{IsClassNumber, IsMethodNumber}
use Rattle.report_sites.specs.Found.{AreFound}
use Rattle.report_sites.proofs.FoundSites.{are_tracked}
use Rattle.report_sites.proofs.tracking.tracked.Goals as goal

pub found_sites-requires-clause-upper : goal.found_sites-requires-clause-upper
found_sites-requires-clause-upper c = subst (λ (p : Program). IsClassNumber p c.args.upper.0) (sym c.program-program.ensures) c.requires

pub found_sites-requires-clause-targets : goal.found_sites-requires-clause-targets
found_sites-requires-clause-targets c = λ call m there.
    subst (λ (p : Program). IsMethodNumber p m.0) (sym c.program-program.ensures) (c.well_formed-2.ensures.targets call m there)

pub returns : goal.returns
returns c =
    let g = c.args.ground.now in
    let found = c.in_ok-found.found.items in
    let are = subst (λ (p : Program). AreFound p g c.args.upper found) c.program-program.ensures c.in_ok-found.ensures in
    are_tracked g.program g c.args.upper found c.in_order.result.items are c.in_order.ensures.same c.in_order.ensures.order
