use Rattle.std.proofs.Common.{List, refl, sym, subst}
use Rattle.points_to_rules.specs.Calls.{IsOfFile}
use Rattle.node_ways.specs.declared.ways.EnteredMethod.{EnteredMethod}
use Rattle.node_ways.specs.Parts.{AddsFound, IsEnteredAs}
use Rattle.node_ways.proofs.Found.{pushed}
use Rattle.node_ways.proofs.entered.push_entered.Goals as goal

pub returns : goal.returns
returns c =
    let g = c.args.ground.now in
    let Is = IsEnteredAs g c.args.node.now c.args.target in
    let Has = IsOfFile g.program c.args.target in
    let old = c.args.entered.now.items in
    let one : EnteredMethod = record { method = c.args.target; landings = c.in_ok-landings.landings } in
    subst (λ (new : List EnteredMethod). AddsFound Is Has old new) (sym c.in_ok-push.ensures.items)
    (pushed Is Has old one (record { of_file = c.requires; is = refl; landings = c.in_ok-landings.ensures }))
