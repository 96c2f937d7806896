use Rattle.std.proofs.Common.{◌≤◌, length, arith}
use Rattle.jvm_model.specs.Lookups.{lent_signature}
use Rattle.hierarchy.proofs.Inheriting.{none_more, through_here, none_through}
use Rattle.hierarchy.proofs.superinterfaces.InterfaceSearchStep.at.Goals as goal

pub loop-number-preserved : goal.loop-number-preserved
loop-number-preserved g c =
    let p = c.args.program.now in
    none_more p (lent_signature c.args.self.now.signature) (g.S.Sought.takes c.args.self.now.sought.now p) c.through_interfaces-interfaces.result.now
    c.loop-number.number-index c.loop-number.invariant c.in_default.ensures

pub returns-in-Some : goal.returns-in-Some
returns-in-Some g c = λ class stands.
    let p = c.args.program.now in
    through_here p (lent_signature c.args.self.now.signature) (g.S.Sought.takes c.args.self.now.sought.now p) class c.through_interfaces-interfaces.result.now
    c.loop-number.number-index c.in-Some.method.0 c.loop-number-test.true (c.through_interfaces-interfaces.ensures.exact class stands) c.in-Some.ensures

pub returns : goal.returns
returns g c = λ class stands n through.
    let p = c.args.program.now in
    let all : length c.through_interfaces-interfaces.result.now ≤ c.loop-number.number-index = omega (arith, c.loop-number-test.false) in
    none_through p (lent_signature c.args.self.now.signature) (g.S.Sought.takes c.args.self.now.sought.now p) class c.through_interfaces-interfaces.result.now
    c.loop-number.number-index n all (c.through_interfaces-interfaces.ensures.exact class stands) c.loop-number.invariant through
