use Rattle.jvm_model.specs.Lookups.{lent_signature}
use Rattle.hierarchy.proofs.LeastMethods.{least_start, least_more, least_through}
use Rattle.hierarchy.proofs.least.LeastOfferedFold.at.Goals as goal

pub loop-number-init : goal.loop-number-init
loop-number-init c = least_start c.args.program.now (lent_signature c.args.self.now.signature) c.through_interfaces-interfaces.result.now c.args.value

pub loop-number-preserved : goal.loop-number-preserved
loop-number-preserved c =
    least_more c.args.program.now c.well_formed-2.ensures.program (lent_signature c.args.self.now.signature) c.through_interfaces-interfaces.result.now
    c.loop-number.number-index c.args.value c.loop-number.least c.offered.result c.lower-least.result c.loop-number.invariant c.offered.ensures c.lower-least.ensures

pub returns : goal.returns
returns c = λ class stands.
    least_through c.args.program.now (lent_signature c.args.self.now.signature) class c.through_interfaces-interfaces.result.now c.loop-number.number-index c.args.value
    c.loop-number.least c.loop-number.auto.number-index-end c.loop-number-test.false (c.through_interfaces-interfaces.ensures.exact class stands)
    c.loop-number.invariant
