use Rattle.std.proofs.Common.{List, sym, ◌∙◌, subst}
use Rattle.std.proofs.lemmas.Bool.{false≢true}
use Rattle.jvm_model.specs.Descriptors.{IsMethodDescriptor}
use Rattle.node_ways.specs.declared.ways.DescribedTarget.{DescribedTarget}
use Rattle.node_ways.specs.Parts.{AddsFound, IsToldBy}
use Rattle.node_ways.proofs.Found.{nothing_more, pushed}
use Rattle.node_ways.proofs.described.push_told.Goals as goal

pub returns-then-not-is_of_method : goal.returns-then-not-is_of_method
returns-then-not-is_of_method c =
    let stub = c.args.stub.now in
    nothing_more (IsToldBy c.args.program.now c.args.node.now c.args.call.now stub) (IsMethodDescriptor stub.descriptor) c.args.found.now.items
    (λ d. false≢true (sym c.if-not-is_of_method.true ∙ c.is_of_method.ensures.no d))

pub returns : goal.returns
returns c =
    let stub = c.args.stub.now in
    let Is = IsToldBy c.args.program.now c.args.node.now c.args.call.now stub in
    let Has = IsMethodDescriptor stub.descriptor in
    let old = c.args.found.now.items in
    let told = c.in_ok-told.told in
    subst (λ (new : List DescribedTarget). AddsFound Is Has old new) (sym c.in_ok-push.ensures.items)
    (pushed Is Has old told (record { descriptor = c.is_of_method.ensures.yes c.if-not-is_of_method.false; told = c.in_ok-told.ensures }))
