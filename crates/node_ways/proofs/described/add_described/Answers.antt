use Rattle.std.proofs.Common.{sym, subst}
use Rattle.std.proofs.lemmas.Result.{on_ok_weaker}
use Rattle.jvm_model.specs.declared.stub.StubMethod.{StubMethod}
use Rattle.jvm_model.specs.Descriptors.{IsMethodDescriptor}
use Rattle.jvm_model.specs.Programs.{Program}
use Rattle.program_model.specs.Numbers.{IsMethodNumber}
use Rattle.points_to_rules.specs.Calls.{IsDescribedBy}
use Rattle.node_ways.specs.Parts.{AddsFound, HasDescription, IsDescribedAs, IsToldBy}
use Rattle.node_ways.proofs.Describing.{described_adds, no_description}
use Rattle.node_ways.proofs.Found.{nothing_more}
use Rattle.node_ways.proofs.described.add_described.Goals as goal

pub stub_of-requires : goal.stub_of-requires
stub_of-requires c = subst (λ (p : Program). IsMethodNumber p c.args.target.0) (sym c.program-program.ensures) c.requires

pub returns-in-Some : goal.returns-in-Some
returns-in-Some c =
    let p = c.args.ground.now.program in
    let n = c.args.node.now in
    let call = c.args.call.now in
    let stub = c.in-Some.stub.now in
    let old = c.args.found.now.items in
    let new = c.push_told.new.found.items in
    let by = subst (λ (q : Program). IsDescribedBy q c.args.target stub) c.program-program.ensures c.in-Some.ensures.found in
    on_ok_weaker c.push_told.result
    (λ adds.
    described_adds p n call c.args.target stub by old new
    (subst (λ (q : Program). AddsFound (IsToldBy q n call stub) (IsMethodDescriptor stub.descriptor) old new) c.program-program.ensures adds))
    c.push_told.ensures

pub returns-in-None : goal.returns-in-None
returns-in-None c =
    let p = c.args.ground.now.program in
    let none = subst (λ (q : Program). (stub : StubMethod) → IsDescribedBy q c.args.target stub → ⊥) c.program-program.ensures c.in-None.ensures.none in
    nothing_more (IsDescribedAs p c.args.node.now c.args.call.now c.args.target) (HasDescription p c.args.target) c.args.found.now.items (no_description p c.args.target none)
