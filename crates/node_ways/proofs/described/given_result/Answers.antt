use Rattle.std.proofs.Common.{◌≡◌, ℕ, Option, sym, ap, ◌∙◌}
use Rattle.jvm_model.specs.declared.stub.StubResult.TheVariants.{New}
use Rattle.stage_edges.specs.Rules.{argument_given, given_by}
use Rattle.node_ways.proofs.described.given_result.Goals as goal

pub returns-in-Primitive : goal.returns-in-Primitive
returns-in-Primitive c = λ m n parameters of. ap (given_by m n c.args.call.now c.args.stub.now parameters) (sym c.in-Primitive.is)

pub returns-in-Void : goal.returns-in-Void
returns-in-Void c = λ m n parameters of. ap (given_by m n c.args.call.now c.args.stub.now parameters) (sym c.in-Void.is)

pub returns-in-Null : goal.returns-in-Null
returns-in-Null c = λ m n parameters of. ap (given_by m n c.args.call.now c.args.stub.now parameters) (sym c.in-Null.is)

pub returns-in-Kept : goal.returns-in-Kept
returns-in-Kept c = λ m n parameters of. ap (given_by m n c.args.call.now c.args.stub.now parameters) (sym c.in-Kept.is)

pub returns-in-Given : goal.returns-in-Given
returns-in-Given c = λ m n parameters of.
    c.argument_given.ensures m n
    ∙ ap (λ (o : Option ℕ). argument_given o) (c.argument_slot.ensures parameters of)
    ∙ ap (given_by m n c.args.call.now c.args.stub.now parameters) (sym c.in-Given.is)

pub returns-in-New : goal.returns-in-New
returns-in-New c = λ m n parameters of.
    let e : New c.as_slice.result.now ≡ c.args.outcome.now = ap New c.as_slice.ensures ∙ sym c.in-New.is in
    ap (given_by m n c.args.call.now c.args.stub.now parameters) e
