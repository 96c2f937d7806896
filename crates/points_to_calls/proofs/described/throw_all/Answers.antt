use Rattle.std.proofs.Common.{ℕ, ◌<◌, length, arith, ap, subst, List, get_or, ◌∙◌}
use Rattle.points_to_calls.specs.Parts.{ClassThrown}
use Rattle.points_to_numbers.specs.Steps.{Makes}
use Rattle.points_to_numbers.proofs.Making.{makes_next, makes_all}
use Rattle.points_to_calls.proofs.described.throw_all.Goals as goal

pub throw_class-requires : goal.throw_class-requires
throw_class-requires c = let (site, at) = c.requires in (site, (c.loop-class.invariant site at).grows.calls c.args.call.0 site at)

pub loop-class-preserved : goal.loop-class-preserved
loop-class-preserved c = λ site at.
    let stub = c.args.stub.now in let i = c.loop-class.class-index in
    let long = ap length c.as_slice-class-items.ensures in
    let within : i < length stub.throws = omega (arith, long) in
    let before = c.loop-class.invariant site at in
    let made = c.in_ok-throw_class.ensures site (before.grows.calls c.args.call.0 site at) in
    makes_next (ClassThrown c.args.program.now site) c.args.work.now.tables c.loop-class.work.tables c.throw_class.new.work.tables stub.throws i c.class-item.result c.args.work.now.steps.items c.loop-class.work.steps.items c.throw_class.new.work.steps.items
    within (c.class-item.is ∙ ap (λ (ys : List (List ℕ)). get_or ys i c.class-item.result) c.as_slice-class-items.ensures) before
    (subst (λ (name : List ℕ). Makes c.loop-class.work.tables c.throw_class.new.work.tables (ClassThrown c.args.program.now site name) c.loop-class.work.steps.items c.throw_class.new.work.steps.items) c.as_slice.ensures made)

pub returns : goal.returns
returns c = λ site at.
    let stub = c.args.stub.now in
    let long = ap length c.as_slice-class-items.ensures in
    makes_all (ClassThrown c.args.program.now site) c.args.work.now.tables c.loop-class.work.tables stub.throws c.loop-class.class-index c.args.work.now.steps.items c.loop-class.work.steps.items (omega (arith, long))
    (c.loop-class.invariant site at)
