use Rattle.std.proofs.Common.{◌≡◌, ℕ, List, sym, ap, subst, ◌∙◌, arith}
use Rattle.op_model.specs.declared.node.Node.{Node}
use Rattle.points_to_constraints.specs.Items.{Item, constrained}
use Rattle.points_to_rules.specs.Facts.{Holder}
use Rattle.points_to_numbers.proofs.Adding.{OfOne}
use Rattle.points_to_numbers.specs.Steps.{Makes}
use Rattle.points_to_methods.specs.Fixed.{holder_of, constraint_by}
use Rattle.points_to_methods.specs.Known.{names_at}
use Rattle.points_to_methods.specs.Slots.{MadeAt}
use Rattle.points_to_numbers.proofs.Making.{makes_start, makes_next_read, makes_all, makes_same}
use Rattle.points_to_methods.proofs.NamedSlots.{read_node}
use Rattle.points_to_methods.proofs.AccessedSlots.{made_after}
use Rattle.points_to_methods.proofs.accesses.pass_after.Goals as goal

pub loop-offset-init : goal.loop-offset-init
loop-offset-init c =
    let l = c.args.at.now.method.now in
    makes_start (MadeAt l (names_at c.args.at.now) (λ to. constrained (holder_of c.args.outgoing.from) (constraint_by c.args.outgoing.passing to)) c.args.target) c.args.work.now.tables c.as_slice-offset-items.result.now c.args.work.now.steps.items

pub loop-offset-preserved : goal.loop-offset-preserved
loop-offset-preserved c =
    let l = c.args.at.now.method.now in
    makes_next_read (MadeAt l (names_at c.args.at.now) (λ to. constrained (holder_of c.args.outgoing.from) (constraint_by c.args.outgoing.passing to)) c.args.target) c.args.work.now.tables c.loop-offset.work.tables c.pass_at.new.work.tables c.as_slice-offset-items.result.now c.loop-offset.offset-index 0
    c.args.work.now.steps.items c.loop-offset.work.steps.items c.pass_at.new.work.steps.items c.loop-offset-test.true c.loop-offset.invariant c.in_ok-pass_at.ensures

pub returns : goal.returns
returns c = λ n at.
    let l = c.args.at.now.method.now in
    let read = c.index-as_slice-node.result in
    let items = c.as_slice-offset-items.result.now in
    let same : read ≡ n = read_node l.nodes c.as_slice.result.now c.args.node n read c.as_slice.ensures c.requires.there c.index-as_slice-node.is at in
    let make : Holder → Item = (λ to. constrained (holder_of c.args.outgoing.from) (constraint_by c.args.outgoing.passing to)) in
    let all = makes_all (MadeAt l (names_at c.args.at.now) make c.args.target) c.args.work.now.tables c.loop-offset.work.tables items c.loop-offset.offset-index c.args.work.now.steps.items c.loop-offset.work.steps.items
    (omega arith) c.loop-offset.invariant in
    let of_node = subst (λ (xs : List ℕ). Makes c.args.work.now.tables c.loop-offset.work.tables (OfOne (MadeAt l (names_at c.args.at.now) make c.args.target) xs) c.args.work.now.steps.items c.loop-offset.work.steps.items)
    (c.as_slice-offset-items.ensures ∙ ap (λ (m : Node). m.successors) (sym c.index-as_slice-node.is ∙ same)) all in
    makes_same c.args.work.now.tables c.loop-offset.work.tables _ _ c.args.work.now.steps.items c.loop-offset.work.steps.items
    (made_after c.args.at.now.program.now l (names_at c.args.at.now) c.requires.known c.args.node n at make c.args.target) of_node
