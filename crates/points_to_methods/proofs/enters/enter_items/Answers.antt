use Rattle.std.proofs.Common.{◌≡◌, Some, sym, ap, ◌∙◌}
use Rattle.std.specs.List.{slice_get}
use Rattle.points_to_constraints.specs.NodeItems.{EnterItem}
use Rattle.points_to_methods.specs.Known.{names_at}
use Rattle.points_to_numbers.proofs.Making.{makes_none, makes_same}
use Rattle.points_to_methods.proofs.EnteredSlots.{entered, not_first, not_merging}
use Rattle.points_to_methods.proofs.enters.enter_items.Goals as goal

pub returns-then-node-ne0 : goal.returns-then-node-ne0
returns-then-node-ne0 c = λ n at.
    let l = c.args.at.now.method.now in
    makes_none c.args.work.now.tables (EnterItem l.method l n) c.args.work.now.steps.items
    (λ x e. not_first c.args.at.now.program.now l (names_at c.args.at.now) c.requires.known l.method c.args.node n x at c.if-node-ne0.true e)

pub returns-then-not-is_merge : goal.returns-then-not-is_merge
returns-then-not-is_merge c = λ n at.
    let l = c.args.at.now.method.now in
    let first : slice_get l.nodes 0 ≡ Some n = ap (slice_get l.nodes) (sym c.if-node-ne0.false) ∙ at in
    makes_none c.args.work.now.tables (EnterItem l.method l n) c.args.work.now.steps.items
    (λ x e. not_merging c.args.at.now.program.now l (names_at c.args.at.now) c.requires.known l.method n x first (sym c.is_merge.ensures ∙ c.if-not-is_merge.true) e)

pub returns : goal.returns
returns c = λ n at.
    let l = c.args.at.now.method.now in
    let first : slice_get l.nodes 0 ≡ Some n = ap (slice_get l.nodes) (sym c.if-node-ne0.false) ∙ at in
    makes_same c.args.work.now.tables c.enter_slots.new.work.tables _ (EnterItem l.method l n) c.args.work.now.steps.items c.enter_slots.new.work.steps.items
    (entered c.args.at.now.program.now l (names_at c.args.at.now) c.requires.known l.method n first (sym c.is_merge.ensures ∙ c.if-not-is_merge.false))
    c.in_ok-enter_slots.ensures
