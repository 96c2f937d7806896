use Rattle.std.proofs.Common.{◌≡◌, true, refl, sym, ◌∙◌}
use Rattle.std.proofs.lemmas.Bool.{false≢true}
use Rattle.machine_nodes.specs.NodeSteps.{is_selecting_kind}
use Rattle.points_to_constraints.specs.Items.{dispatch}
use Rattle.points_to_numbers.specs.declared.keys.Constraint.TheVariants as constraints
use Rattle.points_to_numbers.proofs.Making.{makes_none, makes_same, makes_constrained}
use Rattle.points_to_methods.specs.Fixed.{holder_of}
use Rattle.points_to_methods.specs.Known.{names_at}
use Rattle.points_to_methods.specs.CallParts.{SelectingItem}
use Rattle.points_to_methods.proofs.SelectedSites.{not_selecting, selects, without_first}
use Rattle.points_to_methods.proofs.calls.select_items.Goals as goal

pub returns-then-not-is_selecting : goal.returns-then-not-is_selecting
returns-then-not-is_selecting c = λ n site at stands is_site.
    makes_none c.args.work.now.tables (SelectingItem c.args.call.now.kind site) c.args.work.now.steps.items
    (not_selecting c.args.call.now site (λ kind. false≢true (sym c.if-not-is_selecting.true ∙ c.is_selecting.ensures ∙ kind)))

pub returns-in_default : goal.returns-in_default
returns-in_default c = λ n site at stands is_site.
    makes_none c.args.work.now.tables (SelectingItem c.args.call.now.kind site) c.args.work.now.steps.items
    (without_first c.args.at.now.method.now.method c.args.at.now.method.now n c.args.call.now site is_site (sym c.in_default.ensures))

pub add_constraint-requires-clause-place : goal.add_constraint-requires-clause-place
add_constraint-requires-clause-place c = (holder_of c.slot_place.result, c.key_of-place.ensures c.args.work.now.tables)

pub add_constraint-requires-clause-constraint : goal.add_constraint-requires-clause-constraint
add_constraint-requires-clause-constraint c = let (site, stands) = c.requires.numbered in (dispatch site, (site, stands, refl))

pub returns : goal.returns
returns c = λ n site at stands is_site.
    let l = c.args.at.now.method.now in
    let one = c.args.work.now.tables in
    let two = c.add_constraint.new.self.tables in
    let before = c.args.work.now.steps.items in
    let after = c.add_constraint.new.self.steps.items in
    let h = holder_of c.slot_place.result in
    let facts = c.in_ok-add_constraint.ensures in
    let kind : is_selecting_kind c.args.call.now.kind ≡ true = sym c.is_selecting.ensures ∙ c.if-not-is_selecting.false in
    makes_same one two _ (SelectingItem c.args.call.now.kind site) before after
    (selects c.args.at.now.program.now l (names_at c.args.at.now) c.requires.known c.args.node n at c.args.call.now site is_site kind c.in-Some.slot (sym c.in-Some.ensures) h c.slot_place.ensures)
    (makes_constrained one two c.key_of-place.result (constraints.Dispatch c.args.number) h (dispatch site) before after (c.key_of-place.ensures one) (site, stands, refl) facts.grows facts.calls facts.adds)
