use Rattle.std.proofs.Common.{◌↔◌, List, sym, subst}
use Rattle.std.specs.List.{Contains}
use Rattle.hierarchy.proofs.ClassPlaces.{place_there}
use Rattle.jvm_model.specs.declared.number.MethodNo.{MethodNo}
use Rattle.program_model.specs.Numbers.{name_at}
use Rattle.machine_nodes.specs.Nodes.{IsCodedInitialiser}
use Rattle.points_to_constraints.specs.Items.{Item as RuleItem}
use Rattle.points_to_methods.specs.Initiated.{IsInitiated}
use Rattle.points_to_numbers.proofs.Making.{makes_start, makes_next_read, makes_all, makes_same}
use Rattle.points_to_numbers.proofs.Adding.{OfOne}
use Rattle.points_to.specs.Starting.{InitialiserItem}
use Rattle.points_to.proofs.StartParts.{all_initiated}
use Rattle.points_to.proofs.initialisers.initialiser_items.Goals as goal

abbrev Initiated : MethodNo → RuleItem → Type 0
Initiated i x = IsInitiated i x

pub coded_initialisers-requires : goal.coded_initialisers-requires
coded_initialisers-requires c =
    let (m, stands) = place_there c.args.program.now.methods c.args.entry.0 c.requires in
    (c.method.ensures m stands).below

pub loop-initialiser-init : goal.loop-initialiser-init
loop-initialiser-init c = makes_start Initiated c.args.work.now.tables c.deref-initialiser-items.result.now c.args.work.now.steps.items

pub loop-initialiser-preserved : goal.loop-initialiser-preserved
loop-initialiser-preserved c =
    makes_next_read Initiated c.args.work.now.tables c.loop-initialiser.work.tables c.initiated_items.new.work.tables c.deref-initialiser-items.result.now c.loop-initialiser.initialiser-index (record { 0 = 0 })
    c.args.work.now.steps.items c.loop-initialiser.work.steps.items c.initiated_items.new.work.steps.items c.loop-initialiser-test.true c.loop-initialiser.invariant c.in_ok-initiated_items.ensures

pub returns : goal.returns
returns c =
    let p = c.args.program.now in
    let (m, stands) = place_there p.methods c.args.entry.0 c.requires in
    let found = c.deref-initialiser-items.result.now in
    let n = c.args.work.now.tables in
    let o = c.loop-initialiser.work.tables in
    let are : (i : MethodNo) → Contains found i ↔ IsCodedInitialiser p (name_at p c.method.result.class.0) i.0 =
    subst (λ (is : List MethodNo). (i : MethodNo) → Contains is i ↔ IsCodedInitialiser p (name_at p c.method.result.class.0) i.0) (sym c.deref-initialiser-items.ensures.value) c.in_ok-initialisers.ensures in
    let a = c.args.work.now.steps.items in
    let b = c.loop-initialiser.work.steps.items in
    makes_same n o (OfOne Initiated found) (InitialiserItem p c.args.entry) a b (all_initiated p c.args.entry m stands c.method.result.class.0 (c.method.ensures m stands).class found are)
    (makes_all Initiated n o found c.loop-initialiser.initialiser-index a b c.loop-initialiser-test.false c.loop-initialiser.invariant)
