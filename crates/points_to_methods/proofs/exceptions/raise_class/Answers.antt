use Rattle.jvm_model.specs.declared.site.SiteKind.TheVariants as kinds
use Rattle.points_to_rules.specs.Rules.{site_of}
use Rattle.points_to_methods.specs.Fixed.{holder_of}
use Rattle.points_to_methods.specs.Known.{names_at}
use Rattle.points_to_methods.specs.Raises.{RaisesOf}
use Rattle.points_to_numbers.proofs.Making.{makes_grown, makes_same}
use Rattle.slot_names.proofs.ListPlaces.{stands_below}
use Rattle.points_to_methods.proofs.RaisedObjects.{class_numbered, raised}
use Rattle.points_to_methods.proofs.exceptions.raise_class.Goals as goal

pub hold-requires : goal.hold-requires
hold-requires c =
    let l = c.args.at.now.method.now in
    let (n, at) = stands_below l.nodes c.args.node c.requires.there in
    (site_of kinds.Thrown l.method n c.class_name-name.result.now, c.in_ok-site.ensures.stands n at)

pub returns : goal.returns
returns c = λ n at.
    let p = c.args.at.now.program.now in
    let l = c.args.at.now.method.now in
    let name = c.class_name-name.result.now in
    let one = c.args.work.now.tables in
    let two = c.raised_site.new.tables in
    let three = c.hold.new.work.tables in
    let before = c.args.work.now.steps.items in
    let after = c.hold.new.work.steps.items in
    let to = holder_of c.raised_place.result in
    let site = site_of kinds.Thrown l.method n name in
    makes_same one three _ (RaisesOf p l n c.args.class) before after
    (raised p l (names_at c.args.at.now) c.requires.known n c.args.class name to (class_numbered p c.args.class name c.requires.class c.class_name-name.ensures) (c.raised_place.ensures n at))
    (makes_grown one two three _ before after c.in_ok-site.ensures.grows c.in_ok-site.ensures.calls (c.in_ok-hold.ensures site (c.in_ok-site.ensures.stands n at)))
