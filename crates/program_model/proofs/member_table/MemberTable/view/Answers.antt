use Rattle.std.proofs.Common.{◌≡◌, ◌<◌, Some, length, sym, ◌∙◌, ap, subst}
use Rattle.std.specs.List.{slice_get, flat_map}
use Rattle.std.proofs.lemmas.List.Elements.{All-contains}
use Rattle.std.proofs.lemmas.Option.{slice_get_within, get_or_from_slice_get}
use Rattle.jvm_model.specs.declared.program.Origin.{Origin}
use Rattle.jvm_model.specs.Linking.{class_from, program_from}
use Rattle.program_index.proofs.OrderPlaces.{contains_at, stands_below}
use Rattle.program_model.specs.Declarations.{Declaration}
use Rattle.program_model.specs.Numbers.{name_at}
use Rattle.program_model.proofs.MembersTold.{name_is, place_read, view_below}
use Rattle.program_model.proofs.member_table.MemberTable.view.Goals as goal

pub bounds-order-at : goal.bounds-order-at
bounds-order-at g c =
    let members = g.K.MemberKind.members in
    let order = c.args.order.now in
    let d = stands_below (flat_map members order) c.args.number c.requires.there in
    let at = place_read members order c.args.self.now.places.items c.requires.table.told_by_places c.args.number d.0 c.index-at.result.now d.1 c.index-at.ensures in
    slice_get_within order c.index-at.result.now.class.0 at.origin at.class

pub view-requires : goal.view-requires
view-requires g c =
    let members = g.K.MemberKind.members in
    let order = c.args.order.now in
    let place = c.index-at.result.now in
    let d = stands_below (flat_map members order) c.args.number c.requires.there in
    let at = place_read members order c.args.self.now.places.items c.requires.table.told_by_places c.args.number d.0 place d.1 c.index-at.ensures in
    let is = sym (get_or_from_slice_get order place.class.0 at.origin c.index-order-at.result at.class) ∙ sym c.index-order-at.is in
    subst (λ (o : Origin). place.place < length (members o)) is (slice_get_within (members at.origin) place.place d.0 at.stands)

pub returns : goal.returns
returns g c d e =
    let members = g.K.MemberKind.members in
    let order = c.args.order.now in
    let place = c.index-at.result.now in
    let at = place_read members order c.args.self.now.places.items c.requires.table.told_by_places c.args.number d place e c.index-at.ensures in
    let is = sym (get_or_from_slice_get order place.class.0 at.origin c.index-order-at.result at.class) ∙ sym c.index-order-at.is in
    let shown = c.view.ensures d (subst (λ (o : Origin). slice_get (members o) place.place ≡ Some d) is at.stands) in
    let named = All-contains (λ (x : Declaration). x.class ≡ (class_from at.origin).name) (members at.origin) d (g.met.K.MemberKind.of_class at.origin) (contains_at (members at.origin) place.place d at.stands) in
    record {
      below = view_below order place.class.0 d c.view.result at.origin at.class shown;
      class = named ∙ sym (name_is order place.class.0 at.origin at.class) ∙ ap (name_at (program_from order)) (sym shown.class_number);
      flags = shown.same_flags;
      signature = shown.same_signature;
    }
