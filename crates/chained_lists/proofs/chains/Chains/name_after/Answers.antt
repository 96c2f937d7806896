use Rattle.std.proofs.Common.{◌≡◌, ◌<◌, length, suc, List, Some, Option, refl, sym, ap, subst, arith}
use Rattle.std.specs.List.{slice_get}
use Rattle.std.proofs.lemmas.Option.{slice_get_read, slice_get_within}
use Rattle.chained_lists.specs.declared.links.Head.{Head}
use Rattle.chained_lists.specs.declared.links.Link.{Link}
use Rattle.chained_lists.specs.declared.place.Place.{Place}
use Rattle.chained_lists.specs.Entries.{Entry, entry, passed}
use Rattle.chained_lists.specs.Chained.{IsNamed, entries_of, head_at, later_name}
use Rattle.chained_lists.proofs.Joining.{last_within}
use Rattle.chained_lists.proofs.chains.Chains.name_after.Goals as goal

pub first_of-requires : goal.first_of-requires
first_of-requires c =
    let heads = c.self.inside.heads.items in
    let links = c.self.inside.links.items in
    let last = last_within (entries_of heads links) c.args.number (head_at heads c.args.number).last (c.self.invariant.lasts c.args.number) in
    let same : (head_at c.deref.result.now c.args.number).last ≡ (head_at heads c.args.number).last = ap (λ (hs : List Head). (head_at hs c.args.number).last) c.deref.ensures.value in
    let count : length c.deref-in-None.result.now ≡ length links = ap (λ (ls : List Link). length ls) c.deref-in-None.ensures.value in
    omega (arith, last, same, count, c.self.invariant.count)

pub index-requires : goal.index-requires
index-requires c =
    let is = c.requires.place c.in-Some.place c.in-Some.is in
    let e = entry c.args.number is.value in
    let at = subst (λ (es : List Entry). slice_get es c.in-Some.place.0 ≡ Some e) (sym c.self.view_is) is.at in
    omega (arith, c.self.invariant.count, c.self.inside.links.ok.0, slice_get_within (entries_of c.self.inside.heads.items c.self.inside.links.items) c.in-Some.place.0 e at)

pub returns-in-Some : goal.returns-in-Some
returns-in-Some c =
    let is = c.requires.place c.in-Some.place c.in-Some.is in
    let e = entry c.args.number is.value in
    let links = c.self.inside.links.items in
    let at = subst (λ (es : List Entry). slice_get es c.in-Some.place.0 ≡ Some e) (sym c.self.view_is) is.at in
    let within : c.in-Some.place.0 < length links = omega (arith, c.self.invariant.count, slice_get_within (entries_of c.self.inside.heads.items links) c.in-Some.place.0 e at) in
    let linked = c.self.invariant.linked c.in-Some.place.0 c.index.result.now e (slice_get_read links (length links) c.in-Some.place.0 c.index.result.now refl within c.index.ensures) at in
    let name : c.later_name.result ≡ later_name c.in-Some.place.0 c.index.result.now.next = c.later_name.ensures in
    subst (λ (last : Option Place). IsNamed c.args.self.now c.args.number (passed last) c.later_name.result) (sym c.in-Some.is)
    (subst (IsNamed c.args.self.now c.args.number (suc c.in-Some.place.0)) (sym name)
    (subst (λ (es : List Entry). IsNamed es c.args.number (suc c.in-Some.place.0) (later_name c.in-Some.place.0 c.index.result.now.next)) c.self.view_is linked.next))
