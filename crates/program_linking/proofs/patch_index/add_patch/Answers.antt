use Rattle.std.proofs.Common.{◌≡◌, [], ◌∷◌, ◌++◌, length, set, Bor, Some, refl, sym, ◌∙◌, ap, subst, arith}
use Rattle.std.specs.Global.{Vec}
use Rattle.std.specs.List.{slice_get}
use Rattle.std.proofs.lemmas.List.{map-append, map-set}
use Rattle.std.proofs.lemmas.Option.{slice_get_read}
use Rattle.jvm_model.specs.declared.stub.StubClass.{StubClass}
use Rattle.program_index.proofs.ListPlaces.{at_map}
use Rattle.program_linking.specs.PatchLists.{lent_stubs, lent_lists, AreListed}
use Rattle.program_linking.proofs.LargeInputs.{one_patch}
use Rattle.program_linking.proofs.PatchLists.{listed_patch}
use Rattle.program_linking.proofs.patch_index.add_patch.Goals as goal

pub returns-clause-goes : goal.returns-clause-goes
returns-clause-goes c =
    let f = λ (list : Vec (Bor StubClass)). lent_stubs list.items in
    let s = c.args.stub.now in
    let names = c.list_of.new.names in
    let lists = c.list_of.new.lists.items in
    let place = c.in_ok-place.place in
    let list = c.index_mut.result.now in
    let at_place = slice_get_read lists (length lists) place list refl c.in_ok-place.ensures.within c.index_mut.ensures.value in
    let more : lent_stubs c.push.new.self.items ≡ lent_stubs list.items ++ s ∷ [] =
    ap lent_stubs c.in_ok-push.ensures.items ∙ map-append (λ (b : Bor StubClass). b.now) list.items _ in
    let stands : slice_get names place ≡ Some s.name = c.in_ok-place.ensures.stands ∙ ap Some c.as_slice.ensures in
    let is : lent_lists (set lists place c.push.new.self) ≡ set (lent_lists lists) place (lent_stubs list.items ++ s ∷ []) =
    map-set f lists place c.push.new.self ∙ ap (set (lent_lists lists) place) more in
    record {
      more = λ stubs are.
          subst (AreListed (stubs ++ s ∷ []) names) (sym is)
          (listed_patch stubs s names (lent_lists lists) place (lent_stubs list.items) c.if-not-stub.false stands (at_map f lists place list at_place) (c.in_ok-place.ensures.kept.same stubs are));
    }

pub returns-clause-count : goal.returns-clause-count
returns-clause-count c = omega (arith, c.in_ok-place.ensures.count, one_patch c.args.stub.now c.if-not-stub.false)
