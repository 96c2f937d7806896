use Rattle.std.proofs.Common.{◌≡◌, length, Bor, refl, sym, ◌∙◌, ap}
use Rattle.std.specs.Global.{Vec}
use Rattle.std.proofs.lemmas.Option.{slice_get_within, slice_get_read, same_Some}
use Rattle.jvm_model.specs.declared.stub.StubClass.{StubClass}
use Rattle.program_index.proofs.ListPlaces.{map_at}
use Rattle.program_linking.specs.Patching.{patches_for}
use Rattle.program_linking.specs.PatchLists.{lent_stubs}
use Rattle.program_linking.proofs.patch_index.Patches.of.Goals as goal

pub returns-in-Some : goal.returns-in-Some
returns-in-Some c =
    let name = c.args.name.now in
    let lists = c.self.inside.lists.items in
    let place = c.in-Some.place in
    let here = map_at (λ (list : Vec (Bor StubClass)). lent_stubs list.items) lists place _ (c.self.invariant.listed place name c.in-Some.ensures.found) in
    let read = slice_get_read lists (length lists) place c.index.result.now refl (slice_get_within lists place here.0 here.1) c.index.ensures in
    let same : c.index.result.now ≡ here.0 = same_Some _ _ (sym read ∙ here.1) in
    ap lent_stubs (c.as_slice.ensures.value ∙ ap (λ (list : Vec (Bor StubClass)). list.items) same) ∙ here.2 ∙ ap (patches_for name) c.self.view_is
