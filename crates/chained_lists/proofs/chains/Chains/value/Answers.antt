use Rattle.std.proofs.Common.{◌≡◌, ◌<◌, List, Some, length, refl, sym, subst, arith}
use Rattle.std.specs.List.{slice_get}
use Rattle.std.proofs.lemmas.Option.{slice_get_read, slice_get_within}
use Rattle.chained_lists.specs.Entries.{Entry, entry}
use Rattle.chained_lists.specs.Chained.{entries_of}
use Rattle.chained_lists.proofs.chains.Chains.value.Goals as goal

pub returns : goal.returns
returns c = λ number value here.
    let k = c.args.place.0 in
    let links = c.self.inside.links.items in
    let at = subst (λ (es : List Entry). slice_get es k ≡ Some (entry number value)) (sym c.self.view_is) here in
    let within : k < length links = omega (arith, c.self.invariant.count, slice_get_within (entries_of c.self.inside.heads.items links) k (entry number value) at) in
    (c.self.invariant.linked k c.index.result.now (entry number value) (slice_get_read links (length links) k c.index.result.now refl within c.index.ensures) at).value
