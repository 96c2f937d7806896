use Rattle.std.proofs.Common.{◌<◌, length, refl, ℕ, arith, subst}
use Rattle.std.proofs.lemmas.Option.{slice_get_within, slice_get_read}
use Rattle.jvm_model.specs.Linking.{Meets, is_there}
use Rattle.jvm_model.specs.Programs.{Program}
use Rattle.program_linking.specs.Claims.{IsKnownAs}
use Rattle.program_linking.proofs.KnownClasses.{no_kind, has_kind}
use Rattle.program_linking.proofs.known.Known.kind_of.Goals as goal

pub returns-in_err-place-clause-none : goal.returns-in_err-place-clause-none
returns-in_err-place-clause-none c =
    let name = c.args.name.now in
    rw c.from_residual.ensures
    (subst (λ (p : Program). Meets p (is_there name) → ⊥) c.self.view_is (no_kind c.self.inside.names c.self.inside.interfaces.items c.self.invariant name c.in_err-place.ensures.none))

pub index-requires : goal.index-requires
index-requires c =
    let within = slice_get_within c.self.inside.names c.in_ok-place.place c.args.name.now c.in_ok-place.ensures.found in
    omega (arith, within, c.self.invariant)

pub returns-clause-found : goal.returns-clause-found
returns-clause-found c =
    let names = c.self.inside.names in
    let kinds = c.self.inside.interfaces.items in
    let name = c.args.name.now in
    let place = c.in_ok-place.place in
    let kind = c.index.result.now in
    let found = c.in_ok-place.ensures.found in
    let within : place < length kinds = subst (λ (n : ℕ). place < n) c.self.invariant (slice_get_within names place name found) in
    let is = slice_get_read kinds (length kinds) place kind refl within c.index.ensures in
    subst (λ (p : Program). IsKnownAs p name kind) c.self.view_is (has_kind names kinds c.self.invariant name place kind found is c.in_ok-place.ensures.only)
