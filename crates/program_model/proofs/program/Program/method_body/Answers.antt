use Rattle.std.proofs.Common.{◌≡◌, ◌<◌, Some, length, sym, ◌∙◌, subst, arith}
use Rattle.std.specs.List.{slice_get}
use Rattle.std.proofs.lemmas.Option.{slice_get_within, get_or_from_slice_get}
use Rattle.jvm_model.specs.declared.program.Origin.{Origin}
use Rattle.jvm_model.specs.Linking.{methods_from}
use Rattle.program_model.proofs.Accessing.{below_methods, method_at}
use Rattle.program_model.proofs.program.Program.method_body.Goals as goal

pub index-at-requires : goal.index-at-requires
index-at-requires c =
    let below = below_methods c.self.inside c.self.invariant c.args.self.now c.self.view_is c.args.number.0 c.requires in
    let kept = c.self.inside.methods.places.ok in
    omega (arith, below, kept)

pub index-requires : goal.index-requires
index-requires c =
    let place = c.index-at.result.now in
    let at = method_at c.self.inside c.self.invariant c.args.self.now c.self.view_is c.args.number.0 place c.requires c.index-at.ensures in
    let within = slice_get_within c.self.inside.origins.items place.class.0 at.origin at.class in
    let kept = c.self.inside.origins.ok in
    omega (arith, within, kept)

pub body_in-requires : goal.body_in-requires
body_in-requires c =
    let place = c.index-at.result.now in
    let at = method_at c.self.inside c.self.invariant c.args.self.now c.self.view_is c.args.number.0 place c.requires c.index-at.ensures in
    let is = sym (get_or_from_slice_get c.self.inside.origins.items place.class.0 at.origin c.index.result.now at.class) ∙ sym c.index.ensures in
    subst (λ (o : Origin). place.place < length (methods_from o)) is at.within

pub returns : goal.returns
returns c m e =
    let place = c.index-at.result.now in
    let at = method_at c.self.inside c.self.invariant c.args.self.now c.self.view_is c.args.number.0 place c.requires c.index-at.ensures in
    let is = sym (get_or_from_slice_get c.self.inside.origins.items place.class.0 at.origin c.index.result.now at.class) ∙ sym c.index.ensures in
    c.body_in.ensures m (subst (λ (o : Origin). slice_get (methods_from o) place.place ≡ Some m) is (at.stands m e))
