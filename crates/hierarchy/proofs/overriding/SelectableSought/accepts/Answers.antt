use Rattle.std.proofs.Common.{◌∙◌, sym}
use Rattle.std.proofs.lemmas.Bool.{false≢true}
use Rattle.std.proofs.lemmas.Option.{slice_get_within}
use Rattle.hierarchy.proofs.ClassPlaces.{method_there}
use Rattle.hierarchy.proofs.Selecting.{target_iff, static_no_target}
use Rattle.hierarchy.proofs.overriding.SelectableSought.accepts.Goals as goal

pub is_target-requires-clause-resolved : goal.is_target-requires-clause-resolved
is_target-requires-clause-resolved c =
    let m = method_there c.args.program.now c.args.method.0 c.requires.method in
    let own = c.requires.fits m.0 m.1 in
    slice_get_within c.args.program.now.methods c.args.self.now.resolved.0 own.method own.stands

pub returns-then-is_static : goal.returns-then-is_static
returns-then-is_static c = λ m stands.
    let own = c.requires.fits m stands in
    let static = sym (c.is_static.ensures m stands) ∙ c.if-is_static.true in (
      λ t. absurd (false≢true t),
      λ h. absurd (static_no_target c.args.program.now c.args.self.now.interface c.args.self.now.resolved.0 c.args.method.0 m own static h),
    )

pub returns-then-self : goal.returns-then-self
returns-then-self c = λ m stands.
    let instance = sym (c.is_static.ensures m stands) ∙ c.if-is_static.false in
    target_iff c.args.program.now c.args.self.now.interface c.args.self.now.resolved.0 c.args.method.0 m c.args.self.now.interface (c.requires.fits m stands) instance (λ e. e)
    (λ e r is same. absurd (false≢true (sym e ∙ c.if-self.true)))

pub returns-else-self : goal.returns-else-self
returns-else-self c = λ m stands.
    let instance = sym (c.is_static.ensures m stands) ∙ c.if-is_static.false in
    target_iff c.args.program.now c.args.self.now.interface c.args.self.now.resolved.0 c.args.method.0 m c.is_target.result (c.requires.fits m stands) instance
    (λ e. absurd (false≢true (sym c.if-self.false ∙ e))) (λ e r is same. c.is_target.ensures m r stands is same)
