use Rattle.std.proofs.Common.{◌≡◌, refl}
use Rattle.points_to_rules.specs.Facts.{thrown_by}
use Rattle.points_to_constraints.specs.Items.{Item as RuleItem, rethrow_to, constrained}
use Rattle.points_to_rules.specs.declared.place.Place.TheVariants as places
use Rattle.points_to_numbers.specs.declared.keys.Constraint.TheVariants as constraints
use Rattle.points_to_calls.specs.Parts.{ResultsGet, returned}
use Rattle.points_to_numbers.proofs.Making.{makes_both, makes_constrained, on_ok_three}
use Rattle.points_to_calls.proofs.targets.file_items.Goals as goal

pub call_of-requires : goal.call_of-requires
call_of-requires c =
    let (site, at) = c.requires.call in
    (site, (c.in_ok-give_results.ensures site (returned c.args.target) at refl).grows.calls c.args.call.0 site at)

pub add_constraint-requires-clause-constraint : goal.add_constraint-requires-clause-constraint
add_constraint-requires-clause-constraint c =
    let (site, at) = c.requires.call in
    let made = c.in_ok-give_results.ensures site (returned c.args.target) at refl in
    (rethrow_to site.catch_chain, (site.catch_chain, (c.call_of.ensures site (made.grows.calls c.args.call.0 site at)).catch_chain, refl))

pub returns : goal.returns
returns c =
    on_ok_three c.add_constraint.result c.add_constraint.ensures.grows c.add_constraint.ensures.calls c.add_constraint.ensures.adds
    (λ grows calls adds site at.
    let n = c.args.work.now.tables in let m = c.give_results.new.work.tables in let o = c.add_constraint.new.self.tables in
    let made = c.in_ok-give_results.ensures site (returned c.args.target) at refl in
    makes_both n m o (ResultsGet c.args.program.now site (returned c.args.target)) (λ (x : RuleItem). x ≡ constrained (thrown_by c.args.target) (rethrow_to site.catch_chain))
    c.args.work.now.steps.items c.give_results.new.work.steps.items c.add_constraint.new.self.steps.items made
    (makes_constrained m o (places.Thrown c.args.target) (constraints.RethrowTo c.call_of.result.now.catch_chain) (thrown_by c.args.target) (rethrow_to site.catch_chain) c.give_results.new.work.steps.items c.add_constraint.new.self.steps.items
    refl (site.catch_chain, (c.call_of.ensures site (made.grows.calls c.args.call.0 site at)).catch_chain, refl) grows calls adds))
