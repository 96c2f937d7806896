use Rattle.std.proofs.Common.{◌≡◌, refl, sym, ◌∙◌, ap}
use Rattle.std.proofs.lemmas.Option.{same_Some}
use Rattle.machine_bytecode.specs.Objects.{string_name}
use Rattle.machine_bytecode.specs.Start.{boot_site}
use Rattle.slot_names.specs.declared.variable.Variable.TheVariants.{Parameter}
use Rattle.points_to_rules.specs.Facts.{variable, elements_of, may_hold}
use Rattle.points_to_rules.specs.Rules.{argument_site}
use Rattle.points_to_constraints.specs.Items.{Item as RuleItem, known}
use Rattle.points_to_rules.specs.declared.place.Place.TheVariants as places
use Rattle.points_to_numbers.specs.Steps.{IsHoldingOf}
use Rattle.points_to_numbers.proofs.Adding.{adds_both, adds_same}
use Rattle.points_to_numbers.proofs.Growing.{grows_on}
use Rattle.points_to.proofs.StartParts.{one_holding}
use Rattle.points_to.proofs.start.string_items.Goals as goal

pub add_holding-requires-2-clause-place : goal.add_holding-requires-2-clause-place
add_holding-requires-2-clause-place c =
    let array = c.in_ok-array.array in
    let there = c.in_ok-add_holding.ensures.grows.sites array.0 argument_site (c.in_ok-string.ensures.grows.sites array.0 argument_site c.in_ok-array.ensures.stands) in
    (elements_of argument_site, (argument_site, there, refl))

pub returns-clause-adds : goal.returns-clause-adds
returns-clause-adds c =
    let n = c.boot_site-2.new.tables in
    let m = c.add_holding.new.self.tables in
    let o = c.add_holding-2.new.self.tables in
    let entry = c.args.entry in
    let array = c.in_ok-array.array in
    let string = c.in_ok-string.string in
    let a = c.args.work.now.steps.items in
    let b = c.add_holding.new.self.steps.items in
    let d = c.add_holding-2.new.self.steps.items in
    let at_n = c.in_ok-string.ensures.grows.sites array.0 argument_site c.in_ok-array.ensures.stands in
    let at_m = c.in_ok-add_holding.ensures.grows.sites array.0 argument_site at_n in
    let string_at_m = c.in_ok-add_holding.ensures.grows.sites string.0 (boot_site string_name) c.in_ok-string.ensures.stands in
    let parameter = places.Variable (Parameter entry 0) in
    let P : RuleItem → Type 0 = λ x. x ≡ known (may_hold (variable (Parameter entry 0)) argument_site) in
    let Q : RuleItem → Type 0 = λ x. x ≡ known (may_hold (elements_of argument_site) (boot_site string_name)) in
    let first = adds_same m (IsHoldingOf n parameter argument_site) P a b (one_holding n parameter (variable (Parameter entry 0)) argument_site refl (λ g e. e))
    (c.in_ok-add_holding.ensures.adds argument_site at_n) in
    let second = adds_same o (IsHoldingOf m (places.Elements array) (boot_site string_name)) Q b d
    (one_holding m (places.Elements array) (elements_of argument_site) (boot_site string_name) (argument_site, at_m, refl)
    (λ g (s, at, e). e ∙ ap elements_of (same_Some s argument_site (sym at ∙ at_m)))) (c.in_ok-add_holding-2.ensures.adds (boot_site string_name) string_at_m) in
    adds_both m o P Q a b d first c.in_ok-add_holding-2.ensures.grows second

pub returns-clause-grows : goal.returns-clause-grows
returns-clause-grows c =
    let k = c.args.work.now.tables in
    let l = c.boot_site.new.tables in
    let n = c.boot_site-2.new.tables in
    let m = c.add_holding.new.self.tables in
    let o = c.add_holding-2.new.self.tables in
    grows_on k m o (grows_on k n m (grows_on k l n c.in_ok-array.ensures.grows c.in_ok-string.ensures.grows) c.in_ok-add_holding.ensures.grows) c.in_ok-add_holding-2.ensures.grows
