use Rattle.std.proofs.Common.{ℕ, ◌↔◌, List, length, All, Contains, refl, sym, subst, arith}
use Rattle.std.proofs.lemmas.Option.{slice_get_read}
use Rattle.program_model.specs.FieldSearches.{IsSearchOrder}
use Rattle.program_model.specs.Numbers.{IsClassNumber}
use Rattle.program_model.specs.Whole.{IsThroughInterface}
use Rattle.program_model.proofs.Accessing.{below_lists_in, through_below_in, through_exact_in, through_order_in}
use Rattle.program_model.proofs.program.Program.through_interfaces.Goals as goal

pub index-requires : goal.index-requires
index-requires c =
    let below = below_lists_in c.self.inside c.self.invariant c.args.self.now c.self.view_is c.args.class.0 c.requires in
    let long = c.self.inside.above.ok in
    omega (arith, below, long)

pub returns-clause-below : goal.returns-clause-below
returns-clause-below c =
    let below = below_lists_in c.self.inside c.self.invariant c.args.self.now c.self.view_is c.args.class.0 c.requires in
    let stands_there = slice_get_read c.self.inside.above.items (length c.self.inside.above.items) c.args.class.0 c.index.result.now refl below c.index.ensures in
    subst (λ (xs : List ℕ). All (IsClassNumber c.args.self.now) xs) (sym c.deref.ensures.value)
    (through_below_in c.self.inside c.self.invariant c.args.self.now c.self.view_is c.args.class.0 c.index.result.now c.requires stands_there)

pub returns-clause-exact : goal.returns-clause-exact
returns-clause-exact c =
    let below = below_lists_in c.self.inside c.self.invariant c.args.self.now c.self.view_is c.args.class.0 c.requires in
    let stands_there = slice_get_read c.self.inside.above.items (length c.self.inside.above.items) c.args.class.0 c.index.result.now refl below c.index.ensures in
    λ class stands n number. subst (λ (xs : List ℕ). Contains xs n ↔ IsThroughInterface c.args.self.now class n) (sym c.deref.ensures.value)
    (through_exact_in c.self.inside c.self.invariant c.args.self.now c.self.view_is c.args.class.0 c.index.result.now c.requires stands_there class stands n number)

pub returns-clause-order : goal.returns-clause-order
returns-clause-order c =
    let below = below_lists_in c.self.inside c.self.invariant c.args.self.now c.self.view_is c.args.class.0 c.requires in
    let stands_there = slice_get_read c.self.inside.above.items (length c.self.inside.above.items) c.args.class.0 c.index.result.now refl below c.index.ensures in
    λ class stands. subst (λ (xs : List ℕ). IsSearchOrder c.args.self.now class xs) (sym c.deref.ensures.value)
    (through_order_in c.self.inside c.self.invariant c.args.self.now c.self.view_is c.args.class.0 c.index.result.now c.requires stands_there class stands)
