use Rattle.std.proofs.Common.{ℕ, Option, length, option_map, refl, subst, arith}
use Rattle.std.proofs.lemmas.Option.{slice_get_read}
use Rattle.program_model.specs.Numbers.{IsNumber}
use Rattle.program_model.proofs.Accessing.{below_parents_in, class_no, super_number_in}
use Rattle.program_model.proofs.program.Program.super_class.Goals as goal

pub index-requires : goal.index-requires
index-requires c =
    let below = below_parents_in c.self.inside c.self.invariant c.args.self.now c.self.view_is c.args.class.0 c.requires in
    let long = c.self.inside.parents.ok in
    omega (arith, below, long)

pub returns-in-Some : goal.returns-in-Some
returns-in-Some c =
    let below = below_parents_in c.self.inside c.self.invariant c.args.self.now c.self.view_is c.args.class.0 c.requires in
    let stands_there = slice_get_read c.self.inside.parents.items (length c.self.inside.parents.items) c.args.class.0 c.index.result.now refl below c.index.ensures in
    λ class stands. subst (λ (o : Option ℕ). IsNumber c.args.self.now class.super_class (option_map class_no o)) c.in-Some.is
    (super_number_in c.self.inside c.self.invariant c.args.self.now c.self.view_is c.args.class.0 class c.index.result.now c.requires stands stands_there)

pub returns-in-None : goal.returns-in-None
returns-in-None c =
    let below = below_parents_in c.self.inside c.self.invariant c.args.self.now c.self.view_is c.args.class.0 c.requires in
    let stands_there = slice_get_read c.self.inside.parents.items (length c.self.inside.parents.items) c.args.class.0 c.index.result.now refl below c.index.ensures in
    λ class stands. subst (λ (o : Option ℕ). IsNumber c.args.self.now class.super_class (option_map class_no o)) c.in-None.is
    (super_number_in c.self.inside c.self.invariant c.args.self.now c.self.view_is c.args.class.0 class c.index.result.now c.requires stands stands_there)
