use Rattle.std.proofs.lemmas.Option.{none-some, same_Some}
use Rattle.machine_bytecode.specs.Start.{boot_site}
use Rattle.points_to_constraints.specs.NodeItems.{LoadStaticItem}
use Rattle.points_to_numbers.proofs.Making.{makes_both, makes_grown, makes_same}
use Rattle.points_to_methods.proofs.BegunFields.{loaded_alone, loaded_begun}
use Rattle.points_to_methods.proofs.statics.load_static.Goals as goal

pub returns-in_default : goal.returns-in_default
returns-in_default c = λ n at.
    let p = c.args.at.now.program.now in
    let l = c.args.at.now.method.now in
    makes_same c.args.work.now.tables c.pass_after.new.work.tables _ (LoadStaticItem p l n c.args.field c.args.target) c.args.work.now.steps.items c.pass_after.new.work.steps.items
    (loaded_alone p l n c.args.field c.args.target (λ class begins. none-some class (c.in_default.ensures.one class begins)))
    (c.in_ok-pass_after.ensures n at)

pub hold-requires : goal.hold-requires
hold-requires c = (boot_site c.in-Some.class.now, c.in_ok-site.ensures.stands)

pub returns : goal.returns
returns c = λ n at.
    let p = c.args.at.now.program.now in
    let l = c.args.at.now.method.now in
    let class = c.in-Some.class.now in
    let one = c.args.work.now.tables in
    let two = c.pass_after.new.work.tables in
    let three = c.boot_site.new.tables in
    let four = c.hold.new.work.tables in
    let before = c.args.work.now.steps.items in
    let between = c.pass_after.new.work.steps.items in
    let after = c.hold.new.work.steps.items in
    let begun = makes_grown two three four _ between after c.in_ok-site.ensures.grows c.in_ok-site.ensures.calls (c.in_ok-hold.ensures (boot_site class) c.in_ok-site.ensures.stands) in
    makes_same one four _ (LoadStaticItem p l n c.args.field c.args.target) before after
    (loaded_begun p l n c.args.field c.args.target class c.in-Some.ensures.found (λ other begins. same_Some class other (c.in-Some.ensures.one other begins)))
    (makes_both one two four _ _ before between after (c.in_ok-pass_after.ensures n at) begun)
