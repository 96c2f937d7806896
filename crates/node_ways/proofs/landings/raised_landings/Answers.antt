use Rattle.std.proofs.Common.{Option, List, ℕ, sym, subst}
use Rattle.jvm_model.specs.declared.number.ClassNo.{ClassNo}
use Rattle.std.specs.List.{Contains}
use Rattle.jvm_model.specs.Programs.{Program}
use Rattle.program_model.specs.Numbers.{IsClassNumber}
use Rattle.ground.specs.Added.{AreAdded, OfOne}
use Rattle.node_ways.specs.Parts.{ListedLands}
use Rattle.node_ways.proofs.Throwing.{raised_are}
use Rattle.node_ways.proofs.landings.raised_landings.Goals as goal

pub add_listed-requires : goal.add_listed-requires
add_listed-requires c =
    subst (λ (p : Program). (number : ClassNo) → Contains c.args.node.now.throws number → IsClassNumber p number.0) (sym c.program.ensures) c.requires.numbers

pub returns : goal.returns
returns c = λ x l same are.
    let g = c.args.ground.now in
    let n = c.args.node.now in
    let mid = c.add_listed.new.landings.items in
    let end = c.add_all_throwable.new.landings.items in
    let listed = subst (λ (p : Program). AreAdded (OfOne (ListedLands p n) n.throws) c.new-landings.result.items mid) c.program.ensures c.in_ok-add_listed.ensures in
    raised_are x g same l n c.args.thrown.now are c.requires.numbers mid end (subst (λ (empty : List (Option ℕ)). AreAdded (OfOne (ListedLands g.program n) n.throws) empty mid) c.new-landings.ensures.items listed)
    c.in_ok-add_all_throwable.ensures
