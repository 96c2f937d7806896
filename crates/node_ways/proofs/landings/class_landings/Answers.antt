use Rattle.std.proofs.Common.{ℕ, List, [], length, refl, subst}
use Rattle.std.proofs.lemmas.Option.{slice_get_read}
use Rattle.ground.specs.Added.{AreAdded}
use Rattle.ground.proofs.Adding.{added_all, added_more}
use Rattle.node_ways.specs.Parts.{LandsAt}
use Rattle.node_ways.proofs.Throwing.{of_classes}
use Rattle.node_ways.proofs.landings.class_landings.Goals as goal

pub loop-class-preserved : goal.loop-class-preserved
loop-class-preserved c =
    let p = c.args.program.now in
    let n = c.args.node.now in
    let classes = c.args.classes.now in
    let k = c.loop-class.class-index in
    let class = c.class-item.result in
    let at = slice_get_read classes (length classes) k class refl c.loop-class-test.true c.class-item.is in
    let b = c.loop-class.landings.items in
    let new = c.add_landing.new.landings.items in
    let one = subst (λ (name : List ℕ). AreAdded (LandsAt p n name) b new) c.as_slice.ensures c.in_ok-add_landing.ensures in
    record { added = added_more (LandsAt p n) classes k class at [] b new c.loop-class.invariant.added one }

pub returns : goal.returns
returns c =
    let p = c.args.program.now in
    let n = c.args.node.now in
    let classes = c.args.classes.now in
    let landings = c.loop-class.landings.items in
    of_classes p n classes landings (added_all (LandsAt p n) classes c.loop-class.class-index c.loop-class-test.false [] landings c.loop-class.invariant.added)
