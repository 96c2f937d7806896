use Rattle.std.proofs.Common.{ℕ, List, get_or, subst}
use Rattle.std.specs.List.{Contains}
use Rattle.std.proofs.lemmas.Option.{slice_get-get_or}
use Rattle.list_laws.proofs.Places.{contains_at}
use Rattle.jvm_model.specs.declared.number.ClassNo.{ClassNo}
use Rattle.ground.specs.Added.{AreAdded, OfOne}
use Rattle.ground.proofs.Adding.{added_all, added_more}
use Rattle.node_ways.specs.Parts.{LandsAt, ListedLands}
use Rattle.node_ways.proofs.landings.add_listed.Goals as goal

pub class_name-requires : goal.class_name-requires
class_name-requires c =
    let numbers = c.as_slice-class-items.result.now in
    let k = c.loop-class.class-index in
    let number : ClassNo = get_or numbers k (record { 0 = 0 }) in
    c.requires number (subst (λ (cs : List ClassNo). Contains cs number) c.as_slice-class-items.ensures (contains_at numbers k number (slice_get-get_or numbers k (record { 0 = 0 }) c.loop-class-test.true)))

pub loop-class-preserved : goal.loop-class-preserved
loop-class-preserved c =
    let p = c.args.program.now in
    let n = c.args.node.now in
    let numbers = c.as_slice-class-items.result.now in
    let k = c.loop-class.class-index in
    let number : ClassNo = get_or numbers k (record { 0 = 0 }) in
    let b = c.loop-class.landings.items in
    let new = c.add_landing.new.landings.items in
    let one = subst (λ (name : List ℕ). AreAdded (LandsAt p n name) b new) c.class_name.ensures c.in_ok-add_landing.ensures in
    record {
      added = added_more (ListedLands p n) numbers k number (slice_get-get_or numbers k (record { 0 = 0 }) c.loop-class-test.true) c.args.landings.now.items b new c.loop-class.invariant.added one;
    }

pub returns : goal.returns
returns c =
    let of = ListedLands c.args.program.now c.args.node.now in
    let numbers = c.as_slice-class-items.result.now in
    let a = c.args.landings.now.items in
    let b = c.loop-class.landings.items in
    subst (λ (cs : List ClassNo). AreAdded (OfOne of cs) a b) c.as_slice-class-items.ensures
    (added_all of numbers c.loop-class.class-index c.loop-class-test.false a b c.loop-class.invariant.added)
