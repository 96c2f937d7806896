use Rattle.std.proofs.Common.{◌∙◌, sym, ◌<◌, length, arith}
use Rattle.program_index.proofs.Placing.{superclass_in, no_superclass_in, direct_in, interfaces_more, interface_among}
use Rattle.program_index.proofs.order.first_missing.Goals as goal
use Rattle.program_index.proofs.order.first_missing.Goals.{in-Some+else-not-contains, in_default}

pub loop-place-init : goal.loop-place-init
loop-place-init c = record {
  super_class =
      elim c.match-parents.branch [
        | in-Some+else-not-contains w ↦ superclass_in c.args.order.now.items c.args.parents.now.super_class w.in-Some.class w.in-Some.is
            (sym w.contains.ensures ∙ w.if-not-contains.false)
        | in_default w ↦ no_superclass_in c.args.order.now.items c.args.parents.now.super_class w.in_default.is
      ];
  interfaces = c.requires.before;
}

pub returns-then-not-contains-2-clause-some : goal.returns-then-not-contains-2-clause-some
returns-then-not-contains-2-clause-some c =
    let l : c.loop-place.place < length c.args.parents.now.interfaces.items = omega (arith, c.len-place-end.ensures) in
    record {
      among = interface_among c.args.parents.now c.loop-place.place c.index-class.result.now l c.index-class.ensures;
      missing = sym c.contains-in-loop-place.ensures ∙ c.if-not-contains-2.true;
      before = c.loop-place.invariant.interfaces;
    }

pub loop-place-preserved : goal.loop-place-preserved
loop-place-preserved c =
    let l : c.loop-place.place < length c.args.parents.now.interfaces.items = omega (arith, c.len-place-end.ensures) in
    record {
      super_class = c.loop-place.invariant.super_class;
      interfaces = interfaces_more c.args.order.now.items c.args.parents.now.interfaces.items c.loop-place.place c.index-class.result.now l c.index-class.ensures
          (sym c.contains-in-loop-place.ensures ∙ c.if-not-contains-2.false) c.loop-place.invariant.interfaces;
    }

pub returns-clause-none : goal.returns-clause-none
returns-clause-none c =
    direct_in c.args.order.now.items c.args.parents.now c.loop-place.place (omega (arith, c.len-place-end.ensures)) c.loop-place.invariant.super_class
    c.loop-place.invariant.interfaces
