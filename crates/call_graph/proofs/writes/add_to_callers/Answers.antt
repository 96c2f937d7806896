use Rattle.std.proofs.Common.{get_or}
use Rattle.std.proofs.lemmas.Option.{slice_get-get_or}
use Rattle.jvm_model.specs.declared.number.MethodNo.{MethodNo}
use Rattle.slot_names.proofs.ListPlaces.{Extends-both}
use Rattle.ground.specs.declared.lists.FieldWrite.{FieldWrite}
use Rattle.ground.proofs.Adding.{added_all, added_more}
use Rattle.call_graph.proofs.Closings.{IsWriteBy, callers_added}
use Rattle.ground.proofs.ExactKeys.{same_writes, tells_writes}
use Rattle.ground.proofs.KeySets.{inserted_adds, inserted_longer}
use Rattle.call_graph.proofs.writes.add_to_callers.Goals as goal

pub loop-caller-preserved : goal.loop-caller-preserved
loop-caller-preserved c =
    let callers = c.args.callers.now in
    let k = c.loop-caller.caller-index in
    let past : MethodNo = record { 0 = 0 } in
    let caller = get_or callers k past in
    let w : FieldWrite = record { method = caller; field = c.args.field } in
    let a = c.args.writes.now.keys in
    let b = c.loop-caller.writes.keys in
    let new = c.insert.new.self.keys in
    record {
      added = added_more (IsWriteBy c.args.field) callers k caller (slice_get-get_or callers k past c.loop-caller-test.true) a b new c.loop-caller.invariant.added
          (inserted_adds same_writes tells_writes b new w c.in_ok-insert.ensures.keys);
      longer = Extends-both a b new c.loop-caller.invariant.longer (inserted_longer same_writes tells_writes b new w c.in_ok-insert.ensures.keys);
    }

pub returns-clause-added : goal.returns-clause-added
returns-clause-added c =
    let a = c.args.writes.now.keys in
    let b = c.loop-caller.writes.keys in
    callers_added c.args.callers.now c.args.field a b
    (added_all (IsWriteBy c.args.field) c.args.callers.now c.loop-caller.caller-index c.loop-caller-test.false a b c.loop-caller.invariant.added)
