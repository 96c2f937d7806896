use Rattle.std.proofs.Common.{◌≡◌, ◌<◌, ◌≤◌, List, Some, length, get_or, arith, ap, subst}
use Rattle.std.specs.List.{slice_get}
use Rattle.std.proofs.lemmas.Option.{slice_get-get_or}
use Rattle.jvm_model.specs.declared.number.MethodNo.{MethodNo}
use Rattle.call_graph.specs.declared.edges.Edge.{Edge}
use Rattle.ground.specs.declared.lists.FieldWrite.{FieldWrite}
use Rattle.ground.specs.Added.{AreAdded}
use Rattle.call_graph.specs.Closing.{AreCallers, IsWriteOfOne}
use Rattle.call_graph.proofs.Closings.{closing_start, closing_more, closing_end}
use Rattle.call_graph.proofs.writes.close_writes.Goals as goal

pub loop-done-init : goal.loop-done-init
loop-done-init c = record { closing = closing_start c.args.own.keys c.args.edges.now.keys }

pub loop-done-preserved : goal.loop-done-preserved
loop-done-preserved c =
    let edges = c.args.edges.now.keys in
    let callers = c.in_ok-callers.callers.groups.items in
    let are = subst (λ (es : List Edge). AreCallers es callers) c.as_slice.ensures.keys c.in_ok-callers.ensures in
    let old = c.loop-done.writes.keys in
    let new = c.add_to_callers.new.writes.keys in
    let slice = c.as_slice-in-loop-done.result.now in
    let past : FieldWrite = record { method = record { 0 = 0 }; field = record { 0 = 0 } } in
    let w = get_or slice c.loop-done.done past in
    let long = ap (length {A = FieldWrite}) c.as_slice-in-loop-done.ensures.keys in
    let within : c.loop-done.done < length slice = omega (arith, long, c.len.ensures.len, c.loop-done-test.true) in
    let at = subst (λ (keys : List FieldWrite). slice_get keys c.loop-done.done ≡ Some w) c.as_slice-in-loop-done.ensures.keys (slice_get-get_or slice c.loop-done.done past within) in
    let added = subst (λ (ms : List MethodNo). AreAdded (IsWriteOfOne ms w.field) old new) c.get.ensures c.in_ok-add_to_callers.ensures.added in
    record { closing = closing_more c.args.own.keys edges callers are old new c.loop-done.done w c.loop-done.invariant.closing at added c.in_ok-add_to_callers.ensures.longer }

pub returns : goal.returns
returns c =
    let writes = c.loop-done.writes.keys in
    let all : length writes ≤ c.loop-done.done = omega (arith, c.len.ensures.len, c.loop-done-test.false) in
    closing_end c.args.own.keys c.args.edges.now.keys writes c.loop-done.done c.loop-done.invariant.closing all
