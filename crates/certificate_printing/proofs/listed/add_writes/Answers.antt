use Rattle.std.proofs.Common.{◌∙◌, ap, sym}
use Rattle.std.proofs.lemmas.Option.{get_or_from_slice_get}
use Rattle.list_laws.proofs.Places.{stands_below}
use Rattle.ground.specs.declared.lists.FieldWrite.{FieldWrite}
use Rattle.ground.proofs.Adding.{added_all, added_more}
use Rattle.certificate_lines.specs.declared.line.Line.TheVariants as lines
use Rattle.certificate_printing.specs.Collected.{IsWriteLine}
use Rattle.certificate_printing.proofs.Collecting.{added_one}
use Rattle.certificate_printing.proofs.listed.add_writes.Goals as goal

pub loop-write-preserved : goal.loop-write-preserved
loop-write-preserved c =
    let xs = c.args.writes.now in
    let k = c.loop-write.write-index in
    let (x, at) = stands_below xs k c.loop-write-test.true in
    let is = ap (λ (w : FieldWrite). lines.Modifies w.method w.field) (get_or_from_slice_get xs k x _ at) in
    let old = c.loop-write.lines.items in
    let new = c.add_line.new.lines.items in
    let one = added_one (IsWriteLine x) _ old new c.in_ok-add_line.ensures is (λ line same. is ∙ sym same) in
    record { added = added_more IsWriteLine xs k x at c.args.lines.now.items old new c.loop-write.invariant.added one }

pub returns : goal.returns
returns c =
    added_all IsWriteLine c.args.writes.now c.loop-write.write-index c.loop-write-test.false c.args.lines.now.items c.loop-write.lines.items c.loop-write.invariant.added
