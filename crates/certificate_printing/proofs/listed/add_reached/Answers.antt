use Rattle.std.proofs.Common.{◌∙◌, ap, sym}
use Rattle.std.proofs.lemmas.Option.{get_or_from_slice_get}
use Rattle.list_laws.proofs.Places.{stands_below}
use Rattle.ground.proofs.Adding.{added_all, added_more}
use Rattle.certificate_lines.specs.declared.line.Line.TheVariants as lines
use Rattle.certificate_printing.specs.Collected.{IsReachedLine}
use Rattle.certificate_printing.proofs.Collecting.{added_one}
use Rattle.certificate_printing.proofs.listed.add_reached.Goals as goal

pub loop-method-preserved : goal.loop-method-preserved
loop-method-preserved c =
    let xs = c.args.methods.now in
    let k = c.loop-method.method-index in
    let (x, at) = stands_below xs k c.loop-method-test.true in
    let is = ap lines.Reached (get_or_from_slice_get xs k x _ at) in
    let old = c.loop-method.lines.items in
    let new = c.add_line.new.lines.items in
    let one = added_one (IsReachedLine x) _ old new c.in_ok-add_line.ensures is (λ line same. is ∙ sym same) in
    record { added = added_more IsReachedLine xs k x at c.args.lines.now.items old new c.loop-method.invariant.added one }

pub returns : goal.returns
returns c =
    added_all IsReachedLine c.args.methods.now c.loop-method.method-index c.loop-method-test.false c.args.lines.now.items c.loop-method.lines.items c.loop-method.invariant.added
