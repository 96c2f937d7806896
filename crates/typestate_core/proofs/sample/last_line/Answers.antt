use Rattle.std.proofs.Common.{◌∙◌, inr, sym}
use Rattle.typestate_core.proofs.LastLines.{some_there, text_last, text_left}
use Rattle.typestate_core.proofs.sample.last_line.Goals as goal

pub returns-then-is_empty : goal.returns-then-is_empty
returns-then-is_empty c =
    text_last c.args.text.now c.loop-line.rest.now c.split_at.result.1.now c.line_end.result c.loop-line.invariant.left c.line_end.ensures.first
    c.split_at.ensures.back (sym c.is_empty-in-loop-line.ensures ∙ c.if-is_empty.true)

pub loop-line-preserved : goal.loop-line-preserved
loop-line-preserved c =
    let others = c.split_at.result.1.now in record {
      left = text_left c.args.text.now c.loop-line.rest.now others c.line_end.result c.loop-line.invariant.left c.line_end.ensures.first c.split_at.ensures.back;
      some = inr (some_there others (sym c.is_empty-in-loop-line.ensures ∙ c.if-is_empty.false));
    }
