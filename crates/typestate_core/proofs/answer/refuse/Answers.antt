use Rattle.std.proofs.Common.{refl}
use Rattle.run_spec.specs.Lines.{refused_line}
use Rattle.run_soundness.proofs.LineForms.{refused_is_line}
use Rattle.typestate_core.proofs.TextLines.{one_line}
use Rattle.typestate_core.proofs.answer.refuse.Goals as goal

pub returns-clause-ok : goal.returns-clause-ok
returns-clause-ok c = record {
  status_is = refl;
  lines_are = one_line c.in_ok-text.text.items (refused_line c.args.file.now c.args.offset c.args.reason) (refused_is_line c.args.file.now c.args.offset c.args.reason) c.in_ok-text.ensures;
}
