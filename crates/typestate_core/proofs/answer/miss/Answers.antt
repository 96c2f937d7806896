use Rattle.std.proofs.Common.{refl}
use Rattle.run_spec.specs.Lines.{missing_line}
use Rattle.run_soundness.proofs.LineForms.{missing_is_line}
use Rattle.typestate_core.proofs.TextLines.{one_line}
use Rattle.typestate_core.proofs.answer.miss.Goals as goal

pub returns-clause-ok : goal.returns-clause-ok
returns-clause-ok c = record {
  status_is = refl;
  lines_are = one_line c.in_ok-text.text.items (missing_line c.args.name.now) (missing_is_line c.args.name.now) c.in_ok-text.ensures;
}
