use Rattle.std.proofs.Common.{refl}
use Rattle.run_spec.specs.Lines.{usage_line}
use Rattle.run_soundness.proofs.LineForms.{usage_is_line}
use Rattle.typestate_core.proofs.TextLines.{one_line}
use Rattle.typestate_core.proofs.answer.misuse.Goals as goal

pub returns-clause-ok : goal.returns-clause-ok
returns-clause-ok c = record {
  status_is = refl;
  lines_are = one_line c.in_ok-text.text.items (usage_line c.args.fault) (usage_is_line c.args.fault) c.in_ok-text.ensures;
}
