use Rattle.program_laws.proofs.Decided.{subtype_or_not}
use Rattle.machine_laws.proofs.Calls.{enters_target, answers, fails}
use Rattle.machine_laws.proofs.node_progress.calls_go_on.Goals as goal

pub returns : goal.returns
returns c = record {
  enters = λ x given s at inside call is to. enters_target x (subtype_or_not x.program) given s (record { at = at; number = inside.0; in_method = inside.1; call = call; is_call = is; to = to });
  gives = λ x given s at inside call is to. answers x (subtype_or_not x.program) given s (record { at = at; number = inside.0; in_method = inside.1; call = call; is_call = is; to = to });
  throws = λ x given s at inside call is to. fails x (subtype_or_not x.program) given s (record { at = at; number = inside.0; in_method = inside.1; call = call; is_call = is; to = to });
}
