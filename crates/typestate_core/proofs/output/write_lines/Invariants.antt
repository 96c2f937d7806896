use Rattle.std.proofs.Common.{◌≡◌, length}
use Rattle.typestate_core.specs.Output.{Hands, lines_in}
use Rattle.typestate_core.proofs.Written.{Written}
use Rattle.typestate_core.proofs.output.write_lines.Given as goal

abbrev pub invariant-loop-rest : goal.invariant-loop-rest
invariant-loop-rest g l = record {
  written : Written (g.S.Sink.taken l.initial.out) (g.S.Sink.taken l.out) l.text l.rest;
  handed : Hands (g.S.Sink.handed l.initial.out) (g.S.Sink.handed l.out) (lines_in l.text) (lines_in l.rest);
  no_fault : g.S.Sink.faults l.out ≡ g.S.Sink.faults l.initial.out;
}

abbrev pub decreases-loop-rest : goal.decreases-loop-rest
decreases-loop-rest g l = length l.rest
