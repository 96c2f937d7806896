-- What the methods of a folder are given as is what a run asks for.
use Rattle.std.proofs.Common.{◌≡◌, ℕ, Result, Ok, sym, subst}
use Rattle.jvm_model.specs.declared.class_file.ClassFile.{ClassFile}
use Rattle.jvm_model.specs.declared.code.Code.{Code}
use Rattle.jvm_model.specs.declared.reason.Refusal.{Refusal}
use Rattle.jvm_model.specs.LinkedPrograms.{IsProgram}
use Rattle.jvm_model.specs.Programs.{Method, Program}
use Rattle.flow_graph.specs.declared.steps.Graph.{Graph}
use Rattle.op_model.specs.declared.lowered.LoweredMethod.{LoweredMethod}
use Rattle.op_model.specs.Supplies.{Given, IsMapOf}
use Rattle.lowering.specs.Refusals.{IsAccepted}
use Rattle.lowering_supply.specs.Supplied.{IsSupplied, IsSupplyOutcome, bad_code, bad_flow, lowered, not_lowered}
use Rattle.machine_bytecode.specs.Objects.{Subject}
use Rattle.simulation.specs.Simulation.{HasEntry, HasExceptions, IsRun}

abbrev answer : LoweredMethod → Result LoweredMethod Refusal
answer l = Ok l

same_answer : (a b : LoweredMethod) → answer a ≡ answer b → a ≡ b
same_answer a b e = cc e

accepted : (p : Program) (number : ℕ) (m : Method) (file : ClassFile) (place : ℕ) (l : LoweredMethod) → IsSupplyOutcome p number m file place (Ok l) → (code : Code) × (graph : Graph) × IsAccepted p number code graph l
accepted p number m file place l (bad_code fault read r for e) = absurd cc
accepted p number m file place l (bad_flow code read offset reason is r for e) = absurd cc
accepted p number m file place l (not_lowered code read graph is r refused e) = absurd cc
accepted p number m file place l (lowered code read graph is k by order e) = (code, graph, subst (IsAccepted p number code graph) (sym (same_answer l k e)) by)

pub supplied_runs : (x : Subject) (given : Given) → IsProgram x.program → HasExceptions x.program → HasEntry x → IsMapOf given (IsSupplied x.program) → IsRun x given
supplied_runs x given program exceptions entry map = record {
  program = program;
  exceptions = exceptions;
  entry = entry;
  nodes = record {
    each = λ number l is.
        let s = (map.entries number (Ok l)).0 is in
        accepted x.program number s.coded.method s.coded.file s.coded.place l s.outcome;
  };
}
