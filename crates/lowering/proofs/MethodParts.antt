-- The method that is lowered, and its judged instructions, by names that the laws of other crates use.
use Rattle.lowering.specs.declared.body.JudgedStep.{JudgedStep}
use Rattle.lowering.specs.declared.body.MethodCode.{MethodCode}

abbrev pub LoweredCode : Type 0
LoweredCode = MethodCode

abbrev pub LoweredStep : Type 0
LoweredStep = JudgedStep
