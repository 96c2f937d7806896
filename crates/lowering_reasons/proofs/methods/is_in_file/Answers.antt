use Rattle.program_model.specs.declared.method_body.MethodBody.TheVariants.{InFile, Described}
use Rattle.lowering_reasons.proofs.Bodies.{viewed}
use Rattle.lowering_reasons.proofs.methods.is_in_file.Goals as goal

pub returns-in-InFile : goal.returns-in-InFile
returns-in-InFile c = λ m stands. viewed m.body (InFile c.in-InFile.file c.in-InFile.number) (c.in-InFile.ensures m stands)

pub returns-in-Described : goal.returns-in-Described
returns-in-Described c = λ m stands. viewed m.body (Described c.in-Described.field-0) (c.in-Described.ensures m stands)
