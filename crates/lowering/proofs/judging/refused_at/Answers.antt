use Rattle.std.proofs.Common.{◌+◌, ◌<◌, length, arith}
use Rattle.std.proofs.lemmas.List.Elements.{All-contains, All-from_recursion}
use Rattle.jvm_model.specs.declared.code.PlacedInstruction.{PlacedInstruction}
use Rattle.jvm_model.specs.Spelling.{spell}
use Rattle.code_reader.proofs.ToldCodes.{Contains-from_slice_get}
use Rattle.flow_graph.proofs.ReadParts.{in_file}
use Rattle.lowering.proofs.judging.refused_at.Goals as goal

pub overflow_add-offset : goal.overflow_add-offset
overflow_add-offset c =
    let b = c.args.body in
    let s = c.requires.step.is in
    let limit = length (spell b.class.now) in
    let each = All-from_recursion (λ (p : PlacedInstruction). b.code.now.at + p.offset < limit) b.code.now.instructions (in_file b.class.now b.code.now c.requires.body.code) in
    let there = All-contains (λ (p : PlacedInstruction). b.code.now.at + p.offset < limit) b.code.now.instructions s.placed each (Contains-from_slice_get b.code.now.instructions s.number s.placed s.stands) in
    let same = s.offset_is in
    let size = c.requires.body.checked.size in
    omega (arith, there, same, size)
