use Rattle.std.proofs.Common.{List, None, Some, sym, ◌∙◌, subst, arith}
use Rattle.jvm_model.specs.declared.pool.PoolEntry.{PoolEntry}
use Rattle.program_model.specs.Numbers.{name_at}
use Rattle.lowering_reasons.specs.Named.{NamesMember}
use Rattle.lowering_reasons.specs.Judgements.{IsNamedMember}
use Rattle.lowering_reasons.specs.Reasons.{IsFirstReason}
use Rattle.std.proofs.lemmas.Option.{none-some}
use Rattle.std.proofs.lemmas.Result.{err_from_is_err_and}
use Rattle.jvm_model.specs.RowViews.{row_view}
use Rattle.lowering.proofs.CodeFacts.{sound_instruction, operand_below}
use Rattle.lowering.proofs.Judged.{first_at, judged_with}
use Rattle.lowering.proofs.NamedMembers.{names_member}
use Rattle.lowering.proofs.judging.judge_step.Goals as goal

pub unreachable-requires : goal.unreachable-requires
unreachable-requires c =
    let s = sound_instruction c.args.body c.requires.body c.instruction_of-placed.result.now c.instruction_of-placed.ensures.there in
    none-some s.row (c.in_default.ensures ∙ s.of_opcode)

pub overflow_cast-placed : goal.overflow_cast-placed
overflow_cast-placed c =
    let l = operand_below c.args.body c.requires.body c.instruction_of-placed.result.now c.instruction_of-placed.ensures.there in
    omega (arith, l)

pub returns-in_err-member-clause-refused : goal.returns-in_err-member-clause-refused
returns-in_err-member-clause-refused c =
    let p = err_from_is_err_and c.from_residual.result c.from_residual.ensures.1 in
    rw (p.1, p.2) (first_at c.args.body c.requires.body c.args.step.now c.as_slice.result.now c.instruction_of-placed.result.now (row_view c.in-Some.row.now) (Some c.in_err-member.field-0.0) c.as_slice.ensures
    c.instruction_of-placed.ensures.there c.instruction_of-placed.ensures.offset (sym c.in-Some.ensures) c.in_err-member.ensures.refused)

pub returns-clause-judged : goal.returns-clause-judged
returns-clause-judged c = record {
  stands = c.instruction_of-placed.ensures.there;
  offset = c.instruction_of-placed.ensures.offset;
  of_opcode = sym c.in-Some.ensures;
  free = subst (λ (pool : List PoolEntry). IsFirstReason (judged_with c.args.body pool c.instruction_of-placed.result.now (row_view c.in-Some.row.now)) None) c.as_slice.ensures c.in_ok-member.ensures.free;
  member = subst (λ (pool : List PoolEntry). NamesMember (judged_with c.args.body pool c.instruction_of-placed.result.now (row_view c.in-Some.row.now))
      → IsNamedMember (judged_with c.args.body pool c.instruction_of-placed.result.now (row_view c.in-Some.row.now)) c.in_ok-member.member) c.as_slice.ensures c.in_ok-member.ensures.member
      (names_member c.args.body.program.now (name_at c.args.body.program.now c.args.body.current.0) c.args.body.class.now c.instruction_of-placed.result.now.instruction (row_view c.in-Some.row.now)
      (sound_instruction c.args.body c.requires.body c.instruction_of-placed.result.now c.instruction_of-placed.ensures.there) (sym c.in-Some.ensures));
}
