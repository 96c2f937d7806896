-- Public contracts rest on this module.
-- An instruction as the code of this crate judges it, and what it names where nothing is wrong with it.
use Rattle.std.specs.Prelude.{◌≡◌, false, Option, Some, None, Ok}
use Rattle.jvm_model.specs.declared.number.MethodNo.{MethodNo}
use Rattle.jvm_model.specs.RowViews.{action_view, operands_view}
use Rattle.jvm_model.specs.Table.{is_call, is_field_access, Action, invoke_virtual, invoke_special, invoke_static, invoke_interface}
use Rattle.program_model.specs.Numbers.{name_at}
use Rattle.lowering_reasons.specs.Reasons.{Judged, LooksUpField, LooksUpMethod, HasTarget}
use Rattle.lowering_reasons.specs.declared.judgement.JudgedInstruction.{JudgedInstruction}
use Rattle.lowering_reasons.specs.declared.judgement.NamedMember.{NamedMember}
use Rattle.lowering_reasons.specs.declared.judgement.NamedMember.TheVariants.{NoMember, Field, Method}

-- The instruction, as definitions see it.
abbrev pub judged : JudgedInstruction → Judged
judged i = record {
  program = i.program.now;
  current = name_at i.program.now i.current.0;
  pool = i.pool.now;
  action = action_view i.action;
  operands = operands_view i.operands;
  operand = i.operand;
}

-- The target that is known beforehand: a special or a static call has one, and no other call has.
abbrev pub IsKnownTarget : Judged → Action → Option MethodNo → Type 0
IsKnownTarget j invoke_special (Some target) = HasTarget j target.0
IsKnownTarget j invoke_static (Some target) = HasTarget j target.0
IsKnownTarget j invoke_virtual None = Unit {0}
IsKnownTarget j invoke_interface None = Unit {0}
IsKnownTarget j _ _ = ⊥

-- The member that the instruction names: the field that it reads or writes; or the method that its reference resolves to, with the
-- target that is known beforehand.
abbrev pub IsNamedMember : Judged → NamedMember → Type 0
IsNamedMember j NoMember = (is_call j.action ≡ false) × (is_field_access j.action ≡ false)
IsNamedMember j (Field field) = LooksUpField j (Ok field.0)
IsNamedMember j (Method resolved target) = LooksUpMethod j (Ok resolved.0) × IsKnownTarget j j.action target
