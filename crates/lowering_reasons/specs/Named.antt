-- Public contracts rest on this module.
-- What an instruction of checked code has: a call names a method by its index into the constant pool, and an access to a field names a
-- member (JVMS 4.9.1).
use Rattle.std.specs.Prelude.{◌≡◌, Bool, Some, IfSome, IsTrue}
use Rattle.jvm_model.specs.declared.number.MethodNo.{MethodNo}
use Rattle.jvm_model.specs.Instructions.{member_at}
use Rattle.jvm_model.specs.Lookups.{MemberReference}
use Rattle.jvm_model.specs.Programs.{Program}
use Rattle.jvm_model.specs.Table.{is_call, is_field_access, is_pool_index}
use Rattle.program_model.specs.Numbers.{IsFieldNumber, IsMethodNumber}
use Rattle.lowering_reasons.specs.Reasons.{Judged, IsByInterface}
use Rattle.lowering_reasons.specs.declared.judgement.NamedMember.{NamedMember}
use Rattle.lowering_reasons.specs.declared.judgement.NamedMember.TheVariants.{NoMember, Field, Method}

-- The index leads to a reference to a method.
pub record LeadsToMethod (j : Judged) : Type 0 where
  pub index : IsTrue (is_pool_index j.operands)
  pub method : MemberReference
  pub named : member_at j.pool j.operand ≡ Some method
  pub by_interface : Bool
  pub kind : IsByInterface j.pool j.operand by_interface

-- It leads to a reference to a member.
pub record LeadsToMember (j : Judged) : Type 0 where
  pub index : IsTrue (is_pool_index j.operands)
  pub member : MemberReference
  pub named : member_at j.pool j.operand ≡ Some member

pub record NamesMember (j : Judged) : Type 0 where
  pub call : IsTrue (is_call j.action) → LeadsToMethod j
  pub access : IsTrue (is_field_access j.action) → LeadsToMember j

-- The numbers in a member that is named are those of a field, or of methods, of the program.
abbrev pub HasNumbers : Program → NamedMember → Type 0
HasNumbers p NoMember = Unit {0}
HasNumbers p (Field field) = IsFieldNumber p field.0
HasNumbers p (Method resolved target) = IsMethodNumber p resolved.0 × IfSome target (λ (m : MethodNo). IsMethodNumber p m.0)
