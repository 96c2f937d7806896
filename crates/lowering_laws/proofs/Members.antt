-- The member that an instruction without a reason names: a field, or the methods of a call.
use Rattle.std.proofs.Common.{◌≡◌, ℕ, Bool, true, false, Option, Some, None, Result, Ok, Err, refl, ap, ◌∙◌}
use Rattle.jvm_model.specs.declared.number.MethodNo.{MethodNo}
use Rattle.jvm_model.specs.declared.reason.Reason.{Reason}
use Rattle.jvm_model.specs.LinkedPrograms.{IsProgram}
use Rattle.jvm_model.specs.Lookups.{MemberReference}
use Rattle.jvm_model.specs.Programs.{Class}
use Rattle.jvm_model.specs.Subtypes.{class_named}
use Rattle.jvm_model.specs.Table.{is_call, is_field_access}
use Rattle.lowering_reasons.specs.declared.judgement.NamedMember.{NamedMember}
use Rattle.lowering_reasons.specs.declared.judgement.NamedMember.TheVariants as members
use Rattle.lowering_reasons.specs.Judgements.{IsKnownTarget, IsNamedMember}
use Rattle.lowering_reasons.specs.Named.{NamesMember}
use Rattle.lowering_reasons.specs.Reasons.{Judged, Accesses, Calls, HasTarget, IsByInterface, IsFirstReason, LooksUpField, LooksUpMethod, wants_static}
use Rattle.lowering_reasons.proofs.FreeInstructions.{access_there, call_there, free, known, no_failed_field, no_failed_method}
use Rattle.lowering_reasons.proofs.Only.{none_such, only_here}
use Rattle.lowering_laws.proofs.Looking.{field_looked_up, method_looked_up}
use Rattle.lowering_laws.proofs.Matching.{target}
use Rattle.lowering_laws.proofs.Only.{Known}
use Rattle.program_laws.proofs.Classes.{name_is}
use Rattle.program_laws.proofs.FieldSearches.{field_outcome}
use Rattle.program_laws.proofs.Resolving.{method_outcome}

module _ (j : Judged) (program : IsProgram j.program) (first : IsFirstReason j None) (named : NamesMember j) where
  pub field_there : is_field_access j.action ≡ true → (n : ℕ) × LooksUpField j (Ok n)
  field_there access = by (field_looked_up j program)
    where
      some_there : (none : (outcome : Result ℕ Reason) → LooksUpField j outcome → ⊥) (m : MemberReference) (c : Class) → Accesses j m → class_named j.program m.class ≡ Some c → ⊥
      some_there none m c accesses is =
          let outcome = field_outcome j.program c m.signature (wants_static j.action) program (ap (class_named j.program) (name_is j.program m.class c is) ∙ is) in
          none outcome.0 (record { field = m; accesses = accesses; class = c; named = is; is = outcome.1 })

      by : Known (LooksUpField j) → (n : ℕ) × LooksUpField j (Ok n)
      by (Some (Ok n), only) = (n, only_here (LooksUpField j) (Ok n) only)
      by (Some (Err r), only) = absurd (no_failed_field j r (free j first) (only_here (LooksUpField j) (Err r) only))
      by (None, only) = absurd (access_there j (free j first) access (named.access access) (some_there (none_such (LooksUpField j) only)))

  pub method_there : is_call j.action ≡ true → (n : ℕ) × LooksUpMethod j (Ok n)
  method_there call = by (method_looked_up j program)
    where
      some_there : (none : (outcome : Result ℕ Reason) → LooksUpMethod j outcome → ⊥) (m : MemberReference) (b : Bool) (c : Class) → Calls j m → IsByInterface j.pool j.operand b → class_named j.program m.class ≡ Some c → ⊥
      some_there none m b c calls kind is =
          let outcome = method_outcome j.program c b m.signature program in
          none outcome.0 (record { method = m; calls = calls; class = c; named = is; by_interface = b; kind = kind; is = outcome.1 })

      by : Known (LooksUpMethod j) → (n : ℕ) × LooksUpMethod j (Ok n)
      by (Some (Ok n), only) = (n, only_here (LooksUpMethod j) (Ok n) only)
      by (Some (Err r), only) = absurd (no_failed_method j r (free j first) (only_here (LooksUpMethod j) (Err r) only))
      by (None, only) = absurd (call_there j (free j first) call (named.call call) (some_there (none_such (LooksUpMethod j) only)))

  -- the target that is known beforehand
  pub target_there : (n : ℕ) → is_call j.action ≡ true → LooksUpMethod j (Ok n) → (t : Option MethodNo) × IsKnownTarget j j.action t
  target_there n call looked = by (target j program)
    where
      by : Known (HasTarget j) → (t : Option MethodNo) × IsKnownTarget j j.action t
      by (Some t, only) = let m : Option MethodNo = Some (record { 0 = t }) in (m, known j j.action n m refl call (free j first) looked only)
      by (None, only) = (None, known j j.action n None refl call (free j first) looked only)

  -- the member, if the instruction names one
  pub member_there : (m : NamedMember) × IsNamedMember j m
  member_there = by (is_call j.action) refl (is_field_access j.action) refl
    where
      by : (b : Bool) → is_call j.action ≡ b → (d : Bool) → is_field_access j.action ≡ d → (m : NamedMember) × IsNamedMember j m
      by true call d other =
          let looked = method_there call in
          let t = target_there looked.0 call looked.1 in
          (members.Method (record { 0 = looked.0 }) t.0, (looked.1, t.1))
      by false no_call true access = let looked = field_there access in (members.Field (record { 0 = looked.0 }), looked.1)
      by false no_call false no_access = (members.NoMember, (no_call, no_access))
