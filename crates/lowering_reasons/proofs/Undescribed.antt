-- What no stub describes, in parts.
use Rattle.std.proofs.Common.{Bool, Err}
use Rattle.std.specs.Prelude.{◌↔◌, IsTrue}
use Rattle.jvm_model.specs.declared.reason.Reason.TheVariants as reasons
use Rattle.jvm_model.specs.Lookups.{MemberReference}
use Rattle.jvm_model.specs.Soundness.{is_array}
use Rattle.lowering_reasons.specs.Looked.{HasSuch}
use Rattle.lowering_reasons.specs.Reasons.{Judged, Accesses, Calls, Names, HasTarget, IsNotThere, LacksStub, of_class, of_array_field, of_array_method, of_field, of_method, of_target, LooksUpField, LooksUpMethod}
use Rattle.jvm_model.specs.Programs.{IsUndescribed}

-- The class of the member that is named is an array.
abbrev pub NamesArray : (MemberReference → Type 0) → Type 0
NamesArray P = HasSuch P (λ (m : MemberReference). IsTrue (is_array m.class))

-- the last of the six
pub stub_last : (j : Judged) (b : Bool) → (HasSuch (Names j) (IsNotThere j.program) → ⊥) → (NamesArray (Accesses j) → ⊥) → (NamesArray (Calls j) → ⊥)
    → (LooksUpField j (Err reasons.NoStub) → ⊥) → (LooksUpMethod j (Err reasons.NoStub) → ⊥) → (IsTrue b ↔ HasSuch (HasTarget j) (IsUndescribed j.program))
    → IsTrue b ↔ LacksStub j
stub_last j b there no_field_array no_method_array field method test = (λ passed. let such = test.0 passed in of_target such.one such.first such.second, by)
  where
    by : LacksStub j → IsTrue b
    by (of_class class names missing) = absurd (there (record { one = class; first = names; second = missing }))
    by (of_array_field m accesses array) = absurd (no_field_array (record { one = m; first = accesses; second = array }))
    by (of_array_method m calls array) = absurd (no_method_array (record { one = m; first = calls; second = array }))
    by (of_field l) = absurd (field l)
    by (of_method l) = absurd (method l)
    by (of_target target has undescribed) = test.1 (record { one = target; first = has; second = undescribed })
