-- What an instruction names, and what the look-up of its member gives, is known: the only one, or that there is none.
use Rattle.std.proofs.Common.{◌≡◌, ℕ, Bool, List, Option, Some, None, Result, Ok, refl, sym, ap, ◌∙◌}
use Rattle.std.specs.Prelude.{option_and_then}
use Rattle.std.proofs.lemmas.Option.{none-some}
use Rattle.jvm_model.specs.declared.reason.Reason.{Reason}
use Rattle.jvm_model.specs.Instructions.{member_at}
use Rattle.jvm_model.specs.LinkedPrograms.{IsProgram}
use Rattle.jvm_model.specs.Lookups.{MemberReference, entry_at}
use Rattle.jvm_model.specs.Programs.{Class, Program}
use Rattle.jvm_model.specs.Subtypes.{class_named}
use Rattle.jvm_model.specs.Table.{is_pool_index, is_call, is_field_access}
use Rattle.lowering_reasons.specs.Looked.{IsOnly, reference_kind}
use Rattle.lowering_reasons.specs.Reasons.{Judged, Names, Calls, Accesses, class_in, wants_static, IsByInterface, LooksUpField, LooksUpMethod}
use Rattle.lowering_reasons.proofs.Only.{only_same, none_such, only_none}
use Rattle.lowering_reasons.proofs.Resolutions.{field_looked, method_looked, only_kind}
use Rattle.program_laws.proofs.Classes.{name_is}
use Rattle.program_laws.proofs.FieldSearches.{field_outcome}
use Rattle.program_laws.proofs.Resolving.{method_outcome}
use Rattle.lowering_laws.proofs.Only.{Known, known_under, known_number}

pub named_class : (j : Judged) → Known (Names j)
named_class j = known_under (is_pool_index j.operands) (option_and_then (class_in j.pool) (entry_at j.pool j.operand))

pub called : (j : Judged) → Known (Calls j)
called j = known_under (is_call j.action) (member_at j.pool j.operand)

pub accessed : (j : Judged) → Known (Accesses j)
accessed j = known_under (is_field_access j.action) (member_at j.pool j.operand)

-- ---- fields

named_itself : (p : Program) (name : List ℕ) (c : Class) → class_named p name ≡ Some c → class_named p c.name ≡ Some c
named_itself p name c named = ap (class_named p) (name_is p name c named) ∙ named

pub field_looked_up : (j : Judged) → IsProgram j.program → Known (LooksUpField j)
field_looked_up j program = by (accessed j)
  where
    at : (f : MemberReference) → IsOnly (Accesses j) (Some f) → (o : Option Class) → class_named j.program f.class ≡ o → Known (LooksUpField j)
    at f only None e = (
      None,
      only_none (λ (outcome : Result ℕ Reason). LooksUpField j outcome) (λ outcome l.
          none-some l.class (sym e ∙ ap (λ (m : MemberReference). class_named j.program m.class) (only_same (Accesses j) f l.field only l.accesses) ∙ l.named)),
    )
    at f only (Some c) e =
        let is = field_outcome j.program c f.signature (wants_static j.action) program (named_itself j.program f.class c e) in
        (Some is.0, field_looked j f c is.0 program only e is.1)

    by : Known (Accesses j) → Known (LooksUpField j)
    by (None, only) = (None, only_none (λ (outcome : Result ℕ Reason). LooksUpField j outcome) (λ outcome l. none_such (Accesses j) only l.field l.accesses))
    by (Some f, only) = at f only (class_named j.program f.class) refl

-- ---- methods

pub method_looked_up : (j : Judged) → IsProgram j.program → Known (LooksUpMethod j)
method_looked_up j program = by (called j) (option_and_then reference_kind (entry_at j.pool j.operand)) (only_kind j.pool j.operand (option_and_then reference_kind (entry_at j.pool j.operand)) refl)
  where
    at : (m : MemberReference) → IsOnly (Calls j) (Some m) → (b : Bool) → IsOnly (IsByInterface j.pool j.operand) (Some b) → (o : Option Class) → class_named j.program m.class ≡ o
        → Known (LooksUpMethod j)
    at m only b kind None e = (
      None,
      only_none (λ (outcome : Result ℕ Reason). LooksUpMethod j outcome) (λ outcome l.
          none-some l.class (sym e ∙ ap (λ (x : MemberReference). class_named j.program x.class) (only_same (Calls j) m l.method only l.calls) ∙ l.named)),
    )
    at m only b kind (Some c) e =
        let is = method_outcome j.program c b m.signature program in
        (Some is.0, method_looked j m c b is.0 program only e kind is.1)

    by : Known (Calls j) → (k : Option Bool) → IsOnly (IsByInterface j.pool j.operand) k → Known (LooksUpMethod j)
    by (None, only) k kind = (None, only_none (λ (outcome : Result ℕ Reason). LooksUpMethod j outcome) (λ outcome l. none_such (Calls j) only l.method l.calls))
    by (Some m, only) None kind =
        (None, only_none (λ (outcome : Result ℕ Reason). LooksUpMethod j outcome) (λ outcome l. none_such (IsByInterface j.pool j.operand) kind l.by_interface l.kind))
    by (Some m, only) (Some b) kind = at m only b kind (class_named j.program m.class) refl

-- the method that the reference resolves to
pub resolved : (j : Judged) → IsProgram j.program → Known (λ (n : ℕ). LooksUpMethod j (Ok n))
resolved j program = known_number (LooksUpMethod j) (method_looked_up j program)
