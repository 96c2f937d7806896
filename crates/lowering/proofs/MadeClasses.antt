-- The class of which an instruction makes an object: it is in the program, where the instruction has no reason.
use Rattle.std.proofs.Common.{◌≡◌, inl, inr, ℕ, zero, suc, Bool, true, false, not, ◌||◌, List, [], ◌∷◌, Option, Some, None, refl, sym, ap, ◌∙◌, subst}
use Rattle.std.specs.List.{list_all, slice_get}
use Rattle.std.specs.Option.{option_and_then, option_map_or}
use Rattle.std.specs.Prelude.{IfSome, IfNone}
use Rattle.std.proofs.lemmas.Bool.{and_parts, false≢true}
use Rattle.std.proofs.lemmas.Option.{same_Some, none-some}
use Rattle.jvm_model.specs.declared.class_file.ClassFile.{ClassFile}
use Rattle.jvm_model.specs.declared.code.Instruction.{Instruction as Given}
use Rattle.jvm_model.specs.declared.number.ClassNo.{ClassNo}
use Rattle.jvm_model.specs.declared.pool.EntryKind.TheVariants as kinds
use Rattle.jvm_model.specs.declared.pool.PoolEntry.{PoolEntry}
use Rattle.jvm_model.specs.declared.pool.PoolEntry.TheVariants.{Class}
use Rattle.jvm_model.specs.declared.reason.Reason.{Reason}
use Rattle.jvm_model.specs.declared.reason.Reason.TheVariants as reasons
use Rattle.jvm_model.specs.InstructionUses.{has_shape, leads_there, leads_right, pool_target}
use Rattle.jvm_model.specs.Lookups.{class_index_in, class_name_at, entry_at, text_at}
use Rattle.jvm_model.specs.RowViews.{row_view}
use Rattle.jvm_model.specs.Soundness.{is_array, leads_to}
use Rattle.jvm_model.specs.Subtypes.{class_named}
use Rattle.jvm_model.specs.Table.{Action, make_object, Operands, pool_2, no_array, is_pool_index, is_trigger, Row, row_of, rows}
use Rattle.jvm_model.proofs.SoundUses.{class_there}
use Rattle.flow_graph.specs.declared.steps.GraphStep.{GraphStep}
use Rattle.flow_graph.specs.Effects.{with_row}
use Rattle.flow_graph.specs.Reading.{IsSoundInstruction}
use Rattle.program_model.specs.Numbers.{name_at, IsClassNumber}
use Rattle.hierarchy.proofs.ClassPlaces.{not_named}
use Rattle.machine_bytecode.specs.Machine.{of_class}
use Rattle.lowering_reasons.specs.Reasons.{Judged, class_in, HasReason, no_stub, IsFirstOf, reason_order, Names, of_class as lacks_class, a_class as no_class}
use Rattle.lowering.specs.Bodies.{IsJudgedStep, IsMadeClass, made, no_name, not_there, IsMethodCode, judged_step, TriggersAt, a_class}
use Rattle.lowering.specs.declared.body.JudgedStep.{JudgedStep}
use Rattle.lowering.specs.declared.body.MethodCode.{MethodCode}
use Rattle.lowering.proofs.CodeFacts.{sound_instruction}
use Rattle.lowering.proofs.MemberOwners.{class_number}

-- ---- the class that an instruction names, by its number

pub made_class : (b : MethodCode) (j : JudgedStep) (name : List ℕ) (class : Option ClassNo) → class_name_at b.class.now.pool j.placed.now.instruction.operand ≡ Some name
    → IfSome class (λ (c : ClassNo). IsClassNumber b.program.now c.0 × (name_at b.program.now c.0 ≡ name)) → IfNone class ((n : ℕ) → IsClassNumber b.program.now n → name_at b.program.now n ≡ name → ⊥) → IsMadeClass b j class
made_class b j name (Some c) named some none = made name c named (class_number b.program.now c name some.0 some.1) refl
made_class b j name None named some none = not_there name named (not_named b.program.now name none) refl

-- ---- the table: what makes an object names a class that is no array

implied_by : (a b : Bool) → (not a || b) ≡ true → a ≡ true → b ≡ true
implied_by true b h e = h
implied_by false b h e = absurd (false≢true e)

stands_passes : {X : Type 0} (test : X → Bool) (xs : List X) (n : ℕ) (x : X) → list_all test xs ≡ true → slice_get xs n ≡ Some x → test x ≡ true
stands_passes test [] n x h e = absurd (none-some x e)
stands_passes {X} test (y ∷ ys) zero x h e = subst (λ (z : X). test z ≡ true) (same_Some y x e) (and_parts (test y) (list_all test ys) h).0
stands_passes test (y ∷ ys) (suc n) x h e = stands_passes test ys n x (and_parts (test y) (list_all test ys) h).1 e

abbrev makes : Action → Bool
makes make_object = true
makes _ = false

abbrev is_no_array : Operands → Bool
is_no_array (pool_2 no_array) = true
is_no_array _ = false

abbrev names_no_array : Row → Bool
names_no_array r = not (makes r.action) || is_no_array r.operands

object_operands : (opcode : ℕ) (r : Row) → row_of opcode ≡ Some r → r.action ≡ make_object → is_no_array r.operands ≡ true
object_operands opcode r is a = implied_by (makes r.action) (is_no_array r.operands) (stands_passes names_no_array rows opcode r refl is) (ap makes a)

record IsClassIndex (c : ClassFile) (index : ℕ) (o : Operands) : Type 0 where
  pub pooled : is_pool_index o ≡ true
  pub leads : leads_to c.pool (kinds.Class ∷ []) index ≡ true
  pub shape : has_shape (class_name_at c.pool index) no_array ≡ true

class_index : (c : ClassFile) (index : ℕ) (o : Operands) → option_map_or (leads_there c.pool index) (pool_target o) true ≡ true → is_no_array o ≡ true → IsClassIndex c index o
class_index c index (pool_2 no_array) e h =
    let parts = and_parts (leads_to c.pool (kinds.Class ∷ []) index) (has_shape (class_name_at c.pool index) no_array) e in
    record { pooled = refl; leads = parts.0; shape = parts.1 }
class_index c index _ e h = absurd (false≢true h)

object_index : (c : ClassFile) (i : Given) (r : Row) → IsSoundInstruction c i → row_of i.opcode ≡ Some r → r.action ≡ make_object → IsClassIndex c i.operand r.operands
object_index c i r x is a =
    let same : x.row ≡ r = same_Some x.row r (sym x.of_opcode ∙ is) in
    let leads : leads_right c.pool (with_row i r) ≡ true = ap (λ (s : Row). leads_right c.pool (with_row i s)) (sym same) ∙ x.leads in
    class_index c i.operand r.operands leads (object_operands i.opcode r is a)

no_shape : (o : Option (List ℕ)) (name : List ℕ) → o ≡ Some name → has_shape o no_array ≡ true → is_array name ≡ false
no_shape None name e h = absurd (none-some name e)
no_shape (Some n) name e h = ap is_array (sym (same_Some n name e)) ∙ negated (is_array n) h
  where
    negated : (b : Bool) → not b ≡ true → b ≡ false
    negated true h = absurd (false≢true h)
    negated false h = refl

-- ---- the class is in the program, where no reason holds

class_of_entry : (pool : List PoolEntry) (o : Option PoolEntry) (name : List ℕ) → option_and_then (text_at pool) (option_and_then class_index_in o) ≡ Some name → option_and_then (class_in pool) o ≡ Some name
class_of_entry pool None name e = absurd (none-some name e)
class_of_entry pool (Some (Class text)) name e = e
class_of_entry pool (Some _) name e = absurd (none-some name e)

none_of : (j : Judged) (xs : List Reason) (k : ℕ) (reason : Reason) → IsFirstOf j xs None → slice_get xs k ≡ Some reason → HasReason j reason → ⊥
none_of j [] k reason first e h = none-some reason e
none_of j (x ∷ xs) k reason (inl first) e h = none-some x first.1
none_of j (x ∷ xs) zero reason (inr first) e h = first.0 (subst (λ (r : Reason). HasReason j r) (sym (same_Some x reason e)) h)
none_of j (x ∷ xs) (suc k) reason (inr first) e h = none_of j xs k reason first.1 e h

module _ (b : MethodCode) (known : IsMethodCode b) (j : JudgedStep) (step : GraphStep) (is : IsJudgedStep b step j) (makes_object : (row_view j.row.now).action ≡ make_object) where
  index : IsClassIndex b.class.now j.placed.now.instruction.operand (row_view j.row.now).operands
  index = object_index b.class.now j.placed.now.instruction (row_view j.row.now) (sound_instruction b known j.placed.now is.stands) is.of_opcode makes_object

  class_is_there : (name : List ℕ) → class_name_at b.class.now.pool j.placed.now.instruction.operand ≡ Some name → class_named b.program.now name ≡ None → ⊥
  class_is_there name named none =
      let pool = b.class.now.pool in
      let operand = j.placed.now.instruction.operand in
      let names : Names (judged_step b j) name = (index.pooled, class_of_entry pool (entry_at pool operand) name named) in
      let shape = no_shape (class_name_at pool operand) name named index.shape in
      none_of (judged_step b j) reason_order 4 reasons.NoStub is.free refl (no_stub refl (lacks_class name names (no_class shape none)))

  pub object_trigger : (class : Option ClassNo) → IsMadeClass b j class → TriggersAt b j class
  object_trigger class (made name number named number_of e) = a_class (ap is_trigger makes_object) name number (of_class (record { class = name; named = named }) refl) number_of e
  object_trigger class (no_name none e) =
      let there = class_there b.class.now j.placed.now.instruction.operand (sound_instruction b known j.placed.now is.stands).sound index.leads in
      absurd (none-some there.name (sym none ∙ there.named))
  object_trigger class (not_there name named none e) = absurd (class_is_there name named none)
