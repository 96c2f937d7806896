-- What a call selects by an object: the class from which it selects is there, and a target is a method of the program.
use Rattle.std.proofs.Common.{◌≡◌, ℕ, Bool, true, false, List, Option, Some, Result, Ok, Err, refl, sym, ap, ◌∙◌, subst}
use Rattle.std.specs.Prelude.{if◌then◌else◌}
use Rattle.std.proofs.lemmas.Bool.{false≢true}
use Rattle.std.proofs.lemmas.Option.{slice_get_within}
use Rattle.jvm_model.specs.declared.number.MethodNo.{MethodNo}
use Rattle.jvm_model.specs.declared.reason.Reason.{Reason}
use Rattle.jvm_model.specs.declared.site.Site.{Site}
use Rattle.jvm_model.specs.Programs.{Class, Program, object_name}
use Rattle.jvm_model.specs.Selection.{Selection, selected, no_code, nothing, several, hidden}
use Rattle.jvm_model.specs.Soundness.{is_array}
use Rattle.jvm_model.specs.Subtypes.{class_named, Fits, by_class, by_array, by_itself, by_elements}
use Rattle.machine_bytecode.specs.Machine.{selecting_class}
use Rattle.program_model.specs.Numbers.{IsMethodNumber}
use Rattle.op_model.specs.declared.op.CallKind.{CallKind}
use Rattle.op_model.specs.declared.op.CallKind.TheVariants.{Virtual, Special, Static, Interface}
use Rattle.points_to_rules.specs.Calls.{SelectsFor}
use Rattle.call_selection.specs.OnlyAnswers.{IsOnlyAnswer}

-- ---- the class that selects

pub plain_there : (p : Program) (upper lower : List ℕ) → Fits p upper lower → is_array lower ≡ false → (c : Class) × (class_named p lower ≡ Some c)
plain_there p u l (by_class upper lower c named under) plain = (c, named)
plain_there p u l (by_array upper lower array above) plain = absurd (false≢true (sym plain ∙ array))
plain_there p u l (by_itself upper lower array e) plain = absurd (false≢true (sym plain ∙ array))
plain_there p u l (by_elements upper lower over under e is fit) plain = absurd (false≢true (sym plain ∙ ap is_array is))

-- the class of an object that fits one is there, if java/lang/Object is
pub selecting_there : (p : Program) (upper lower : List ℕ) → Fits p upper lower → (object : Class) × (class_named p object_name ≡ Some object)
    → (c : Class) × (class_named p (selecting_class lower) ≡ Some c)
selecting_there p upper lower fit object = by (is_array lower) refl
  where
    by : (b : Bool) → is_array lower ≡ b → (c : Class) × (class_named p (selecting_class lower) ≡ Some c)
    by true e = subst (λ (name : List ℕ). (c : Class) × (class_named p name ≡ Some c)) (sym (ap (λ (b : Bool). if b then object_name else lower) e)) object
    by false e = subst (λ (name : List ℕ). (c : Class) × (class_named p name ≡ Some c)) (sym (ap (λ (b : Bool). if b then object_name else lower) e)) (plain_there p upper lower fit e)

-- ---- what is selected

-- an only answer that is matched
pub only_matched : (Q : Result ℕ Reason → Type 0) (answer : Option (Result MethodNo Reason)) (chosen outcome : Result MethodNo Reason)
    → answer ≡ Some chosen → chosen ≡ outcome → IsOnlyAnswer Q answer → IsOnlyAnswer Q (Some outcome)
only_matched Q answer chosen outcome some is only = subst (IsOnlyAnswer Q) (some ∙ ap (λ (a : Result MethodNo Reason). Some a) is) only

-- a target is a method of the program
target_within : (p : Program) (by_interface : Bool) (class : List ℕ) (resolved target : ℕ) → Selection p by_interface class resolved (Ok target) → IsMethodNumber p target
target_within p v class r t (selected i m x at kind plain is) =
    let same : t ≡ i = cc is in subst (λ (k : ℕ). IsMethodNumber p k) (sym same) (slice_get_within p.methods i m at)
target_within p v class r t (no_code i m x at kind is) = (let e : Ok t ≡ Err _ = is in cc e)
target_within p v class r t (nothing none no_clash is) = (let e : Ok t ≡ Err _ = is in cc e)
target_within p v class r t (several clash is) = (let e : Ok t ≡ Err _ = is in cc e)
target_within p v class r t (hidden i m x at kind over is) = (let e : Ok t ≡ Err _ = is in cc e)

pub selected_within : (kind : CallKind) (p : Program) (resolved : MethodNo) (s : Site) (target : ℕ) → SelectsFor kind p resolved s (Ok target) → IsMethodNumber p target
selected_within Virtual p resolved s target selects = target_within p false (selecting_class s.class) resolved.0 target selects.1
selected_within Special p resolved s target selects = absurd selects
selected_within Static p resolved s target selects = absurd selects
selected_within Interface p resolved s target selects = target_within p true (selecting_class s.class) resolved.0 target selects.1
