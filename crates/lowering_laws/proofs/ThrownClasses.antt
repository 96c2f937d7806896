-- The classes of exceptions at an instruction, by their numbers, in order.
use Rattle.std.proofs.Common.{codes, ◌≡◌, inl, inr, ℕ, List, [], ◌∷◌, ◌++◌, map, Option, Some, None, refl, sym, ap, ◌∙◌, subst, append_assoc}
use Rattle.std.proofs.lemmas.List.{append-nil}
use Rattle.std.proofs.lemmas.Option.{none-some, same_Some}
use Rattle.jvm_model.specs.declared.number.ClassNo.{ClassNo}
use Rattle.jvm_model.specs.LinkedPrograms.{IsProgram}
use Rattle.jvm_model.specs.Programs.{Class, Program}
use Rattle.jvm_model.specs.Subtypes.{class_named}
use Rattle.jvm_model.specs.Table.{Raise}
use Rattle.program_model.specs.Numbers.{name_at, IsClassNumber as IsNumber}
use Rattle.hierarchy.proofs.ClassPlaces.{class_within, name_at-at, named_at}
use Rattle.machine_bytecode.specs.Machine.{exception_class}
use Rattle.machine_laws.proofs.CodedInitialisers.{has_initialiser_or_not}
use Rattle.machine_nodes.specs.Nodes.{AreThrownAt, HasInitialiser, IsClassNumber}
use Rattle.lowering_handlers.specs.Exceptions.{AddsClass, AreRaised, IsThrownList, number_named, numbers_named}
use Rattle.lowering_handlers.proofs.AddedClasses.{added, none_added, numbered, raised_alone, raised_and_errors, raised_more}
use Rattle.lowering_handlers.proofs.OrderedClasses.{alone, and_errors, named_more, none_named, one_named}
use Rattle.program_laws.proofs.Choices.{OrNot}
use Rattle.program_laws.proofs.Orders.{none_there}
use Rattle.lowering_laws.proofs.Handlers.{number_of}

module _ (p : Program) (program : IsProgram p) where
  abbrev Added : List ℕ → List ClassNo → Type 0
  Added name old = (new : List ClassNo) × AddsClass p name old new × (new ≡ old ++ number_named p name)

  -- the class of a name is added at the end, if it is in the program
  add : (name : List ℕ) (old : List ClassNo) → Added name old
  add name old = by (class_named p name) refl
    where
      absent : class_named p name ≡ None → (n : ℕ) → IsNumber p n → name_at p n ≡ name → ⊥
      absent none n within named =
          let is : IsClassNumber p (record { 0 = n }) name = numbered p program name (record { 0 = n }) within named in
          none-some is.class (sym none ∙ ap (class_named p) (sym is.named) ∙ named_at p program n is.class is.stands)

      by : (o : Option Class) → class_named p name ≡ o → Added name old
      by None none =
          let nowhere = absent none in
          (old, none_added p program name old nowhere, sym (append-nil old) ∙ ap (λ (cs : List ClassNo). old ++ cs) (sym (none_named p program name nowhere)))
      by (Some class) there =
          let n = number_of p name class there in
          let within = class_within p n.0.0 n.1.class n.1.stands in
          let named = name_at-at p n.0.0 n.1.class n.1.stands ∙ n.1.named in
          (old ++ n.0 ∷ [], added p program name old n.0 within named, ap (λ (cs : List ClassNo). old ++ cs) (sym (one_named p program name n.0 within named)))

  abbrev Raised : List Raise → Type 0
  Raised raises = (classes : List ClassNo) × AreRaised p raises classes × (classes ≡ numbers_named p (map exception_class raises))

  none_raised : Raised []
  none_raised = ([], record { only = λ c there. absurd (none_there c there); all = λ c raise there is. absurd (none_there raise there) }, refl)

  one_more : (raises : List Raise) (raise : Raise) → Raised raises → Raised (raises ++ raise ∷ [])
  one_more raises raise far =
      let new = add (exception_class raise) far.0 in
      (new.0, raised_more p raises raise far.0 new.0 far.1 new.1, named_more p raises raise (raises ++ raise ∷ []) far.0 new.0 refl far.2 new.2)

  more_raised : (before after : List Raise) → Raised before → Raised (before ++ after)
  more_raised before [] far = subst (λ (all : List Raise). Raised all) (sym (append-nil before)) far
  more_raised before (raise ∷ after) far =
      subst (λ (all : List Raise). Raised all) (append_assoc before (raise ∷ []) after) (more_raised (before ++ raise ∷ []) after (one_more before raise far))

  abbrev Thrown : List Raise → Option (List ℕ) → Type 0
  Thrown raises trigger = (throws : List ClassNo) × AreThrownAt p raises trigger throws × IsThrownList p raises trigger throws

  without_errors : (raises : List Raise) (trigger : Option (List ℕ)) → ((class : List ℕ) → trigger ≡ Some class → HasInitialiser p class → ⊥) → Raised raises → Thrown raises trigger
  without_errors raises trigger none r = (r.0, raised_alone p raises r.0 r.1 trigger none, alone p raises r.0 r.2 trigger none)

  pub thrown : (raises : List Raise) (trigger : Option (List ℕ)) → Thrown raises trigger
  thrown raises None = without_errors raises None (λ class is has. none-some class is) (more_raised [] raises none_raised)
  thrown raises (Some class) = by (has_initialiser_or_not p class) (more_raised [] raises none_raised)
    where
      by : OrNot (HasInitialiser p class) → Raised raises → Thrown raises (Some class)
      by (inr none) r = without_errors raises (Some class) (λ other is has. none (subst (HasInitialiser p) (sym (same_Some class other is)) has)) r
      by (inl has) r =
          let one = add (codes "java/lang/ExceptionInInitializerError") r.0 in
          let both = add (codes "java/lang/NoClassDefFoundError") one.0 in (
            both.0,
            raised_and_errors p raises r.0 r.1 (Some class) class refl has one.0 both.0 one.1 both.1,
            and_errors p raises r.0 r.2 (Some class) class refl has one.0 both.0 one.2 both.2,
          )
