-- Lists of the classes that are thrown, and what adding a class to one makes of it.
use Rattle.std.proofs.Common.{codes, ◌≡◌, ◌⊎◌, inl, inr, ℕ, ◌+◌, ◌<◌, List, [], ◌∷◌, ◌++◌, length, map, take, get_or, Option, Some, None, refl, sym, ap, ◌∙◌, subst, add-one}
use Rattle.std.specs.List.{Contains}
use Rattle.std.proofs.Math.Seq.{take-suc}
use Rattle.std.proofs.lemmas.List.{map-append}
use Rattle.std.proofs.lemmas.List.Elements.{Contains-append_left, Contains-push, Contains-push_cases}
use Rattle.std.proofs.lemmas.Option.{none-some, same_Some}
use Rattle.jvm_model.specs.declared.number.ClassNo.{ClassNo}
use Rattle.jvm_model.specs.declared.opcode.Raise.{Raise as Given}
use Rattle.jvm_model.specs.LinkedPrograms.{IsProgram}
use Rattle.jvm_model.specs.Programs.{Program}
use Rattle.jvm_model.specs.RowViews.{raise_view}
use Rattle.jvm_model.specs.Table.{Raise}
use Rattle.program_model.specs.Numbers.{name_at, IsClassNumber as IsNumber}
use Rattle.hierarchy.proofs.ClassPlaces.{class_of_number, class_within, name_at-at, same_place}
use Rattle.machine_bytecode.specs.Machine.{exception_class}
use Rattle.machine_nodes.specs.Nodes.{IsClassNumber, HasInitialiser, IsInitialisationError, IsThrownAt, raised as raised_at, initialising, AreThrownAt}
use Rattle.lowering_handlers.specs.Exceptions.{AddsClass, AreRaised, IsTriggerOf, no_class, a_class}

-- a class of the name, by its number
pub numbered : (p : Program) → IsProgram p → (name : List ℕ) (c : ClassNo) → IsNumber p c.0 → name_at p c.0 ≡ name → IsClassNumber p c name
numbered p program name c within named =
    let there = class_of_number p program c.0 within in
    record { class = there.0; stands = there.1.stands; named = sym there.1.name ∙ named }

-- and it is the only one
one_number : (p : Program) → IsProgram p → (name : List ℕ) (c d : ClassNo) → IsClassNumber p c name → IsClassNumber p d name → c ≡ d
one_number p program name c d of_c of_d =
    let same = same_place p program c.0 d.0 of_c.class of_d.class of_c.stands of_d.stands (of_c.named ∙ sym of_d.named) in
    λ i. record { 0 = same i }

pub added : (p : Program) → IsProgram p → (name : List ℕ) (classes : List ClassNo) (c : ClassNo) → IsNumber p c.0 → name_at p c.0 ≡ name
    → AddsClass p name classes (classes ++ c ∷ [])
added p program name classes c within named = record {
  only = λ d there. by d (Contains-push_cases classes c d there);
  kept = λ d there. Contains-append_left classes (c ∷ []) d there;
  added = λ d is. subst (λ (x : ClassNo). Contains (classes ++ c ∷ []) x) (one_number p program name c d is_c is) (Contains-push classes c);
}
  where
    is_c : IsClassNumber p c name
    is_c = numbered p program name c within named

    by : (d : ClassNo) → Contains classes d ⊎ (c ≡ d) → Contains classes d ⊎ IsClassNumber p d name
    by d (inl there) = inl there
    by d (inr same) = inr (subst (λ (x : ClassNo). IsClassNumber p x name) same is_c)

pub none_added : (p : Program) → IsProgram p → (name : List ℕ) (classes : List ClassNo) → ((n : ℕ) → IsNumber p n → name_at p n ≡ name → ⊥)
    → AddsClass p name classes classes
none_added p program name classes none = record {
  only = λ d there. inl there;
  kept = λ d there. there;
  added = λ d is. absurd (none d.0 (class_within p d.0 is.class is.stands) (name_at-at p d.0 is.class is.stands ∙ is.named));
}

-- ---- the classes that are raised

pub raised_more : (p : Program) (raises : List Raise) (raise : Raise) (old new : List ClassNo) → AreRaised p raises old → AddsClass p (exception_class raise) old new
    → AreRaised p (raises ++ raise ∷ []) new
raised_more p raises raise old new far adds = record {
  only = λ c there. only c (adds.only c there);
  all = λ c r there is. all c r is (Contains-push_cases raises raise r there);
}
  where
    more : List Raise
    more = raises ++ raise ∷ []

    before : (c : ClassNo) → (r : Raise) × Contains raises r × IsClassNumber p c (exception_class r) → (r : Raise) × Contains more r × IsClassNumber p c (exception_class r)
    before c h = (h.0, Contains-append_left raises (raise ∷ []) h.0 h.1, h.2)

    only : (c : ClassNo) → Contains old c ⊎ IsClassNumber p c (exception_class raise) → (r : Raise) × Contains more r × IsClassNumber p c (exception_class r)
    only c (inl there) = before c (far.only c there)
    only c (inr is) = (raise, Contains-push raises raise, is)

    all : (c : ClassNo) (r : Raise) → IsClassNumber p c (exception_class r) → Contains raises r ⊎ (raise ≡ r) → Contains new c
    all c r is (inl there) = adds.kept c (far.all c r there is)
    all c r is (inr same) = adds.added c (subst (λ (x : Raise). IsClassNumber p c (exception_class x)) (sym same) is)

-- the raises up to a place, and the one there
pub views_push : (raises : List Given) (i : ℕ) (r : Given) → i < length raises → map raise_view (take (i + 1) raises) ≡ map raise_view (take i raises) ++ raise_view (get_or raises i r) ∷ []
views_push raises i r lt =
    ap (λ (n : ℕ). map raise_view (take n raises)) (add-one i)
    ∙ ap (λ (xs : List Given). map raise_view xs) (take-suc raises i r lt)
    ∙ map-append raise_view (take i raises) (get_or raises i r ∷ [])

-- ---- those that are thrown

module _ (p : Program) (raises : List Raise) (raised : List ClassNo) (are : AreRaised p raises raised) (trigger : Option (List ℕ)) where
  is_raised : (c : ClassNo) → Contains raised c → (name : List ℕ) × IsClassNumber p c name × IsThrownAt p raises trigger name
  is_raised c there = let h = are.only c there in (exception_class h.0, h.2, raised_at h.0 h.1 refl)

  there_raised : (c : ClassNo) (name : List ℕ) → IsClassNumber p c name → (raise : Raise) → Contains raises raise → name ≡ exception_class raise → Contains raised c
  there_raised c name is raise there same = are.all c raise there (subst (λ (n : List ℕ). IsClassNumber p c n) same is)

  -- none but those that are raised
  pub raised_alone : ((class : List ℕ) → trigger ≡ Some class → HasInitialiser p class → ⊥) → AreThrownAt p raises trigger raised
  raised_alone none = record { only = is_raised; all = all }
    where
      all : (c : ClassNo) (name : List ℕ) → IsClassNumber p c name → IsThrownAt p raises trigger name → Contains raised c
      all c name is (raised_at raise there same) = there_raised c name is raise there same
      all c name is (initialising class triggers has error) = absurd (none class triggers has)

  -- and the errors of initialisation
  pub raised_and_errors : (class : List ℕ) → trigger ≡ Some class → HasInitialiser p class → (one both : List ClassNo)
      → AddsClass p (codes "java/lang/ExceptionInInitializerError") raised one → AddsClass p (codes "java/lang/NoClassDefFoundError") one both
      → AreThrownAt p raises trigger both
  raised_and_errors class triggers has one both first second = record { only = λ c there. only c (second.only c there); all = all }
    where
      Thrown : ClassNo → Type 0
      Thrown c = (name : List ℕ) × IsClassNumber p c name × IsThrownAt p raises trigger name

      in_one : (c : ClassNo) → Contains raised c ⊎ IsClassNumber p c (codes "java/lang/ExceptionInInitializerError") → Thrown c
      in_one c (inl there) = is_raised c there
      in_one c (inr is) = (_, is, initialising class triggers has (inl refl))

      only : (c : ClassNo) → Contains one c ⊎ IsClassNumber p c (codes "java/lang/NoClassDefFoundError") → Thrown c
      only c (inl there) = in_one c (first.only c there)
      only c (inr is) = (_, is, initialising class triggers has (inr refl))

      error : (c : ClassNo) (name : List ℕ) → IsClassNumber p c name → IsInitialisationError name → Contains both c
      error c name is (inl same) = second.kept c (first.added c (subst (λ (n : List ℕ). IsClassNumber p c n) same is))
      error c name is (inr same) = second.added c (subst (λ (n : List ℕ). IsClassNumber p c n) same is)

      all : (c : ClassNo) (name : List ℕ) → IsClassNumber p c name → IsThrownAt p raises trigger name → Contains both c
      all c name is (raised_at raise there same) = second.kept c (first.kept c (there_raised c name is raise there same))
      all c name is (initialising other triggered starts is_error) = error c name is is_error

-- ---- by the class whose initialisation may start

-- its name is that of its number
pub trigger_name : (p : Program) → (number : Option ClassNo) (n : ClassNo) (class : Option (List ℕ)) → number ≡ Some n → IsTriggerOf p number class → class ≡ Some (name_at p n.0)
trigger_name p number n class some (no_class none is) = absurd (none-some n (sym none ∙ some))
trigger_name p number n class some (a_class m name is_class number_is class_is) =
    let same : m ≡ n = same_Some m n (sym number_is ∙ some) in
    let named : name_at p n.0 ≡ name = ap (λ (x : ClassNo). name_at p x.0) (sym same) ∙ name_at-at p m.0 is_class.class is_class.stands ∙ is_class.named in
    class_is ∙ ap (λ (x : List ℕ). Some x) (sym named)

pub no_trigger_name : (p : Program) → (number : Option ClassNo) (class : Option (List ℕ)) → number ≡ None → IsTriggerOf p number class → class ≡ None
no_trigger_name p number class none (no_class is class_is) = class_is
no_trigger_name p number class none (a_class m name is_class number_is class_is) = absurd (none-some m (sym none ∙ number_is))
