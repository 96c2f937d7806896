-- Methods that are maximally specific and not abstract.
use Rattle.std.proofs.Common.{◌≡◌, ◌≢◌, ℕ, Bool, false, not, List, Option, Some, None, sym, ◌∙◌, subst}
use Rattle.std.specs.Bool.{IsTrue}
use Rattle.std.specs.Option.{is_some}
use Rattle.std.proofs.lemmas.Bool.{false≢true, not-true, not-false}
use Rattle.jvm_model.specs.Lookups.{Signature}
use Rattle.jvm_model.specs.Programs.{Method, Program, is_abstract}
use Rattle.jvm_model.specs.Resolution.{IsDefault, IsOnlyDefault}
use Rattle.jvm_model.specs.declared.number.MethodNo.{MethodNo}
use Rattle.hierarchy.specs.Searches.{Finds, HasTwoDefaults, InheritsSuch, InheritsNoneBelow, IsLowestConcrete, IsOtherDefault}

-- ---- whether a search finds none

pub none_iff : (Q : ℕ → Type 0) (found : Option MethodNo) (answer : Bool) → is_some found ≡ not answer → Finds Q found
    → (IsTrue answer → (n : ℕ) → Q n → ⊥) × (((n : ℕ) → Q n → ⊥) → IsTrue answer)
none_iff Q None answer is finds = (λ t. finds, λ none. not-false answer (sym is))
none_iff Q (Some n) answer is finds = (λ t. absurd (false≢true (sym (not-true answer (sym is)) ∙ t)), λ none. absurd (none n.0 finds))

-- ---- maximally specific methods that are not abstract

pub lowest_iff : (p : Program) (class : List ℕ) (s : Signature) (m : Method) (upper : List ℕ) (answer : Bool) → is_abstract m ≡ false → m.class ≡ upper
    → (IsTrue answer → InheritsNoneBelow p class s upper) × (InheritsNoneBelow p class s upper → IsTrue answer)
    → (IsTrue answer → IsLowestConcrete p class s m) × (IsLowestConcrete p class s m → IsTrue answer)
lowest_iff p class s m upper answer concrete is iff = (
  λ t. (concrete, subst (InheritsNoneBelow p class s) (sym is) (iff.0 t)),
  λ lowest. iff.1 (subst (InheritsNoneBelow p class s) is lowest.1),
)

pub such_default : (p : Program) (class : List ℕ) (s : Signature) (except : Option MethodNo) (n : ℕ) → InheritsSuch p class s (IsOtherDefault p class s except) n → IsDefault p class s n
such_default p class s except n such =
    record {
      specific = record { inherited = such.inherited; lowest = λ other o below. such.taken.1.1 other (record { inherited = o; taken = below }) };
      concrete = such.taken.1.0;
    }

pub default_such : (p : Program) (class : List ℕ) (s : Signature) (except : Option MethodNo) (n : ℕ) → except ≢ Some (record { 0 = n }) → IsDefault p class s n → InheritsSuch p class s (IsOtherDefault p class s except) n
default_such p class s except n differs default =
    record { inherited = default.specific.inherited; taken = (differs, (default.concrete, λ other such. default.specific.lowest other such.inherited such.taken)) }

-- of two defaults none is the only one
pub two_not_only : (p : Program) (class : List ℕ) (s : Signature) (n : ℕ) → HasTwoDefaults p class s → IsOnlyDefault p class s n → ⊥
two_not_only p class s n two only = two.differ (only.only two.first two.first_default ∙ sym (only.only two.second two.second_default))
