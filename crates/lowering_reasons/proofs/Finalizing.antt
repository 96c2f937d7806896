-- Finalizers: which methods of a class are some, and the walk up its superclasses.
use Rattle.std.proofs.Common.{◌≡◌, ◌⊎◌, inl, inr, ℕ, List, [], ◌∷◌, Option, Some, None, refl, sym, subst, codes}
use Rattle.std.specs.Prelude.{◌↔◌, Contains, IsTrue, IfSome, IfNone, is_some}
use Rattle.std.proofs.lemmas.Bool.{false≢true}
use Rattle.jvm_model.specs.declared.number.ClassNo.{ClassNo}
use Rattle.jvm_model.specs.declared.number.MethodNo.{MethodNo}
use Rattle.jvm_model.specs.LinkedPrograms.{IsProgram}
use Rattle.jvm_model.specs.Lookups.{Signature}
use Rattle.jvm_model.specs.Programs.{Class, Program}
use Rattle.jvm_model.specs.Resolution.{Declares, HasSignature}
use Rattle.jvm_model.specs.Subtypes.{class_named, IsChain}
use Rattle.program_model.specs.Numbers.{name_at, IsClassNumber}
use Rattle.program_model.specs.Ranks.{IsRanked}
use Rattle.hierarchy.proofs.ClassPlaces.{IsNowhere, class_of_number, somewhere}
use Rattle.hierarchy.proofs.Chains.{chain_above, chain_same}
use Rattle.hierarchy.proofs.Walks.{first_tells}
use Rattle.hierarchy.specs.Upward.{AnswersWhere, IsFirstUpward}
use Rattle.program_laws.proofs.Orders.{none_there, first_there, more_there, where_there}
use Rattle.lowering_reasons.specs.Looked.{DeclaresFinalizer, DeclaresOne, HasFolderFinalizer, IsFolderFinalizer}
use Rattle.lowering_reasons.specs.Reasons.{finalizers, IsFinalizer, HasFinalizer}
use Rattle.lowering_reasons.proofs.Only.{IsEither}

-- ---- methods of a class

pub declares_one : (p : Program) (s : Signature) (class : List ℕ) (o : Option MethodNo) → IfSome o (λ m. Declares p (HasSignature s) class m.0)
    → IfNone o ((n : ℕ) → Declares p (HasSignature s) class n → ⊥) → IsTrue (is_some o) ↔ DeclaresOne p s class
declares_one p s class None found none = (λ never. absurd (false≢true never), λ h. absurd (none h.0 h.1))
declares_one p s class (Some m) found none = (λ _. (m.0, found), λ _. refl)

abbrev finalize : Signature
finalize = record { name = codes "finalize"; descriptor = codes "()V" }

abbrev fill : Signature
fill = record { name = codes "fillInStackTrace"; descriptor = codes "()Ljava/lang/Throwable;" }

finalizer_of : (p : Program) (s : Signature) (class : List ℕ) → Contains finalizers s → DeclaresOne p s class → DeclaresFinalizer p class
finalizer_of p s class among h =
    (h.0, record { method = h.1.method; stands = h.1.stands; of_class = h.1.of_class; is = subst (λ (x : Signature). Contains finalizers x) (sym h.1.is) among })

one_of : (p : Program) (s : Signature) (class : List ℕ) (number : ℕ) (d : Declares p IsFinalizer class number) → s ≡ d.method.signature → DeclaresOne p s class
one_of p s class number d e = (number, record { method = d.method; stands = d.stands; of_class = d.of_class; is = sym e })

pub finalizer_parts : (p : Program) (class : List ℕ) → IsEither (DeclaresOne p finalize class) (DeclaresOne p fill class) (DeclaresFinalizer p class)
finalizer_parts p class = record {
  left = finalizer_of p finalize class (first_there finalize (fill ∷ []));
  right = finalizer_of p fill class (more_there finalize fill (fill ∷ []) (first_there fill []));
  cases = λ h. by h.0 h.1 (where_there finalize h.1.method.signature (fill ∷ []) h.1.is);
}
  where
    by : (number : ℕ) (d : Declares p IsFinalizer class number) → (finalize ≡ d.method.signature) ⊎ Contains (fill ∷ []) d.method.signature
        → DeclaresOne p finalize class ⊎ DeclaresOne p fill class
    by number d (inl e) = inl (one_of p finalize class number d e)
    by number d (inr more) = inr (last (where_there fill d.method.signature [] more))
      where
        last : (fill ≡ d.method.signature) ⊎ Contains [] d.method.signature → DeclaresOne p fill class
        last (inl e) = one_of p fill class number d e
        last (inr none) = absurd (none_there d.method.signature none)

-- ---- the walk upward

-- what a walk finds that looks for a class of the folder with a finalizer
pub folder_found : (p : Program) (start : List ℕ) (found : Option ClassNo) → IsFirstUpward p (AnswersWhere (IsFolderFinalizer p)) start found
    → IsTrue (is_some found) ↔ HasFolderFinalizer p start
folder_found p start found walk =
    let tells = first_tells (IsFolderFinalizer p) walk.chain found walk.first in (
      λ t.
          let has = tells.0 t in
          record { chain = walk.chain; of_start = walk.of_start; owner = has.one; above = has.among; finalizes = has.holds },
      λ h.
          let same = chain_same p (Some start) h.chain walk.chain h.of_start walk.of_start in
          tells.1 (record { one = h.owner; among = subst (λ (chain : List Class). Contains chain h.owner) same h.above; holds = h.finalizes }),
    )

-- ---- the class, and its superclasses of the folder

pub finalizer_either : (p : Program) → IsProgram p → IsRanked p → (n : ℕ) → IsClassNumber p n
    → IsEither (DeclaresFinalizer p (name_at p n)) (HasFolderFinalizer p (name_at p n)) (HasFinalizer p (name_at p n))
finalizer_either p program ranked n within =
    let there = class_of_number p program n within in
    let rest = chain_above p program ranked (name_at p n) there.0 there.1.named in
    record {
      left = λ h. record {
        chain = there.0 ∷ rest.0;
        of_class = (there.1.named, rest.1);
        owner = there.0;
        above = first_there there.0 rest.0;
        own = inl (sym there.1.name);
        number = h.0;
        declares = subst (λ (x : List ℕ). Declares p IsFinalizer x h.0) there.1.name h.1;
      };
      right = λ h. record {
        chain = h.chain;
        of_class = h.of_start;
        owner = h.owner;
        above = h.above;
        own = inr h.finalizes.0;
        number = h.finalizes.1.0;
        declares = h.finalizes.1.1;
      };
      cases = λ h. by h h.own;
    }
  where
    by : (h : HasFinalizer p (name_at p n)) → (h.owner.name ≡ name_at p n) ⊎ IsTrue h.owner.is_folder → DeclaresFinalizer p (name_at p n) ⊎ HasFolderFinalizer p (name_at p n)
    by h (inl e) = inl (h.number, subst (λ (x : List ℕ). Declares p IsFinalizer x h.number) e h.declares)
    by h (inr folder) = inr (record { chain = h.chain; of_start = h.of_class; owner = h.owner; above = h.above; finalizes = (folder, (h.number, h.declares)) })

-- a class that is not there has none
pub none_nowhere : (p : Program) (name : List ℕ) → IsNowhere p name → HasFinalizer p name → ⊥
none_nowhere p name nowhere h = by h.chain h.of_class
  where
    by : (chain : List Class) → IsChain p (Some name) chain → ⊥
    by [] none = none
    by (c ∷ chain) of_class = somewhere p name c of_class.0 nowhere
