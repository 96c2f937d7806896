-- Methods of a signature that a class declares, and the first of them upward.
use Rattle.std.proofs.Common.{◌≡◌, ℕ, List, [], ◌∷◌, Option, Some, None, sym, ◌∙◌, ap, subst, inl, inr}
use Rattle.std.specs.Bool.{IsTrue}
use Rattle.std.specs.List.{slice_get}
use Rattle.std.proofs.lemmas.Option.{same_Some}
use Rattle.jvm_model.specs.LinkedPrograms.{MembersDiffer}
use Rattle.jvm_model.specs.Lookups.{Signature}
use Rattle.jvm_model.specs.Programs.{Class, Method, Program, object_name, is_public}
use Rattle.jvm_model.specs.Resolution.{Declares, HasSignature, IsFirst, IsFound, IsPublicWith}
use Rattle.jvm_model.specs.Selection.{IsInstance}
use Rattle.jvm_model.specs.declared.number.MethodNo.{MethodNo}
use Rattle.hierarchy.specs.Searches.{Finds, IsSuch}
use Rattle.hierarchy.specs.Upward.{AnswersFirst, IsFirstUpward}
use Rattle.hierarchy.proofs.Chains.{chain_same}

-- what is found for one fact is what is found for another that holds of the same numbers
pub finds_same : (Q R : ℕ → Type 0) (found : Option MethodNo) → ((n : ℕ) → Q n → R n) → ((n : ℕ) → R n → Q n) → Finds Q found → Finds R found
finds_same Q R None to back finds = λ n h. finds n (back n h)
finds_same Q R (Some method) to back finds = to method.0 finds

pub such_declares : {p : Program} {s : Signature} {Takes : ℕ → Method → Type 0} {class : List ℕ} {n : ℕ} → Declares p (IsSuch s Takes) class n → Declares p (HasSignature s) class n
such_declares d = record { method = d.method; stands = d.stands; of_class = d.of_class; is = d.is.0 }

-- the only method of the signature that the class declares is the one that is looked for
pub declared_taken : (p : Program) → MembersDiffer p → (s : Signature) (Takes : ℕ → Method → Type 0) (class : List ℕ) (number n : ℕ) (found : Declares p (HasSignature s) class number)
    → Declares p (IsSuch s Takes) class n → Takes number found.method
declared_taken p members s Takes class number n found d =
    let number_is : n ≡ number = members.methods n number d.method found.method d.stands found.stands (d.of_class ∙ sym found.of_class) (d.is.0 ∙ sym found.is) in
    let method_is : d.method ≡ found.method = same_Some d.method found.method (sym d.stands ∙ ap (slice_get p.methods) number_is ∙ found.stands) in
    subst (λ (k : ℕ). Takes k found.method) number_is (subst (Takes n) method_is d.is.1)

-- what a walk finds that looks for a method
first_found : (p : Program) (Is : ℕ → Method → Type 0) (chain : List Class) (found : Option MethodNo) → AnswersFirst (λ c. Finds (Declares p Is c.name)) chain found
    → Finds (IsFirst p Is chain) found
first_found p Is [] (Some number) h = h
first_found p Is [] None h = λ n first. first
first_found p Is (c ∷ chain) (Some number) (inl here) = inl here
first_found p Is (c ∷ chain) (Some number) (inr h) = inr (h.0, first_found p Is chain (Some number) h.1)
first_found p Is (c ∷ chain) None h = λ n first. elim first [ inl here ↦ h.0 n here | inr above ↦ first_found p Is chain None h.1 n above.1 ]

pub walk_found : (p : Program) (Is : ℕ → Method → Type 0) (start : List ℕ) (found : Option MethodNo) → IsFirstUpward p (λ c. Finds (Declares p Is c.name)) start found
    → Finds (IsFound p start Is) found
walk_found p Is start found walk =
    finds_same (IsFirst p Is walk.chain) (IsFound p start Is) found (λ n first. record { chain = walk.chain; of_start = walk.of_start; first = first })
    (λ n f. subst (λ (list : List Class). IsFirst p Is list n) (chain_same p (Some start) f.chain walk.chain f.of_start walk.of_start) f.first)
    (first_found p Is walk.chain found walk.first)

-- the public instance method of java/lang/Object
pub object_declares : (p : Program) (s : Signature) (name : List ℕ) (found : Option MethodNo) → name ≡ object_name
    → Finds (Declares p (IsSuch s (λ n m. IsTrue (is_public m) × IsInstance m)) name) found → Finds (Declares p (IsPublicWith s) object_name) found
object_declares p s name found same =
    finds_same (Declares p (IsSuch s (λ n m. IsTrue (is_public m) × IsInstance m)) name) (Declares p (IsPublicWith s) object_name) found
    (λ n d. record { method = d.method; stands = d.stands; of_class = d.of_class ∙ same; is = (d.is.0, d.is.1.0, d.is.1.1) })
    (λ n d. record { method = d.method; stands = d.stands; of_class = d.of_class ∙ sym same; is = (d.is.0, (d.is.1, d.is.2)) })
