-- Subtypes of classes that are in the program, or are not.
use Rattle.std.proofs.Common.{◌≡◌, ◌≢◌, inl, inr, ℕ, Bool, not, List, Some, None, Option, sym, ◌∙◌, subst}
use Rattle.std.specs.Prelude.{◌↔◌, IsTrue, IfSome, IfNone, is_some, slice_get}
use Rattle.std.proofs.lemmas.Bool.{both_ways, not-true, not-false}
use Rattle.std.proofs.lemmas.Option.{none-some}
use Rattle.jvm_model.specs.declared.number.ClassNo.{ClassNo}
use Rattle.jvm_model.specs.LinkedPrograms.{IsProgram}
use Rattle.jvm_model.specs.Programs.{Class, Program}
use Rattle.jvm_model.specs.Subtypes.{class_named, IsDirectSuper, IsSubtype, same, below}
use Rattle.program_model.specs.Numbers.{name_at, IsClassNumber}
use Rattle.hierarchy.proofs.ClassPlaces.{IsNowhere, class_of_number, not_named, somewhere, supers_of}

-- the class of a name that a number has
pub named_by : (p : Program) → IsProgram p → (name : List ℕ) (n : ℕ) → IsClassNumber p n → name_at p n ≡ name → (c : Class) × (class_named p name ≡ Some c)
named_by p program name n within is =
    let there = class_of_number p program n within in
    (there.0, subst (λ (x : List ℕ). class_named p x ≡ Some there.0) is there.1.named)

-- a class that is nowhere is below none but itself
pub alone : (p : Program) (above name : List ℕ) → name ≢ above → IsNowhere p name → IsSubtype p above name → ⊥
alone p above name other nowhere (same n e) = other e
alone p above name other nowhere (below n c super named direct rest) = somewhere p name c named nowhere

super_there : (p : Program) → IsProgram p → (name super : List ℕ) (c : Class) → class_named p name ≡ Some c → IsDirectSuper c super → (d : Class) × (class_named p super ≡ Some d)
super_there p program name super c named (inl up) = let above = (supers_of p program name c named).superclass super up in (above.0, above.1)
super_there p program name super c named (inr through) = let above = (supers_of p program name c named).interfaces super through in (above.0, above.1)

-- what is above a class of the program is in the program
pub above_there : (p : Program) → IsProgram p → (above name : List ℕ) (c : Class) → class_named p name ≡ Some c → IsSubtype p above name → (d : Class) × (class_named p above ≡ Some d)
above_there p program above name c named (same n e) = (c, subst (λ (x : List ℕ). class_named p x ≡ Some c) e named)
above_there p program above name c named (below n e super named2 direct rest) =
    let up = super_there p program name super e named2 direct in
    above_there p program above super up.0 up.1 rest

-- the class of a name, at its number
pub class_by : (p : Program) → IsProgram p → (name : List ℕ) (n : ℕ) → IsClassNumber p n → name_at p n ≡ name
    → (c : Class) × (slice_get p.classes n ≡ Some c) × (class_named p name ≡ Some c)
class_by p program name n within is =
    let there = class_of_number p program n within in
    (there.0, there.1.stands, subst (λ (x : List ℕ). class_named p x ≡ Some there.0) is there.1.named)

-- the test whether no class was found
pub missing_test : (p : Program) → IsProgram p → (name : List ℕ) (o : Option ClassNo) (b : Bool) → is_some o ≡ not b → IfSome o (λ c. IsClassNumber p c.0 × (name_at p c.0 ≡ name))
    → IfNone o (IsNowhere p name) → IsTrue b ↔ (class_named p name ≡ None)
missing_test p program name None b tells found nowhere = (λ _. not_named p name nowhere, λ _. not-false b (sym tells))
missing_test p program name (Some c) b tells found nowhere = (
  λ passed. absurd (both_ways b (not-true b (sym tells)) passed),
  λ e. let there = named_by p program name c.0 found.0 found.1 in absurd (none-some there.0 (sym e ∙ there.1)),
)
