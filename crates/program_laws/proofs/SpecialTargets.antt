-- A special call gives a target, or a reason; and whether it has a target is decided.
use Rattle.std.proofs.Common.{codes, ◌≡◌, ◌≢◌, ◌⊎◌, inl, inr, ℕ, Bool, true, false, List, Option, Some, None, Result, Ok, Err, refl, sym, ap, ◌∙◌, subst}
use Rattle.std.specs.List.{slice_get, Contains}
use Rattle.std.proofs.lemmas.Option.{none-some, same_Some}
use Rattle.jvm_model.specs.declared.reason.Reason.{Reason}
use Rattle.jvm_model.specs.declared.reason.Reason.TheVariants.{NoImplementation}
use Rattle.jvm_model.specs.LinkedPrograms.{IsProgram}
use Rattle.jvm_model.specs.Lookups.{MemberReference}
use Rattle.jvm_model.specs.Programs.{Class, Method, Program, is_abstract}
use Rattle.jvm_model.specs.Resolution.{IsInstanceWith, IsFoundIn}
use Rattle.jvm_model.specs.Selection.{IsSuperCall, StartsSearch, at_super, at_named, SelectsFrom, SelectsSpecial, SpecialSelection, selected, no_code, nothing}
use Rattle.jvm_model.specs.Subtypes.{class_named, IsChain}
use Rattle.program_laws.proofs.Chains.{one_class, one_chain}
use Rattle.program_laws.proofs.SpecialCalls.{one_start}
use Rattle.program_laws.proofs.Choices.{OrNot, carried_over, both_or_not, same_or_not, some_or_not}
use Rattle.program_laws.proofs.Bounded.{SomeOrNone, not_or_not}
use Rattle.program_laws.proofs.Declaring.{instance_or_not, found_in_or_none}
use Rattle.program_laws.proofs.Ranks.{chain_or_none}
use Rattle.program_laws.proofs.Targets.{IsMethod, selects_from_or_none, found_in_stands, selected_stands}

-- ---- whether it is a call of a superclass

-- one of the chain has the name
abbrev HasNamed : List Class → List ℕ → Type 0
HasNamed chain name = (c : Class) × Contains chain c × (c.name ≡ name)

abbrev SuperCallIn : List ℕ → MemberReference → List Class → Type 0
SuperCallIn current m chain = (m.signature.name ≢ codes "<init>") × ((current ≢ m.class) × HasNamed chain m.class)

super_call_or_not : (p : Program) → IsProgram p → (current : List ℕ) (m : MemberReference) → OrNot (IsSuperCall p current m)
super_call_or_not p program current m = by (chain_or_none p program current)
  where
    in_chain : (chain : List Class) → OrNot (SuperCallIn current m chain)
    in_chain chain =
        both_or_not (not_or_not (same_or_not m.signature.name (codes "<init>")))
        (λ a. both_or_not (not_or_not (same_or_not current m.class)) (λ b. some_or_not (λ (c : Class). c.name ≡ m.class) (λ c. same_or_not c.name m.class) chain))

    to : (chain : List Class) → IsChain p (Some current) chain → SuperCallIn current m chain → IsSuperCall p current m
    to chain of h = record { no_constructor = h.0; other = h.1.0; chain = chain; upward = of; above = h.1.1.0; stands = h.1.1.1; named = h.1.1.2 }

    back : (chain : List Class) → IsChain p (Some current) chain → IsSuperCall p current m → SuperCallIn current m chain
    back chain of call = (
      call.no_constructor,
      (call.other, (call.above, subst (λ (x : List Class). Contains x call.above) (one_chain p (Some current) call.chain chain call.upward of) call.stands, call.named)),
    )

    by : ((chain : List Class) × IsChain p (Some current) chain) ⊎ ((chain : List Class) → IsChain p (Some current) chain → ⊥) → OrNot (IsSuperCall p current m)
    by (inl h) = carried_over (to h.0 h.1) (back h.0 h.1) (in_chain h.0)
    by (inr none) = inr (λ call. none call.chain call.upward)

-- ---- where the search begins

abbrev Start : Program → List ℕ → MemberReference → Type 0
Start p current m = ((start : List ℕ) × StartsSearch p current m start) ⊎ ((start : List ℕ) → StartsSearch p current m start → ⊥)

-- a call of a superclass begins at the superclass of the class
super_start : (p : Program) (current : List ℕ) (m : MemberReference) → IsSuperCall p current m → Start p current m
super_start p current m call = by (class_named p current) refl
  where
    no_class : class_named p current ≡ None → (start : List ℕ) → StartsSearch p current m start → ⊥
    no_class e start (at_super c again named super) = none-some c (sym e ∙ named)
    no_class e start (at_named not_so is) = not_so call

    no_super : (c : Class) → class_named p current ≡ Some c → c.super_class ≡ None → (start : List ℕ) → StartsSearch p current m start → ⊥
    no_super c named e start (at_super d again named2 super) =
        none-some start (sym e ∙ ap (λ (x : Class). x.super_class) (one_class p current c d named named2) ∙ super)
    no_super c named e start (at_named not_so is) = not_so call

    at : (c : Class) → class_named p current ≡ Some c → (o : Option (List ℕ)) → c.super_class ≡ o → Start p current m
    at c named None e = inr (no_super c named e)
    at c named (Some start) e = inl (start, at_super c call named e)

    by : (o : Option Class) → class_named p current ≡ o → Start p current m
    by None e = inr (no_class e)
    by (Some c) e = at c e c.super_class refl

start_or_none : (p : Program) → IsProgram p → (current : List ℕ) (m : MemberReference) → Start p current m
start_or_none p program current m = by (super_call_or_not p program current m)
  where
    by : OrNot (IsSuperCall p current m) → Start p current m
    by (inl call) = super_start p current m call
    by (inr not_so) = inl (m.class, at_named not_so refl)

-- ---- the target

-- how the target is searched for from a class of a name
abbrev Searched : Program → MemberReference → List ℕ → Class → ℕ → Type 0
Searched p m start class target = SelectsFrom p start m.signature (IsFoundIn p (IsInstanceWith m.signature) m.signature class) target

searched_or_none : (p : Program) → IsProgram p → (m : MemberReference) (start : List ℕ) (class : Class) → SomeOrNone (Searched p m start class)
searched_or_none p program m start class =
    selects_from_or_none p start m.signature (IsFoundIn p (IsInstanceWith m.signature) m.signature class)
    (found_in_or_none p program (IsInstanceWith m.signature) (instance_or_not m.signature) m.signature class)

-- a target is searched for from each place where the search begins
searched_for : (p : Program) (current : List ℕ) (m : MemberReference) (start : List ℕ) (class : Class) (target : ℕ) → StartsSearch p current m start → class_named p start ≡ Some class
    → SelectsSpecial p current m target → Searched p m start class target
searched_for p current m start class target begins named t =
    let same_start : t.start ≡ start = one_start p current m t.start start t.begins begins in
    let same_class : t.class ≡ class = same_Some t.class class (sym t.named ∙ ap (class_named p) same_start ∙ named) in
    subst (λ (c : Class). Searched p m start c target) same_class (subst (λ (name : List ℕ). Searched p m name t.class target) same_start t.chosen)

pub special_or_none : (p : Program) → IsProgram p → (current : List ℕ) (m : MemberReference) → SomeOrNone (SelectsSpecial p current m)
special_or_none p program current m = by (start_or_none p program current m)
  where
    of : (start : List ℕ) (class : Class) → StartsSearch p current m start → class_named p start ≡ Some class → SomeOrNone (Searched p m start class) → SomeOrNone (SelectsSpecial p current m)
    of start class begins named (inl h) = inl (h.0, record { start = start; begins = begins; class = class; named = named; chosen = h.1 })
    of start class begins named (inr none) = inr (λ target t. none target (searched_for p current m start class target begins named t))

    no_class : (start : List ℕ) → StartsSearch p current m start → class_named p start ≡ None → (target : ℕ) → SelectsSpecial p current m target → ⊥
    no_class start begins e target t = none-some t.class (sym e ∙ ap (class_named p) (one_start p current m start t.start begins t.begins) ∙ t.named)

    at : (start : List ℕ) → StartsSearch p current m start → (o : Option Class) → class_named p start ≡ o → SomeOrNone (SelectsSpecial p current m)
    at start begins None e = inr (no_class start begins e)
    at start begins (Some class) e = of start class begins e (searched_or_none p program m start class)

    by : Start p current m → SomeOrNone (SelectsSpecial p current m)
    by (inl h) = at h.0 h.1 (class_named p h.0) refl
    by (inr none) = inr (λ target t. none t.start t.begins)

-- ---- what the call gives

pub special_stands : (p : Program) (current : List ℕ) (m : MemberReference) (target : ℕ) → SelectsSpecial p current m target → IsMethod p target
special_stands p current m target t =
    selected_stands p t.start m.signature (IsFoundIn p (IsInstanceWith m.signature) m.signature t.class) target
    (found_in_stands p (IsInstanceWith m.signature) m.signature t.class target) t.chosen

abbrev Outcome : Program → List ℕ → MemberReference → Type 0
Outcome p current m = (outcome : Result ℕ Reason) × SpecialSelection p current m outcome

pub special_outcome : (p : Program) (current : List ℕ) (m : MemberReference) → IsProgram p → Outcome p current m
special_outcome p current m program = by (special_or_none p program current m)
  where
    of : (target : ℕ) (method : Method) → SelectsSpecial p current m target → slice_get p.methods target ≡ Some method → (b : Bool) → is_abstract method ≡ b → Outcome p current m
    of target method t stands true e = (Err NoImplementation, no_code target method t stands e refl)
    of target method t stands false e = (Ok target, selected target method t stands e refl)

    by : SomeOrNone (SelectsSpecial p current m) → Outcome p current m
    by (inl h) = let is = special_stands p current m h.0 h.1 in of h.0 is.0 h.1 is.1 (is_abstract is.0) refl
    by (inr none) = (Err NoImplementation, nothing none refl)

pub target_or_none : (p : Program) (current : List ℕ) (m : MemberReference) → IsProgram p
    → ((target : ℕ) × SelectsSpecial p current m target) ⊎ ((target : ℕ) → SelectsSpecial p current m target → ⊥)
target_or_none p current m program = special_or_none p program current m
