-- A name begins one chain of superclasses, and classes of a program that are above each other are the same.
use Rattle.std.proofs.Common.{◌≡◌, ℕ, List, [], ◌∷◌, Option, Some, None, refl, sym, ap, ◌∙◌, subst}
use Rattle.std.specs.Prelude.{Contains}
use Rattle.std.proofs.lemmas.Option.{same_Some}
use Rattle.jvm_model.specs.Programs.{Class, Program}
use Rattle.jvm_model.specs.Subtypes.{class_named, IsSubtype, same, below, IsChain}
use Rattle.jvm_model.specs.LinkedPrograms.{IsProgram, class_names}

pub one_class : (p : Program) (name : List ℕ) (c d : Class) → class_named p name ≡ Some c → class_named p name ≡ Some d → c ≡ d
one_class p name c d named named2 = same_Some c d (sym named ∙ named2)

pub one_chain : (p : Program) (start : Option (List ℕ)) (a b : List Class) → IsChain p start a → IsChain p start b → a ≡ b
one_chain p None [] [] x y = refl
one_chain p None [] (d ∷ b) x y = absurd y
one_chain p None (c ∷ a) b x y = absurd x
one_chain p (Some name) [] b x y = absurd x
one_chain p (Some name) (c ∷ a) [] x y = absurd y
one_chain p (Some name) (c ∷ a) (d ∷ b) x y =
    let first : c ≡ d = one_class p name c d x.0 y.0 in
    let rest : IsChain p c.super_class b = subst (λ (e : Class). IsChain p e.super_class b) (sym first) y.1 in
    ap (λ (e : Class). e ∷ a) first ∙ ap (λ (chain : List Class). d ∷ chain) (one_chain p c.super_class a b x.1 rest)

-- what is below a class is below what that class is below
pub upward : (p : Program) (top middle name : List ℕ) → IsSubtype p middle name → IsSubtype p top middle → IsSubtype p top name
upward p top middle name (same n e) h = subst (λ (x : List ℕ). IsSubtype p top x) (sym e) h
upward p top middle name (below n c super named direct rest) h = below n c super named direct (upward p top middle super rest h)

pub ordered : (p : Program) (x y : List ℕ) → IsProgram p → IsSubtype p x y → IsSubtype p y x → Contains (class_names p) y → x ≡ y
ordered p x y program (same n e) back there = sym e
ordered p x y program (below n c super named direct rest) back there =
    absurd (program.acyclic y there (record { class = c; named = named; super = super; direct = direct; back = upward p y x super rest back }))
