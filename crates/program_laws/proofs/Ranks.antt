-- Ranks of names: how many classes are above a name. They fall from each class to its direct supertypes, so each class has a
-- chain of superclasses.
use Rattle.std.proofs.Common.{◌≡◌, ◌⊎◌, inl, inr, ℕ, zero, suc, ◌+◌, ◌<◌, ◌≤◌, List, [], ◌∷◌, Option, Some, None, refl, sym, ◌∙◌, subst, arith}
use Rattle.std.specs.List.{Contains}
use Rattle.std.proofs.lemmas.Option.{none-some}
use Rattle.list_laws.proofs.Members.{contains_cases, contains_none}
use Rattle.jvm_model.specs.LinkedPrograms.{IsProgram, class_names}
use Rattle.jvm_model.specs.Programs.{Class, Program}
use Rattle.jvm_model.specs.Subtypes.{class_named, IsDirectSuper, IsSubtype, same, below, IsChain}
use Rattle.program_laws.proofs.Choices.{OrNot}
use Rattle.program_laws.proofs.Paths.{below_or_not}
use Rattle.program_laws.proofs.Classes.{named_there, supers_of}

-- ---- how many names there are of a kind

abbrev one_if : {P : Type 0} → OrNot P → ℕ
one_if (inl h) = 1
one_if (inr not_so) = 0

abbrev count : (P : List ℕ → Type 0) → ((n : List ℕ) → OrNot (P n)) → List (List ℕ) → ℕ
count P choose [] = 0
count P choose (n ∷ names) = one_if (choose n) + count P choose names

one_most : {P Q : Type 0} → (P → Q) → (x : OrNot P) (y : OrNot Q) → one_if x ≤ one_if y
one_most to (inl h) (inl k) = omega arith
one_most to (inl h) (inr not_so) = absurd (not_so (to h))
one_most to (inr not_so) (inl k) = omega arith
one_most to (inr not_so) (inr nor) = omega arith

one_more : {P Q : Type 0} → (P → ⊥) → Q → (x : OrNot P) (y : OrNot Q) → one_if x < one_if y
one_more none some (inl h) y = absurd (none h)
one_more none some (inr not_so) (inl k) = omega arith
one_more none some (inr not_so) (inr nor) = absurd (nor some)

-- two kinds of names, each name of the first kind being of the second
record Kinds : Type 1 where
  P : List ℕ → Type 0
  Q : List ℕ → Type 0
  first : (n : List ℕ) → OrNot (P n)
  second : (n : List ℕ) → OrNot (Q n)
  within : (n : List ℕ) → P n → Q n

at_most : (k : Kinds) (names : List (List ℕ)) → count k.P k.first names ≤ count k.Q k.second names
at_most k [] = omega arith
at_most k (n ∷ names) =
    let here = one_most (k.within n) (k.first n) (k.second n) in
    let rest = at_most k names in
    omega (arith, here, rest)

fewer : (k : Kinds) (names : List (List ℕ)) (x : List ℕ) → Contains names x → (k.P x → ⊥) → k.Q x → count k.P k.first names < count k.Q k.second names
fewer k [] x there none some = absurd (contains_none x there)
fewer k (n ∷ names) x there none some = by (λ later. fewer k names x later none some) (contains_cases n x names there)
  where
    by : (Contains names x → count k.P k.first names < count k.Q k.second names) → (n ≡ x) ⊎ Contains names x
        → count k.P k.first (n ∷ names) < count k.Q k.second (n ∷ names)
    by later (inl e) =
        let here = one_more (λ h. none (subst k.P e h)) (subst k.Q (sym e) some) (k.first n) (k.second n) in
        let rest = at_most k names in
        omega (arith, here, rest)
    by later (inr there) =
        let here = one_most (k.within n) (k.first n) (k.second n) in
        let rest = later there in
        omega (arith, here, rest)

-- ---- ranks

pub rank : Program → List ℕ → ℕ
rank p name = count (λ n. IsSubtype p n name) (λ n. below_or_not p n name) (class_names p)

pub rank_falls : (p : Program) → IsProgram p → (name : List ℕ) (c : Class) (super : List ℕ) → class_named p name ≡ Some c → IsDirectSuper c super → rank p super < rank p name
unfolding rank
rank_falls p program name c super named direct =
    let there = named_there p name c named in
    fewer (record {
      P = λ n. IsSubtype p n super;
      Q = λ n. IsSubtype p n name;
      first = λ n. below_or_not p n super;
      second = λ n. below_or_not p n name;
      within = λ n h. below name c super named direct h;
    }) (class_names p) name there
    (λ back. program.acyclic name there (record { class = c; named = named; super = super; direct = direct; back = back })) (same name refl)

-- ---- chains of superclasses

chain_within : (p : Program) → IsProgram p → (limit : ℕ) (name : List ℕ) (c : Class) → rank p name < limit → class_named p name ≡ Some c
    → (rest : List Class) × IsChain p c.super_class rest
chain_within p program zero name c low named = absurd (omega (arith, low))
chain_within p program (suc limit) name c low named = by (chain_within p program limit) c.super_class refl
  where
    by : ((up : List ℕ) (above : Class) → rank p up < limit → class_named p up ≡ Some above → (rest : List Class) × IsChain p above.super_class rest)
        → (o : Option (List ℕ)) → c.super_class ≡ o → (rest : List Class) × IsChain p c.super_class rest
    by later None e = ([], subst (λ (v : Option (List ℕ)). IsChain p v []) (sym e) tt)
    by later (Some up) e =
        let above = (supers_of p program name c named).superclass up e in
        let less = rank_falls p program name c up named (inl e) in
        let rest = later up above.0 (omega (arith, low, less)) above.1 in
        (above.0 ∷ rest.0, subst (λ (v : Option (List ℕ)). IsChain p v (above.0 ∷ rest.0)) (sym e) (above.1, rest.1))

-- a class of the program has a chain
pub chain_of : (p : Program) → IsProgram p → (name : List ℕ) (c : Class) → class_named p name ≡ Some c → (chain : List Class) × IsChain p (Some name) chain
chain_of p program name c named = let rest = chain_within p program (suc (rank p name)) name c (omega arith) named in (c ∷ rest.0, (named, rest.1))

-- a name has a chain, or none
pub chain_or_none : (p : Program) → IsProgram p → (name : List ℕ) → ((chain : List Class) × IsChain p (Some name) chain) ⊎ ((chain : List Class) → IsChain p (Some name) chain → ⊥)
chain_or_none p program name = by (class_named p name) refl
  where
    missing : class_named p name ≡ None → (chain : List Class) → IsChain p (Some name) chain → ⊥
    missing e [] h = h
    missing e (c ∷ chain) h = none-some c (sym e ∙ h.0)

    by : (o : Option Class) → class_named p name ≡ o → ((chain : List Class) × IsChain p (Some name) chain) ⊎ ((chain : List Class) → IsChain p (Some name) chain → ⊥)
    by None e = inr (missing e)
    by (Some c) e = inl (chain_of p program name c e)
