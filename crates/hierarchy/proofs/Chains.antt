-- Chains of superclasses: each class has one alone; and a walk up a chain, by the numbers of its classes.
use Rattle.std.proofs.Common.{◌≡◌, ℕ, zero, suc, ◌+◌, ◌<◌, ◌≤◌, List, [], ◌∷◌, length, Option, Some, None, refl, sym, ◌∙◌, ap, subst, arith, inl}
use Rattle.std.specs.List.{slice_get}
use Rattle.std.specs.Option.{option_map}
use Rattle.std.proofs.lemmas.Option.{same_Some}
use Rattle.jvm_model.specs.LinkedPrograms.{IsProgram}
use Rattle.jvm_model.specs.Programs.{Class, Program}
use Rattle.jvm_model.specs.Subtypes.{class_named, IsDirectSuper, IsChain}
use Rattle.jvm_model.specs.declared.number.ClassNo.{ClassNo}
use Rattle.program_model.specs.Numbers.{name_at, IsClassNumber, IsNumber}
use Rattle.program_model.specs.Ranks.{IsRanked}
use Rattle.hierarchy.proofs.ClassPlaces.{IsClassAt, number_named, named_contained, supers_of, class_of_number}

-- ranks fall by names
pub rank_falls : (p : Program) (ranked : IsRanked p) (name : List ℕ) (c : Class) (super : List ℕ) → class_named p name ≡ Some c → IsDirectSuper c super
    → ranked.rank super < ranked.rank name
rank_falls p ranked name c super named direct =
    subst (λ (x : List ℕ). ranked.rank super < ranked.rank x) (number_named p name c named).2 (ranked.falls c super (named_contained p name c named) direct)

rank_few : (p : Program) (ranked : IsRanked p) (name : List ℕ) (c : Class) → class_named p name ≡ Some c → ranked.rank name < length p.classes
rank_few p ranked name c named =
    subst (λ (x : List ℕ). ranked.rank x < length p.classes) (number_named p name c named).2 (ranked.few c (named_contained p name c named))

chain_within : (p : Program) → IsProgram p → (ranked : IsRanked p) (bound : ℕ) (name : List ℕ) (c : Class) → ranked.rank name < bound → class_named p name ≡ Some c
    → (rest : List Class) × IsChain p c.super_class rest
chain_within p program ranked zero name c lt named = absurd (omega (arith, lt))
chain_within p program ranked (suc bound) name c lt named =
    let Answer : Type 0 = (rest : List Class) × IsChain p c.super_class rest in
    let split : (o : Option (List ℕ)) → c.super_class ≡ o → Answer =
    λ o. elim o as (λ v. c.super_class ≡ v → Answer) [
      | None ↦ λ e. ([], subst (λ (v : Option (List ℕ)). IsChain p v []) (sym e) tt)
      | Some up ↦ λ e.
          let above = (supers_of p program name c named).superclass up e in
          let less = rank_falls p ranked name c up named (inl e) in
          let rest = chain_within p program ranked bound up above.0 (omega (arith, lt, less)) above.1 in
          (above.0 ∷ rest.0, subst (λ (v : Option (List ℕ)). IsChain p v (above.0 ∷ rest.0)) (sym e) (above.1, rest.1))
    ] in
    split c.super_class refl

-- each class has a chain of superclasses
pub chain_above : (p : Program) → IsProgram p → IsRanked p → (name : List ℕ) (c : Class) → class_named p name ≡ Some c → (rest : List Class) × IsChain p c.super_class rest
chain_above p program ranked name c named = chain_within p program ranked (length p.classes) name c (rank_few p ranked name c named) named

-- a class has one chain
pub chain_same : (p : Program) (start : Option (List ℕ)) (a b : List Class) → IsChain p start a → IsChain p start b → a ≡ b
chain_same p None [] [] h k = refl
chain_same p None [] (d ∷ b) h k = absurd k
chain_same p None (c ∷ a) b h k = absurd h
chain_same p (Some name) [] b h k = absurd h
chain_same p (Some name) (c ∷ a) [] h k = absurd k
chain_same p (Some name) (c ∷ a) (d ∷ b) h k =
    let same : d ≡ c = same_Some d c (sym k.0 ∙ h.0) in
    let rest : a ≡ b = chain_same p c.super_class a b h.1 (subst (λ (x : Class). IsChain p x.super_class b) same k.1) in
    (λ i. sym same i ∷ rest i)

-- ---- a walk upward by numbers

-- The class of a number, and that of the number of its superclass.
pub record IsStep (p : Program) (n up : ℕ) : Type 0 where
  pub class : Class
  pub at : IsClassAt p n class
  pub below : IsClassNumber p up
  pub super : class.super_class ≡ Some (name_at p up)

pub step_at : (p : Program) → IsProgram p → (n : ℕ) (up : ClassNo) (number : Option ClassNo) → IsClassNumber p n → number ≡ Some up
    → ((c : Class) → slice_get p.classes n ≡ Some c → IsNumber p c.super_class number) → IsStep p n up.0
step_at p program n up number within is of_number =
    let there = class_of_number p program n within in
    let has = of_number there.0 there.1.stands in
    record {
      class = there.0;
      at = there.1;
      below = has.below up is;
      super = sym has.named ∙ ap (option_map (λ (x : ClassNo). name_at p x.0)) is;
    }

-- The class of a number, which has no superclass.
pub record IsTop (p : Program) (n : ℕ) : Type 0 where
  pub class : Class
  pub at : IsClassAt p n class
  pub super : class.super_class ≡ None

pub top_at : (p : Program) → IsProgram p → (n : ℕ) (number : Option ClassNo) → IsClassNumber p n → number ≡ None
    → ((c : Class) → slice_get p.classes n ≡ Some c → IsNumber p c.super_class number) → IsTop p n
top_at p program n number within is of_number =
    let there = class_of_number p program n within in
    let has = of_number there.0 there.1.stands in
    record { class = there.0; at = there.1; super = sym has.named ∙ ap (option_map (λ (x : ClassNo). name_at p x.0)) is }

-- So many classes were passed that the rank of this one still fits.
pub record HasRoom (p : Program) (n passed : ℕ) : Type 0 where
  pub below : IsClassNumber p n
  pub fits : (ranked : IsRanked p) → ranked.rank (name_at p n) + passed < length p.classes

pub room_more : (p : Program) (n up passed : ℕ) → IsStep p n up → HasRoom p n passed → HasRoom p up (passed + 1)
room_more p n up passed step room =
    record {
      below = step.below;
      fits = λ ranked.
          let less = rank_falls p ranked (name_at p n) step.class (name_at p up) step.at.named (inl step.super) in
          let fits = room.fits ranked in
          omega (arith, less, fits);
    }

pub room_none : (p : Program) → IsRanked p → (n passed : ℕ) → length p.classes ≤ passed → HasRoom p n passed → ⊥
room_none p ranked n passed all room = let fits = room.fits ranked in omega (arith, all, fits)
