-- A walk up the superclasses, by one step, and at its ends.
use Rattle.std.proofs.Common.{◌≡◌, ◌↔◌, ◌⊎◌, ℕ, List, [], ◌∷◌, Option, Some, None, refl, sym, subst, inl, inr}
use Rattle.std.specs.Bool.{IsTrue}
use Rattle.std.specs.List.{slice_get, Contains}
use Rattle.std.specs.Option.{is_some}
use Rattle.std.proofs.lemmas.Bool.{false≢true}
use Rattle.jvm_model.specs.LinkedPrograms.{IsProgram}
use Rattle.jvm_model.specs.Programs.{Class, Program}
use Rattle.jvm_model.specs.Subtypes.{IsChain}
use Rattle.jvm_model.specs.declared.number.MethodNo.{MethodNo}
use Rattle.program_model.specs.Numbers.{name_at, IsClassNumber}
use Rattle.program_model.specs.Ranks.{IsRanked}
use Rattle.hierarchy.specs.Searches.{Finds}
use Rattle.program_index.proofs.OrderPlaces.{contains_first, contains_later, contains_cases, contains_none}
use Rattle.hierarchy.specs.Upward.{AnswersFirst, AnswersWhere, IsFirstUpward, IsFoldedUpward}
use Rattle.hierarchy.proofs.ClassPlaces.{class_of_number}
use Rattle.hierarchy.proofs.Chains.{IsStep, IsTop, chain_above}

-- The class of a number answers so.
abbrev pub AnswersAt : {A : Type 0} → Program → (Class → Option A → Type 0) → ℕ → Option A → Type 0
AnswersAt p Answers n found = (c : Class) → slice_get p.classes n ≡ Some c → Answers c found

pub walk_here : {A : Type 0} (p : Program) → IsProgram p → IsRanked p → (Answers : Class → Option A → Type 0) (n : ℕ) (answer : A) → IsClassNumber p n
    → AnswersAt p Answers n (Some answer) → IsFirstUpward p Answers (name_at p n) (Some answer)
walk_here p program ranked Answers n answer within here =
    let there = class_of_number p program n within in
    let rest = chain_above p program ranked (name_at p n) there.0 there.1.named in
    record { chain = there.0 ∷ rest.0; of_start = (there.1.named, rest.1); first = inl (here there.0 there.1.stands) }

pub walk_above : {A : Type 0} (p : Program) (Answers : Class → Option A → Type 0) (n up : ℕ) (found : Option A) → IsStep p n up → AnswersAt p Answers n None
    → IsFirstUpward p Answers (name_at p up) found → IsFirstUpward p Answers (name_at p n) found
walk_above {A} p Answers n up found step none above =
    record {
      chain = step.class ∷ above.chain;
      of_start = (step.at.named, subst (λ (v : Option (List ℕ)). IsChain p v above.chain) (sym step.super) above.of_start);
      first = later found above.first;
    }
  where
    later : (r : Option A) → AnswersFirst Answers above.chain r → AnswersFirst Answers (step.class ∷ above.chain) r
    later None first = (none step.class step.at.stands, first)
    later (Some answer) first = inr (none step.class step.at.stands, first)

pub walk_ends : {A : Type 0} (p : Program) (Answers : Class → Option A → Type 0) (n : ℕ) → IsTop p n → AnswersAt p Answers n None
    → IsFirstUpward p Answers (name_at p n) None
walk_ends p Answers n top none =
    record {
      chain = top.class ∷ [];
      of_start = (top.at.named, subst (λ (v : Option (List ℕ)). IsChain p v []) (sym top.super) tt);
      first = (none top.class top.at.stands, tt);
    }

-- ---- what classes make of a value

-- The class of a number makes the second value of the first.
abbrev pub MakesAt : {A : Type 0} → Program → (Class → A → A → Type 0) → ℕ → A → A → Type 0
MakesAt p Makes n start next = (c : Class) → slice_get p.classes n ≡ Some c → Makes c start next

pub fold_above : {A : Type 0} (p : Program) (Makes : Class → A → A → Type 0) (n up : ℕ) (start next value : A) → IsStep p n up → MakesAt p Makes n start next
    → IsFoldedUpward p Makes (name_at p up) next value → IsFoldedUpward p Makes (name_at p n) start value
fold_above p Makes n up start next value step here above =
    record {
      chain = step.class ∷ above.chain;
      of_class = (step.at.named, subst (λ (v : Option (List ℕ)). IsChain p v above.chain) (sym step.super) above.of_class);
      makes = (next, here step.class step.at.stands, above.makes);
    }

pub fold_ends : {A : Type 0} (p : Program) (Makes : Class → A → A → Type 0) (n : ℕ) (start value : A) → IsTop p n → MakesAt p Makes n start value
    → IsFoldedUpward p Makes (name_at p n) start value
fold_ends p Makes n start value top here =
    record {
      chain = top.class ∷ [];
      of_class = (top.at.named, subst (λ (v : Option (List ℕ)). IsChain p v []) (sym top.super) tt);
      makes = (value, here top.class top.at.stands, refl);
    }

-- ---- what is found along a chain

-- The fact holds of the number and a class of the chain.
abbrev pub HasAlong : (Class → ℕ → Type 0) → List Class → ℕ → Type 0
HasAlong Q [] number = ⊥
HasAlong Q (c ∷ chain) number = Q c number ⊎ HasAlong Q chain number

pub first_along : (Q : Class → ℕ → Type 0) (chain : List Class) (found : Option MethodNo) → AnswersFirst (λ c. Finds (Q c)) chain found → Finds (HasAlong Q chain) found
first_along Q [] (Some number) h = h
first_along Q [] None h = λ number along. along
first_along Q (c ∷ chain) (Some number) (inl here) = inl here
first_along Q (c ∷ chain) (Some number) (inr above) = inr (first_along Q chain (Some number) above.1)
first_along Q (c ∷ chain) None h = λ number along. elim along [ inl here ↦ h.0 number here | inr above ↦ first_along Q chain None h.1 number above ]

-- ---- whether a fact holds of a class of the chain

-- A class of the chain of which the fact holds.
pub record HasOne (Holds : Class → Type 0) (chain : List Class) : Type 0 where
  pub one : Class
  pub among : Contains chain one
  pub holds : Holds one

-- where each class answers just where the fact holds of it, there is an answer just where it holds of one of them
pub first_tells : {A : Type 0} (Holds : Class → Type 0) (chain : List Class) (found : Option A) → AnswersFirst (AnswersWhere Holds) chain found
    → IsTrue (is_some found) ↔ HasOne Holds chain
first_tells Holds [] (Some answer) h = absurd h
first_tells Holds [] None h = (λ t. absurd (false≢true t), λ one. absurd (contains_none one.one one.among))
first_tells Holds (c ∷ chain) (Some answer) (inl here) = (λ t. record { one = c; among = contains_first c chain; holds = here.0 refl }, λ one. refl)
first_tells Holds (c ∷ chain) (Some answer) (inr above) =
    let later = (first_tells Holds chain (Some answer) above.1).0 refl in
    (λ t. record { one = later.one; among = contains_later c chain later.one later.among; holds = later.holds }, λ one. refl)
first_tells Holds (c ∷ chain) None h =
    let rest = first_tells Holds chain None h.1 in (
      λ t. absurd (false≢true t),
      λ one. elim (contains_cases c chain one.one one.among) [
        | inl e ↦ h.0.1 (subst Holds (sym e) one.holds)
        | inr later ↦ rest.1 (record { one = one.one; among = later; holds = one.holds })
      ],
    )
