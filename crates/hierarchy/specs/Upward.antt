-- Public contracts rest on this module.
-- Walks up the superclasses of a class: what the first class gives that answers; and what all of them make of a value. The classes are
-- a chain, in which each class is followed by its superclass (JVMS 5.4.3.3).
use Rattle.std.specs.Prelude.{◌≡◌, ◌↔◌, ◌⊎◌, ℕ, List, [], ◌∷◌, Option, Some, None, is_some, IsTrue}
use Rattle.jvm_model.specs.Programs.{Class, Program}
use Rattle.jvm_model.specs.Subtypes.{IsChain}

-- What is found is what the first class of the chain answers that has an answer; nothing is found if no class has one. `Answers c (Some x)`
-- says that the class c answers x, and `Answers c None` that it has no answer.
abbrev pub AnswersFirst : {A : Type 0} → (Class → Option A → Type 0) → List Class → Option A → Type 0
AnswersFirst Answers [] (Some answer) = ⊥
AnswersFirst Answers [] None = Unit {0}
AnswersFirst Answers (c ∷ chain) (Some answer) = Answers c (Some answer) ⊎ (Answers c None × AnswersFirst Answers chain (Some answer))
AnswersFirst Answers (c ∷ chain) None = Answers c None × AnswersFirst Answers chain None

-- What is found is the first answer of the class of the name `start` and of its superclasses, from that class upward.
pub record IsFirstUpward {A : Type 0} (p : Program) (Answers : Class → Option A → Type 0) (start : List ℕ) (found : Option A) : Type 0 where
  pub chain : List Class
  pub of_start : IsChain p (Some start) chain
  pub first : AnswersFirst Answers chain found

-- A class has an answer just where the fact holds of it; what it answers is left open.
abbrev pub AnswersWhere : {A : Type 0} → (Class → Type 0) → Class → Option A → Type 0
AnswersWhere Holds c found = IsTrue (is_some found) ↔ Holds c

-- The classes of the chain, one after the other, make the value `value` of the value `start`: the first class makes a next value of
-- `start`, the second class one of that, and so on. A chain without classes leaves the value as it is.
abbrev pub MakesAlong : {A : Type 0} → (Class → A → A → Type 0) → List Class → A → A → Type 0
MakesAlong Makes [] start value = start ≡ value
MakesAlong {A} Makes (c ∷ chain) start value = (next : A) × Makes c start next × MakesAlong Makes chain next value

-- The class of the name `class`, and then its superclasses upward, make the value `value` of the value `start`.
pub record IsFoldedUpward {A : Type 0} (p : Program) (Makes : Class → A → A → Type 0) (class : List ℕ) (start value : A) : Type 0 where
  pub chain : List Class
  pub of_class : IsChain p (Some class) chain
  pub makes : MakesAlong Makes chain start value
