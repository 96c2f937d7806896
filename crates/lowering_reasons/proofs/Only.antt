-- What is the only one, and what follows of a test of it.
use Rattle.std.proofs.Common.{◌≡◌, ◌⊎◌, inl, inr, Bool, true, false, Option, Some, None, refl, sym, ◌∙◌, subst}
use Rattle.std.specs.Prelude.{◌↔◌, IsTrue}
use Rattle.std.proofs.lemmas.Bool.{false≢true}
use Rattle.std.proofs.lemmas.Option.{none-some, same_Some}
use Rattle.lowering_reasons.specs.Looked.{IsOnly, HasSuch}

-- what is asked for under a test, where the test is passed, and where it is not
pub only_asked : {X : Type 0} (b : Bool) (e found : Option X) → b ≡ true → found ≡ e → IsOnly (λ (x : X). IsTrue b × (e ≡ Some x)) found
only_asked b e found asked same = record { holds = λ x is. (asked, sym same ∙ is); only = λ x h. same ∙ h.1 }

pub only_idle : {X : Type 0} (b : Bool) (e : Option X) → b ≡ false → IsOnly (λ (x : X). IsTrue b × (e ≡ Some x)) None
only_idle b e idle = record { holds = λ x is. absurd (none-some x is); only = λ x h. absurd (false≢true (sym idle ∙ h.0)) }

-- the only one
pub only_here : {X : Type 0} (P : X → Type 0) (x : X) → IsOnly P (Some x) → P x
only_here P x o = o.holds x refl

pub only_same : {X : Type 0} (P : X → Type 0) (x y : X) → IsOnly P (Some x) → P y → x ≡ y
only_same P x y o h = same_Some x y (o.only y h)

pub none_such : {X : Type 0} (P : X → Type 0) → IsOnly P None → (x : X) → P x → ⊥
none_such P o x h = none-some x (o.only x h)

pub only_none : {X : Type 0} (P : X → Type 0) → ((x : X) → P x → ⊥) → IsOnly P None
only_none P none = record { holds = λ x is. absurd (none-some x is); only = λ x h. absurd (none x h) }

pub only_one : {X : Type 0} (P : X → Type 0) (x : X) → P x → ((y : X) → P y → x ≡ y) → IsOnly P (Some x)
only_one P x h same = record { holds = λ y is. subst P (same_Some x y is) h; only = λ y k. subst (λ z. Some x ≡ Some z) (same y k) refl }

-- a test of the only one is a test whether there is such a one
pub told : {X : Type 0} (P Q : X → Type 0) (x : X) (b : Bool) → IsOnly P (Some x) → (IsTrue b ↔ Q x) → IsTrue b ↔ HasSuch P Q
told P Q x b o test = (
  λ yes. record { one = x; first = only_here P x o; second = test.0 yes },
  λ such. test.1 (subst Q (sym (only_same P x such.one o such.first)) such.second),
)

pub told_none : {X : Type 0} (P Q : X → Type 0) (b : Bool) → IsOnly P None → b ≡ false → IsTrue b ↔ HasSuch P Q
told_none P Q b o failed = (λ yes. absurd (false≢true (sym failed ∙ yes)), λ such. absurd (none_such P o such.one such.first))

-- ---- either of two

-- The whole is one part or the other.
pub record IsEither (A B P : Type 0) : Type 0 where
  pub left : A → P
  pub right : B → P
  pub cases : P → A ⊎ B

pub either_then : {A B P : Type 0} (b : Bool) → IsEither A B P → b ≡ true → (IsTrue b ↔ A) → IsTrue b ↔ P
either_then b e passed test = (λ _. e.left (test.0 passed), λ _. passed)

pub either_true : {A B P : Type 0} (b : Bool) → IsEither A B P → b ≡ true → (IsTrue b ↔ A) → IsTrue true ↔ P
either_true b e passed test = (λ _. e.left (test.0 passed), λ _. refl)

pub either_else : {A B P : Type 0} (a b : Bool) → IsEither A B P → a ≡ false → (IsTrue a ↔ A) → (IsTrue b ↔ B) → IsTrue b ↔ P
either_else {A = A} {B = B} a b e failed test other = (λ yes. e.right (other.0 yes), λ h. by (e.cases h))
  where
    by : A ⊎ B → IsTrue b
    by (inl x) = absurd (false≢true (sym failed ∙ test.1 x))
    by (inr y) = other.1 y

pub sum_either : (A B : Type 0) → IsEither A B (A ⊎ B)
sum_either A B = record { left = λ a. inl a; right = λ b. inr b; cases = λ h. h }

-- ---- more of what is the only one

-- a test of the answer is a test of the fact
pub only_test : {X : Type 0} (P : X → Type 0) (x : X) (o : Option X) (b : Bool) → IsOnly P o → (IsTrue b ↔ (o ≡ Some x)) → IsTrue b ↔ P x
only_test P x o b only test = (λ passed. only.holds x (test.0 passed), λ h. test.1 (only.only x h))

pub only_iff : {X : Type 0} (P Q : X → Type 0) (o : Option X) → ((x : X) → P x → Q x) → ((x : X) → Q x → P x) → IsOnly P o → IsOnly Q o
only_iff P Q o to back only = record { holds = λ x e. to x (only.holds x e); only = λ x h. only.only x (back x h) }

pub only_by : {X : Type 0} (P : X → Type 0) (o q : Option X) → o ≡ q → IsOnly P o → IsOnly P q
only_by P o q e only = subst (λ v. IsOnly P v) e only

pub proved : {P : Type 0} → P → IsTrue true ↔ P
proved h = (λ _. h, λ _. refl)

pub refuted : {P : Type 0} → (P → ⊥) → IsTrue false ↔ P
refuted none = (λ never. absurd (false≢true never), λ h. absurd (none h))

pub same_test : (a b : Bool) → a ≡ b → IsTrue a ↔ IsTrue b
same_test a b e = (λ h. sym e ∙ h, λ h. e ∙ h)

-- a test that failed
pub failed : {P : Type 0} (b : Bool) → (IsTrue b ↔ P) → b ≡ false → P → ⊥
failed b test e h = false≢true (sym e ∙ test.1 h)
