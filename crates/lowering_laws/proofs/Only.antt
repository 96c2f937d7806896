-- Where there is one thing at most of which a fact holds, and it is known, it is decided whether something more holds of it.
use Rattle.std.proofs.Common.{◌≡◌, ◌⊎◌, inl, inr, ℕ, Bool, true, false, Option, Some, None, Result, Ok, Err, refl, sym, subst}
use Rattle.std.specs.Prelude.{IsTrue}
use Rattle.jvm_model.specs.declared.reason.Reason.{Reason}
use Rattle.lowering_reasons.specs.Looked.{IsOnly, HasSuch}
use Rattle.lowering_reasons.proofs.Only.{IsEither, only_asked, only_idle, only_here, only_same, none_such, only_none, only_one}
use Rattle.lowering_reasons.proofs.OtherKinds.{same_ok, ok_or_err}
use Rattle.program_laws.proofs.Choices.{OrNot, carried_over, either_or_not}

-- the only one is known, or that there is none
abbrev pub Known : {X : Type 0} → (X → Type 0) → Type 0
Known {X} P = (o : Option X) × IsOnly P o

pub such_or_not : {X : Type 0} (P Q : X → Type 0) → Known P → ((x : X) → OrNot (Q x)) → OrNot (HasSuch P Q)
such_or_not {X} P Q (None, only) choose = inr (λ s. none_such P only s.one s.first)
such_or_not {X} P Q (Some x, only) choose = by (choose x)
  where
    by : OrNot (Q x) → OrNot (HasSuch P Q)
    by (inl h) = inl (record { one = x; first = only_here P x only; second = h })
    by (inr not_so) = inr (λ s. not_so (subst Q (sym (only_same P x s.one only s.first)) s.second))

pub this_or_not : {X : Type 0} (P : X → Type 0) → ((x y : X) → OrNot (x ≡ y)) → Known P → (x : X) → OrNot (P x)
this_or_not {X} P same (None, only) x = inr (none_such P only x)
this_or_not {X} P same (Some y, only) x = by (same y x)
  where
    by : OrNot (y ≡ x) → OrNot (P x)
    by (inl e) = inl (subst P e (only_here P y only))
    by (inr differs) = inr (λ h. differs (only_same P y x only h))

pub some_known : {X : Type 0} (P : X → Type 0) → Known P → OrNot ((x : X) × P x)
some_known P (None, only) = inr (λ h. none_such P only h.0 h.1)
some_known P (Some x, only) = inl (x, only_here P x only)

-- what is asked for under a test
pub known_under : {X : Type 0} (b : Bool) (e : Option X) → Known (λ (x : X). IsTrue b × (e ≡ Some x))
known_under true e = (e, only_asked true e e refl refl)
known_under false e = (None, only_idle false e refl)

-- the number of an outcome
pub known_number : (P : Result ℕ Reason → Type 0) → Known P → Known (λ (n : ℕ). P (Ok n))
known_number P (None, only) = (None, only_none (λ (n : ℕ). P (Ok n)) (λ n h. none_such P only (Ok n) h))
known_number P (Some (Ok n), only) = (Some n, only_one (λ (k : ℕ). P (Ok k)) n (only_here P (Ok n) only) (λ k h. same_ok n k (only_same P (Ok n) (Ok k) only h)))
known_number P (Some (Err r), only) = (None, only_none (λ (n : ℕ). P (Ok n)) (λ n h. ok_or_err n r (sym (only_same P (Err r) (Ok n) only h))))

pub either_part : {A B P : Type 0} → IsEither A B P → OrNot A → OrNot B → OrNot P
either_part {A = A} {B = B} {P = P} e a b = carried_over to e.cases (either_or_not a b)
  where
    to : A ⊎ B → P
    to (inl h) = e.left h
    to (inr h) = e.right h
