-- Whether two reasons, two outcomes, or two actions are the same is decided; and whether a list has a signature.
use Rattle.std.proofs.Common.{◌≡◌, inl, inr, ℕ, Bool, true, false, List, [], ◌∷◌, get_or, Result, Ok, Err, refl, sym, ap, ◌∙◌, subst}
use Rattle.std.specs.List.{Contains}
use Rattle.jvm_model.specs.declared.reason.Reason.{Reason}
use Rattle.jvm_model.specs.contracts.reason.Reason.{the_type}
use Rattle.jvm_model.specs.Lookups.{Signature}
use Rattle.jvm_model.specs.Table.{Action, plain, load_constant, load_element, store_element, probe_element, probe_array, probe_object, get_static, put_static, get_field, put_field, invoke_virtual, invoke_special, invoke_static, invoke_interface, make_object, make_array, throw_object, cast, leave_method, refused}
use Rattle.lowering_reasons.proofs.OtherKinds.{same_ok, same_err, ok_or_err}
use Rattle.program_laws.proofs.Choices.{OrNot, carried_over, some_or_not}
use Rattle.program_laws.proofs.Outcomes.{given}
use Rattle.program_laws.proofs.Bounded.{equal_or_not}
use Rattle.program_laws.proofs.Declaring.{signature_or_not}
use denote.Enum.Bare.{sameb, same_true, same_false}

-- ---- outcomes

pub reason_or_not : (r s : Reason) → OrNot (r ≡ s)
reason_or_not r s = by (sameb the_type r s) refl
  where
    by : (b : Bool) → sameb the_type r s ≡ b → OrNot (r ≡ s)
    by true e = inl (same_true the_type tt r s e)
    by false e = inr (same_false the_type r s e)

abbrev no_answer : Reason → Result ℕ Reason
no_answer r = Err r

pub outcome_or_not : (a b : Result ℕ Reason) → OrNot (a ≡ b)
outcome_or_not (Ok m) (Ok n) = carried_over (λ e. ap given e) (same_ok m n) (equal_or_not m n)
outcome_or_not (Ok m) (Err r) = inr (ok_or_err m r)
outcome_or_not (Err r) (Ok n) = inr (λ e. ok_or_err n r (sym e))
outcome_or_not (Err r) (Err s) = carried_over (λ e. ap no_answer e) (same_err r s) (reason_or_not r s)

-- ---- actions

place_of : Action → ℕ
place_of plain = 0
place_of load_constant = 1
place_of load_element = 2
place_of store_element = 3
place_of probe_element = 4
place_of probe_array = 5
place_of probe_object = 6
place_of get_static = 7
place_of put_static = 8
place_of get_field = 9
place_of put_field = 10
place_of invoke_virtual = 11
place_of invoke_special = 12
place_of invoke_static = 13
place_of invoke_interface = 14
place_of make_object = 15
place_of make_array = 16
place_of throw_object = 17
place_of cast = 18
place_of leave_method = 19
place_of refused = 20

actions : List Action
actions =
    plain ∷ load_constant ∷ load_element ∷ store_element ∷ probe_element ∷ probe_array ∷ probe_object ∷ get_static ∷ put_static ∷ get_field ∷ put_field
    ∷ invoke_virtual ∷ invoke_special ∷ invoke_static ∷ invoke_interface ∷ make_object ∷ make_array ∷ throw_object ∷ cast ∷ leave_method ∷ refused ∷ []

stands_there : (a : Action) → get_or actions (place_of a) plain ≡ a
unfolding actions place_of
stands_there plain = refl
stands_there load_constant = refl
stands_there load_element = refl
stands_there store_element = refl
stands_there probe_element = refl
stands_there probe_array = refl
stands_there probe_object = refl
stands_there get_static = refl
stands_there put_static = refl
stands_there get_field = refl
stands_there put_field = refl
stands_there invoke_virtual = refl
stands_there invoke_special = refl
stands_there invoke_static = refl
stands_there invoke_interface = refl
stands_there make_object = refl
stands_there make_array = refl
stands_there throw_object = refl
stands_there cast = refl
stands_there leave_method = refl
stands_there refused = refl

pub action_or_not : (a b : Action) → OrNot (a ≡ b)
action_or_not a b =
    carried_over (λ e. sym (stands_there a) ∙ ap (λ (k : ℕ). get_or actions k plain) e ∙ stands_there b) (λ e. ap place_of e) (equal_or_not (place_of a) (place_of b))

pub special_or_static : invoke_special ≡ invoke_static → ⊥
special_or_static e = absurd cc

-- ---- signatures in a list

pub listed_or_not : (list : List Signature) (s : Signature) → OrNot (Contains list s)
listed_or_not list s = carried_over to (λ there. (s, there, refl)) (some_or_not (λ (x : Signature). x ≡ s) (λ x. signature_or_not x s) list)
  where
    to : (x : Signature) × Contains list x × (x ≡ s) → Contains list s
    to h = subst (λ (x : Signature). Contains list x) h.2 h.1
