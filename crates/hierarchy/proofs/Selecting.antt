-- Selection: where a call goes by what the searches found.
use Rattle.std.proofs.Common.{◌≡◌, ◌⊎◌, ℕ, Bool, true, false, List, [], ◌∷◌, Option, Some, refl, sym, ◌∙◌, ap, subst, inl, inr}
use Rattle.std.specs.Bool.{IsTrue, MatchBool}
use Rattle.std.specs.List.{slice_get}
use Rattle.std.proofs.lemmas.Bool.{false≢true}
use Rattle.std.proofs.lemmas.Option.{same_Some, slice_get_within}
use Rattle.jvm_model.specs.Lookups.{Signature}
use Rattle.jvm_model.specs.Programs.{Class, Method, Program, is_static}
use Rattle.jvm_model.specs.Resolution.{Declares, HasSignature, IsFirst, IsFound, IsFoundIn, IsFoundInInterface, declared_there, of_object, IsDefault, IsOnlyDefault}
use Rattle.jvm_model.specs.Selection.{IsInstance, Overrides, IsSelectable, SelectsFrom, upward, by_default, is_direct, Selects}
use Rattle.hierarchy.specs.declared.choice.Choice.{Choice}
use Rattle.hierarchy.specs.declared.choice.Choice.TheVariants.{Nothing, One, Several}
use Rattle.jvm_model.specs.declared.number.MethodNo.{MethodNo}
use Rattle.program_model.specs.Numbers.{IsMethodNumber}
use Rattle.hierarchy.specs.Searches.{Finds, IsSuch, HasOwnSignature, AreDefaults, IsChosen}
use Rattle.hierarchy.proofs.Declaring.{finds_same}

-- ---- a search for one fact is one for another that holds of the same methods

-- The facts hold of the same methods.
pub record AreSame (p : Program) (Is Js : ℕ → Method → Type 0) : Type 0 where
  pub to : (n : ℕ) (m : Method) → slice_get p.methods n ≡ Some m → Is n m → Js n m
  pub back : (n : ℕ) (m : Method) → slice_get p.methods n ≡ Some m → Js n m → Is n m

turned : (p : Program) (Is Js : ℕ → Method → Type 0) → AreSame p Is Js → AreSame p Js Is
turned p Is Js alike = record { to = alike.back; back = alike.to }

same_declares : (p : Program) (Is Js : ℕ → Method → Type 0) (class : List ℕ) (n : ℕ) → AreSame p Is Js → Declares p Is class n → Declares p Js class n
same_declares p Is Js class n alike d = record { method = d.method; stands = d.stands; of_class = d.of_class; is = alike.to n d.method d.stands d.is }

same_first : (p : Program) (Is Js : ℕ → Method → Type 0) (chain : List Class) (n : ℕ) → AreSame p Is Js → IsFirst p Is chain n → IsFirst p Js chain n
same_first p Is Js [] n alike h = h
same_first p Is Js (c ∷ chain) n alike (inl here) = inl (same_declares p Is Js c.name n alike here)
same_first p Is Js (c ∷ chain) n alike (inr above) =
    inr (λ other d. above.0 other (same_declares p Js Is c.name other (turned p Is Js alike) d), same_first p Is Js chain n alike above.1)

same_found : (p : Program) (Is Js : ℕ → Method → Type 0) (class : List ℕ) (n : ℕ) → AreSame p Is Js → IsFound p class Is n → IsFound p class Js n
same_found p Is Js class n alike found = record { chain = found.chain; of_start = found.of_start; first = same_first p Is Js found.chain n alike found.first }

same_in_interface : (p : Program) (Is Js : ℕ → Method → Type 0) (s : Signature) (name : List ℕ) (n : ℕ) → AreSame p Is Js → IsFoundInInterface p Is s name n → IsFoundInInterface p Js s name n
same_in_interface p Is Js s name n alike (declared_there d) = declared_there (same_declares p Is Js name n alike d)
same_in_interface p Is Js s name n alike (of_object none d) = of_object (λ other e. none other (same_declares p Js Is name other (turned p Is Js alike) e)) d

same_found_in : (p : Program) (Is Js : ℕ → Method → Type 0) (s : Signature) (c : Class) (n : ℕ) → AreSame p Is Js → IsFoundIn p Is s c n → IsFoundIn p Js s c n
same_found_in p Is Js s c n alike = split c.is_interface
  where
    split : (b : Bool) → MatchBool b (IsFoundInInterface p Is s c.name n) (IsFound p c.name Is n) → MatchBool b (IsFoundInInterface p Js s c.name n) (IsFound p c.name Js n)
    split true = same_in_interface p Is Js s c.name n alike
    split false = same_found p Is Js c.name n alike

-- each method of a signature
pub finds_any : (p : Program) (s : Signature) (c : Class) (found : Option MethodNo) → Finds (IsFoundIn p (IsSuch s (λ n m. Unit {0})) s c) found → Finds (IsFoundIn p (HasSignature s) s c) found
finds_any p s c found =
    let alike : AreSame p (IsSuch s (λ n m. Unit {0})) (HasSignature s) = record { to = λ n m stands h. h.0; back = λ n m stands h. (h, tt) } in
    finds_same (IsFoundIn p (IsSuch s (λ n m. Unit {0})) s c) (IsFoundIn p (HasSignature s) s c) found (λ n. same_found_in p (IsSuch s (λ k m. Unit {0})) (HasSignature s) s c n alike)
    (λ n. same_found_in p (HasSignature s) (IsSuch s (λ k m. Unit {0})) s c n (turned p (IsSuch s (λ k m. Unit {0})) (HasSignature s) alike))

-- ---- what is selectable

-- The method may be the target of a call of the resolved one, which has this number.
abbrev pub IsTargetOf : Program → Bool → ℕ → ℕ → Method → Type 0
IsTargetOf p by_interface resolved number m = (r : Method) → slice_get p.methods resolved ≡ Some r → IsSelectable p by_interface resolved r number m

own_signature : (p : Program) (s : Signature) (resolved : ℕ) (r : Method) → HasOwnSignature p s resolved → slice_get p.methods resolved ≡ Some r → s ≡ r.signature
own_signature p s resolved r own stands = sym own.same_call ∙ ap (λ (x : Method). x.signature) (same_Some own.method r (sym own.stands ∙ stands))

-- of an instance method, by the kind of the call
pub target_iff : (p : Program) (by_interface : Bool) (resolved n : ℕ) (m : Method) (answer : Bool) → HasOwnSignature p m.signature resolved → IsInstance m → (by_interface ≡ true → IsTrue answer)
    → (by_interface ≡ false → (r : Method) → slice_get p.methods resolved ≡ Some r → m.signature ≡ r.signature
    → (IsTrue answer → (n ≡ resolved) ⊎ Overrides p m r) × (((n ≡ resolved) ⊎ Overrides p m r) → IsTrue answer))
    → (IsTrue answer → IsTargetOf p by_interface resolved n m) × (IsTargetOf p by_interface resolved n m → IsTrue answer)
target_iff p true resolved n m answer own instance of_interface of_class = (λ t r stands. (own_signature p m.signature resolved r own stands, instance), λ h. of_interface refl)
target_iff p false resolved n m answer own instance of_interface of_class = (
  λ t r stands. (instance, (of_class refl r stands (own_signature p m.signature resolved r own stands)).0 t),
  λ h. (of_class refl own.method own.stands (sym own.same_call)).1 (h own.method own.stands).1,
)

-- no static method is a target
pub static_no_target : (p : Program) (by_interface : Bool) (resolved n : ℕ) (m : Method) → HasOwnSignature p m.signature resolved → is_static m ≡ true → IsTargetOf p by_interface resolved n m → ⊥
static_no_target p true resolved n m own static h = false≢true (sym (h own.method own.stands).1 ∙ static)
static_no_target p false resolved n m own static h = false≢true (sym (h own.method own.stands).0 ∙ static)

selectable_signature : (p : Program) (by_interface : Bool) (resolved : ℕ) (r : Method) (n : ℕ) (m : Method) → slice_get p.methods resolved ≡ Some r → slice_get p.methods n ≡ Some m
    → IsSelectable p by_interface resolved r n m → m.signature ≡ r.signature
selectable_signature p true resolved r n m stands at h = h.0
selectable_signature p false resolved r n m stands at h =
    elim h.1 [ inl e ↦ ap (λ (x : Method). x.signature) (same_Some m r (sym at ∙ ap (slice_get p.methods) e ∙ stands)) | inr overrides ↦ overrides.same_call ]

pub same_selectable : (p : Program) (by_interface : Bool) (resolved : ℕ) (r : Method) (s : Signature) → slice_get p.methods resolved ≡ Some r → r.signature ≡ s
    → AreSame p (IsSuch s (IsTargetOf p by_interface resolved)) (IsSelectable p by_interface resolved r)
same_selectable p by_interface resolved r s stands same =
    record {
      to = λ n m at h. h.1 r stands;
      back = λ n m at h. (
        selectable_signature p by_interface resolved r n m stands at h ∙ same,
        λ other is. subst (λ (x : Method). IsSelectable p by_interface resolved x n m) (same_Some r other (sym stands ∙ is)) h,
      );
    }

-- ---- selection

-- How a call that is not direct goes.
abbrev HowSelected : Program → Bool → List ℕ → ℕ → ℕ → Method → Type 0
HowSelected p by_interface class resolved target m = SelectsFrom p class m.signature (IsFound p class (IsSelectable p by_interface resolved m)) target

selects_searched : (p : Program) (by_interface : Bool) (class : List ℕ) (resolved target : ℕ) (m : Method) → slice_get p.methods resolved ≡ Some m → is_direct by_interface m ≡ false
    → HowSelected p by_interface class resolved target m → Selects p by_interface class resolved target
selects_searched p by_interface class resolved target m stands searched how =
    record {
      method = m;
      stands = stands;
      chosen = subst (λ (v : Bool). MatchBool v (target ≡ resolved) (HowSelected p by_interface class resolved target m)) (sym searched) how;
    }

searched_how : (p : Program) (by_interface : Bool) (class : List ℕ) (resolved target : ℕ) (m : Method) → slice_get p.methods resolved ≡ Some m → is_direct by_interface m ≡ false
    → Selects p by_interface class resolved target → HowSelected p by_interface class resolved target m
searched_how p by_interface class resolved target m stands searched selects =
    let method_is = same_Some selects.method m (sym selects.stands ∙ stands) in
    let chosen : MatchBool (is_direct by_interface m) (target ≡ resolved) (HowSelected p by_interface class resolved target m) =
    subst (λ (x : Method). MatchBool (is_direct by_interface x) (target ≡ resolved) (HowSelected p by_interface class resolved target x)) method_is selects.chosen in
    subst (λ (v : Bool). MatchBool v (target ≡ resolved) (HowSelected p by_interface class resolved target m)) searched chosen

-- a private method is selected itself
pub chosen_itself : (p : Program) (by_interface : Bool) (class : List ℕ) (resolved : ℕ) (m : Method) → slice_get p.methods resolved ≡ Some m
    → is_direct by_interface m ≡ true → Selects p by_interface class resolved resolved
chosen_itself p by_interface class resolved m stands direct =
    record {
      method = m;
      stands = stands;
      chosen = subst (λ (v : Bool). MatchBool v (resolved ≡ resolved) (HowSelected p by_interface class resolved resolved m)) (sym direct) refl;
    }

-- what is found upward is selected
pub chosen_upward : (p : Program) (by_interface : Bool) (class : List ℕ) (resolved target : ℕ) (m : Method) (s : Signature) → slice_get p.methods resolved ≡ Some m → m.signature ≡ s
    → is_direct by_interface m ≡ false → IsFound p class (IsSuch s (IsTargetOf p by_interface resolved)) target → Selects p by_interface class resolved target
chosen_upward p by_interface class resolved target m s stands same searched found =
    let alike = same_selectable p by_interface resolved m s stands same in
    selects_searched p by_interface class resolved target m stands searched
    (upward (same_found p (IsSuch s (IsTargetOf p by_interface resolved)) (IsSelectable p by_interface resolved m) class target alike found))

-- Nothing is found upward for the resolved method.
pub record FindsNone (p : Program) (by_interface : Bool) (class : List ℕ) (resolved : ℕ) (m : Method) : Type 0 where
  pub none : (other : ℕ) → IsFound p class (IsSelectable p by_interface resolved m) other → ⊥

pub finds_none : (p : Program) (by_interface : Bool) (class : List ℕ) (resolved : ℕ) (m : Method) (s : Signature) → slice_get p.methods resolved ≡ Some m → m.signature ≡ s
    → ((n : ℕ) → IsFound p class (IsSuch s (IsTargetOf p by_interface resolved)) n → ⊥) → FindsNone p by_interface class resolved m
finds_none p by_interface class resolved m s stands same none =
    let Is = IsSuch s (IsTargetOf p by_interface resolved) in
    let Js = IsSelectable p by_interface resolved m in
    let alike = turned p Is Js (same_selectable p by_interface resolved m s stands same) in
    record { none = λ n found. none n (same_found p Js Is class n alike found) }

-- a selected method is the only default
only_default : (p : Program) (by_interface : Bool) (class : List ℕ) (resolved target : ℕ) (m : Method) → FindsNone p by_interface class resolved m
    → HowSelected p by_interface class resolved target m → IsOnlyDefault p class m.signature target
only_default p by_interface class resolved target m finds (upward own) = absurd (finds.none target own)
only_default p by_interface class resolved target m finds (by_default none only) = only

-- failing that, the defaults decide
pub chosen_default : (p : Program) (by_interface : Bool) (class : List ℕ) (resolved : ℕ) (m : Method) (choice : Choice) → slice_get p.methods resolved ≡ Some m
    → is_direct by_interface m ≡ false → FindsNone p by_interface class resolved m → AreDefaults p class m.signature choice → IsChosen p by_interface class resolved choice
chosen_default p by_interface class resolved m Nothing stands searched finds defaults =
    record {
      none = λ target selects.
          defaults target (only_default p by_interface class resolved target m finds (searched_how p by_interface class resolved target m stands searched selects)).default;
      no_clash = λ clashes.
          let signature = ap (λ (x : Method). x.signature) (same_Some clashes.method m (sym clashes.stands ∙ stands)) in
          defaults clashes.first (subst (λ (s : Signature). IsDefault p class s clashes.first) signature clashes.first_default);
    }
chosen_default p by_interface class resolved m (One target) stands searched finds defaults =
    selects_searched p by_interface class resolved target.0 m stands searched (by_default finds.none defaults)
chosen_default p by_interface class resolved m Several stands searched finds defaults =
    record {
      method = m;
      stands = stands;
      searched = searched;
      none_upward = finds.none;
      first = defaults.first;
      second = defaults.second;
      first_default = defaults.first_default;
      second_default = defaults.second_default;
      differ = defaults.differ;
    }

-- ---- the method that is selected is there

first_within : (p : Program) (Is : ℕ → Method → Type 0) (chain : List Class) (n : ℕ) → IsFirst p Is chain n → IsMethodNumber p n
first_within p Is [] n h = absurd h
first_within p Is (c ∷ chain) n (inl here) = slice_get_within p.methods n here.method here.stands
first_within p Is (c ∷ chain) n (inr above) = first_within p Is chain n above.1

pub found_within : (p : Program) (Is : ℕ → Method → Type 0) (class : List ℕ) (n : ℕ) → IsFound p class Is n → IsMethodNumber p n
found_within p Is class n found = first_within p Is found.chain n found.first

pub default_within : (p : Program) (class : List ℕ) (s : Signature) (n : ℕ) → IsOnlyDefault p class s n → IsMethodNumber p n
default_within p class s n only =
    let inherited = only.default.specific.inherited in
    slice_get_within p.methods n inherited.method inherited.stands

how_within : (p : Program) (by_interface : Bool) (class : List ℕ) (resolved target : ℕ) (m : Method) → HowSelected p by_interface class resolved target m → IsMethodNumber p target
how_within p by_interface class resolved target m (upward own) = found_within p (IsSelectable p by_interface resolved m) class target own
how_within p by_interface class resolved target m (by_default none only) = default_within p class m.signature target only

pub selects_within : (p : Program) (by_interface : Bool) (class : List ℕ) (resolved target : ℕ) → Selects p by_interface class resolved target → IsMethodNumber p target
selects_within p by_interface class resolved target selects =
    let Chosen : Bool → Type 0 = λ v. MatchBool v (target ≡ resolved) (HowSelected p by_interface class resolved target selects.method) in
    let split : (b : Bool) → Chosen b → IsMethodNumber p target =
    λ b. elim b as (λ v. MatchBool v (target ≡ resolved) (HowSelected p by_interface class resolved target selects.method) → IsMethodNumber p target) [
      | true ↦ λ e. subst (λ (n : ℕ). IsMethodNumber p n) (sym e) (slice_get_within p.methods resolved selects.method selects.stands)
      | false ↦ λ how. how_within p by_interface class resolved target selects.method how
    ] in
    split (is_direct by_interface selects.method) selects.chosen
