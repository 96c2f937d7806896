-- Which method a call of a resolved method goes to is decided: whether there is a target, whether several methods of superinterfaces
-- clash, and whether one in another package stands below a method that is visible in its package alone.
use Rattle.std.proofs.Common.{◌≡◌, ◌≢◌, ◌⊎◌, inl, inr, ℕ, Bool, true, false, List, [], ◌∷◌, length, Option, Some, None, refl, sym, ◌∙◌, subst}
use Rattle.std.specs.Bool.{MatchBool}
use Rattle.std.specs.List.{slice_get}
use Rattle.std.proofs.lemmas.Option.{none-some, same_Some}
use Rattle.jvm_model.specs.declared.access.AccessFlag.TheVariants.{Public, Private, Protected}
use Rattle.jvm_model.specs.Access.{has_flag}
use Rattle.jvm_model.specs.LinkedPrograms.{IsProgram}
use Rattle.jvm_model.specs.Lookups.{Signature}
use Rattle.jvm_model.specs.Programs.{Class, Method, Program, is_private, is_static}
use Rattle.jvm_model.specs.Resolution.{Declares, HasSignature, IsFound, IsDefault}
use Rattle.jvm_model.specs.Selection.{package_of, IsOverridable, Overrides, IsSelectable, SelectsFrom, is_direct, Selects, Clashes, StandsBelow, IsPackagePrivate, IsPackageOverridden}
use Rattle.jvm_model.specs.Subtypes.{IsProperSubtype, IsChain}
use Rattle.program_laws.proofs.Chains.{one_chain}
use Rattle.program_laws.proofs.Choices.{OrNot, carried_over, either_or_not, both_or_not, same_or_not, true_or_not, held_or_not}
use Rattle.program_laws.proofs.Bounded.{SomeOrNone, some_or_none, equal_or_not, not_or_not}
use Rattle.program_laws.proofs.Declaring.{IsDecided, false_or_not, signature_or_not, instance_or_not, with_or_not, declared_or_none, found_or_none}
use Rattle.program_laws.proofs.Inheriting.{proper_or_not, default_or_not, default_within, IsOther, second_or_none}
use Rattle.program_laws.proofs.Ranks.{chain_or_none}
use Rattle.program_laws.proofs.Targets.{IsMethod, selects_from_or_none, found_stands, selected_stands}

-- ---- overriding

overridable_or_not : (m : Method) (class : List ℕ) → OrNot (IsOverridable m class)
overridable_or_not m class =
    either_or_not (true_or_not (has_flag m.flags Public))
    (either_or_not (true_or_not (has_flag m.flags Protected))
    (both_or_not (false_or_not (has_flag m.flags Private)) (λ e. same_or_not (package_of m.class) (package_of class))))

abbrev OverridesBy : Program → Method → Method → Type 0
OverridesBy p m other = (is_private m ≡ false) × ((m.signature ≡ other.signature) × (IsProperSubtype p m.class other.class × IsOverridable other m.class))

overrides_or_not : (p : Program) (m other : Method) → OrNot (Overrides p m other)
overrides_or_not p m other =
    carried_over to back
    (both_or_not (false_or_not (is_private m))
    (λ a. both_or_not (signature_or_not m.signature other.signature)
    (λ b. both_or_not (proper_or_not p m.class other.class) (λ c. overridable_or_not other m.class))))
  where
    to : OverridesBy p m other → Overrides p m other
    to h = record { visible = h.0; same_call = h.1.0; below = h.1.1.0; overridable = h.1.1.1 }

    back : Overrides p m other → OverridesBy p m other
    back o = (o.visible, (o.same_call, (o.below, o.overridable)))

selectable_or_not : (p : Program) (by_interface : Bool) (resolved : ℕ) (method : Method) → IsDecided (IsSelectable p by_interface resolved method)
selectable_or_not p true resolved method number m = instance_or_not method.signature number m
selectable_or_not p false resolved method number m =
    both_or_not (false_or_not (is_static m)) (λ e. either_or_not (equal_or_not number resolved) (overrides_or_not p m method))

-- ---- targets

-- the search up from the class
abbrev Upward : Program → Bool → List ℕ → ℕ → Method → ℕ → Type 0
Upward p by_interface class resolved method = IsFound p class (IsSelectable p by_interface resolved method)

upward_or_none : (p : Program) → IsProgram p → (by_interface : Bool) (class : List ℕ) (resolved : ℕ) (method : Method) → SomeOrNone (Upward p by_interface class resolved method)
upward_or_none p program by_interface class resolved method =
    found_or_none p program class (IsSelectable p by_interface resolved method) (selectable_or_not p by_interface resolved method)

abbrev Chosen : Program → Bool → List ℕ → ℕ → Method → Bool → ℕ → Type 0
Chosen p by_interface class resolved method direct target = MatchBool direct (target ≡ resolved) (SelectsFrom p class method.signature (Upward p by_interface class resolved method) target)

chosen_or_none : (p : Program) → IsProgram p → (by_interface : Bool) (class : List ℕ) (resolved : ℕ) (method : Method) (direct : Bool)
    → SomeOrNone (Chosen p by_interface class resolved method direct)
chosen_or_none p program by_interface class resolved method true = inl (resolved, refl)
chosen_or_none p program by_interface class resolved method false =
    selects_from_or_none p class method.signature (Upward p by_interface class resolved method) (upward_or_none p program by_interface class resolved method)

chosen_stands : (p : Program) (by_interface : Bool) (class : List ℕ) (resolved : ℕ) (method : Method) (direct : Bool) (target : ℕ) → slice_get p.methods resolved ≡ Some method
    → Chosen p by_interface class resolved method direct target → IsMethod p target
chosen_stands p by_interface class resolved method true target stands e = (method, subst (λ (k : ℕ). slice_get p.methods k ≡ Some method) (sym e) stands)
chosen_stands p by_interface class resolved method false target stands h =
    selected_stands p class method.signature (Upward p by_interface class resolved method) target
    (λ f. found_stands p class (IsSelectable p by_interface resolved method) target f) h

pub selects_stands : (p : Program) (by_interface : Bool) (class : List ℕ) (resolved target : ℕ) → Selects p by_interface class resolved target → IsMethod p target
selects_stands p by_interface class resolved target t =
    chosen_stands p by_interface class resolved t.method (is_direct by_interface t.method) target t.stands t.chosen

pub target_or_none : (p : Program) → IsProgram p → (by_interface : Bool) (class : List ℕ) (resolved : ℕ) → SomeOrNone (Selects p by_interface class resolved)
target_or_none p program by_interface class resolved = by (slice_get p.methods resolved) refl
  where
    of : (method : Method) → slice_get p.methods resolved ≡ Some method → SomeOrNone (Chosen p by_interface class resolved method (is_direct by_interface method))
        → SomeOrNone (Selects p by_interface class resolved)
    of method stands (inl h) = inl (h.0, record { method = method; stands = stands; chosen = h.1 })
    of method stands (inr none) =
        inr (λ target t. none target
        (subst (λ (m : Method). Chosen p by_interface class resolved m (is_direct by_interface m) target) (same_Some t.method method (sym t.stands ∙ stands)) t.chosen))

    by : (o : Option Method) → slice_get p.methods resolved ≡ o → SomeOrNone (Selects p by_interface class resolved)
    by None e = inr (λ target t. none-some t.method (sym e ∙ t.stands))
    by (Some method) e = of method e (chosen_or_none p program by_interface class resolved method (is_direct by_interface method))

-- ---- clashes

abbrev NothingFound : (ℕ → Type 0) → Type 0
NothingFound P = (k : ℕ) → P k → ⊥

none_or_not : (P : ℕ → Type 0) → SomeOrNone P → OrNot (NothingFound P)
none_or_not P (inl h) = inr (λ none. none h.0 h.1)
none_or_not P (inr none) = inl none

some_only : (P : ℕ → Type 0) → SomeOrNone P → OrNot ((k : ℕ) × P k)
some_only P (inl h) = inl h
some_only P (inr none) = inr (λ h. none h.0 h.1)

-- the number is a default, and another one is too
abbrev HasSecond : Program → List ℕ → Signature → ℕ → Type 0
HasSecond p class s number = IsDefault p class s number × ((k : ℕ) × IsOther p class s number k)

two_or_not : (p : Program) (class : List ℕ) (s : Signature) → OrNot ((k : ℕ) × HasSecond p class s k)
two_or_not p class s =
    some_only (HasSecond p class s)
    (some_or_none (HasSecond p class s) (λ k. both_or_not (default_or_not p class s k) (λ d. some_only (IsOther p class s k) (second_or_none p class s k))) (length p.methods)
    (λ k h. default_within p class s k h.0))

abbrev ClashesAt : Program → Bool → List ℕ → ℕ → Method → Type 0
ClashesAt p by_interface class resolved m =
    (is_direct by_interface m ≡ false) × (NothingFound (Upward p by_interface class resolved m) × ((k : ℕ) × HasSecond p class m.signature k))

clashes_at_or_not : (p : Program) → IsProgram p → (by_interface : Bool) (class : List ℕ) (resolved : ℕ) (m : Method) → OrNot (ClashesAt p by_interface class resolved m)
clashes_at_or_not p program by_interface class resolved m =
    both_or_not (false_or_not (is_direct by_interface m))
    (λ a. both_or_not (none_or_not (Upward p by_interface class resolved m) (upward_or_none p program by_interface class resolved m)) (λ b. two_or_not p class m.signature))

pub clash_or_not : (p : Program) → IsProgram p → (by_interface : Bool) (class : List ℕ) (resolved : ℕ) → OrNot (Clashes p by_interface class resolved)
clash_or_not p program by_interface class resolved =
    carried_over to back (held_or_not (ClashesAt p by_interface class resolved) (clashes_at_or_not p program by_interface class resolved) (slice_get p.methods resolved))
  where
    to : (m : Method) × (slice_get p.methods resolved ≡ Some m) × ClashesAt p by_interface class resolved m → Clashes p by_interface class resolved
    to h =
        let two = h.2.1.1 in
        record {
          method = h.0;
          stands = h.1;
          searched = h.2.0;
          none_upward = h.2.1.0;
          first = two.0;
          second = two.1.1.0;
          first_default = two.1.0;
          second_default = two.1.1.1.0;
          differ = λ e. two.1.1.1.1 (sym e);
        }

    back : Clashes p by_interface class resolved → (m : Method) × (slice_get p.methods resolved ≡ Some m) × ClashesAt p by_interface class resolved m
    back c = (c.method, c.stands, (c.searched, (c.none_upward, (c.first, (c.first_default, (c.second, (c.second_default, λ e. c.differ (sym e))))))))

-- ---- methods in other packages

-- a class of the chain, before the class of a name, is of the kind
abbrev Between : List ℕ → (Class → Type 0) → List Class → Type 0
Between name Is chain = (c : Class) × StandsBelow name chain c × Is c

between_or_not : (name : List ℕ) (Is : Class → Type 0) → ((c : Class) → OrNot (Is c)) → (chain : List Class) → OrNot (Between name Is chain)
between_or_not name Is choose [] = inr (λ h. h.1)
between_or_not name Is choose (d ∷ chain) = by (same_or_not d.name name) (choose d) (between_or_not name Is choose chain)
  where
    neither : (Is d → ⊥) → (Between name Is chain → ⊥) → (c : Class) → (d ≡ c) ⊎ StandsBelow name chain c → Is c → ⊥
    neither not_so nor c (inl e) h = not_so (subst Is (sym e) h)
    neither not_so nor c (inr there) h = nor (c, there, h)

    by : OrNot (d.name ≡ name) → OrNot (Is d) → OrNot (Between name Is chain) → OrNot (Between name Is (d ∷ chain))
    by (inl e) here rest = inr (λ h. h.1.0 e)
    by (inr differs) (inl here) rest = inl (d, (differs, inl refl), here)
    by (inr differs) (inr not_so) (inl h) = inl (h.0, (differs, inr h.1), h.2)
    by (inr differs) (inr not_so) (inr nor) = inr (λ h. neither not_so nor h.0 h.1.1 h.2)

private_or_not : (m : Method) → OrNot (IsPackagePrivate m)
private_or_not m =
    carried_over (λ h. record { not_public = h.0; not_protected = h.1.0; not_private = h.1.1 }) (λ v. (v.not_public, (v.not_protected, v.not_private)))
    (both_or_not (false_or_not (has_flag m.flags Public)) (λ a. both_or_not (false_or_not (has_flag m.flags Protected)) (λ b. false_or_not (has_flag m.flags Private))))

-- the class declares a method of the name and descriptor, in another package
abbrev Hides : Program → Method → Class → Type 0
Hides p m c = ((k : ℕ) × Declares p (HasSignature m.signature) c.name k) × (package_of c.name ≢ package_of m.class)

hides_or_not : (p : Program) (m : Method) (c : Class) → OrNot (Hides p m c)
hides_or_not p m c =
    both_or_not (some_only (Declares p (HasSignature m.signature) c.name) (declared_or_none p (HasSignature m.signature) (with_or_not m.signature) c.name))
    (λ d. not_or_not (same_or_not (package_of c.name) (package_of m.class)))

abbrev HiddenIn : Program → ℕ → List Class → Type 0
HiddenIn p resolved chain = (m : Method) × (slice_get p.methods resolved ≡ Some m) × (IsPackagePrivate m × Between m.class (Hides p m) chain)

hidden_in_or_not : (p : Program) (resolved : ℕ) (chain : List Class) → OrNot (HiddenIn p resolved chain)
hidden_in_or_not p resolved chain =
    held_or_not (λ (m : Method). IsPackagePrivate m × Between m.class (Hides p m) chain)
    (λ m. both_or_not (private_or_not m) (λ v. between_or_not m.class (Hides p m) (hides_or_not p m) chain)) (slice_get p.methods resolved)

pub hidden_or_not : (p : Program) → IsProgram p → (class : List ℕ) (resolved : ℕ) → OrNot (IsPackageOverridden p class resolved)
hidden_or_not p program class resolved = by (chain_or_none p program class)
  where
    to : (chain : List Class) → IsChain p (Some class) chain → HiddenIn p resolved chain → IsPackageOverridden p class resolved
    to chain of h =
        let between = h.2.1 in
        record {
          method = h.0;
          stands = h.1;
          package_private = h.2.0;
          chain = chain;
          of_class = of;
          below = between.0;
          between = between.1;
          number = between.2.0.0;
          declares = between.2.0.1;
          other_package = between.2.1;
        }

    back : (chain : List Class) → IsChain p (Some class) chain → IsPackageOverridden p class resolved → HiddenIn p resolved chain
    back chain of o =
        let between : StandsBelow o.method.class chain o.below =
        subst (λ (x : List Class). StandsBelow o.method.class x o.below) (one_chain p (Some class) o.chain chain o.of_class of) o.between in
        (o.method, o.stands, (o.package_private, (o.below, between, ((o.number, o.declares), o.other_package))))

    by : ((chain : List Class) × IsChain p (Some class) chain) ⊎ ((chain : List Class) → IsChain p (Some class) chain → ⊥) → OrNot (IsPackageOverridden p class resolved)
    by (inl h) = carried_over (to h.0 h.1) (back h.0 h.1) (hidden_in_or_not p resolved h.0)
    by (inr none) = inr (λ o. none o.chain o.of_class)
