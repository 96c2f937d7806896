-- An initialiser of a class or of a supertype is declared by the class, or through one of its own superinterfaces, or is one of its
-- superclass.
use Rattle.std.proofs.Common.{◌≡◌, ◌↔◌, ◌⊎◌, inl, inr, ℕ, List, [], ◌∷◌, Option, Some, None, refl, sym, ap, ◌∙◌, subst}
use Rattle.std.specs.Bool.{IsTrue}
use Rattle.std.specs.List.{slice_get, Contains}
use Rattle.std.specs.Option.{is_some}
use Rattle.std.proofs.lemmas.Option.{same_Some}
use Rattle.jvm_model.specs.LinkedPrograms.{IsProgram}
use Rattle.jvm_model.specs.Programs.{Class, Program}
use Rattle.jvm_model.specs.Subtypes.{class_named, IsChain, IsDirectSuper, IsSubtype, same, below}
use Rattle.jvm_model.specs.declared.number.ClassNo.{ClassNo}
use Rattle.program_model.specs.Numbers.{name_at, IsClassNumber}
use Rattle.program_model.specs.Whole.{IsThroughInterface}
use Rattle.program_index.proofs.OrderPlaces.{contains_first, contains_later, contains_cases, contains_none}
use Rattle.hierarchy.specs.Upward.{AnswersWhere, IsFirstUpward}
use Rattle.hierarchy.proofs.ClassPlaces.{name_at-at, number_named, class_of_method}
use Rattle.hierarchy.proofs.Walks.{HasOne, first_tells}
use Rattle.machine_nodes.specs.Nodes.{HasInitialiser, IsCodedInitialiser}
use Rattle.lowering_handlers.specs.Initialisers.{DeclaresInitialiser, DeclaresAt}

-- ---- some of many classes

abbrev pub SomeDeclares : Program → List ℕ → Type 0
SomeDeclares p numbers = (number : ℕ) × Contains numbers number × DeclaresInitialiser p (name_at p number)

-- ---- a class and its superinterfaces

module _ (p : Program) (n : ℕ) where
  pub declares_itself : IsClassNumber p n → (c : Class) → slice_get p.classes n ≡ Some c → DeclaresInitialiser p (name_at p n) → DeclaresAt p c
  declares_itself within c stands d = record { owner = n; within = within; is = d; there = inl (name_at-at p n c stands) }

  module _ (c : Class) (stands : slice_get p.classes n ≡ Some c) (through : List ℕ)
      (exact : (k : ℕ) → IsClassNumber p k → Contains through k ↔ IsThroughInterface p c k) where
    pub declares_through : ((k : ℕ) → Contains through k → IsClassNumber p k) → SomeDeclares p through → DeclaresAt p c
    declares_through each h = record { owner = h.0; within = each h.0 h.1; is = h.2; there = inr ((exact h.0 (each h.0 h.1)).0 h.1) }

    pub declared_through : (DeclaresInitialiser p (name_at p n) → ⊥) → DeclaresAt p c → SomeDeclares p through
    declared_through not_itself d = by d.there
      where
        by : (name_at p d.owner ≡ c.name) ⊎ IsThroughInterface p c d.owner → SomeDeclares p through
        by (inl itself) = absurd (not_itself (subst (DeclaresInitialiser p) (itself ∙ sym (name_at-at p n c stands)) d.is))
        by (inr above) = (d.owner, (exact d.owner d.within).1 above, d.is)

-- ---- the walk

coded_above : (p : Program) (above class : List ℕ) (d : DeclaresInitialiser p above) → IsSubtype p above class → HasInitialiser p class
coded_above p above class d is = record {
  number = d.number;
  initialiser = record {
    method = d.method;
    stands = d.stands;
    named = d.named;
    file = d.file;
    place = d.place;
    member = d.member;
    of_file = d.of_file;
    code = d.code;
    above = subst (λ (name : List ℕ). IsSubtype p name class) (sym d.of_class) is;
  };
}

has_by : (p : Program) (number : ℕ) (lower upper : List ℕ) (i : IsCodedInitialiser p lower number) → IsSubtype p i.method.class upper → HasInitialiser p upper
has_by p number lower upper i is = record {
  number = number;
  initialiser = record { method = i.method; stands = i.stands; named = i.named; file = i.file; place = i.place; member = i.member; of_file = i.of_file; code = i.code; above = is };
}

declares_of : (p : Program) (number : ℕ) (class owner : List ℕ) (i : IsCodedInitialiser p class number) → i.method.class ≡ owner → DeclaresInitialiser p owner
declares_of p number class owner i is = record {
  number = number;
  method = i.method;
  stands = i.stands;
  of_class = is;
  named = i.named;
  file = i.file;
  place = i.place;
  member = i.member;
  of_file = i.of_file;
  code = i.code;
}

-- A class has an initialiser, if there is a class.
abbrev pub HasFrom : Program → Option (List ℕ) → Type 0
HasFrom p None = ⊥
HasFrom p (Some name) = HasInitialiser p name

module _ (p : Program) (program : IsProgram p) (name : List ℕ) (c : Class) (named : class_named p name ≡ Some c) where
  name_is : c.name ≡ name
  name_is = (number_named p name c named).2

  -- what a class declares, or a superinterface
  has_here : DeclaresAt p c → HasInitialiser p name
  has_here d = by d.there
    where
      by : (name_at p d.owner ≡ c.name) ⊎ IsThroughInterface p c d.owner → HasInitialiser p name
      by (inl itself) = coded_above p (name_at p d.owner) name d.is (same name (sym name_is ∙ sym itself))
      by (inr through) = coded_above p (name_at p d.owner) name d.is (below name c through.interface named (inr through.among) through.above)

  -- what the superclass has
  has_above : (super : Option (List ℕ)) → c.super_class ≡ super → HasFrom p super → HasInitialiser p name
  has_above None is h = absurd h
  has_above (Some up) is h = has_by p h.number up name h.initialiser (below name c up named (inl is) h.initialiser.above)

  -- there is no other
  where_declared : HasInitialiser p name → DeclaresAt p c ⊎ HasFrom p c.super_class
  where_declared h = split name refl i.above
    where
      i : IsCodedInitialiser p name h.number
      i = h.initialiser

      through : (interface : List ℕ) → Contains c.interfaces interface → IsSubtype p i.method.class interface → DeclaresAt p c
      through interface among above =
          let k = class_of_method p program h.number i.method i.stands in
          record {
            owner = k.0;
            within = k.1;
            is = declares_of p h.number name (name_at p k.0) i (sym k.2);
            there = inr (record { interface = interface; among = among; above = subst (λ (x : List ℕ). IsSubtype p x interface) (sym k.2) above });
          }

      direct : (super : List ℕ) → IsDirectSuper c super → IsSubtype p i.method.class super → DeclaresAt p c ⊎ HasFrom p c.super_class
      direct super (inl is) above = inr (subst (HasFrom p) (sym is) (has_by p h.number name super i above))
      direct super (inr among) above = inl (through super among above)

      split : (upper : List ℕ) → name ≡ upper → IsSubtype p i.method.class upper → DeclaresAt p c ⊎ HasFrom p c.super_class
      split upper is (same _ e) =
          let k = class_of_method p program h.number i.method i.stands in
          inl (record { owner = k.0; within = k.1; is = declares_of p h.number name (name_at p k.0) i (sym k.2); there = inl (k.2 ∙ sym e ∙ sym is ∙ sym name_is) })
      split upper is (below _ d super upper_named is_direct above) =
          let one : d ≡ c = same_Some d c (sym upper_named ∙ ap (class_named p) (sym is) ∙ named) in
          direct super (subst (λ (x : Class). IsDirectSuper x super) one is_direct) above

-- a class has an initialiser just where one of the classes upward declares one, or one of their superinterfaces
has_along : (p : Program) → IsProgram p → (chain : List Class) (start : Option (List ℕ)) → IsChain p start chain → HasOne (DeclaresAt p) chain ↔ HasFrom p start
has_along p program [] None of_start = (λ has. absurd (contains_none has.one has.among), λ h. absurd h)
has_along p program [] (Some name) of_start = absurd of_start
has_along p program (c ∷ chain) None of_start = absurd of_start
has_along p program (c ∷ chain) (Some name) of_start =
    let named = of_start.0 in
    let rest = has_along p program chain c.super_class of_start.1 in (
      λ has. elim (contains_cases c chain has.one has.among) [
        | inl e ↦ has_here p program name c named (subst (DeclaresAt p) (sym e) has.holds)
        | inr later ↦ has_above p program name c named c.super_class refl (rest.0 (record { one = has.one; among = later; holds = has.holds }))
      ],
      λ h. elim (where_declared p program name c named h) [
        | inl d ↦ record { one = c; among = contains_first c chain; holds = d }
        | inr above ↦ let has = rest.1 above in record { one = has.one; among = contains_later c chain has.one has.among; holds = has.holds }
      ],
    )

-- what a walk finds that looks for a class that declares one
pub initialised : (p : Program) → IsProgram p → (start : List ℕ) (found : Option ClassNo) → IsFirstUpward p (AnswersWhere (DeclaresAt p)) start found
    → IsTrue (is_some found) ↔ HasInitialiser p start
initialised p program start found walk =
    let tells = first_tells (DeclaresAt p) walk.chain found walk.first in
    let has = has_along p program walk.chain (Some start) walk.of_start in
    (λ t. has.0 (tells.0 t), λ h. tells.1 (has.1 h))
