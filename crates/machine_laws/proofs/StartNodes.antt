-- The nodes of the start, with the numbers of the classes that its call may throw.
use Rattle.std.proofs.Common.{◌≡◌, ◌⊎◌, inl, inr, ℕ, zero, suc, ◌+◌, List, [], ◌∷◌, Some, None, refl, sym, ap, ◌∙◌, subst, arith}
use Rattle.std.specs.List.{slice_get, Contains}
use Rattle.std.specs.Prelude.{codes, map}
use Rattle.std.proofs.lemmas.List.Elements.{All-contains}
use Rattle.std.proofs.lemmas.Option.{none-some, same_Some}
use Rattle.list_laws.proofs.Members.{contained_in_map, contains_cases, contains_first, contains_later, contains_none}
use Rattle.list_laws.proofs.Places.{contains_at, place_of}
use Rattle.jvm_model.specs.declared.number.ClassNo.{ClassNo}
use Rattle.jvm_model.specs.LinkedPrograms.{IsProgram, IsThere}
use Rattle.jvm_model.specs.Programs.{Program, Class, Method}
use Rattle.op_model.specs.declared.node.Node.{Node}
use Rattle.op_model.specs.declared.op.CallKind.TheVariants.{Static}
use Rattle.op_model.specs.declared.op.Op.TheVariants.{Call, Return}
use Rattle.machine_bytecode.specs.Objects.{Subject}
use Rattle.machine_laws.proofs.CodedInitialisers.{has_initialiser_or_not}
use Rattle.machine_nodes.specs.Nodes.{IsClassNumber, HasInitialiser, IsInitialisationError, IsThrownAt, raised, initialising, AreThrownAt, AreStartNodes}
use Rattle.program_laws.proofs.Choices.{OrNot, either_or_not, same_or_not}

-- ---- the numbers of the errors of initialisation

error_or_not : (name : List ℕ) → OrNot (IsInitialisationError name)
error_or_not name = either_or_not (same_or_not name (codes "java/lang/ExceptionInInitializerError")) (same_or_not name (codes "java/lang/NoClassDefFoundError"))

abbrev with_number : {P : Type 0} → OrNot P → ℕ → List ClassNo → List ClassNo
with_number (inl is) number others = record { 0 = number } ∷ others
with_number (inr not_so) number others = others

-- those of some classes, of which the first one has this number
errors_from : List Class → ℕ → List ClassNo
errors_from [] number = []
errors_from (c ∷ classes) number = with_number (error_or_not c.name) number (errors_from classes (suc number))

-- an error stands at a number of some classes, of which the first one has this number
record IsErrorAt (classes : List Class) (number : ℕ) (at : ClassNo) : Type 0 where
  pub place : ℕ
  pub class : Class
  pub held : slice_get classes place ≡ Some class
  pub is : IsInitialisationError class.name
  pub numbered : at.0 ≡ number + place

error_deeper : (c : Class) (classes : List Class) (number : ℕ) (at : ClassNo) → IsErrorAt classes (suc number) at → IsErrorAt (c ∷ classes) number at
error_deeper c classes number at e = let n = e.numbered in record { place = suc e.place; class = e.class; held = e.held; is = e.is; numbered = omega (arith, n) }

only_errors : (classes : List Class) (number : ℕ) (at : ClassNo) → Contains (errors_from classes number) at → IsErrorAt classes number at
unfolding errors_from
only_errors [] number at c = absurd (contains_none at c)
only_errors (k ∷ classes) number at c = by (error_or_not k.name) c (only_errors classes (suc number) at)
  where
    here : IsInitialisationError k.name → record { 0 = number } ≡ at → IsErrorAt (k ∷ classes) number at
    here is e = let n : number ≡ at.0 = ap (λ (m : ClassNo). m.0) e in record { place = 0; class = k; held = refl; is = is; numbered = omega (arith, n) }

    by : (d : OrNot (IsInitialisationError k.name)) → Contains (with_number d number (errors_from classes (suc number))) at
        → (Contains (errors_from classes (suc number)) at → IsErrorAt classes (suc number) at) → IsErrorAt (k ∷ classes) number at
    by (inr not_so) c deeper = error_deeper k classes number at (deeper c)
    by (inl is) c deeper = or (contains_cases (record { 0 = number }) at (errors_from classes (suc number)) c)
      where
        or : (record { 0 = number } ≡ at) ⊎ Contains (errors_from classes (suc number)) at → IsErrorAt (k ∷ classes) number at
        or (inl e) = here is e
        or (inr there) = error_deeper k classes number at (deeper there)

all_errors : (classes : List Class) (number place : ℕ) (c : Class) → slice_get classes place ≡ Some c → IsInitialisationError c.name → Contains (errors_from classes number) (record { 0 = number + place })
unfolding errors_from
all_errors [] number place c held is = absurd (none-some c held)
all_errors (k ∷ classes) number zero c held is = by (error_or_not k.name)
  where
    same : k ≡ c
    same = same_Some k c held

    numbered : number ≡ number + zero
    numbered = omega arith

    by : (d : OrNot (IsInitialisationError k.name)) → Contains (with_number d number (errors_from classes (suc number))) (record { 0 = number + zero })
    by (inl yes_it) = subst (λ (n : ℕ). Contains (record { 0 = number } ∷ errors_from classes (suc number)) (record { 0 = n })) numbered (contains_first (record { 0 = number }) (errors_from classes (suc number)))
    by (inr not_so) = absurd (not_so (subst (λ (d : Class). IsInitialisationError d.name) (sym same) is))
all_errors (k ∷ classes) number (suc place) c held is = by (error_or_not k.name) (all_errors classes (suc number) place c held is)
  where
    numbered : suc number + place ≡ number + suc place
    numbered = omega arith

    by : (d : OrNot (IsInitialisationError k.name)) → Contains (errors_from classes (suc number)) (record { 0 = suc number + place })
        → Contains (with_number d number (errors_from classes (suc number))) (record { 0 = number + suc place })
    by (inl yes_it) there = contains_later (record { 0 = number }) _ _ (subst (λ (n : ℕ). Contains (errors_from classes (suc number)) (record { 0 = n })) numbered there)
    by (inr not_so) there = subst (λ (n : ℕ). Contains (errors_from classes (suc number)) (record { 0 = n })) numbered there

-- ---- what the call of the start may throw

record SomeThrown (p : Program) (class : List ℕ) : Type 0 where
  pub throws : List ClassNo
  pub are : AreThrownAt p [] (Some class) throws

-- the class has an initialiser: each error of initialisation is listed
with_initialiser : (p : Program) (class : List ℕ) → HasInitialiser p class → SomeThrown p class
with_initialiser p class has = record {
  throws = errors_from p.classes 0;
  are = record { only = only; all = λ at name is thrown. every at name is thrown };
}
  where
    only : (at : ClassNo) → Contains (errors_from p.classes 0) at → (name : List ℕ) × IsClassNumber p at name × IsThrownAt p [] (Some class) name
    only at c =
        let e = only_errors p.classes 0 at c in
        let n = e.numbered in
        let place : at.0 ≡ e.place = omega (arith, n) in (
          e.class.name,
          record { class = e.class; stands = ap (slice_get p.classes) place ∙ e.held; named = refl },
          initialising class refl has e.is,
        )

    listed : (at : ClassNo) (name : List ℕ) → IsClassNumber p at name → IsInitialisationError name → Contains (errors_from p.classes 0) at
    listed at name is error =
        let numbered : 0 + at.0 ≡ at.0 = omega arith in
        subst (λ (n : ℕ). Contains (errors_from p.classes 0) (record { 0 = n })) numbered
        (all_errors p.classes 0 at.0 is.class is.stands (subst IsInitialisationError (sym is.named) error))

    every : (at : ClassNo) (name : List ℕ) → IsClassNumber p at name → IsThrownAt p [] (Some class) name → Contains (errors_from p.classes 0) at
    every at name is (raised raise c e) = absurd (contains_none raise c)
    every at name is (initialising other e has_one error) = listed at name is error

without_initialiser : (p : Program) (class : List ℕ) → (HasInitialiser p class → ⊥) → SomeThrown p class
without_initialiser p class none = record {
  throws = [];
  are = record { only = λ at c. absurd (contains_none at c); all = λ at name is thrown. every at name is thrown };
}
  where
    every : (at : ClassNo) (name : List ℕ) → IsClassNumber p at name → IsThrownAt p [] (Some class) name → Contains [] at
    every at name is (raised raise c e) = absurd (contains_none raise c)
    every at name is (initialising other e has_one error) = absurd (none (subst (HasInitialiser p) (sym (same_Some class other e)) has_one))

some_thrown : (p : Program) (class : List ℕ) → SomeThrown p class
some_thrown p class = by (has_initialiser_or_not p class)
  where
    by : OrNot (HasInitialiser p class) → SomeThrown p class
    by (inl has) = with_initialiser p class has
    by (inr none) = without_initialiser p class none

-- ---- the number of the entry's class

pub record HasNumber (p : Program) (name : List ℕ) : Type 0 where
  pub number : ClassNo
  pub is : IsClassNumber p number name

pub numbered_among : (classes : List Class) (name : List ℕ) → Contains (map (λ (c : Class). c.name) classes) name → (place : ℕ) × (c : Class) × (slice_get classes place ≡ Some c) × (c.name ≡ name)
numbered_among classes name there =
    let class = contained_in_map (λ (c : Class). c.name) classes name there in
    let place = place_of classes class.0 class.1 in
    (place.0, class.0, place.1, class.2)

pub has_number : (p : Program) (name : List ℕ) → IsThere p name → HasNumber p name
has_number p name there =
    let n = numbered_among p.classes name there in
    record { number = record { 0 = n.0 }; is = record { class = n.1; stands = n.2; named = n.3 } }

-- ---- the nodes

abbrev call_of : (x : Subject) (entry : Method) → ClassNo → List ClassNo → Node
call_of x entry class throws = record {
  offset = 0;
  op = Call (record { kind = Static; resolved = record { 0 = x.entry }; chosen = Some (record { 0 = x.entry }); name = entry.signature.name; descriptor = entry.signature.descriptor; arguments = []; result = None });
  successors = 1 ∷ [];
  handlers = [];
  trigger = Some class;
  throws = throws;
}

abbrev return_node : Node
return_node = record { offset = 1; op = Return None; successors = []; handlers = []; trigger = None; throws = [] }

pub some_start : (x : Subject) (entry : Method) → slice_get x.program.methods x.entry ≡ Some entry → IsProgram x.program → (nodes : List Node) × AreStartNodes x nodes
some_start x entry stands program = (
  call_of x entry named.number thrown.throws ∷ return_node ∷ [],
  record {
    call = call_of x entry named.number thrown.throws;
    return = return_node;
    is = refl;
    is_call = record {
      entry = entry;
      stands = stands;
      offset = refl;
      op = refl;
      successors = refl;
      handlers = refl;
      class = named.number;
      trigger = refl;
      is_class = named.is;
      throws = thrown.are;
    };
    is_return = record { offset = refl; op = refl; successors = refl; handlers = refl; trigger = refl; throws = refl };
  },
)
  where
    thrown : SomeThrown x.program entry.class
    thrown = some_thrown x.program entry.class

    named : HasNumber x.program entry.class
    named = has_number x.program entry.class (All-contains (λ (m : Method). IsThere x.program m.class) x.program.methods entry program.methods (contains_at x.program.methods x.entry entry stands))
