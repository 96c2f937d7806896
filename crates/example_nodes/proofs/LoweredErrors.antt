-- That the nodes of a method that may start an initialiser are those that the rules give, where the program has the errors of
-- initialisation: each is listed.
use Rattle.std.proofs.Common.{codes, ◌≡◌, inl, inr, ℕ, zero, suc, ◌+◌, Bool, true, not, ◌&&◌, ◌||◌, List, [], ◌∷◌, bytes_eq, Some, None, slice_get, refl, sym, subst, arith}
use Rattle.std.specs.List.{Contains}
use Rattle.std.proofs.lemmas.Bool.{and_parts}
use Rattle.std.proofs.lemmas.Option.{same_Some, none-some}
use Rattle.std.proofs.lemmas.Slice.Eq.{bytes_eq-Decides}
use Rattle.jvm_model.specs.declared.number.ClassNo.{ClassNo}
use Rattle.jvm_model.specs.Programs.{Program, Class}
use Rattle.jvm_model.specs.Subtypes.{same}
use Rattle.machine_bytecode.specs.Machine.{of_class}
use Rattle.example_machine.specs.Building.{handler as covers}
use Rattle.example_machine.specs.Initialising.{main_pool, makes_broken}
use Rattle.example_machine.proofs.CallStart.{plain_units}
use Rattle.lowering_spec.specs.LoweredMethods.IsCatch.{all}
use Rattle.lowering_spec.specs.LoweredMethods.{IsLowered, no_trigger, for_class}
use Rattle.machine_nodes.specs.Nodes.{IsClassNumber, HasInitialiser, IsInitialisationError, IsThrownAt, raised, initialising, AreThrownAt}
use Rattle.example_nodes.specs.DecodedCalls.{makes_broken_code, makes_broken_graph}
use Rattle.example_nodes.specs.Initialising.{program_with_errors, makes_broken_nodes, errors}
use Rattle.example_nodes.proofs.MoveLists.{are_moves_of}
use Rattle.example_nodes.proofs.NodesOf.{node_is, is_listed, listed_there, or_first, or_second, if_true}
use Rattle.list_laws.proofs.Members.{contains_none}

-- ---- each error is listed

abbrev is_error : List ℕ → Bool
is_error name = bytes_eq name (codes "java/lang/ExceptionInInitializerError") || bytes_eq name (codes "java/lang/NoClassDefFoundError")

-- of some classes, of which the first one has this number
abbrev errors_listed : List ClassNo → ℕ → List Class → Bool
errors_listed throws number [] = true
errors_listed throws number (c ∷ classes) = (not (is_error c.name) || is_listed throws number) && errors_listed throws (suc number) classes

is_error_by : (name : List ℕ) → IsInitialisationError name → is_error name ≡ true
is_error_by name (inl e) = or_first (bytes_eq name (codes "java/lang/ExceptionInInitializerError")) (bytes_eq name (codes "java/lang/NoClassDefFoundError")) ((bytes_eq-Decides name (codes "java/lang/ExceptionInInitializerError")).1 e)
is_error_by name (inr e) = or_second (bytes_eq name (codes "java/lang/ExceptionInInitializerError")) (bytes_eq name (codes "java/lang/NoClassDefFoundError")) ((bytes_eq-Decides name (codes "java/lang/NoClassDefFoundError")).1 e)

each_error : (throws : List ClassNo) (number : ℕ) (classes : List Class) (place : ℕ) (c : Class) → errors_listed throws number classes ≡ true → slice_get classes place ≡ Some c → is_error c.name ≡ true → is_listed throws (number + place) ≡ true
each_error throws number [] place c h stands e = absurd (none-some c stands)
each_error throws number (k ∷ classes) zero c h stands e =
    let both = and_parts (not (is_error k.name) || is_listed throws number) (errors_listed throws (suc number) classes) h in
    let here : number ≡ number + zero = omega arith in
    subst (λ (n : ℕ). is_listed throws n ≡ true) here (if_true (is_error k.name) (is_listed throws number) (subst (λ (d : Class). is_error d.name ≡ true) (sym (same_Some k c stands)) e) both.0)
each_error throws number (k ∷ classes) (suc place) c h stands e =
    let both = and_parts (not (is_error k.name) || is_listed throws number) (errors_listed throws (suc number) classes) h in
    let here : suc number + place ≡ number + suc place = omega arith in
    subst (λ (n : ℕ). is_listed throws n ≡ true) here (each_error throws (suc number) classes place c both.1 stands e)

-- ---- the program

abbrev p : Program
p = program_with_errors makes_broken

broken_has : HasInitialiser p (codes "Broken")
broken_has = record {
  number = 0;
  initialiser = record { method = _; stands = refl; named = refl; file = _; place = _; member = _; of_file = refl; code = refl; above = same _ refl };
}

errors_thrown : AreThrownAt p [] (Some (codes "Broken")) errors
errors_thrown = record { only = λ c there. only c there; all = λ c name is thrown. every c name is thrown }
  where
    only : (c : ClassNo) → Contains errors c → (name : List ℕ) × IsClassNumber p c name × IsThrownAt p [] (Some (codes "Broken")) name
    only c (zero, few, e) =
        subst (λ (k : ClassNo). (name : List ℕ) × IsClassNumber p k name × IsThrownAt p [] (Some (codes "Broken")) name) e
        (codes "java/lang/ExceptionInInitializerError", record { class = _; stands = refl; named = refl }, initialising (codes "Broken") refl broken_has (inl refl))
    only c (suc zero, few, e) =
        subst (λ (k : ClassNo). (name : List ℕ) × IsClassNumber p k name × IsThrownAt p [] (Some (codes "Broken")) name) e
        (codes "java/lang/NoClassDefFoundError", record { class = _; stands = refl; named = refl }, initialising (codes "Broken") refl broken_has (inr refl))
    only c (suc (suc n), few, e) = absurd (omega (arith, few))

    every : (c : ClassNo) (name : List ℕ) → IsClassNumber p c name → IsThrownAt p [] (Some (codes "Broken")) name → Contains errors c
    every c name is (raised k there e) = absurd (contains_none k there)
    every c name is (initialising class e has error) =
        let here : 0 + c.0 ≡ c.0 = omega arith in
        listed_there errors c
        (subst (λ (n : ℕ). is_listed errors n ≡ true) here (each_error errors 0 p.classes c.0 is.class refl is.stands (is_error_by is.class.name (subst IsInitialisationError (sym is.named) error))))

-- an instruction that neither raises nor triggers
no_raise : AreThrownAt p [] None []
no_raise = record { only = λ c there. absurd (contains_none c there); all = λ c name is thrown. every c name thrown }
  where
    every : (c : ClassNo) (name : List ℕ) → IsThrownAt p [] None name → Contains [] c
    every c name (raised k there e) = absurd (contains_none k there)
    every c name (initialising class e has error) = absurd (none-some class e)

pub nodes_of_makes_broken : IsLowered (program_with_errors makes_broken) 1 main_pool makes_broken_code makes_broken_graph makes_broken_nodes
nodes_of_makes_broken = record {
  method = _;
  stands = refl;
  number_is = refl;
  slots = refl;
  stack = refl;
  params = record { parameters = []; results = []; of_descriptor = plain_units; is = refl };
  nodes = (
    node_is (program_with_errors makes_broken) 1 _ main_pool makes_broken_code _ _ _ 0 refl refl _ refl _ refl 0 refl refl (record { class = _; named = refl }, refl) refl (record { handler = covers 0 3 5 0; stands = refl; target = refl; catch = all refl refl }, tt)
        (Some (codes "Broken")) (for_class refl (codes "Broken") _ (of_class (record { class = _; named = refl }) refl) (record { class = _; stands = refl; named = refl }) refl refl) errors_thrown,
    (
      node_is (program_with_errors makes_broken) 1 _ main_pool makes_broken_code _ _ _ 1 refl refl _ refl _ refl 0 refl refl (record { moves = _; is = refl; each = are_moves_of _ _ _ refl }) refl tt
          None (no_trigger refl refl refl) no_raise,
      (
        node_is (program_with_errors makes_broken) 1 _ main_pool makes_broken_code _ _ _ 2 refl refl _ refl _ refl 0 refl refl refl refl tt
            None (no_trigger refl refl refl) no_raise,
        (
          node_is (program_with_errors makes_broken) 1 _ main_pool makes_broken_code _ _ _ 3 refl refl _ refl _ refl 0 refl refl (record { moves = _; is = refl; each = are_moves_of _ _ _ refl }) refl tt
              None (no_trigger refl refl refl) no_raise,
          (
            node_is (program_with_errors makes_broken) 1 _ main_pool makes_broken_code _ _ _ 4 refl refl _ refl _ refl 0 refl refl (record { class = _; named = refl }, refl) refl tt
                (Some (codes "Broken")) (for_class refl (codes "Broken") _ (of_class (record { class = _; named = refl }) refl) (record { class = _; stands = refl; named = refl }) refl refl) errors_thrown,
            (
              node_is (program_with_errors makes_broken) 1 _ main_pool makes_broken_code _ _ _ 5 refl refl _ refl _ refl 0 refl refl (record { moves = _; is = refl; each = are_moves_of _ _ _ refl }) refl tt
                  None (no_trigger refl refl refl) no_raise,
              (
                node_is (program_with_errors makes_broken) 1 _ main_pool makes_broken_code _ _ _ 6 refl refl _ refl _ refl 0 refl refl refl refl tt
                    None (no_trigger refl refl refl) no_raise,
                tt,
              ),
            ),
          ),
        ),
      ),
    ),
  );
}
