-- The handlers of a step, where no entry that covers it takes a class that is not in the program.
use Rattle.std.proofs.Common.{◌≡◌, ◌≢◌, inl, inr, ℕ, List, [], ◌∷◌, Option, Some, None, refl, subst}
use Rattle.std.specs.List.{AllZip, Contains, slice_get}
use Rattle.std.proofs.lemmas.List.Elements.{All-contains, All-from_recursion}
use Rattle.jvm_model.specs.declared.class_file.ClassFile.{ClassFile}
use Rattle.jvm_model.specs.declared.code.Code.{Code}
use Rattle.jvm_model.specs.declared.code.Handler.{Handler}
use Rattle.jvm_model.specs.declared.number.ClassNo.{ClassNo}
use Rattle.jvm_model.specs.Lookups.{class_name_at}
use Rattle.jvm_model.specs.Programs.{Class, Program}
use Rattle.jvm_model.specs.Soundness.{IsSoundClass}
use Rattle.jvm_model.specs.Subtypes.{class_named}
use Rattle.flow_graph.specs.Flows.{covering}
use Rattle.flow_graph.specs.Graphing.{IsCodeOf}
use Rattle.hierarchy.proofs.ClassPlaces.{contained, number_named, place_there}
use Rattle.lowering_spec.specs.LoweredMethods.{IsCatch, IsHandlerAt, all, of_class}
use Rattle.machine_nodes.specs.Nodes.{IsClassNumber}
use Rattle.lowering_handlers.specs.Catches.{IsUnknownEntry, TakesUnknown, NamesClass}
use Rattle.lowering_handlers.proofs.CatchTypes.{IsTyped, all_typed, names_class}
use Rattle.lowering_handlers.proofs.TakenHandlers.{covering_below}
use Rattle.op_model.specs.declared.node.NodeHandler.{NodeHandler}
use Rattle.program_laws.proofs.Choices.{OrNot}
use Rattle.program_laws.proofs.Orders.{first_there, more_there}
use Rattle.program_laws.proofs.Bounded.{equal_or_not}

-- the class of a name, by its number
pub number_of : (p : Program) (name : List ℕ) (c : Class) → class_named p name ≡ Some c → (n : ClassNo) × IsClassNumber p n name
number_of p name c named =
    let n = number_named p name c named in
    let number : ClassNo = record { 0 = n.0 } in
    (number, record { class = c; stands = n.1; named = n.2 })

module _ (p : Program) (c : ClassFile) (code : Code) (sound : IsSoundClass c) (is_code : IsCodeOf c code) where
  -- what an entry takes, where its class is in the program
  catch_of : (h : Handler) → NamesClass c.pool h → (TakesUnknown p c.pool h → ⊥) → (catch : Option ClassNo) × IsCatch p c.pool h.catch_type catch
  catch_of h names known = by (equal_or_not h.catch_type 0)
    where
      by_class : (typed : h.catch_type ≢ 0) (name : List ℕ) → class_name_at c.pool h.catch_type ≡ Some name → (o : Option Class) → class_named p name ≡ o
          → (catch : Option ClassNo) × IsCatch p c.pool h.catch_type catch
      by_class typed name named None absent = absurd (known (record { typed = typed; name = name; named = named; absent = absent }))
      by_class typed name named (Some class) there = let n = number_of p name class there in (Some n.0, of_class typed name n.0 named n.1 refl)

      by : OrNot (h.catch_type ≡ 0) → (catch : Option ClassNo) × IsCatch p c.pool h.catch_type catch
      by (inl none) = (None, all none refl)
      by (inr typed) = let name = names typed in by_class typed name.0 name.1 (class_named p name.0) refl

  handler_at : (place : ℕ) → (IsUnknownEntry p c.pool code.handlers place → ⊥) → (h : Handler) → slice_get code.handlers place ≡ Some h
      → (n : NodeHandler) × IsHandlerAt p c.pool code.handlers place n
  handler_at place known h stands =
      let typed = All-contains (IsTyped c.pool) code.handlers h (All-from_recursion (IsTyped c.pool) code.handlers (all_typed c code is_code)) (contained code.handlers place h stands) in
      let catch = catch_of h (names_class c sound h typed) (λ takes. known (record { handler = h; stands = stands; takes = takes })) in
      (record { target = h.target; catch = catch.0 }, record { handler = h; stands = stands; target = refl; catch = catch.1 })

  abbrev Handled : List ℕ → Type 0
  Handled places = (handlers : List NodeHandler) × AllZip (IsHandlerAt p c.pool code.handlers) places handlers

  each_handler : (offset : ℕ) (places : List ℕ) → ((place : ℕ) → Contains places place → Contains (covering code.handlers offset) place)
      → ((place : ℕ) → Contains places place → IsUnknownEntry p c.pool code.handlers place → ⊥) → Handled places
  each_handler offset [] within known = ([], tt)
  each_handler offset (place ∷ places) within known =
      let below = covering_below code.handlers offset place (within place (first_there place places)) in
      let h = place_there code.handlers place below in
      let first = handler_at place (known place (first_there place places)) h.0 h.1 in
      let rest = each_handler offset places (λ q there. within q (more_there place q places there)) (λ q there. known q (more_there place q places there)) in
      (first.0 ∷ rest.0, (first.1, rest.1))

  pub handlers_of : (offset : ℕ) (places : List ℕ) → places ≡ covering code.handlers offset → ((place : ℕ) → Contains places place → IsUnknownEntry p c.pool code.handlers place → ⊥) → Handled places
  handlers_of offset places are known = each_handler offset places (λ place there. subst (λ (ps : List ℕ). Contains ps place) are there) known
