-- That nodes are those of a method: each by its instruction, its step of the graph, and its operation.
use Rattle.std.proofs.Common.{◌≡◌, ◌⊎◌, inl, inr, ℕ, zero, suc, ◌+◌, Bool, true, false, not, ◌&&◌, ◌||◌, nat_eq, List, [], ◌∷◌, length, bytes_eq, Option, Some, None, slice_get, refl, sym, ap, ◌∙◌, subst, true≢false, eqb-true, arith}
use Rattle.std.specs.List.{Contains, AllZip, list_all}
use Rattle.std.specs.Prelude.{◌↔◌}
use Rattle.std.proofs.lemmas.Bool.{and_parts}
use Rattle.std.proofs.lemmas.List.Elements.{All-contains}
use Rattle.std.proofs.lemmas.List.Sums.{AllPass-from_list_all}
use Rattle.std.proofs.lemmas.Option.{same_Some, none-some}
use Rattle.std.proofs.lemmas.Slice.Eq.{bytes_eq-Decides}
use Rattle.jvm_model.specs.declared.code.Code.{Code}
use Rattle.jvm_model.specs.declared.code.PlacedInstruction.{PlacedInstruction}
use Rattle.jvm_model.specs.declared.number.ClassNo.{ClassNo}
use Rattle.jvm_model.specs.declared.pool.PoolEntry.{PoolEntry}
use Rattle.jvm_model.specs.Instructions.{IsRowAt}
use Rattle.jvm_model.specs.Programs.{Program, Class, Method}
use Rattle.jvm_model.specs.Table.{Row, Raise, row_of}
use Rattle.flow_graph.specs.declared.steps.GraphStep.{GraphStep}
use Rattle.flow_graph.specs.Effects.{with_row}
use Rattle.op_model.specs.declared.node.Node.{Node}
use Rattle.machine_bytecode.specs.Machine.{exception_class}
use Rattle.machine_nodes.specs.Nodes.{IsClassNumber, IsThrownAt, raised, initialising, AreThrownAt}
use Rattle.lowering_spec.specs.LoweredMethods.{IsHandlerAt, HasTrigger, IsNodeOf}
use Rattle.lowering_spec.specs.Operations.{Placed, IsOp}
use Rattle.example_nodes.proofs.StartNodes.{has_no_error, nothing_thrown}
use Rattle.example_machine.proofs.Searches.{not_true}
use Rattle.list_laws.proofs.Tests.{passes_at}
use Rattle.list_laws.proofs.Members.{contains_later, contains_none}

-- ---- nothing is thrown, where the program has none of the classes

abbrev is_none_of : List Raise → Class → Bool
is_none_of raises c = list_all (λ (k : Raise). not (bytes_eq c.name (exception_class k))) raises

abbrev pub has_none_of : List Raise → Program → Bool
has_none_of raises p = list_all (is_none_of raises) p.classes

pub throws_nothing : (p : Program) → has_no_error p ≡ true → (raises : List Raise) → has_none_of raises p ≡ true → (trigger : Option (List ℕ)) → AreThrownAt p raises trigger []
throws_nothing p h raises g trigger = record { only = λ c there. absurd (contains_none c there); all = λ c name is thrown. every c name is thrown }
  where
    none : AreThrownAt p [] trigger []
    none = nothing_thrown p h trigger

    every : (c : ClassNo) (name : List ℕ) → IsClassNumber p c name → IsThrownAt p raises trigger name → Contains [] c
    every c name is (initialising class e has error) = none.all c name is (initialising class e has error)
    every c name is (raised k there e) =
        let test = passes_at (is_none_of raises) p.classes c.0 is.class g is.stands in
        let other = All-contains (λ (q : Raise). not (bytes_eq is.class.name (exception_class q)) ≡ true) raises k (AllPass-from_list_all (λ (q : Raise). not (bytes_eq is.class.name (exception_class q))) raises test) there in
        absurd (not_true (bytes_eq is.class.name (exception_class k)) other ((bytes_eq-Decides is.class.name (exception_class k)).1 (is.named ∙ e)))

-- ---- what is thrown, where the program has no error of initialisation: by tests

abbrev is_raised : List Raise → List ℕ → Bool
is_raised [] name = false
is_raised (k ∷ raises) name = bytes_eq name (exception_class k) || is_raised raises name

abbrev pub is_listed : List ClassNo → ℕ → Bool
is_listed [] number = false
is_listed (c ∷ throws) number = nat_eq c.0 number || is_listed throws number

abbrev class_is_raised : List Raise → Option Class → Bool
class_is_raised raises None = false
class_is_raised raises (Some c) = is_raised raises c.name

-- each listed class is one that is raised
abbrev pub lists_raised : Program → List Raise → List ClassNo → Bool
lists_raised p raises throws = list_all (λ (c : ClassNo). class_is_raised raises (slice_get p.classes c.0)) throws

-- each class that is raised is listed; the first of these classes has this number
abbrev lists_from : List Raise → List ClassNo → ℕ → List Class → Bool
lists_from raises throws number [] = true
lists_from raises throws number (c ∷ classes) = (not (is_raised raises c.name) || is_listed throws number) && lists_from raises throws (suc number) classes

abbrev pub lists_each : Program → List Raise → List ClassNo → Bool
lists_each p raises throws = lists_from raises throws 0 p.classes

or_cases : (a b : Bool) → (a || b) ≡ true → (a ≡ true) ⊎ (b ≡ true)
or_cases true b e = inl refl
or_cases false b e = inr e

pub or_first : (a b : Bool) → a ≡ true → (a || b) ≡ true
or_first true b e = refl
or_first false b e = absurd (true≢false (sym e))

pub or_second : (a b : Bool) → b ≡ true → (a || b) ≡ true
or_second true b e = refl
or_second false b e = e

pub if_true : (a b : Bool) → a ≡ true → (not a || b) ≡ true → b ≡ true
if_true true b e h = h
if_true false b e h = absurd (true≢false (sym e))

raised_by : (raises : List Raise) (name : List ℕ) → is_raised raises name ≡ true → (k : Raise) × Contains raises k × (name ≡ exception_class k)
raised_by [] name e = absurd (true≢false (sym e))
raised_by (k ∷ raises) name e = by (or_cases (bytes_eq name (exception_class k)) (is_raised raises name) e) (λ f. raised_by raises name f)
  where
    by : (bytes_eq name (exception_class k) ≡ true) ⊎ (is_raised raises name ≡ true) → (is_raised raises name ≡ true → (q : Raise) × Contains raises q × (name ≡ exception_class q))
        → (q : Raise) × Contains (k ∷ raises) q × (name ≡ exception_class q)
    by (inl f) deeper = (k, (0, omega arith, refl), (bytes_eq-Decides name (exception_class k)).0 f)
    by (inr f) deeper = let d = deeper f in (d.0, contains_later k d.0 raises d.1, d.2)

is_raised_by : (raises : List Raise) (name : List ℕ) (k : Raise) → Contains raises k → name ≡ exception_class k → is_raised raises name ≡ true
is_raised_by [] name k there e = absurd (contains_none k there)
is_raised_by (q ∷ raises) name k (zero, few, same) e =
    or_first (bytes_eq name (exception_class q)) (is_raised raises name) ((bytes_eq-Decides name (exception_class q)).1 (e ∙ sym (ap exception_class same)))
is_raised_by (q ∷ raises) name k (suc n, few, same) e =
    or_second (bytes_eq name (exception_class q)) (is_raised raises name) (is_raised_by raises name k (n, omega arith, same) e)

pub listed_there : (throws : List ClassNo) (c : ClassNo) → is_listed throws c.0 ≡ true → Contains throws c
listed_there [] c e = absurd (true≢false (sym e))
listed_there (k ∷ throws) c e = by (or_cases (nat_eq k.0 c.0) (is_listed throws c.0) e) (λ f. listed_there throws c f)
  where
    by : (nat_eq k.0 c.0 ≡ true) ⊎ (is_listed throws c.0 ≡ true) → (is_listed throws c.0 ≡ true → Contains throws c) → Contains (k ∷ throws) c
    by (inl f) deeper =
        let same : k ≡ c = ap (λ (n : ℕ). record { 0 = n }) (eqb-true k.0 c.0 f) in
        subst (λ (q : ClassNo). Contains (k ∷ throws) q) same (0, omega arith, refl)
    by (inr f) deeper = contains_later k c throws (deeper f)

each_listed : (raises : List Raise) (throws : List ClassNo) (number : ℕ) (classes : List Class) (place : ℕ) (c : Class) → lists_from raises throws number classes ≡ true → slice_get classes place ≡ Some c → is_raised raises c.name ≡ true
    → is_listed throws (number + place) ≡ true
each_listed raises throws number [] place c h stands r = absurd (none-some c stands)
each_listed raises throws number (k ∷ classes) zero c h stands r =
    let both = and_parts (not (is_raised raises k.name) || is_listed throws number) (lists_from raises throws (suc number) classes) h in
    let here : number ≡ number + zero = omega arith in
    subst (λ (n : ℕ). is_listed throws n ≡ true) here
    (if_true (is_raised raises k.name) (is_listed throws number) (subst (λ (d : Class). is_raised raises d.name ≡ true) (sym (same_Some k c stands)) r) both.0)
each_listed raises throws number (k ∷ classes) (suc place) c h stands r =
    let both = and_parts (not (is_raised raises k.name) || is_listed throws number) (lists_from raises throws (suc number) classes) h in
    let here : suc number + place ≡ number + suc place = omega arith in
    subst (λ (n : ℕ). is_listed throws n ≡ true) here (each_listed raises throws (suc number) classes place c both.1 stands r)

pub throws_these : (p : Program) → has_no_error p ≡ true → (raises : List Raise) (throws : List ClassNo) → lists_raised p raises throws ≡ true → lists_each p raises throws ≡ true → (trigger : Option (List ℕ)) → AreThrownAt p raises trigger throws
throws_these p h raises throws only_test each_test trigger = record { only = λ c there. only c there; all = λ c name is thrown. every c name is thrown }
  where
    only : (c : ClassNo) → Contains throws c → (name : List ℕ) × IsClassNumber p c name × IsThrownAt p raises trigger name
    only c there =
        by (slice_get p.classes c.0) refl (All-contains (λ (q : ClassNo). class_is_raised raises (slice_get p.classes q.0) ≡ true) throws c (AllPass-from_list_all (λ (q : ClassNo). class_is_raised raises (slice_get p.classes q.0)) throws only_test) there)
      where
        by : (o : Option Class) → slice_get p.classes c.0 ≡ o → class_is_raised raises o ≡ true → (name : List ℕ) × IsClassNumber p c name × IsThrownAt p raises trigger name
        by None e f = absurd (true≢false (sym f))
        by (Some k) e f = let r = raised_by raises k.name f in (k.name, record { class = k; stands = e; named = refl }, raised r.0 r.1 r.2)

    every : (c : ClassNo) (name : List ℕ) → IsClassNumber p c name → IsThrownAt p raises trigger name → Contains throws c
    every c name is (initialising class e has error) = absurd (contains_none c ((nothing_thrown p h trigger).all c name is (initialising class e has error)))
    every c name is (raised k there e) =
        let here : 0 + c.0 ≡ c.0 = omega arith in
        listed_there throws c
        (subst (λ (n : ℕ). is_listed throws n ≡ true) here (each_listed raises throws 0 p.classes c.0 is.class each_test is.stands (is_raised_by raises is.class.name k there (is.named ∙ e))))

-- ---- a node

stands_among : {X : Type 0} (xs : List X) (k : ℕ) (x : X) → slice_get xs k ≡ Some x → Contains xs x
stands_among [] k x e = absurd (none-some x e)
stands_among {X} (y ∷ xs) zero x e = subst (λ (z : X). Contains (y ∷ xs) z) (same_Some y x e) (0, omega arith, refl)
stands_among (y ∷ xs) (suc k) x e = let there = stands_among xs k x e in let few = there.1 in (suc there.0, omega arith, there.2)

same_contents : {X : Type 0} (xs ys : List X) → xs ≡ ys → (x : X) → Contains xs x ↔ Contains ys x
same_contents {X} xs ys e x = (subst (λ (zs : List X). Contains zs x) e, subst (λ (zs : List X). Contains zs x) (sym e))

module _ (p : Program) (number : ℕ) (m : Method) (pool : List PoolEntry) (code : Code) where
  abbrev pub placed_as : PlacedInstruction → Row → Row → ℕ → Placed
  placed_as i opcode_row row base = record { program = p; method = number; current = m.class; pool = pool; instruction = with_row i.instruction opcode_row; offset = i.offset; row = row; base = base }

  pub node_is : (step : GraphStep) (n : Node) (i : PlacedInstruction) (place : ℕ) → slice_get code.instructions place ≡ Some i → i.offset ≡ step.offset
      → (opcode_row : Row) → row_of i.instruction.opcode ≡ Some opcode_row → (row : Row) → IsRowAt pool (with_row i.instruction opcode_row) row
      → (base : ℕ) → base + length row.pops ≡ code.max_locals + step.height
      → n.offset ≡ step.offset → IsOp row.action (placed_as i opcode_row row base) n.op → n.successors ≡ step.successors
      → AllZip (IsHandlerAt p pool code.handlers) step.handlers n.handlers
      → (class : Option (List ℕ)) → HasTrigger (placed_as i opcode_row row base) n.trigger class → AreThrownAt p row.raises class n.throws
      → IsNodeOf p number m pool code step n
  node_is step n i place stands offset opcode_row of_opcode row of_row base lowest node_offset op successors handlers class trigger throws = record {
    instruction = placed_as i opcode_row row base;
    placed = record {
      placed = i;
      stands = stands_among code.instructions place i stands;
      offset = offset;
      opcode_row = opcode_row;
      of_opcode = of_opcode;
      row = row;
      of_row = of_row;
      base = base;
      lowest = lowest;
      is = ap (λ (o : ℕ). record { program = p; method = number; current = m.class; pool = pool; instruction = with_row i.instruction opcode_row; offset = o; row = row; base = base }) offset;
    };
    offset = node_offset;
    op = op;
    successors = same_contents n.successors step.successors successors;
    handlers = handlers;
    trigger_class = class;
    trigger = trigger;
    throws = throws;
  }
