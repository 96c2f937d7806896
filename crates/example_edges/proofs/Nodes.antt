-- A small program, whose handlers take all that is thrown, whose described methods return and do nothing else, and in which no initialiser is: its
-- methods as nodes, and the start of the program.
use Rattle.std.proofs.Common.{◌≡◌, ℕ, nat_lt, Bool, true, false, not, ◌&&◌, List, [], ◌∷◌, length, Option, Some, None, is_none, Result, Ok, Err, refl, sym, ◌∙◌, ap, subst}
use Rattle.std.specs.List.{slice_get, list_all, Contains}
use Rattle.std.specs.Str.{bytes_eq}
use Rattle.std.proofs.lemmas.Bool.{and_parts, false≢true, not-true}
use Rattle.std.proofs.lemmas.Option.{same_Some}
use Rattle.jvm_model.specs.declared.number.ClassNo.{ClassNo}
use Rattle.jvm_model.specs.declared.number.MethodNo.{MethodNo}
use Rattle.jvm_model.specs.declared.reason.Refusal.{Refusal}
use Rattle.jvm_model.specs.declared.stub.StubMethod.{StubMethod}
use Rattle.jvm_model.specs.declared.stub.StubResult.{StubResult}
use Rattle.jvm_model.specs.declared.stub.StubResult.TheVariants as results
use Rattle.jvm_model.specs.declared.automaton.Automaton.{Automaton}
use Rattle.jvm_model.specs.Programs.{Body, Method, Program, in_file, described, is_class_initialiser}
use Rattle.jvm_model.specs.Soundness.{plain_descriptor}
use Rattle.op_model.specs.declared.lowered.LoweredMethod.{LoweredMethod}
use Rattle.op_model.specs.declared.node.Node.{Node}
use Rattle.op_model.specs.declared.node.NodeHandler.{NodeHandler}
use Rattle.op_model.specs.declared.op.Call.{Call as NodeCall}
use Rattle.op_model.specs.declared.op.CallKind.TheVariants.{Static}
use Rattle.op_model.specs.declared.op.Op.{Op}
use Rattle.op_model.specs.declared.op.Op.TheVariants.{Assign, Load, Store, LoadElement, StoreElement, LoadStatic, StoreStatic, New, NewArray, Constant, Call, Return, Throw, Cast, Probe}
use Rattle.op_model.specs.Supplies.{GivenAs}
use Rattle.machine_bytecode.specs.Objects.{Subject}
use Rattle.machine_nodes.specs.Nodes.{AreThrownAt, IsClassNumber, IsCodedInitialiser, IsStartCall, IsStartReturn, IsThrownAt, raised, initialising}
use Rattle.list_laws.proofs.Members.{contains_none}
use Rattle.list_laws.proofs.Places.{contains_at}
use Rattle.list_laws.proofs.Tests.{each_passes, passes_at}
use Rattle.points_to_rules.specs.Facts.{Fact}
use Rattle.points_to_rules.specs.Rules.{StartsAt}
use Rattle.ground.specs.Findings.{gives_listed}
use Rattle.stage_transfer.specs.Settings.{Setting}
use Rattle.stage_edges.specs.Rules.{Edge, IsMethod, IsNode, of_file, of_start}

-- ---- examples

-- A program, its property, its entry with the number of its class, its methods as nodes, what is known, a stage, and a list of edges. The entry is the
-- first method.
pub record Example : Type 0 where
  pub program : Program
  pub property : Automaton
  pub entry : Method
  pub class : ClassNo
  pub methods : List LoweredMethod
  pub facts : List Fact
  pub setting : Setting
  pub edges : List Edge

abbrev pub subject_of : Example → Subject
subject_of a = record { program = a.program; property = a.property; entry = 0 }

abbrev pub gives_of : Example → GivenAs
gives_of a = gives_listed a.methods

abbrev pub known_of : Example → Fact → Type 0
known_of a = Contains a.facts

-- ---- tests

abbrev is_void : StubResult → Bool
is_void results.Primitive = false
is_void results.Void = true
is_void results.Null = false
is_void (results.Given argument) = false
is_void (results.New class) = false
is_void results.Kept = false

abbrev only_returns : List StubResult → Bool
only_returns [] = false
only_returns (r ∷ []) = is_void r
only_returns (r ∷ other ∷ rest) = false

abbrev is_empty : {X : Type 0} → List X → Bool
is_empty [] = true
is_empty (x ∷ xs) = false

-- It has no parameters, returns nothing, throws nothing and keeps nothing.
abbrev is_plain_stub : StubMethod → Bool
is_plain_stub s =
    bytes_eq s.descriptor plain_descriptor && (not s.is_abstract && (only_returns s.returns && (is_empty s.throws && is_empty s.keeps)))

abbrev is_plain_body : Body → Bool
is_plain_body (in_file file number member) = true
is_plain_body (described s) = is_plain_stub s

abbrev is_plain_method : Method → Bool
is_plain_method m = is_plain_body m.body && not (is_class_initialiser m.signature)

abbrev pub call_in : Op → Option NodeCall
call_in (Call c) = Some c
call_in op = None

abbrev pub value_in : Op → Option (Option ℕ)
value_in (Return value) = Some value
value_in op = None

abbrev pub is_throw : Op → Bool
is_throw (Throw value) = true
is_throw op = false

abbrev pub take_all : List NodeHandler → Bool
take_all [] = true
take_all (h ∷ later) = is_none h.catch

abbrev is_plain_node : Program → Node → Bool
is_plain_node p n = take_all n.handlers && (not (is_throw n.op) && list_all (λ (c : ClassNo). nat_lt c.0 (length p.classes)) n.throws)

pub record IsPlain (a : Example) : Type 0 where
  pub entry : slice_get a.program.methods 0 ≡ Some a.entry
  pub class : IsClassNumber a.program a.class a.entry.class
  pub methods : list_all is_plain_method a.program.methods ≡ true
  pub nodes : list_all (λ (l : LoweredMethod). list_all (is_plain_node a.program) l.nodes) a.methods ≡ true

-- ---- what the tests say

empty_is : {X : Type 0} (xs : List X) → is_empty xs ≡ true → xs ≡ []
empty_is [] e = refl
empty_is (x ∷ xs) e = absurd (false≢true e)

void_is : (r : StubResult) → is_void r ≡ true → r ≡ results.Void
void_is results.Primitive e = absurd (false≢true e)
void_is results.Void e = refl
void_is results.Null e = absurd (false≢true e)
void_is (results.Given argument) e = absurd (false≢true e)
void_is (results.New class) e = absurd (false≢true e)
void_is results.Kept e = absurd (false≢true e)

return_is : (rs : List StubResult) → only_returns rs ≡ true → rs ≡ results.Void ∷ []
return_is [] e = absurd (false≢true e)
return_is (r ∷ []) e = ap (λ (k : StubResult). k ∷ []) (void_is r e)
return_is (r ∷ other ∷ rest) e = absurd (false≢true e)

pub record IsPlainStub (s : StubMethod) : Type 0 where
  pub descriptor : bytes_eq s.descriptor plain_descriptor ≡ true
  pub concrete : s.is_abstract ≡ false
  pub returns : s.returns ≡ results.Void ∷ []
  pub throws : s.throws ≡ []
  pub keeps : s.keeps ≡ []

plain_stub : (s : StubMethod) → is_plain_stub s ≡ true → IsPlainStub s
plain_stub s is =
    let one = and_parts (bytes_eq s.descriptor plain_descriptor) (not s.is_abstract && (only_returns s.returns && (is_empty s.throws && is_empty s.keeps))) is in
    let two = and_parts (not s.is_abstract) (only_returns s.returns && (is_empty s.throws && is_empty s.keeps)) one.1 in
    let three = and_parts (only_returns s.returns) (is_empty s.throws && is_empty s.keeps) two.1 in
    let four = and_parts (is_empty s.throws) (is_empty s.keeps) three.1 in
    record {
      descriptor = one.0;
      concrete = not-true s.is_abstract two.0;
      returns = return_is s.returns three.0;
      throws = empty_is s.throws four.0;
      keeps = empty_is s.keeps four.1;
    }

pub call_is : (op : Op) (c : NodeCall) → call_in op ≡ Some c → op ≡ Call c
call_is (Assign changes) c e = absurd cc
call_is (Load object field target) c e = absurd cc
call_is (Store object field value) c e = absurd cc
call_is (LoadElement array target) c e = absurd cc
call_is (StoreElement array value) c e = absurd cc
call_is (LoadStatic field target) c e = absurd cc
call_is (StoreStatic field value) c e = absurd cc
call_is (New site target) c e = absurd cc
call_is (NewArray sites target) c e = absurd cc
call_is (Constant site target) c e = absurd cc
call_is (Call d) c e = ap Call (same_Some d c e)
call_is (Return value) c e = absurd cc
call_is (Throw value) c e = absurd cc
call_is (Cast class slot) c e = absurd cc
call_is (Probe slot) c e = absurd cc

pub return_at : (op : Op) (value : Option ℕ) → value_in op ≡ Some value → op ≡ Return value
return_at (Assign changes) value e = absurd cc
return_at (Load object field target) value e = absurd cc
return_at (Store object field stored) value e = absurd cc
return_at (LoadElement array target) value e = absurd cc
return_at (StoreElement array stored) value e = absurd cc
return_at (LoadStatic field target) value e = absurd cc
return_at (StoreStatic field stored) value e = absurd cc
return_at (New site target) value e = absurd cc
return_at (NewArray sites target) value e = absurd cc
return_at (Constant site target) value e = absurd cc
return_at (Call c) value e = absurd cc
return_at (Return given) value e = ap Return (same_Some given value e)
return_at (Throw thrown) value e = absurd cc
return_at (Cast class slot) value e = absurd cc
return_at (Probe slot) value e = absurd cc

-- ---- the start of a program

abbrev pub entry_call : Example → NodeCall
entry_call a = record {
  kind = Static;
  resolved = record { 0 = 0 };
  chosen = Some (record { 0 = 0 });
  name = a.entry.signature.name;
  descriptor = a.entry.signature.descriptor;
  arguments = [];
  result = None;
}

abbrev pub start_call : Example → ClassNo → Node
start_call a c = record { offset = 0; op = Call (entry_call a); successors = 1 ∷ []; handlers = []; trigger = Some c; throws = [] }

abbrev pub start_return : Node
start_return = record { offset = 1; op = Return None; successors = []; handlers = []; trigger = None; throws = [] }

abbrev pub start : Example → MethodNo → ClassNo → LoweredMethod
start a k c = record { method = k; slots = 0; stack = 0; params = 0; nodes = start_call a c ∷ start_return ∷ [] }

abbrev pub the_start : Example → LoweredMethod
the_start a = start a (record { 0 = 0 }) a.class

return_node : (n : Node) → IsStartReturn n → start_return ≡ n
return_node n is =
    let offset = sym is.offset in
    let op = sym is.op in
    let successors = sym is.successors in
    let handlers = sym is.handlers in
    let trigger = sym is.trigger in
    let throws = sym is.throws in
    λ i. record { offset = offset i; op = op i; successors = successors i; handlers = handlers i; trigger = trigger i; throws = throws i }

abbrev lowered_or : LoweredMethod → Result LoweredMethod Refusal → LoweredMethod
lowered_or l (Ok m) = m
lowered_or l (Err r) = l

module _ (a : Example) (plain : IsPlain a) where
  -- ---- its methods

  method_plain : (number : ℕ) (m : Method) → slice_get a.program.methods number ≡ Some m → (is_plain_body m.body ≡ true) × (is_class_initialiser m.signature ≡ false)
  method_plain number m stands =
      let parts = and_parts (is_plain_body m.body) (not (is_class_initialiser m.signature)) (passes_at is_plain_method a.program.methods number m plain.methods stands) in
      (parts.0, not-true (is_class_initialiser m.signature) parts.1)

  not_coded : (class : List ℕ) (number : ℕ) → IsCodedInitialiser a.program class number → ⊥
  not_coded class number is = false≢true (sym (method_plain number is.method is.stands).1 ∙ ap is_class_initialiser is.named)

  pub starts_nothing : (n : Node) (i : MethodNo) → StartsAt a.program n i → ⊥
  starts_nothing n i starts = not_coded starts.class i.0 starts.initialiser

  pub stub_plain : (number : ℕ) (m : Method) (s : StubMethod) → slice_get a.program.methods number ≡ Some m → m.body ≡ described s → IsPlainStub s
  stub_plain number m s stands is = plain_stub s (sym (ap is_plain_body is) ∙ (method_plain number m stands).0)

  -- ---- its start

  nothing_thrown : (class name : List ℕ) → IsThrownAt a.program [] (Some class) name → ⊥
  nothing_thrown class name (raised raise there is) = absurd (contains_none raise there)
  nothing_thrown class name (initialising above is has error) = not_coded above has.number has.initialiser

  nothing_listed : (class : List ℕ) (throws : List ClassNo)
      → ((c : ClassNo) → Contains throws c → (name : List ℕ) × IsClassNumber a.program c name × IsThrownAt a.program [] (Some class) name) → [] ≡ throws
  nothing_listed class [] only = refl
  nothing_listed class (c ∷ cs) only = let first = only c (contains_at (c ∷ cs) 0 c refl) in absurd (nothing_thrown class first.0 first.2)

  call_node : (n : Node) → IsStartCall (subject_of a) n → (c : ClassNo) × (start_call a c ≡ n)
  call_node n is =
      let entry : a.entry ≡ is.entry = same_Some a.entry is.entry (sym plain.entry ∙ is.stands) in
      let op = ap (λ (m : Method). Call (record {
        kind = Static;
        resolved = record { 0 = 0 };
        chosen = Some (record { 0 = 0 });
        name = m.signature.name;
        descriptor = m.signature.descriptor;
        arguments = [];
        result = None;
      })) entry ∙ sym is.op in
      let throws : [] ≡ n.throws = nothing_listed is.entry.class n.throws is.throws.only in
      let offset = sym is.offset in
      let successors = sym is.successors in
      let handlers = sym is.handlers in
      let trigger = sym is.trigger in
      (is.class, λ i. record { offset = offset i; op = op i; successors = successors i; handlers = handlers i; trigger = trigger i; throws = throws i })

  -- what each node has that a method of the list has, and each of a start, each node has
  pub at_node : (P : Option MethodNo → LoweredMethod → Node → Type 0) → ((l : LoweredMethod) → Contains a.methods l → (n : Node) → Contains l.nodes n → P (Some l.method) l n)
      → ((k : MethodNo) (c : ClassNo) (n : Node) → Contains (start a k c).nodes n → P None (start a k c) n) → (m : Option MethodNo) (l : LoweredMethod) (n : Node)
      → IsNode (subject_of a) (gives_of a) m l n → P m l n
  at_node P listed at_start m l n node = by m node.method
    where
      by : (k : Option MethodNo) → IsMethod (subject_of a) (gives_of a) l k → P k l n
      by k (of_file number given) =
          let same : given.0 ≡ l = ap (lowered_or l) (sym given.3) in
          let stands : Contains given.0.nodes n = subst (λ (j : LoweredMethod). Contains j.nodes n) (sym same) node.stands in
          let is : given.0.method.0 ≡ number.0 = given.2 in
          subst (λ (j : LoweredMethod). P (Some number) j n) same
          (subst (λ (j : MethodNo). P (Some j) given.0 n) (λ i. record { 0 = is i }) (listed given.0 given.1 n stands))
      by k (of_start are slots stack params) =
          let call = call_node are.call are.is_call in
          let return = return_node are.return are.is_return in
          let nodes : (start_call a call.0 ∷ start_return ∷ []) ≡ l.nodes = (λ i. call.1 i ∷ return i ∷ []) ∙ sym are.is in
          let no_slots = sym slots in
          let no_stack = sym stack in
          let no_params = sym params in
          let same : start a l.method call.0 ≡ l =
          λ i. record { method = l.method; slots = no_slots i; stack = no_stack i; params = no_params i; nodes = nodes i } in
          let stands : Contains (start a l.method call.0).nodes n = subst (λ (j : LoweredMethod). Contains j.nodes n) (sym same) node.stands in
          subst (λ (j : LoweredMethod). P None j n) same (at_start l.method call.0 n stands)

  -- ---- nodes that are there

  pub listed_node : (l : LoweredMethod) (n : Node) → Contains a.methods l → Contains l.nodes n → IsNode (subject_of a) (gives_of a) (Some l.method) l n
  listed_node l n there stands = record { method = of_file l.method (l, there, refl, refl); stands = stands }

  throws_none : AreThrownAt a.program [] (Some a.entry.class) []
  throws_none = record { only = λ c there. absurd (contains_none c there); all = λ c name is thrown. absurd (nothing_thrown a.entry.class name thrown) }

  pub start_node : (n : Node) → Contains (the_start a).nodes n → IsNode (subject_of a) (gives_of a) None (the_start a) n
  start_node n stands = record {
    method = of_start (record {
      call = start_call a a.class;
      return = start_return;
      is = refl;
      is_call = record {
        entry = a.entry;
        stands = plain.entry;
        offset = refl;
        op = refl;
        successors = refl;
        handlers = refl;
        class = a.class;
        trigger = refl;
        is_class = plain.class;
        throws = throws_none;
      };
      is_return = record { offset = refl; op = refl; successors = refl; handlers = refl; trigger = refl; throws = refl };
    }) refl refl refl;
    stands = stands;
  }

  -- ---- the tests of each node

  pub record IsPlainNode (n : Node) : Type 0 where
    pub handlers : take_all n.handlers ≡ true
    pub no_throw : is_throw n.op ≡ false
    pub classes : list_all (λ (c : ClassNo). nat_lt c.0 (length a.program.classes)) n.throws ≡ true

  plain_node : (n : Node) → is_plain_node a.program n ≡ true → IsPlainNode n
  plain_node n is =
      let one = and_parts (take_all n.handlers) (not (is_throw n.op) && list_all (λ (c : ClassNo). nat_lt c.0 (length a.program.classes)) n.throws) is in
      let two = and_parts (not (is_throw n.op)) (list_all (λ (c : ClassNo). nat_lt c.0 (length a.program.classes)) n.throws) one.1 in
      record { handlers = one.0; no_throw = not-true (is_throw n.op) two.0; classes = two.1 }

  pub node_plain : (m : Option MethodNo) (l : LoweredMethod) (n : Node) → IsNode (subject_of a) (gives_of a) m l n → IsPlainNode n
  node_plain = at_node (λ m l n. IsPlainNode n) (λ l there n stands.
      plain_node n (each_passes (is_plain_node a.program) l.nodes n (each_passes (λ (k : LoweredMethod). list_all (is_plain_node a.program) k.nodes) a.methods l plain.nodes there) stands))
      (λ k c n stands. plain_node n (each_passes (is_plain_node a.program) (start a k c).nodes n refl stands))
