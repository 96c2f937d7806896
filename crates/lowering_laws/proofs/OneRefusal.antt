-- A method has at most one refusal, and where it has one, it has no nodes.
use Rattle.std.proofs.Common.{◌≡◌, ◌⊎◌, inl, inr, ℕ, ◌<◌, ◌≤◌, List, Option, Some, None, sym, ap, ◌∙◌, subst, arith}
use Rattle.std.specs.List.{AllByRecursion, Contains, slice_get}
use Rattle.std.proofs.lemmas.Bool.{cases_lt}
use Rattle.std.proofs.lemmas.List.Elements.{recursion_from_All}
use Rattle.std.proofs.lemmas.Option.{same_Some, none-some, slice_get-get_or}
use Rattle.jvm_model.specs.declared.class_file.ClassFile.{ClassFile}
use Rattle.jvm_model.specs.declared.class_file.Member.{Member}
use Rattle.jvm_model.specs.declared.code.Code.{Code}
use Rattle.jvm_model.specs.declared.code.Handler.{Handler}
use Rattle.jvm_model.specs.declared.code.PlacedInstruction.{PlacedInstruction}
use Rattle.jvm_model.specs.declared.pool.PoolEntry.{PoolEntry}
use Rattle.jvm_model.specs.declared.reason.Reason.{Reason}
use Rattle.jvm_model.specs.declared.reason.Refusal.{Refusal}
use Rattle.jvm_model.specs.Code.{CodeBody}
use Rattle.jvm_model.specs.Programs.{Body, Class, Method, Program, in_file}
use Rattle.jvm_model.specs.Subtypes.{class_named}
use Rattle.jvm_model.specs.Table.{Row, row_of}
use Rattle.code_reader.proofs.MachineBodies.{one_body}
use Rattle.flow_graph.specs.declared.steps.Graph.{Graph}
use Rattle.flow_graph.specs.declared.steps.GraphStep.{GraphStep}
use Rattle.flow_graph.specs.Reading.{AreInOrder}
use Rattle.flow_graph.proofs.Numbers.{in_order_of}
use Rattle.flow_graph.proofs.ReadPlaces.{in_place}
use Rattle.op_model.specs.declared.lowered.LoweredMethod.{LoweredMethod}
use Rattle.lowering_handlers.specs.Entries.{IsFirstUnknown, AreKnown, entry_offset}
use Rattle.lowering_reasons.specs.Reasons.{Judged, IsFirstReason}
use Rattle.lowering.specs.Refusals.{AreFree, HasFirstReason, IsAccepted, IsFirstRefusal, at_entry, at_instruction, IsJudgedAt, IsOwnCode, IsRefused, IsRefusedAt, here, later}
use Rattle.lowering.proofs.StepPlaces.{one_at}
use Rattle.lowering_laws.proofs.FirstReasons.{one_reason}

-- ---- the member of a class file

abbrev file_of : ClassFile → Body → ClassFile
file_of d (in_file file place member) = file
file_of d _ = d

abbrev place_of : Body → ℕ
place_of (in_file file place member) = place
place_of _ = 0

abbrev member_of : Member → Body → Member
member_of d (in_file file place member) = member
member_of d _ = d

-- two readings of the code of one method are of one member
pub record SameOwn (p : Program) (number : ℕ) (code : Code) (graph : Graph) (x y : IsOwnCode p number code graph) : Type 0 where
  pub method : x.method ≡ y.method
  pub file : x.file ≡ y.file
  pub place : x.place ≡ y.place
  pub member : x.member ≡ y.member

pub same_own : (p : Program) (number : ℕ) (code : Code) (graph : Graph) (x y : IsOwnCode p number code graph) → SameOwn p number code graph x y
same_own p number code graph x y =
    let method : x.method ≡ y.method = same_Some x.method y.method (sym x.stands ∙ y.stands) in
    let body : in_file x.file x.place x.member ≡ in_file y.file y.place y.member = sym x.of_file ∙ ap (λ (m : Method). m.body) method ∙ y.of_file in
    record {
      method = method;
      file = ap (file_of x.file) body;
      place = ap place_of body;
      member = ap (member_of x.member) body;
    }

-- ---- instructions stand at offsets of their own

there_at : (ps : List PlacedInstruction) (p : PlacedInstruction) → (there : Contains ps p) → slice_get ps there.0 ≡ Some p
there_at ps p there = slice_get-get_or ps there.0 p there.1 ∙ ap (λ (q : PlacedInstruction). Some q) there.2

pub one_placed : (ps : List PlacedInstruction) → AreInOrder ps → (p q : PlacedInstruction) → Contains ps p → Contains ps q → p.offset ≡ q.offset → p ≡ q
one_placed ps ordered p q x y same = one_at ps ordered x.0 y.0 p q (there_at ps p x) (there_at ps q y) same

-- the instructions of the code stand in order
pub own_order : (p : Program) (number : ℕ) (code : Code) (graph : Graph) → IsOwnCode p number code graph → AreInOrder code.instructions
own_order p number code graph own = in_order_of code.instructions (in_place own.file code (record { method = own.place; read = own.read })).ascends

-- ---- instructions

module _ (p : Program) (m : Method) (pool : List PoolEntry) (code : Code) (ordered : AreInOrder code.instructions) where
  one_judged : (step : GraphStep) (a b : Judged) → IsJudgedAt p m pool code step a → IsJudgedAt p m pool code step b → a ≡ b
  one_judged step a b x y =
      let placed : x.placed ≡ y.placed = one_placed code.instructions ordered x.placed y.placed x.stands y.stands (x.offset ∙ sym y.offset) in
      let row : x.row ≡ y.row = same_Some x.row y.row (sym x.of_opcode ∙ ap (λ (q : PlacedInstruction). row_of q.instruction.opcode) placed ∙ y.of_opcode) in
      let by : PlacedInstruction → Row → Judged = λ q r. record { program = p; current = m.class; pool = pool; action = r.action; operands = r.operands; operand = q.instruction.operand } in
      x.is ∙ ap (λ (q : PlacedInstruction). by q x.row) placed ∙ ap (by y.placed) row ∙ sym y.is

  one_first : (step : GraphStep) (a b : Option Reason) → HasFirstReason p m pool code step a → HasFirstReason p m pool code step b → a ≡ b
  one_first step a b x y =
      let judged = one_judged step x.judged y.judged x.at y.at in
      one_reason y.judged a b (subst (λ (j : Judged). IsFirstReason j a) judged x.is) y.is

  -- a step has no reason and a first one
  not_both : (step : GraphStep) (reason : Reason) → HasFirstReason p m pool code step None → HasFirstReason p m pool code step (Some reason) → ⊥
  not_both step reason x y = none-some reason (one_first step None (Some reason) x y)

  -- the first step that has one is one, and so is its reason
  one_refused : (steps : List GraphStep) (a b : ℕ) (r s : Reason) → IsRefusedAt p m pool code steps a r → IsRefusedAt p m pool code steps b s → (a ≡ b) × (r ≡ s)
  one_refused steps a b r s (here step more _ _ x e) (here _ _ _ _ y f) = (e ∙ sym f, same_Some r s (one_first step (Some r) (Some s) x y))
  one_refused steps a b r s (here step more _ _ x e) (later _ _ _ _ none y) = absurd (not_both step r none x)
  one_refused steps a b r s (later step more _ _ none x) (here _ _ _ _ y f) = absurd (not_both step s none y)
  one_refused steps a b r s (later step more _ _ none x) (later _ _ _ _ none2 y) = one_refused more a b r s x y

  -- where no step has a reason, none is the first
  never_refused : (steps : List GraphStep) (a : ℕ) (r : Reason) → IsRefusedAt p m pool code steps a r → AllByRecursion (λ (step : GraphStep). HasFirstReason p m pool code step None) steps → ⊥
  never_refused steps a r (here step more _ _ x e) free = not_both step r free.0 x
  never_refused steps a r (later step more _ _ none x) free = never_refused more a r x free.1

  pub none_refused : (steps : List GraphStep) (a : ℕ) (r : Reason) → IsRefusedAt p m pool code steps a r → AreFree p m pool code steps → ⊥
  none_refused steps a r x free = never_refused steps a r x (recursion_from_All (λ (step : GraphStep). HasFirstReason p m pool code step None) steps free)

-- ---- entries

one_unknown : (p : Program) (pool : List PoolEntry) (handlers : List Handler) (steps : List GraphStep) (a b : ℕ) → IsFirstUnknown p pool handlers steps a → IsFirstUnknown p pool handlers steps b → a ≡ b
one_unknown p pool handlers steps a b x y = by (cases_lt a b) (cases_lt b a)
  where
    by : (a < b) ⊎ (b ≤ a) → (b < a) ⊎ (a ≤ b) → a ≡ b
    by (inl lt) other = absurd (y.first a lt x.used x.unknown)
    by (inr le) (inl lt) = absurd (x.first b lt y.used y.unknown)
    by (inr le) (inr ge) = omega (arith, le, ge)

-- ---- the method

module _ (p : Program) (file : ClassFile) (code : Code) (graph : Graph) (m : Method) (member : Member) (ordered : AreInOrder code.instructions) where
  one_first_refusal : (a b : ℕ) (r s : Reason) → IsFirstRefusal p file code graph m member a r → IsFirstRefusal p file code graph m member b s → (a ≡ b) × (r ≡ s)
  one_first_refusal a b r s (at_instruction i x e) (at_instruction j y f) =
      let same = one_refused p m file.pool code ordered graph.steps i j r s x y in
      let n = same.0 in
      (omega (arith, e, f, n), same.1)
  one_first_refusal a b r s (at_instruction i x e) (at_entry place body free y has f is) = absurd (none_refused p m file.pool code ordered graph.steps i r x free)
  one_first_refusal a b r s (at_entry place body free x has e is) (at_instruction j y f) = absurd (none_refused p m file.pool code ordered graph.steps j s y free)
  one_first_refusal a b r s (at_entry i c free x has e is) (at_entry j d free2 y has2 f is2) =
      let place = one_unknown p file.pool code.handlers graph.steps i j x y in
      let body = one_body file member c d has has2 in
      (e ∙ ap (λ (k : ℕ). entry_offset code.at c k) place ∙ ap (λ (z : CodeBody). entry_offset code.at z j) body ∙ sym f, is ∙ sym is2)

  never_both : (a : ℕ) (r : Reason) → IsFirstRefusal p file code graph m member a r → AreFree p m file.pool code graph.steps → AreKnown p file.pool code.handlers graph.steps → ⊥
  never_both a r (at_instruction i x e) free known = none_refused p m file.pool code ordered graph.steps i r x free
  never_both a r (at_entry i c free2 x has e is) free known = known i x.used x.unknown

abbrev refusal : List ℕ → ℕ → Reason → Refusal
refusal file offset reason = record { file = file; offset = offset; reason = reason }

pub refused_once : (p : Program) (number : ℕ) (code : Code) (graph : Graph) (a b : Refusal) → IsRefused p number code graph a → IsRefused p number code graph b → a ≡ b
refused_once p number code graph a b x y =
    let same = same_own p number code graph x.own y.own in
    let class : x.class ≡ y.class = same_Some x.class y.class (sym x.named ∙ ap (λ (m : Method). class_named p m.class) same.method ∙ y.named) in
    let file : a.file ≡ b.file = x.in_class_file ∙ ap (λ (c : Class). c.file) class ∙ sym y.in_class_file in
    let of_file = subst (λ (f : ClassFile). IsFirstRefusal p f code graph x.own.method x.own.member a.offset a.reason) same.file x.first in
    let of_method = subst (λ (m : Method). IsFirstRefusal p y.own.file code graph m x.own.member a.offset a.reason) same.method of_file in
    let of_member = subst (λ (m : Member). IsFirstRefusal p y.own.file code graph y.own.method m a.offset a.reason) same.member of_method in
    let first = one_first_refusal p y.own.file code graph y.own.method y.own.member (own_order p number code graph y.own) a.offset b.offset a.reason b.reason of_member y.first in
    λ i. record { file = file i; offset = first.0 i; reason = first.1 i }

pub refused_alone : (p : Program) (number : ℕ) (code : Code) (graph : Graph) (r : Refusal) (l : LoweredMethod) → IsRefused p number code graph r → IsAccepted p number code graph l → ⊥
refused_alone p number code graph r l x y =
    let same = same_own p number code graph x.own y.own in
    let of_file = subst (λ (f : ClassFile). IsFirstRefusal p f code graph x.own.method x.own.member r.offset r.reason) same.file x.first in
    let of_method = subst (λ (m : Method). IsFirstRefusal p y.own.file code graph m x.own.member r.offset r.reason) same.method of_file in
    never_both p y.own.file code graph y.own.method x.own.member (own_order p number code graph y.own) r.offset r.reason of_method y.free y.known
