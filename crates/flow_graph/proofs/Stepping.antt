-- The steps of a flow graph, and the instructions and marks that they are made of.
use Rattle.std.proofs.Common.{◌≡◌, ℕ, zero, suc, ◌+◌, ◌<◌, List, [], ◌∷◌, ◌++◌, Contains, Option, Some, None, refl, sym, ap, ◌∙◌, subst, arith}
use Rattle.std.specs.List.{slice_get, AllByRecursion}
use Rattle.jvm_model.specs.declared.code.Code.{Code}
use Rattle.jvm_model.specs.declared.code.PlacedInstruction.{PlacedInstruction}
use Rattle.flow_graph.specs.declared.mark.Mark.{Mark}
use Rattle.flow_graph.specs.declared.steps.GraphStep.{GraphStep}
use Rattle.flow_graph.specs.Flows.{successors, covering}
use Rattle.flow_graph.specs.Graphs.{step_at, steps_from}

-- the step of an instruction that was reached at a height
abbrev pub step_of : Code → ℕ → PlacedInstruction → ℕ → GraphStep
step_of code k p height = record { offset = p.offset; height = height; successors = successors code.instructions k p; handlers = covering code.handlers p.offset }

-- its number, with its instruction and its mark
pub record Stepped (code : Code) (instructions : List PlacedInstruction) (marks : List Mark) (from : ℕ) (s : GraphStep) : Type 0 where
  pub k : ℕ
  pub placed : PlacedInstruction
  pub stands : slice_get instructions k ≡ Some placed
  pub mark : Mark
  pub known : slice_get marks k ≡ Some mark
  pub height : ℕ
  pub at : mark.height ≡ Some height
  pub is : s ≡ step_of code (from + k) placed height

later_step : (code : Code) (instructions : List PlacedInstruction) (marks : List Mark) (from : ℕ) (p : PlacedInstruction) (m : Mark) (s : GraphStep) → Stepped code instructions marks (from + 1) s → Stepped code (p ∷ instructions) (m ∷ marks) from s
later_step code instructions marks from p m s h = record {
  k = suc h.k;
  placed = h.placed;
  stands = h.stands;
  mark = h.mark;
  known = h.known;
  height = h.height;
  at = h.at;
  is = h.is ∙ ap (λ (n : ℕ). step_of code n h.placed h.height) (omega arith);
}

all_later : (code : Code) (instructions : List PlacedInstruction) (marks : List Mark) (from : ℕ) (p : PlacedInstruction) (m : Mark) (steps : List GraphStep) → AllByRecursion (Stepped code instructions marks (from + 1)) steps
    → AllByRecursion (Stepped code (p ∷ instructions) (m ∷ marks) from) steps
all_later code instructions marks from p m [] all = tt
all_later code instructions marks from p m (s ∷ steps) all = (later_step code instructions marks from p m s all.0, all_later code instructions marks from p m steps all.1)

-- each step is one of an instruction that was reached
pub all_stepped : (code : Code) (instructions : List PlacedInstruction) (marks : List Mark) (from : ℕ) → AllByRecursion (Stepped code instructions marks from) (steps_from code from instructions marks)
all_stepped code [] marks from = tt
all_stepped code (p ∷ instructions) [] from = tt
all_stepped code (p ∷ instructions) (m ∷ marks) from =
    with_first m.height refl (all_later code instructions marks from p m (steps_from code (from + 1) instructions marks) (all_stepped code instructions marks (from + 1)))
  where
    with_first : (o : Option ℕ) → m.height ≡ o → AllByRecursion (Stepped code (p ∷ instructions) (m ∷ marks) from) (steps_from code (from + 1) instructions marks)
        → AllByRecursion (Stepped code (p ∷ instructions) (m ∷ marks) from) (step_at code from p o ++ steps_from code (from + 1) instructions marks)
    with_first None at rest = rest
    with_first (Some height) at rest = (
      record { k = 0; placed = p; stands = refl; mark = m; known = refl; height = height; at = at; is = ap (λ (n : ℕ). step_of code n p height) (omega arith) },
      rest,
    )

in_later : (xs ys : List GraphStep) (s : GraphStep) → Contains ys s → Contains (xs ++ ys) s
in_later [] ys s h = h
in_later (x ∷ xs) ys s h =
    let r = in_later xs ys s h in
    (suc r.0, omega (arith, r.1), r.2)

-- each instruction that was reached has a step
pub has_step : (code : Code) (instructions : List PlacedInstruction) (marks : List Mark) (from k : ℕ) (p : PlacedInstruction) (m : Mark) (height : ℕ) → slice_get instructions k ≡ Some p → slice_get marks k ≡ Some m
    → m.height ≡ Some height → Contains (steps_from code from instructions marks) (step_of code (from + k) p height)
has_step code [] marks from k p m height stands known at = absurd cc
has_step code (q ∷ instructions) [] from k p m height stands known at = absurd cc
has_step code (q ∷ instructions) (x ∷ marks) from zero p m height stands known at =
    let same : q ≡ p = cc stands in
    let same_mark : x ≡ m = cc known in
    let height_is : x.height ≡ Some height = ap (λ (y : Mark). y.height) same_mark ∙ at in
    let front : Contains (step_at code from q (Some height) ++ steps_from code (from + 1) instructions marks) (step_of code from q height) = (0, omega arith, refl) in
    let here : Contains (steps_from code from (q ∷ instructions) (x ∷ marks)) (step_of code from q height) =
    subst (λ (o : Option ℕ). Contains (step_at code from q o ++ steps_from code (from + 1) instructions marks) (step_of code from q height)) (sym height_is) front in
    let there : Contains (steps_from code from (q ∷ instructions) (x ∷ marks)) (step_of code from p height) =
    subst (λ (y : PlacedInstruction). Contains (steps_from code from (q ∷ instructions) (x ∷ marks)) (step_of code from y height)) same here in
    subst (λ (n : ℕ). Contains (steps_from code from (q ∷ instructions) (x ∷ marks)) (step_of code n p height)) (omega arith) there
has_step code (q ∷ instructions) (x ∷ marks) from (suc k) p m height stands known at =
    let rest = has_step code instructions marks (from + 1) k p m height stands known at in
    let all = in_later (step_at code from q x.height) (steps_from code (from + 1) instructions marks) (step_of code (from + 1 + k) p height) rest in
    subst (λ (n : ℕ). Contains (steps_from code from (q ∷ instructions) (x ∷ marks)) (step_of code n p height)) (omega arith) all

-- ---- their order

abbrev Later : ℕ → List GraphStep → Type 0
Later offset steps = AllByRecursion (λ (s : GraphStep). offset < s.offset) steps

abbrev pub Ascend : List PlacedInstruction → Type 0
Ascend [] = Unit {0}
Ascend (p ∷ instructions) = AllByRecursion (λ (q : PlacedInstruction). p.offset < q.offset) instructions × Ascend instructions

later_steps : (code : Code) (offset : ℕ) (instructions : List PlacedInstruction) (marks : List Mark) (from : ℕ) → AllByRecursion (λ (q : PlacedInstruction). offset < q.offset) instructions → Later offset (steps_from code from instructions marks)
later_steps code offset [] marks from all = tt
later_steps code offset (p ∷ instructions) [] from all = tt
later_steps code offset (p ∷ instructions) (m ∷ marks) from all = by m.height (later_steps code offset instructions marks (from + 1) all.1)
  where
    by : (o : Option ℕ) → Later offset (steps_from code (from + 1) instructions marks) → Later offset (step_at code from p o ++ steps_from code (from + 1) instructions marks)
    by None rest = rest
    by (Some h) rest = (all.0, rest)

later_at : (offset : ℕ) (steps : List GraphStep) (j : ℕ) (t : GraphStep) → Later offset steps → slice_get steps j ≡ Some t → offset < t.offset
later_at offset [] j t all is = absurd cc
later_at offset (s ∷ steps) zero t all is =
    let same : s ≡ t = cc is in
    subst (λ (y : GraphStep). offset < y.offset) same all.0
later_at offset (s ∷ steps) (suc j) t all is = later_at offset steps j t all.1 is

abbrev pub InOrder : List GraphStep → Type 0
InOrder steps = (i j : ℕ) (s t : GraphStep) → i < j → slice_get steps i ≡ Some s → slice_get steps j ≡ Some t → s.offset < t.offset

in_order_more : (x : GraphStep) (steps : List GraphStep) → Later x.offset steps → InOrder steps → InOrder (x ∷ steps)
in_order_more x steps later rest i zero s t lt is is2 = absurd (omega (arith, lt))
in_order_more x steps later rest zero (suc j) s t lt is is2 =
    let same : x ≡ s = cc is in
    subst (λ (y : GraphStep). y.offset < t.offset) same (later_at x.offset steps j t later is2)
in_order_more x steps later rest (suc i) (suc j) s t lt is is2 = rest i j s t (omega (arith, lt)) is is2

none_in_order : InOrder []
none_in_order i j s t lt is is2 = absurd cc

pub in_order : (code : Code) (instructions : List PlacedInstruction) (marks : List Mark) (from : ℕ) → Ascend instructions → InOrder (steps_from code from instructions marks)
in_order code [] marks from all = none_in_order
in_order code (p ∷ instructions) [] from all = none_in_order
in_order code (p ∷ instructions) (m ∷ marks) from all =
    by m.height (later_steps code p.offset instructions marks (from + 1) all.0) (in_order code instructions marks (from + 1) all.1)
  where
    by : (o : Option ℕ) → Later p.offset (steps_from code (from + 1) instructions marks) → InOrder (steps_from code (from + 1) instructions marks) → InOrder (step_at code from p o ++ steps_from code (from + 1) instructions marks)
    by None later rest = rest
    by (Some h) later rest = in_order_more (step_of code from p h) (steps_from code (from + 1) instructions marks) later rest
