-- The walk over the code of a method ends, with its graph or its first fault.
use Rattle.std.proofs.Common.{◌≡◌, ◌⊎◌, inl, inr, ℕ, zero, suc, ◌+◌, ◌≤◌, List, length, get_or, set, replicate, IsSome, Option, Some, None, Result, Ok, Err, IfOk, refl, ◌∙◌, arith}
use Rattle.std.specs.List.{slice_get, position}
use Rattle.std.specs.Option.{option_map_or}
use Rattle.std.proofs.lemmas.List.{length-replicate, length-set}
use Rattle.std.proofs.lemmas.Option.{slice_get_within}
use Rattle.list_laws.proofs.Places.{stands_below}
use Rattle.std.proofs.lemmas.Slice.Zip.{AllZip-long}
use Rattle.failure.specs.declared.Failure.{Failure}
use Rattle.failure.specs.declared.Failure.TheVariants.{Cause}
use Rattle.jvm_model.specs.declared.class_file.ClassFile.{ClassFile}
use Rattle.jvm_model.specs.declared.code.Code.{Code}
use Rattle.jvm_model.specs.declared.code.PlacedInstruction.{PlacedInstruction}
use Rattle.jvm_model.specs.declared.reason.Fault.{Fault}
use Rattle.jvm_model.specs.declared.reason.Reason.{Reason}
use Rattle.jvm_model.specs.Soundness.{IsSoundClass}
use Rattle.flow_graph.specs.declared.effect.Effect.{Effect}
use Rattle.flow_graph.specs.declared.mark.Mark.{Mark}
use Rattle.flow_graph.specs.declared.steps.Graph.{Graph}
use Rattle.flow_graph.specs.Effects.{HasEffect}
use Rattle.flow_graph.specs.Graphing.{IsCodeOf, IsFlow}
use Rattle.flow_graph.specs.Graphs.{first_fault, steps_of, IsWalked, IsGraph, IsFault, TellsGraph, IsTold}
use Rattle.flow_graph.specs.Walks.{unreached, reached, is_waiting, Waits, after_walk, Walk, ends, goes_on, at_start}
use Rattle.flow_graph.proofs.Walked.{IsOneLess, unwalked, one_less, first_waits}
use Rattle.flow_graph.proofs.WholeFlow.{flow_told}
use Rattle.lowering_laws.proofs.EachEffect.{code_effects}

-- ---- the first instruction that waits

some_height : (o : Option ℕ) → IsSome o → (h : ℕ) × (o ≡ Some h)
some_height None is = absurd cc
some_height (Some h) is = (h, refl)

waits_first : (code : Code) (effects : List Effect) (marks : List Mark) (number : ℕ) → length effects ≡ length code.instructions → length marks ≡ length code.instructions → position is_waiting marks ≡ Some number
    → Waits code effects marks
waits_first code effects marks number es ms first =
    let w = first_waits marks number unreached first in
    let m = get_or marks number unreached in
    let lt = slice_get_within marks number m w.known in
    let p = stands_below code.instructions number (omega (arith, lt, ms)) in
    let e = stands_below effects number (omega (arith, lt, ms, es)) in
    let h = some_height m.height w.reached_at in
    record { number = number; first = first; placed = p.0; stands = p.1; effect = e.0; has = e.1; mark = m; known = w.known; height = h.0; reached_at = h.1 }

-- ---- the walk

abbrev SomeEnd : Code → List Effect → List Mark → Type 0
SomeEnd code effects marks = (end : List Mark) × Walk code effects marks end

-- the first instruction that waits is walked, if there is one, and then the walk goes on
one_step : (code : Code) (effects : List Effect) (marks : List Mark) → length effects ≡ length code.instructions → length marks ≡ length code.instructions
    → ((new : List Mark) → IsOneLess marks new → SomeEnd code effects new) → (o : Option ℕ) → position is_waiting marks ≡ o → SomeEnd code effects marks
one_step code effects marks es ms more None none = (marks, ends marks marks none refl)
one_step code effects marks es ms more (Some number) first =
    let w = waits_first code effects marks number es ms first in
    let new = after_walk code w.number w.placed w.effect w.mark w.height marks in
    let rest = more new (one_less code effects marks new (record { waits = w; after = refl })) in
    (rest.0, goes_on marks rest.0 w rest.1)

-- with no more instructions to walk than so many, it ends
walk_ends : (code : Code) (effects : List Effect) (most : ℕ) (marks : List Mark) → length effects ≡ length code.instructions → length marks ≡ length code.instructions → unwalked marks ≤ most → SomeEnd code effects marks
walk_ends code effects zero marks es ms few = one_step code effects marks es ms (λ new less. absurd (omega (arith, less.less, few))) (position is_waiting marks) refl
walk_ends code effects (suc most) marks es ms few =
    one_step code effects marks es ms (λ new less. walk_ends code effects most new es (less.count ∙ ms) (omega (arith, less.less, few))) (position is_waiting marks) refl

start_length : (code : Code) → length (at_start code) ≡ length code.instructions
start_length code = by (slice_get start 0) ∙ length-replicate (length code.instructions) unreached
  where
    start : List Mark
    start = replicate (length code.instructions) unreached

    by : (o : Option Mark) → length (option_map_or (λ (m : Mark). set start 0 (reached 0 m)) o start) ≡ length start
    by None = refl
    by (Some m) = length-set start 0 (reached 0 m)

pub some_walk : (c : ClassFile) (code : Code) → IsSoundClass c → IsCodeOf c code → (marks : List Mark) × IsWalked c code marks
some_walk c code sound is =
    let e = code_effects c code sound is in
    let count = AllZip-long (λ (p : PlacedInstruction) (f : Effect). HasEffect c.pool p.instruction f) code.instructions e.0 e.1 in
    let w = walk_ends code e.0 (unwalked (at_start code)) (at_start code) count (start_length code) (omega arith) in
    (w.0, record { effects = e.0; known = e.1; walk = w.1 })

-- ---- the answer

abbrev Answer : Type 0
Answer = Result Graph (Failure Fault)

-- the graph, or the first fault
pub graph_or_fault : (c : ClassFile) (code : Code) → IsSoundClass c → IsCodeOf c code → ((g : Graph) × IsGraph c code g) ⊎ ((offset : ℕ) × (reason : Reason) × IsFault c code offset reason)
graph_or_fault c code sound is =
    let w = some_walk c code sound is in
    by w.0 w.1 (first_fault code.instructions w.0) refl
  where
    by : (marks : List Mark) → IsWalked c code marks → (o : Option (ℕ × Reason)) → first_fault code.instructions marks ≡ o → ((g : Graph) × IsGraph c code g) ⊎ ((offset : ℕ) × (reason : Reason) × IsFault c code offset reason)
    by marks walked None none = inl (record { steps = steps_of code marks }, record { marks = marks; is_walked = walked; faultless = none; steps_are = refl })
    by marks walked (Some (within, reason)) some = inr (code.at + within, reason, record { marks = marks; is_walked = walked; within = within; first = some; offset_is = refl })

pub some_answer : (c : ClassFile) (code : Code) → IsSoundClass c → IsCodeOf c code → (answer : Answer) × TellsGraph c code answer × IsTold answer × IfOk answer (IsFlow c code)
some_answer c code sound is = by (graph_or_fault c code sound is)
  where
    told : (answer : Answer) → TellsGraph c code answer → IsTold answer → (answer : Answer) × TellsGraph c code answer × IsTold answer × IfOk answer (IsFlow c code)
    told answer tells is_told = (answer, tells, is_told, flow_told c code answer is tells)

    by : ((g : Graph) × IsGraph c code g) ⊎ ((offset : ℕ) × (reason : Reason) × IsFault c code offset reason) → (answer : Answer) × TellsGraph c code answer × IsTold answer × IfOk answer (IsFlow c code)
    by (inl g) = told (Ok g.0) g.1 tt
    by (inr f) = told (Err (Cause (record { offset = f.0; reason = f.1 }))) f.2 tt
