-- One more turn of the loops over offsets, instructions and marks.
use Rattle.std.proofs.Common.{◌≡◌, ℕ, ◌+◌, ◌<◌, Bool, true, false, cond, eqb, List, [], ◌∷◌, ◌++◌, length, drop, get_or, Option, Some, None, sym, ap, ◌∙◌, append_assoc, arith}
use Rattle.std.specs.List.{list_any}
use Rattle.std.proofs.lemmas.List.{at_drop_more}
use Rattle.jvm_model.specs.declared.code.Code.{Code}
use Rattle.jvm_model.specs.declared.code.PlacedInstruction.{PlacedInstruction}
use Rattle.jvm_model.specs.declared.reason.Reason.{Reason}
use Rattle.flow_graph.specs.declared.mark.Mark.{Mark}
use Rattle.flow_graph.specs.declared.steps.GraphStep.{GraphStep}
use Rattle.flow_graph.specs.Flows.{each_once}
use Rattle.flow_graph.specs.Walks.{at_offset, at_each}
use Rattle.flow_graph.specs.Graphs.{reason_at, fault_or, first_fault, step_at, steps_from}

abbrev is_among : List ℕ → ℕ → Bool
is_among met x = list_any (λ (m : ℕ). eqb m x) met

-- an offset that was met is left out
pub once_left : (met offsets : List ℕ) (i x : ℕ) → i < length offsets → x ≡ get_or offsets i 0 → list_any (λ (m : ℕ). eqb m x) met ≡ true
    → each_once met (drop (i + 1) offsets) ≡ each_once met (drop i offsets)
once_left met offsets i x lt is found =
    sym (at_drop_more (each_once met) offsets i 0 lt
    ∙ ap (λ (y : ℕ). each_once (cond (is_among met y) met (met ++ y ∷ [])) (drop (i + 1) offsets)) (sym is)
    ∙ ap (λ (b : Bool). each_once (cond b met (met ++ x ∷ [])) (drop (i + 1) offsets)) found)

-- and another one is added
pub once_added : (met offsets : List ℕ) (i x : ℕ) → i < length offsets → x ≡ get_or offsets i 0 → list_any (λ (m : ℕ). eqb m x) met ≡ false
    → each_once (met ++ x ∷ []) (drop (i + 1) offsets) ≡ each_once met (drop i offsets)
once_added met offsets i x lt is found =
    sym (at_drop_more (each_once met) offsets i 0 lt
    ∙ ap (λ (y : ℕ). each_once (cond (is_among met y) met (met ++ y ∷ [])) (drop (i + 1) offsets)) (sym is)
    ∙ ap (λ (b : Bool). each_once (cond b met (met ++ x ∷ [])) (drop (i + 1) offsets)) found)

-- one more offset
pub each_more : (change : Mark → Mark) (instructions : List PlacedInstruction) (marks : List Mark) (offsets : List ℕ) (i : ℕ) → i < length offsets
    → at_each change instructions (at_offset change instructions marks (get_or offsets i 0)) (drop (i + 1) offsets) ≡ at_each change instructions marks (drop i offsets)
each_more change instructions marks offsets i lt = sym (at_drop_more (at_each change instructions marks) offsets i 0 lt)

-- one more instruction with which nothing is wrong
pub fault_more : (instructions : List PlacedInstruction) (marks : List Mark) (i : ℕ) (d : Mark) → i < length instructions → i < length marks → reason_at (get_or marks i d) ≡ None
    → first_fault (drop i instructions) (drop i marks) ≡ first_fault (drop (i + 1) instructions) (drop (i + 1) marks)
fault_more [] marks i d lt lt2 none = absurd (omega (arith, lt))
fault_more (p ∷ instructions) marks i d lt lt2 none =
    at_drop_more (λ (ms : List Mark). first_fault (drop i (p ∷ instructions)) ms) marks i d lt2
    ∙ at_drop_more (λ (ps : List PlacedInstruction). first_fault ps (get_or marks i d ∷ drop (i + 1) marks)) (p ∷ instructions) i p lt
    ∙ ap (λ (r : Option Reason). fault_or (get_or (p ∷ instructions) i p).offset r (first_fault (drop (i + 1) (p ∷ instructions)) (drop (i + 1) marks))) none

-- one more instruction
from_more : (code : Code) (instructions : List PlacedInstruction) (marks : List Mark) (i : ℕ) (p : PlacedInstruction) (d : Mark) → i < length instructions → i < length marks
    → steps_from code i (drop i instructions) (drop i marks)
    ≡ step_at code i (get_or instructions i p) (get_or marks i d).height ++ steps_from code (i + 1) (drop (i + 1) instructions) (drop (i + 1) marks)
from_more code instructions marks i p d lt lt2 =
    at_drop_more (λ (ms : List Mark). steps_from code i (drop i instructions) ms) marks i d lt2
    ∙ at_drop_more (λ (ps : List PlacedInstruction). steps_from code i ps (get_or marks i d ∷ drop (i + 1) marks)) instructions i p lt

-- it was reached, and its step is added
pub step_added : (code : Code) (instructions : List PlacedInstruction) (marks : List Mark) (steps added : List GraphStep) (i : ℕ) (p : PlacedInstruction) (d : Mark) (height : ℕ) (s : GraphStep)
    → i < length instructions → i < length marks → p ≡ get_or instructions i p → (get_or marks i d).height ≡ Some height → step_at code i p (Some height) ≡ s ∷ [] → added ≡ steps ++ s ∷ []
    → added ++ steps_from code (i + 1) (drop (i + 1) instructions) (drop (i + 1) marks) ≡ steps ++ steps_from code i (drop i instructions) (drop i marks)
step_added code instructions marks steps added i p d height s lt lt2 is at step is_added =
    let rest = steps_from code (i + 1) (drop (i + 1) instructions) (drop (i + 1) marks) in
    ap (λ (all : List GraphStep). all ++ rest) is_added ∙ append_assoc steps (s ∷ []) rest
    ∙ ap (λ (all : List GraphStep). steps ++ all) (sym (
    from_more code instructions marks i p d lt lt2
    ∙ ap (λ (q : PlacedInstruction). step_at code i q (get_or marks i d).height ++ rest) (sym is)
    ∙ ap (λ (o : Option ℕ). step_at code i p o ++ rest) at
    ∙ ap (λ (front : List GraphStep). front ++ rest) step
    ))

-- it was not reached
pub step_left : (code : Code) (instructions : List PlacedInstruction) (marks : List Mark) (i : ℕ) (d : Mark) → i < length instructions → i < length marks → (get_or marks i d).height ≡ None
    → steps_from code (i + 1) (drop (i + 1) instructions) (drop (i + 1) marks) ≡ steps_from code i (drop i instructions) (drop i marks)
step_left code [] marks i d lt lt2 at = absurd (omega (arith, lt))
step_left code (p ∷ instructions) marks i d lt lt2 at =
    let rest = steps_from code (i + 1) (drop (i + 1) (p ∷ instructions)) (drop (i + 1) marks) in
    sym (from_more code (p ∷ instructions) marks i p d lt lt2 ∙ ap (λ (o : Option ℕ). step_at code i (get_or (p ∷ instructions) i p) o ++ rest) at)
