-- The whole graph that the walk gives is one of the code.
use Rattle.std.proofs.Common.{◌≡◌, ◌⊎◌, inl, inr, ℕ, zero, suc, ◌+◌, ◌<◌, ◌≤◌, true, List, [], ◌∷◌, length, replicate, Some, None, Result, Ok, Err, IfOk, refl, sym, ap, ◌∙◌, subst, arith}
use Rattle.std.specs.List.{slice_get, AllByRecursion}
use Rattle.std.proofs.lemmas.Bool.{false≢true}
use Rattle.std.proofs.lemmas.List.Elements.{All-from_recursion}
use Rattle.std.proofs.lemmas.Option.{same_Some, slice_get-get_or}
use Rattle.jvm_model.specs.declared.class_file.ClassFile.{ClassFile}
use Rattle.jvm_model.specs.declared.code.Code.{Code}
use Rattle.jvm_model.specs.declared.code.PlacedInstruction.{PlacedInstruction}
use Rattle.failure.specs.declared.Failure.{Failure}
use Rattle.jvm_model.specs.declared.reason.Fault.{Fault}
use Rattle.flow_graph.specs.declared.effect.Effect.{Effect}
use Rattle.flow_graph.specs.declared.mark.Mark.{Mark}
use Rattle.flow_graph.specs.declared.steps.Graph.{Graph}
use Rattle.flow_graph.specs.declared.steps.GraphStep.{GraphStep}
use Rattle.flow_graph.specs.Graphing.{IsCodeOf, HasStep, IsStep, IsReached, at_first, IsFlow}
use Rattle.flow_graph.specs.Graphs.{steps_of, IsGraph, TellsGraph}
use Rattle.flow_graph.specs.Walks.{unreached, reached, at_number, Walk, at_start}
use Rattle.flow_graph.proofs.FlowOf.{step_is}
use Rattle.flow_graph.proofs.FlowReached.{IsGood, AreGood, walk_good}
use Rattle.flow_graph.proofs.Flowing.{Clean, all_clean, HeightAt}
use Rattle.flow_graph.proofs.ReadPlaces.{IsInPlace, in_place}
use Rattle.flow_graph.proofs.Stepping.{step_of, Stepped, all_stepped, has_step, InOrder, in_order}
use Rattle.flow_graph.proofs.WalkedFlows.{walk_grows, walk_long, walk_done, FlowsAt, walk_flows, reached_walked}

-- ---- the start

abbrev first_mark : Mark
first_mark = reached 0 unreached

abbrev start_of : ℕ → List Mark
start_of n = at_number (reached 0) (replicate n unreached) 0

long_replicated : (n : ℕ) → length (replicate n unreached) ≡ n
long_replicated zero = refl
long_replicated (suc n) = ap suc (long_replicated n)

start_long : (n : ℕ) → length (start_of n) ≡ n
start_long zero = refl
start_long (suc n) = ap suc (long_replicated n)

replicated : (n k : ℕ) (x : Mark) → slice_get (replicate n unreached) k ≡ Some x → x ≡ unreached
replicated zero k x is = absurd cc
replicated (suc n) zero x is = sym (same_Some unreached x is)
replicated (suc n) (suc k) x is = replicated n k x is

start_at : (n k : ℕ) (x : Mark) → slice_get (start_of n) k ≡ Some x → ((k ≡ 0) × (x ≡ first_mark)) ⊎ (x ≡ unreached)
start_at zero k x is = absurd cc
start_at (suc n) zero x is = inl (refl, sym (same_Some first_mark x is))
start_at (suc n) (suc k) x is = inr (replicated n k x is)

start_first : (n : ℕ) (P : Type 0) → 0 < n → slice_get (start_of n) 0 ≡ Some first_mark
start_first zero P lt = absurd (omega (arith, lt))
start_first (suc n) P lt = refl

not_walked : (n k : ℕ) (x : Mark) → slice_get (start_of n) k ≡ Some x → x.walked ≡ true → ⊥
not_walked n k x is e = by (start_at n k x is)
  where
    by : ((k ≡ 0) × (x ≡ first_mark)) ⊎ (x ≡ unreached) → ⊥
    by (inl h) = false≢true (ap (λ (y : Mark). y.walked) (sym h.1) ∙ e)
    by (inr h) = false≢true (ap (λ (y : Mark). y.walked) (sym h) ∙ e)

below_of : (instructions : List PlacedInstruction) (p : PlacedInstruction) → slice_get instructions 0 ≡ Some p → 0 < length instructions
below_of [] p is = absurd cc
below_of (q ∷ instructions) p is = omega arith

-- ---- the whole

module _ (c : ClassFile) (code : Code) (effects : List Effect) (end : List Mark) (here : IsInPlace code) (walk : Walk code effects (at_start code) end) (clean : Clean end) where
  abbrev n : ℕ
  n = length code.instructions

  first_height : HeightAt end 0 0
  first_height =
      let g = walk_grows code effects (at_start code) end walk 0 first_mark (start_first n (Unit {0}) (below_of code.instructions here.first.placed here.first.stands)) in
      record { mark = g.mark; known = g.known; is = g.grown.height 0 refl }

  good_first : (k : ℕ) → k ≡ 0 → IsGood code end k
  good_first k zero_is = subst (IsGood code end) (sym zero_is) (record {
    reached_there = λ p stands. at_first p.offset (ap (λ (y : PlacedInstruction). y.offset) (same_Some p here.first.placed (sym stands ∙ here.first.stands)) ∙ here.first.offset_is);
    within = λ h mine.
        let marks_same : first_height.mark ≡ mine.mark = same_Some first_height.mark mine.mark (sym first_height.known ∙ mine.known) in
        let same : 0 ≡ h = same_Some 0 h (sym first_height.is ∙ ap (λ (y : Mark). y.height) marks_same ∙ mine.is) in
        omega (arith, same);
  })

  start_good : AreGood code end (at_start code)
  start_good k x h known at = by (start_at n k x known)
    where
      by : ((k ≡ 0) × (x ≡ first_mark)) ⊎ (x ≡ unreached) → IsGood code end k
      by (inl e) = good_first k e.0
      by (inr e) =
          let none : None ≡ Some h = ap (λ (y : Mark). y.height) (sym e) ∙ at in
          absurd cc

  all_good : AreGood code end end
  all_good = walk_good code effects (at_start code) end walk (start_long n) clean start_good

  flows : (k : ℕ) (x : Mark) (h : ℕ) → slice_get end k ≡ Some x → x.height ≡ Some h → FlowsAt code effects end k
  flows k x h known at =
      by (walk_flows code effects (at_start code) end walk (start_long n) clean k x known (reached_walked end (walk_done code effects (at_start code) end walk) k x h known at))
    where
      by : ((m : Mark) × (slice_get (at_start code) k ≡ Some m) × (m.walked ≡ true)) ⊎ FlowsAt code effects end k → FlowsAt code effects end k
      by (inl (m, is, e)) = absurd (not_walked n k m is e)
      by (inr f) = f

  first_step : HasStep (steps_of code end) 0 0
  first_step = record {
    step = step_of code (0 + 0) here.first.placed 0;
    there = has_step code code.instructions end 0 0 here.first.placed first_height.mark 0 here.first.stands first_height.known first_height.is;
    offset_is = here.first.offset_is;
    height_is = refl;
  }

  pub in_order_all : InOrder (steps_of code end)
  in_order_all = in_order code code.instructions end 0 here.ascends

  pub begins_first : (s : GraphStep) → slice_get (steps_of code end) 0 ≡ Some s → (s.offset ≡ 0) × (s.height ≡ 0)
  begins_first s is = by first_step.there.0 refl
    where
      there_is : slice_get (steps_of code end) first_step.there.0 ≡ Some first_step.step
      there_is = slice_get-get_or (steps_of code end) first_step.there.0 first_step.step first_step.there.1 ∙ ap (λ (y : GraphStep). Some y) first_step.there.2

      by : (k : ℕ) → first_step.there.0 ≡ k → (s.offset ≡ 0) × (s.height ≡ 0)
      by zero e =
          let same : first_step.step ≡ s = same_Some first_step.step s (sym there_is ∙ ap (slice_get (steps_of code end)) e ∙ is) in
          (ap (λ (y : GraphStep). y.offset) (sym same) ∙ first_step.offset_is, ap (λ (y : GraphStep). y.height) (sym same) ∙ first_step.height_is)
      by (suc k) e =
          let lt = in_order_all 0 first_step.there.0 s first_step.step (omega (arith, e)) is there_is in
          absurd (omega (arith, lt, first_step.offset_is))

  all_steps : (known : (s : GraphStep) → (h : Stepped code code.instructions end 0 s) → FlowsAt code effects end h.k → h.height ≤ code.max_stack → IsStep c code (steps_of code end) s) (steps : List GraphStep)
      → AllByRecursion (Stepped code code.instructions end 0) steps → AllByRecursion (IsStep c code (steps_of code end)) steps
  all_steps known [] all = tt
  all_steps known (s ∷ steps) all =
      let h = all.0 in
      (known s h (flows h.k h.mark h.height h.known h.at) ((all_good h.k h.mark h.height h.known h.at).within h.height (record { mark = h.mark; known = h.known; is = h.at })), all_steps known steps all.1)

  all_reached : (steps : List GraphStep) → AllByRecursion (Stepped code code.instructions end 0) steps → AllByRecursion (λ (s : GraphStep). IsReached code (steps_of code end) s.offset) steps
  all_reached [] all = tt
  all_reached (s ∷ steps) all =
      let h = all.0 in
      let there = (all_good h.k h.mark h.height h.known h.at).reached_there h.placed h.stands in
      (subst (IsReached code (steps_of code end)) (sym (ap (λ (y : GraphStep). y.offset) h.is)) there, all_reached steps all.1)

pub flow_of : (c : ClassFile) (code : Code) (g : Graph) → IsCodeOf c code → IsGraph c code g → IsFlow c code g
flow_of c code g is graph =
    let w = graph.is_walked in
    let end = graph.marks in
    let here = in_place c code is in
    let end_long : length end ≡ length code.instructions = walk_long code w.effects (at_start code) end w.walk ∙ start_long (length code.instructions) in
    let clean = all_clean code.instructions end end_long graph.faultless in
    let stepped = all_stepped code code.instructions end 0 in
    let known = λ (s : GraphStep) (h : Stepped code code.instructions end 0 s) (f : FlowsAt code w.effects end h.k) (room : h.height ≤ code.max_stack). step_is c code w.effects end s here w.known h f room in
    let flow : IsFlow c code (record { steps = steps_of code end }) = record {
      begins = begins_first c code w.effects end here w.walk clean;
      has_first = first_step c code w.effects end here w.walk clean;
      ascends = in_order_all c code w.effects end here w.walk clean;
      each = All-from_recursion (IsStep c code (steps_of code end)) (steps_of code end) (all_steps c code w.effects end here w.walk clean known (steps_of code end) stepped);
      each_reached = All-from_recursion (λ (s : GraphStep). IsReached code (steps_of code end) s.offset) (steps_of code end) (all_reached c code w.effects end here w.walk clean (steps_of code end) stepped);
    } in
    subst (λ (steps : List GraphStep). IsFlow c code (record { steps = steps })) (sym graph.steps_are) flow

-- what is told as a graph is one of the code
pub flow_told : (c : ClassFile) (code : Code) (r : Result Graph (Failure Fault)) → IsCodeOf c code → TellsGraph c code r → IfOk r (IsFlow c code)
flow_told c code (Ok g) is told = flow_of c code g is told
flow_told c code (Err e) is told = tt
