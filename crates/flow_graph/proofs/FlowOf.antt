-- A flow graph that the walk gives is one of the code.
use Rattle.std.proofs.Common.{◌≡◌, ℕ, zero, suc, ◌+◌, ◌≤◌, Bool, true, false, cond, eqb, List, [], ◌∷◌, ◌++◌, map, filter, Option, Some, None, refl, sym, ap, ◌∙◌, subst, arith}
use Rattle.std.specs.List.{slice_get, AllByRecursion, list_any}
use Rattle.std.specs.Option.{option_map, option_to_list}
use Rattle.std.proofs.lemmas.Bool.{ltb-false}
use Rattle.std.proofs.lemmas.Option.{same_Some}
use Rattle.jvm_model.specs.declared.class_file.ClassFile.{ClassFile}
use Rattle.jvm_model.specs.declared.code.Code.{Code}
use Rattle.jvm_model.specs.declared.code.Handler.{Handler}
use Rattle.jvm_model.specs.declared.code.PlacedInstruction.{PlacedInstruction}
use Rattle.jvm_model.specs.declared.pool.PoolEntry.{PoolEntry}
use Rattle.flow_graph.specs.declared.effect.Effect.{Effect}
use Rattle.flow_graph.specs.declared.mark.Mark.{Mark}
use Rattle.flow_graph.specs.declared.steps.GraphStep.{GraphStep}
use Rattle.flow_graph.specs.Effects.{HasEffect, HaveEffects}
use Rattle.flow_graph.specs.Flows.{number_of, goes_next, offset_after, each_once, successors, covers, caught_at}
use Rattle.flow_graph.specs.Graphing.{HasStep, IsStep}
use Rattle.flow_graph.specs.Graphs.{steps_of}
use Rattle.flow_graph.specs.Walks.{height_after}
use Rattle.flow_graph.proofs.Flowing.{HeightAt, Heights}
use Rattle.flow_graph.proofs.ReadPlaces.{HasNumber, number_there, numbered, own_number, IsInPlace, TargetsThere}
use Rattle.flow_graph.proofs.Stepping.{step_of, Stepped, has_step}
use Rattle.flow_graph.proofs.WalkedFlows.{FlowsAt}

-- ---- the offsets at which an instruction goes on

all_append : (P : ℕ → Type 0) (xs ys : List ℕ) → AllByRecursion P xs → AllByRecursion P ys → AllByRecursion P (xs ++ ys)
all_append P [] ys a b = b
all_append P (x ∷ xs) ys a b = (a.0, all_append P xs ys a.1 b)

-- what holds of each offset holds of each that is met once
once_all : (P : ℕ → Type 0) (met offsets : List ℕ) → AllByRecursion P met → AllByRecursion P offsets → AllByRecursion P (each_once met offsets)
once_all P met [] m o = m
once_all P met (x ∷ offsets) m o = once_all P (cond (list_any (λ (y : ℕ). eqb y x) met) met (met ++ x ∷ [])) offsets (by (list_any (λ (y : ℕ). eqb y x) met)) o.1
  where
    by : (b : Bool) → AllByRecursion P (cond b met (met ++ x ∷ []))
    by true = m
    by false = all_append P met (x ∷ []) m (o.0, tt)

targets_at : (all instructions : List PlacedInstruction) (k : ℕ) (p : PlacedInstruction) → TargetsThere all instructions → slice_get instructions k ≡ Some p → AllByRecursion (HasNumber all) p.instruction.targets
targets_at all [] k p t is = absurd cc
targets_at all (q ∷ instructions) zero p t is =
    let same : q ≡ p = cc is in
    subst (λ (y : PlacedInstruction). AllByRecursion (HasNumber all) y.instruction.targets) same t.0
targets_at all (q ∷ instructions) (suc k) p t is = targets_at all instructions k p t.1 is

-- each has a number
successors_there : (code : Code) (k : ℕ) (p : PlacedInstruction) → IsInPlace code → slice_get code.instructions k ≡ Some p → AllByRecursion (HasNumber code.instructions) (successors code.instructions k p)
successors_there code k p here stands =
    once_all (HasNumber code.instructions) [] _ tt (all_append (HasNumber code.instructions) (cond (goes_next p) (option_to_list (offset_after code.instructions k)) []) p.instruction.targets
    (next_there (goes_next p)) (targets_at code.instructions code.instructions k p here.targets stands))
  where
    of_next : (o : Option PlacedInstruction) → slice_get code.instructions (k + 1) ≡ o → AllByRecursion (HasNumber code.instructions) (option_to_list (option_map (λ (q : PlacedInstruction). q.offset) o))
    of_next None e = tt
    of_next (Some q) e = (number_there code.instructions q.offset (own_number code.instructions (k + 1) q e), tt)

    next_there : (b : Bool) → AllByRecursion (HasNumber code.instructions) (cond b (option_to_list (offset_after code.instructions k)) [])
    next_there true = of_next (slice_get code.instructions (k + 1)) refl
    next_there false = tt

caught_there : (code : Code) (handlers : List Handler) (offset : ℕ) → AllByRecursion (λ (h : Handler). HasNumber code.instructions h.target) handlers → AllByRecursion (HasNumber code.instructions) (caught_at handlers offset)
caught_there code [] offset all = tt
caught_there code (h ∷ handlers) offset all = by (covers offset h) (caught_there code handlers offset all.1)
  where
    by : (b : Bool) → AllByRecursion (HasNumber code.instructions) (caught_at handlers offset)
        → AllByRecursion (HasNumber code.instructions) (map (λ (y : Handler). y.target) (cond b (h ∷ filter (covers offset) handlers) (filter (covers offset) handlers)))
    by true rest = (all.0, rest)
    by false rest = rest

-- ---- steps at offsets

-- an instruction that was reached at a height has a step at it
pub step_at_number : (code : Code) (end : List Mark) (offset k height : ℕ) → number_of code.instructions offset ≡ Some k → HeightAt end k height → HasStep (steps_of code end) offset height
step_at_number code end offset k height is h =
    let p = numbered code.instructions offset k is in
    let there = has_step code code.instructions end 0 k p.placed h.mark height p.stands h.known h.is in
    record { step = step_of code (0 + k) p.placed height; there = there; offset_is = p.offset_is; height_is = refl }

steps_at : (code : Code) (end : List Mark) (offsets : List ℕ) (height : ℕ) → AllByRecursion (HasNumber code.instructions) offsets → Heights code.instructions end height offsets
    → AllByRecursion (λ (offset : ℕ). HasStep (steps_of code end) offset height) offsets
steps_at code end [] height numbers heights = tt
steps_at code end (o ∷ offsets) height numbers heights =
    (step_at_number code end o numbers.0.number height numbers.0.is (heights.0 numbers.0.number numbers.0.is), steps_at code end offsets height numbers.1 heights.1)

effect_at : (pool : List PoolEntry) (instructions : List PlacedInstruction) (effects : List Effect) (k : ℕ) (p : PlacedInstruction) (e : Effect) → HaveEffects pool instructions effects → slice_get instructions k ≡ Some p
    → slice_get effects k ≡ Some e → HasEffect pool p.instruction e
effect_at pool [] effects k p e all is has = absurd cc
effect_at pool (q ∷ instructions) [] k p e all is has = absurd cc
effect_at pool (q ∷ instructions) (f ∷ effects) zero p e all is has =
    let same : q ≡ p = cc is in
    let same_effect : f ≡ e = cc has in
    subst (λ (y : Effect). HasEffect pool p.instruction y) same_effect (subst (λ (y : PlacedInstruction). HasEffect pool y.instruction f) same all.0)
effect_at pool (q ∷ instructions) (f ∷ effects) (suc k) p e all is has = effect_at pool instructions effects k p e all.1 is has

-- a step whose instruction goes on is one of the code
pub step_is : (c : ClassFile) (code : Code) (effects : List Effect) (end : List Mark) (s : GraphStep) → IsInPlace code → HaveEffects c.pool code.instructions effects
    → (h : Stepped code code.instructions end 0 s) → FlowsAt code effects end h.k → h.height ≤ code.max_stack → IsStep c code (steps_of code end) s
step_is c code effects end s here known h f room =
    let same : f.placed ≡ h.placed = same_Some f.placed h.placed (sym f.stands ∙ h.stands) in
    let marks_same : f.own.mark ≡ h.mark = same_Some f.own.mark h.mark (sym f.own.known ∙ h.known) in
    let heights_same : f.height ≡ h.height = same_Some f.height h.height (sym f.own.is ∙ ap (λ (y : Mark). y.height) marks_same ∙ h.at) in
    let zero_more : 0 + h.k ≡ h.k = omega arith in
    let is : s ≡ step_of code h.k f.placed f.height = h.is ∙ ap (λ (n : ℕ). step_of code n h.placed h.height) zero_more ∙ ap (λ (p : PlacedInstruction). step_of code h.k p h.height) (sym same) ∙ ap (λ (n : ℕ). step_of code h.k f.placed n) (sym heights_same) in
    subst (IsStep c code (steps_of code end)) (sym is) (record {
      number = h.k;
      placed = f.placed;
      stands = f.stands;
      offset_is = refl;
      effect = f.effect;
      has = effect_at c.pool code.instructions effects h.k f.placed f.effect known f.stands f.has;
      enough = ltb-false f.height f.effect.pops f.enough;
      room = omega (arith, room, heights_same);
      room_after = ltb-false code.max_stack (height_after f.effect f.height) f.room;
      stays = f.stays;
      successors_are = refl;
      successors_there = steps_at code end (successors code.instructions h.k f.placed) (height_after f.effect f.height) (successors_there code h.k f.placed here f.stands) f.onward_heights;
      handlers_are = refl;
      handlers_there = steps_at code end (caught_at code.handlers f.placed.offset) 1 (caught_there code code.handlers f.placed.offset here.handlers) f.caught_heights;
    })
