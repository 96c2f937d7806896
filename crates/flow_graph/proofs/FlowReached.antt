-- Each step of a flow graph is reached, and its height is within the limit; the whole graph is one of the code.
use Rattle.std.proofs.Common.{◌≡◌, ◌⊎◌, inl, inr, ℕ, zero, suc, ◌+◌, ◌≤◌, Bool, true, false, cond, ◌||◌, List, [], ◌∷◌, length, Contains, Some, sym, ap, ◌∙◌, subst, arith}
use Rattle.std.specs.List.{slice_get, AllByRecursion}
use Rattle.std.proofs.lemmas.Bool.{ltb-false}
use Rattle.std.proofs.lemmas.Option.{same_Some}
use Rattle.jvm_model.specs.declared.code.Code.{Code}
use Rattle.jvm_model.specs.declared.code.PlacedInstruction.{PlacedInstruction}
use Rattle.flow_graph.specs.declared.effect.Effect.{Effect}
use Rattle.flow_graph.specs.declared.mark.Mark.{Mark}
use Rattle.flow_graph.specs.declared.steps.GraphStep.{GraphStep}
use Rattle.flow_graph.specs.Flows.{number_of, successors, caught_at}
use Rattle.flow_graph.specs.Graphing.{IsReached, from_step, from_handler}
use Rattle.flow_graph.specs.Graphs.{steps_of}
use Rattle.flow_graph.specs.Walks.{height_after, takes_too_much, goes_over, reaches, Walk, ends, goes_on}
use Rattle.flow_graph.proofs.Flowing.{Clean, HeightAt, GoesOn, step_goes_on}
use Rattle.flow_graph.proofs.ReadPlaces.{numbered}
use Rattle.flow_graph.proofs.Stepping.{step_of, has_step}
use Rattle.flow_graph.proofs.WalkedFlows.{next, waits_long, BeforeStep, before_step, walk_grows}

all_in : (P : ℕ → Type 0) (xs : List ℕ) (o : ℕ) → AllByRecursion P xs → Contains xs o → P o
all_in P [] o all (k, lt, is) = absurd (omega (arith, lt))
all_in P (x ∷ xs) o all (zero, lt, is) = subst P is all.0
all_in P (x ∷ xs) o all (suc k, lt, is) = all_in P xs o all.1 (k, omega (arith, lt), is)

or_right : (a b : Bool) → (a || b) ≡ false → b ≡ false
or_right true b e = absurd cc
or_right false b e = e

among : (b : Bool) (offsets : List ℕ) (o : ℕ) → Contains (cond b [] offsets) o → Contains offsets o
among true offsets o (k, lt, is) = absurd (omega (arith, lt))
among false offsets o h = h

-- the instruction of a number is reached in the graph, within the limit
pub record IsGood (code : Code) (end : List Mark) (k : ℕ) : Type 0 where
  pub reached_there : (p : PlacedInstruction) → slice_get code.instructions k ≡ Some p → IsReached code (steps_of code end) p.offset
  pub within : (h : ℕ) → HeightAt end k h → h ≤ code.max_stack

abbrev pub AreGood : Code → List Mark → List Mark → Type 0
AreGood code end marks = (k : ℕ) (x : Mark) (h : ℕ) → slice_get marks k ≡ Some x → x.height ≡ Some h → IsGood code end k

one_height : (end : List Mark) (k g h : ℕ) → HeightAt end k g → HeightAt end k h → g ≡ h
one_height end k g h a b =
    let same : a.mark ≡ b.mark = same_Some a.mark b.mark (sym a.known ∙ b.known) in
    same_Some g h (sym a.is ∙ ap (λ (y : Mark). y.height) same ∙ b.is)

one_offset : (code : Code) (o k : ℕ) (p : PlacedInstruction) → number_of code.instructions o ≡ Some k → slice_get code.instructions k ≡ Some p → p.offset ≡ o
one_offset code o k p is stands =
    let n = numbered code.instructions o k is in
    let same : n.placed ≡ p = same_Some n.placed p (sym n.stands ∙ stands) in
    sym (ap (λ (y : PlacedInstruction). y.offset) same) ∙ n.offset_is

pub walk_good : (code : Code) (effects : List Effect) (marks end : List Mark) → Walk code effects marks end → length marks ≡ length code.instructions → Clean end → AreGood code end marks → AreGood code end end
walk_good code effects marks end (ends ms es none is) long clean good = subst (AreGood code end) (sym is) good
walk_good code effects marks end (goes_on ms es w rest) long clean good =
    walk_good code effects (next code effects marks w) end rest (waits_long code effects marks w ∙ long) clean
    (λ k x h known at. by_cause k x h at (before_step code effects marks w k x known))
  where
    g : GoesOn code w.number w.placed w.effect w.mark w.height marks w.known w.reached_at end
    g = step_goes_on code w.number w.placed w.effect w.mark w.height marks w.known w.reached_at end long (walk_grows code effects (next code effects marks w) end rest) clean

    from : GraphStep
    from = step_of code (0 + w.number) w.placed w.height

    zero_more : 0 + w.number ≡ w.number
    zero_more = omega arith

    there : Contains (steps_of code end) (step_of code (0 + w.number) w.placed w.height)
    there = has_step code code.instructions end 0 w.number w.placed g.own.mark w.height w.stands g.own.known g.own.is

    there_reached : IsReached code (steps_of code end) w.placed.offset
    there_reached = (good w.number w.mark w.height w.known w.reached_at).reached_there w.placed w.stands

    by_successor : (k o : ℕ) → Contains (reaches code.max_stack w.effect w.height w.mark (successors code.instructions w.number w.placed)) o → number_of code.instructions o ≡ Some k → IsGood code end k
    by_successor k o inside is =
        let listed = among (takes_too_much w.effect w.height || goes_over code.max_stack w.effect w.height w.mark) (successors code.instructions w.number w.placed) o inside in
        let at = all_in (λ (y : ℕ). (j : ℕ) → number_of code.instructions y ≡ Some j → HeightAt end j (height_after w.effect w.height)) (successors code.instructions w.number w.placed) o g.onward_heights listed k is in
        let room = ltb-false code.max_stack (height_after w.effect w.height) (or_right w.mark.over _ g.room) in
        let listed_there : Contains (successors code.instructions (0 + w.number) w.placed) o = subst (λ (n : ℕ). Contains (successors code.instructions n w.placed) o) (sym zero_more) listed in
        record {
          reached_there = λ p stands. subst (IsReached code (steps_of code end)) (sym (one_offset code o k p is stands))
              (from_step o (step_of code (0 + w.number) w.placed w.height) there there_reached listed_there);
          within = λ h mine. let same = one_height end k h (height_after w.effect w.height) mine at in omega (arith, same, room);
        }

    by_handler : (k o : ℕ) → Contains (caught_at code.handlers w.placed.offset) o → number_of code.instructions o ≡ Some k → IsGood code end k
    by_handler k o listed is =
        let at = all_in (λ (y : ℕ). (j : ℕ) → number_of code.instructions y ≡ Some j → HeightAt end j 1) (caught_at code.handlers w.placed.offset) o g.caught_heights listed k is in
        let room = all_in (λ (y : ℕ). (j : ℕ) → number_of code.instructions y ≡ Some j → 1 ≤ code.max_stack) (caught_at code.handlers w.placed.offset) o g.caught_rooms listed k is in
        record {
          reached_there = λ p stands. subst (IsReached code (steps_of code end)) (sym (one_offset code o k p is stands))
              (from_handler o (step_of code (0 + w.number) w.placed w.height) there there_reached listed);
          within = λ h mine. let same = one_height end k h 1 mine at in omega (arith, same, room);
        }

    by_cause : (k : ℕ) (x : Mark) (h : ℕ) → x.height ≡ Some h → (b : BeforeStep code effects marks w k x) → IsGood code end k
    by_cause k x h at b = cases b.reached_by
      where
        cases : (x.height ≡ b.mark.height) ⊎ ((o : ℕ) × Contains (reaches code.max_stack w.effect w.height w.mark (successors code.instructions w.number w.placed)) o × (number_of code.instructions o ≡ Some k))
            ⊎ ((o : ℕ) × Contains (caught_at code.handlers w.placed.offset) o × (number_of code.instructions o ≡ Some k)) → IsGood code end k
        cases (inl e) = good k b.mark h b.known (sym e ∙ at)
        cases (inr (inl (o, inside, is))) = by_successor k o inside is
        cases (inr (inr (o, inside, is))) = by_handler k o inside is
