-- The whole walk, where nothing is noted at last: each instruction that was reached goes on.
use Rattle.std.proofs.Common.{◌≡◌, ◌⊎◌, inl, inr, ℕ, zero, suc, ◌+◌, ◌≤◌, Bool, true, false, cond, not, ◌&&◌, ◌||◌, ltb, List, [], ◌∷◌, length, set, Contains, Option, Some, None, refl, sym, ap, ◌∙◌, subst, arith}
use Rattle.std.specs.List.{slice_get, position, position_or_len}
use Rattle.std.specs.Option.{is_some}
use Rattle.std.proofs.lemmas.Bool.{ltb-false}
use Rattle.std.proofs.lemmas.List.{length-set}
use Rattle.std.proofs.lemmas.Option.{same_Some}
use Rattle.jvm_model.specs.declared.code.Code.{Code}
use Rattle.jvm_model.specs.declared.code.PlacedInstruction.{PlacedInstruction}
use Rattle.flow_graph.specs.declared.effect.Effect.{Effect}
use Rattle.flow_graph.specs.declared.mark.Mark.{Mark}
use Rattle.flow_graph.specs.Flows.{number_of, falls_off, successors, caught_at}
use Rattle.flow_graph.specs.Walks.{reached, caught, at_each, takes_too_much, goes_over, height_after, walked, reaches, is_waiting, Waits, after_walk, Walk, ends, goes_on}
use Rattle.flow_graph.proofs.Flowing.{Clean, HeightAt, Heights, step_grows, step_goes_on}
use Rattle.flow_graph.proofs.Growth.{Grows, grows_same, grows_more, each_before, set_before}
use Rattle.flow_graph.proofs.Walked.{reached-keeps, caught-keeps, at_each-kept}

-- ---- what a step leaves

module _ (code : Code) (effects : List Effect) (marks : List Mark) (w : Waits code effects marks) where
  abbrev pub next : List Mark
  next = after_walk code w.number w.placed w.effect w.mark w.height marks

  abbrev pub here : List Mark
  here = set marks w.number (walked code.max_stack w.effect w.height (falls_off code.instructions w.number w.placed) w.mark)

  abbrev pub offsets : List ℕ
  offsets = reaches code.max_stack w.effect w.height w.mark (successors code.instructions w.number w.placed)

  abbrev pub onward : List Mark
  onward = at_each (reached (height_after w.effect w.height)) code.instructions here offsets

  pub waits_grow : Grows marks next
  waits_grow = step_grows code w.number w.placed w.effect w.mark w.height marks w.known w.reached_at

  pub waits_long : length next ≡ length marks
  waits_long =
      (at_each-kept (caught code.max_stack) code.instructions onward (caught_at code.handlers w.placed.offset) (caught-keeps code.max_stack)).count
      ∙ (at_each-kept (reached (height_after w.effect w.height)) code.instructions here offsets (reached-keeps (height_after w.effect w.height))).count
      ∙ length-set marks w.number (walked code.max_stack w.effect w.height (falls_off code.instructions w.number w.placed) w.mark)

  -- the mark of a number before the step
  pub record BeforeStep (k : ℕ) (x : Mark) : Type 0 where
    pub mark : Mark
    pub known : slice_get marks k ≡ Some mark
    pub walked_by : (x.walked ≡ mark.walked) ⊎ (k ≡ w.number)
    pub reached_by : (x.height ≡ mark.height) ⊎ ((o : ℕ) × Contains offsets o × (number_of code.instructions o ≡ Some k))
        ⊎ ((o : ℕ) × Contains (caught_at code.handlers w.placed.offset) o × (number_of code.instructions o ≡ Some k))

  walked_height : (walked code.max_stack w.effect w.height (falls_off code.instructions w.number w.placed) w.mark).height ≡ w.mark.height
  walked_height = by (takes_too_much w.effect w.height) (goes_over code.max_stack w.effect w.height w.mark)
    where
      by : (a b : Bool) → (cond a (record w.mark { walked = true; under = true }) (cond b (record w.mark { walked = true; over = true })
          (record w.mark { walked = true; falls = w.mark.falls || falls_off code.instructions w.number w.placed }))).height ≡ w.mark.height
      by true b = refl
      by false true = refl
      by false false = refl

  pub before_step : (k : ℕ) (x : Mark) → slice_get next k ≡ Some x → BeforeStep k x
  before_step k x is =
      let c = each_before (caught code.max_stack) code.instructions onward (caught_at code.handlers w.placed.offset) k x (caught-keeps code.max_stack) is in
      let r = each_before (reached (height_after w.effect w.height)) code.instructions here offsets k c.mark (reached-keeps (height_after w.effect w.height)) c.known in
      let u = set_before marks w.number k (walked code.max_stack w.effect w.height (falls_off code.instructions w.number w.placed) w.mark) r.mark r.known in
      record {
        mark = u.mark;
        known = u.known;
        walked_by = walked_cases c.mark r.mark u.mark c.walked_same r.walked_same u.cause;
        reached_by = reached_cases c.mark r.mark u.mark c.cause r.cause u.known u.cause;
      }
    where
      walked_cases : (a b m : Mark) → x.walked ≡ a.walked → a.walked ≡ b.walked
          → (b ≡ m) ⊎ ((k ≡ w.number) × (b ≡ walked code.max_stack w.effect w.height (falls_off code.instructions w.number w.placed) w.mark)) → (x.walked ≡ m.walked) ⊎ (k ≡ w.number)
      walked_cases a b m p q (inl e) = inl (p ∙ q ∙ ap (λ (y : Mark). y.walked) e)
      walked_cases a b m p q (inr (e, f)) = inr e

      reached_cases : (a b m : Mark) → (x.height ≡ a.height) ⊎ ((o : ℕ) × Contains (caught_at code.handlers w.placed.offset) o × (number_of code.instructions o ≡ Some k))
          → (a.height ≡ b.height) ⊎ ((o : ℕ) × Contains offsets o × (number_of code.instructions o ≡ Some k)) → slice_get marks k ≡ Some m
          → (b ≡ m) ⊎ ((k ≡ w.number) × (b ≡ walked code.max_stack w.effect w.height (falls_off code.instructions w.number w.placed) w.mark))
          → (x.height ≡ m.height) ⊎ ((o : ℕ) × Contains offsets o × (number_of code.instructions o ≡ Some k))
          ⊎ ((o : ℕ) × Contains (caught_at code.handlers w.placed.offset) o × (number_of code.instructions o ≡ Some k))
      reached_cases a b m (inr by_handler) q known u = inr (inr by_handler)
      reached_cases a b m (inl p) (inr by_successor) known u = inr (inl by_successor)
      reached_cases a b m (inl p) (inl q) known (inl e) = inl (p ∙ q ∙ ap (λ (y : Mark). y.height) e)
      reached_cases a b m (inl p) (inl q) known (inr (e, f)) =
          let same : w.mark ≡ m = same_Some w.mark m (sym w.known ∙ ap (slice_get marks) (sym e) ∙ known) in
          inl (p ∙ q ∙ ap (λ (y : Mark). y.height) f ∙ walked_height ∙ ap (λ (y : Mark). y.height) same)

-- ---- the whole walk

pub walk_grows : (code : Code) (effects : List Effect) (marks end : List Mark) → Walk code effects marks end → Grows marks end
walk_grows code effects marks end (ends ms es none is) = subst (Grows marks) (sym is) (grows_same marks)
walk_grows code effects marks end (goes_on ms es w rest) =
    grows_more marks (next code effects marks w) end (waits_grow code effects marks w) (walk_grows code effects (next code effects marks w) end rest)

pub walk_long : (code : Code) (effects : List Effect) (marks end : List Mark) → Walk code effects marks end → length end ≡ length marks
walk_long code effects marks end (ends ms es none is) = ap (λ (m : List Mark). length m) is
walk_long code effects marks end (goes_on ms es w rest) = walk_long code effects (next code effects marks w) end rest ∙ waits_long code effects marks w

pub walk_done : (code : Code) (effects : List Effect) (marks end : List Mark) → Walk code effects marks end → position is_waiting end ≡ None
walk_done code effects marks end (ends ms es none is) = ap (position is_waiting) is ∙ none
walk_done code effects marks end (goes_on ms es w rest) = walk_done code effects (next code effects marks w) end rest

-- an instruction that was reached and walked, where nothing is noted
pub record FlowsAt (code : Code) (effects : List Effect) (end : List Mark) (k : ℕ) : Type 0 where
  pub placed : PlacedInstruction
  pub stands : slice_get code.instructions k ≡ Some placed
  pub effect : Effect
  pub has : slice_get effects k ≡ Some effect
  pub height : ℕ
  pub own : HeightAt end k height
  pub enough : takes_too_much effect height ≡ false
  pub room : ltb code.max_stack (height_after effect height) ≡ false
  pub stays : falls_off code.instructions k placed ≡ false
  pub onward_heights : Heights code.instructions end (height_after effect height) (successors code.instructions k placed)
  pub caught_heights : Heights code.instructions end 1 (caught_at code.handlers placed.offset)

or_right : (a b : Bool) → (a || b) ≡ false → b ≡ false
or_right true b e = absurd cc
or_right false b e = e

abbrev WalkedIn : List Mark → ℕ → Type 0
WalkedIn marks k = (m : Mark) × (slice_get marks k ≡ Some m) × (m.walked ≡ true)

pub walk_flows : (code : Code) (effects : List Effect) (marks end : List Mark) → Walk code effects marks end → length marks ≡ length code.instructions → Clean end
    → (k : ℕ) (x : Mark) → slice_get end k ≡ Some x → x.walked ≡ true → WalkedIn marks k ⊎ FlowsAt code effects end k
walk_flows code effects marks end (ends ms es none is) long clean k x known walked_at_last = inl (x, ap (λ (ms : List Mark). slice_get ms k) (sym is) ∙ known, walked_at_last)
walk_flows code effects marks end (goes_on ms es w rest) long clean k x known walked_at_last =
    cases (walk_flows code effects (next code effects marks w) end rest (waits_long code effects marks w ∙ long) clean k x known walked_at_last)
  where
    flows : FlowsAt code effects end w.number
    flows =
        let g = step_goes_on code w.number w.placed w.effect w.mark w.height marks w.known w.reached_at end long (walk_grows code effects (next code effects marks w) end rest) clean in
        record {
          placed = w.placed;
          stands = w.stands;
          effect = w.effect;
          has = w.has;
          height = w.height;
          own = g.own;
          enough = g.enough;
          room = or_right w.mark.over _ g.room;
          stays = g.stays;
          onward_heights = g.onward_heights;
          caught_heights = g.caught_heights;
        }

    at_step : (m : Mark) (b : BeforeStep code effects marks w k m) → m.walked ≡ true → (m.walked ≡ b.mark.walked) ⊎ (k ≡ w.number) → WalkedIn marks k ⊎ FlowsAt code effects end k
    at_step m b is (inl e) = inl (b.mark, b.known, sym e ∙ is)
    at_step m b is (inr e) = inr (subst (FlowsAt code effects end) (sym e) flows)

    cases : WalkedIn (next code effects marks w) k ⊎ FlowsAt code effects end k → WalkedIn marks k ⊎ FlowsAt code effects end k
    cases (inr f) = inr f
    cases (inl (m, at, is)) =
        let b = before_step code effects marks w k m at in
        at_step m b is b.walked_by

-- no instruction waits at last
head_waits_not : (b : Bool) (n l : ℕ) → suc l ≤ cond (not b) (1 + n) 0 → (b ≡ false) × (l ≤ n)
head_waits_not true n l le = absurd (omega (arith, le))
head_waits_not false n l le = (refl, omega (arith, le))

none_waits : (marks : List Mark) → length marks ≤ position_or_len is_waiting marks → (k : ℕ) (x : Mark) → slice_get marks k ≡ Some x → is_waiting x ≡ false
none_waits [] le k x is = absurd cc
none_waits (m ∷ marks) le zero x is =
    let same : m ≡ x = cc is in
    ap is_waiting (sym same) ∙ (head_waits_not (is_waiting m) (position_or_len is_waiting marks) (length marks) le).0
none_waits (m ∷ marks) le (suc k) x is = none_waits marks (head_waits_not (is_waiting m) (position_or_len is_waiting marks) (length marks) le).1 k x is

pub reached_walked : (marks : List Mark) → position is_waiting marks ≡ None → (k : ℕ) (x : Mark) (h : ℕ) → slice_get marks k ≡ Some x → x.height ≡ Some h → x.walked ≡ true
reached_walked marks none k x h is at =
    let le : length marks ≤ position_or_len is_waiting marks = by (ltb (position_or_len is_waiting marks) (length marks)) refl none in
    walked_of x.walked (ap (λ (o : Option ℕ). is_some o && not x.walked) (sym at) ∙ none_waits marks le k x is)
  where
    walked_of : (b : Bool) → (is_some (Some h) && not b) ≡ false → b ≡ true
    walked_of true e = refl
    walked_of false e = absurd cc

    by : (b : Bool) → ltb (position_or_len is_waiting marks) (length marks) ≡ b → cond b (Some (position_or_len is_waiting marks)) None ≡ None → length marks ≤ position_or_len is_waiting marks
    by true e f = absurd cc
    by false e f = ltb-false (position_or_len is_waiting marks) (length marks) e
