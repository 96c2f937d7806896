-- What the end of a walk says that notes nothing: each instruction that was reached was walked, goes on at instructions of
-- the height that it leaves, and is reached from another one.
use Rattle.std.proofs.Common.{◌≡◌, ℕ, zero, suc, ◌≤◌, Bool, true, false, cond, not, ◌||◌, eqb, List, [], ◌∷◌, length, set, Option, Some, None, refl, sym, ap, ◌∙◌, subst, arith}
use Rattle.std.specs.List.{slice_get, AllByRecursion}
use Rattle.std.proofs.lemmas.Bool.{eqb-true, false≢true}
use Rattle.jvm_model.specs.declared.code.Code.{Code}
use Rattle.jvm_model.specs.declared.code.PlacedInstruction.{PlacedInstruction}
use Rattle.jvm_model.specs.declared.reason.Reason.{Reason}
use Rattle.jvm_model.specs.declared.reason.Reason.TheVariants.{StackUnder, StackOver, StackMerge, FallsOff}
use Rattle.flow_graph.specs.declared.effect.Effect.{Effect}
use Rattle.flow_graph.specs.declared.mark.Mark.{Mark}
use Rattle.flow_graph.specs.Flows.{number_of, falls_off, successors, caught_at}
use Rattle.flow_graph.specs.Graphs.{reason_at, fault_or, first_fault}
use Rattle.flow_graph.specs.Walks.{reached_after, reached, caught, at_each, takes_too_much, goes_over, height_after, walked, reaches, after_walk}
use Rattle.flow_graph.proofs.Growth.{Grown, GrownAt, Grows, ChangedAt, Changed, grown_at_more, grows_more, set_grows, set_there, walked-grown, reached-grown, caught-grown, at_each-grows, changed_more, each_changed}
use Rattle.flow_graph.proofs.Walked.{reached-keeps, caught-keeps, at_each-kept}
use Rattle.std.proofs.lemmas.List.{length-set}

-- ---- nothing is noted

pub record IsClean (x : Mark) : Type 0 where
  pub under : x.under ≡ false
  pub over : x.over ≡ false
  pub merged : x.merged ≡ false
  pub falls : x.falls ≡ false

clean_of : (x : Mark) → reason_at x ≡ None → IsClean x
clean_of x e =
    let r = by x.under x.over x.merged x.falls e in
    record { under = r.0; over = r.1; merged = r.2; falls = r.3 }
  where
    by : (a b m f : Bool) → cond a (Some StackUnder) (cond b (Some StackOver) (cond m (Some StackMerge) (cond f (Some FallsOff) None))) ≡ None → (a ≡ false) × (b ≡ false) × (m ≡ false) × (f ≡ false)
    by true b m f h = absurd cc
    by false true m f h = absurd cc
    by false false true f h = absurd cc
    by false false false true h = absurd cc
    by false false false false h = (refl, refl, refl, refl)

abbrev pub Clean : List Mark → Type 0
Clean marks = (k : ℕ) (x : Mark) → slice_get marks k ≡ Some x → IsClean x

none_or : (offset : ℕ) (found : Option Reason) (others : Option (ℕ × Reason)) → fault_or offset found others ≡ None → (found ≡ None) × (others ≡ None)
none_or offset (Some r) others e = absurd cc
none_or offset None others e = (refl, e)

pub all_clean : (instructions : List PlacedInstruction) (marks : List Mark) → length marks ≡ length instructions → first_fault instructions marks ≡ None → Clean marks
all_clean instructions [] long e k x is = absurd cc
all_clean [] (m ∷ marks) long e k x is = absurd (omega (arith, long))
all_clean (p ∷ instructions) (m ∷ marks) long e zero x is =
    let same : m ≡ x = cc is in
    clean_of x (ap reason_at (sym same) ∙ (none_or p.offset (reason_at m) (first_fault instructions marks) e).0)
all_clean (p ∷ instructions) (m ∷ marks) long e (suc k) x is =
    all_clean instructions marks (omega (arith, long)) (none_or p.offset (reason_at m) (first_fault instructions marks) e).1 k x is

not_true : (b : Bool) → (b ≡ true → ⊥) → b ≡ false
not_true true h = absurd (h refl)
not_true false h = refl

-- what is false at last was never true
kept_false : (a b : Bool) → (a ≡ true → b ≡ true) → b ≡ false → a ≡ false
kept_false a b more e = not_true a (λ h. false≢true (sym e ∙ more h))

-- ---- heights

pub record HeightAt (marks : List Mark) (k height : ℕ) : Type 0 where
  pub mark : Mark
  pub known : slice_get marks k ≡ Some mark
  pub is : mark.height ≡ Some height

reached_height : (o : Option ℕ) (height : ℕ) (m x : Mark) → m.height ≡ o → Grown (reached_after o height m) x → x.merged ≡ false → x.height ≡ Some height
reached_height None height m x at g clean = g.height height refl
reached_height (Some first) height m x at g clean = by (eqb first height) refl
  where
    by : (b : Bool) → eqb first height ≡ b → x.height ≡ Some height
    by true e = g.height height (at ∙ ap (λ (n : ℕ). Some n) (eqb-true first height e))
    by false e =
        let noted : (m.merged || not (eqb first height)) ≡ true = ap (λ (b : Bool). m.merged || not b) e ∙ or_true m.merged in
        absurd (false≢true (sym clean ∙ g.merged noted))
      where
        or_true : (b : Bool) → (b || true) ≡ true
        or_true true = refl
        or_true false = refl

-- where it was reached it has that height
pub reached_at : (height : ℕ) (end : List Mark) (k : ℕ) → Clean end → ChangedAt (reached height) end k → HeightAt end k height
reached_at height end k clean c =
    record { mark = c.at.mark; known = c.at.known; is = reached_height c.before.height height c.before c.at.mark refl c.at.grown (clean k c.at.mark c.at.known).merged }

caught_reached : (limit : ℕ) (m x : Mark) → Grown (caught limit m) x → Grown (reached 1 m) x
caught_reached limit m x g = record { height = g.height; under = g.under; over = λ e. g.over (or_kept (reached 1 m).over e); merged = g.merged; falls = g.falls }
  where
    or_kept : (a : Bool) → a ≡ true → (a || eqb limit 0) ≡ true
    or_kept true e = refl
    or_kept false e = absurd cc

pub caught_height : (limit : ℕ) (end : List Mark) (k : ℕ) → Clean end → ChangedAt (caught limit) end k → HeightAt end k 1
caught_height limit end k clean c =
    reached_at 1 end k clean (record { before = c.before; at = record { mark = c.at.mark; known = c.at.known; grown = caught_reached limit c.before c.at.mark c.at.grown } })

pub caught_room : (limit : ℕ) (end : List Mark) (k : ℕ) → Clean end → ChangedAt (caught limit) end k → 1 ≤ limit
caught_room limit end k clean c = by limit (kept_false _ c.at.mark.over c.at.grown.over (clean k c.at.mark c.at.known).over)
  where
    or_last : (a : Bool) → (a || true) ≡ false → ⊥
    or_last true e = absurd cc
    or_last false e = absurd cc

    by : (n : ℕ) → ((reached 1 c.before).over || eqb n 0) ≡ false → 1 ≤ n
    by zero e = absurd (or_last (reached 1 c.before).over e)
    by (suc n) e = omega arith

abbrev pub Heights : List PlacedInstruction → List Mark → ℕ → List ℕ → Type 0
Heights instructions end height offsets = AllByRecursion (λ (o : ℕ). (k : ℕ) → number_of instructions o ≡ Some k → HeightAt end k height) offsets

heights_of : (change : Mark → Mark) (height : ℕ) (instructions : List PlacedInstruction) (end : List Mark) (offsets : List ℕ) → ((k : ℕ) → ChangedAt change end k → HeightAt end k height)
    → AllByRecursion (Changed change instructions end) offsets → Heights instructions end height offsets
heights_of change height instructions end [] at all = tt
heights_of change height instructions end (o ∷ offsets) at all = (λ k is. at k (all.0 k is), heights_of change height instructions end offsets at all.1)

rooms_of : (limit : ℕ) (instructions : List PlacedInstruction) (end : List Mark) (offsets : List ℕ) → Clean end → AllByRecursion (Changed (caught limit) instructions end) offsets
    → AllByRecursion (λ (o : ℕ). (k : ℕ) → number_of instructions o ≡ Some k → 1 ≤ limit) offsets
rooms_of limit instructions end [] clean all = tt
rooms_of limit instructions end (o ∷ offsets) clean all = (λ k is. caught_room limit end k clean (all.0 k is), rooms_of limit instructions end offsets clean all.1)

-- ---- one step of the walk

module _ (code : Code) (number : ℕ) (p : PlacedInstruction) (e : Effect) (m : Mark) (height : ℕ) (marks : List Mark) (known : slice_get marks number ≡ Some m) (at : m.height ≡ Some height) where
  abbrev falls : Bool
  falls = falls_off code.instructions number p

  abbrev new_mark : Mark
  new_mark = walked code.max_stack e height falls m

  abbrev here : List Mark
  here = set marks number new_mark

  abbrev offsets : List ℕ
  offsets = reaches code.max_stack e height m (successors code.instructions number p)

  abbrev onward : List Mark
  onward = at_each (reached (height_after e height)) code.instructions here offsets

  abbrev caught_offsets : List ℕ
  caught_offsets = caught_at code.handlers p.offset

  abbrev next : List Mark
  next = after_walk code number p e m height marks

  onward_grows : Grows here onward
  onward_grows = at_each-grows (reached (height_after e height)) code.instructions here offsets (reached-grown (height_after e height))

  next_grows : Grows onward next
  next_grows = at_each-grows (caught code.max_stack) code.instructions onward caught_offsets (caught-grown code.max_stack)

  pub step_grows : Grows marks next
  step_grows =
      grows_more marks here next (set_grows marks number m new_mark known (walked-grown code.max_stack e height falls m)) (grows_more here onward next onward_grows next_grows)

  -- its own mark
  own_mark : (end : List Mark) → Grows next end → GrownAt end number new_mark
  own_mark end more =
      let first = onward_grows number new_mark (set_there marks number m new_mark known) in
      let second = grown_at_more onward next number new_mark first next_grows in
      grown_at_more next end number new_mark second more

  -- where nothing is noted at last, it goes on
  pub record GoesOn (end : List Mark) : Type 0 where
    pub enough : takes_too_much e height ≡ false
    pub room : goes_over code.max_stack e height m ≡ false
    pub stays : falls ≡ false
    pub own : HeightAt end number height
    pub onward_heights : Heights code.instructions end (height_after e height) (successors code.instructions number p)
    pub caught_heights : Heights code.instructions end 1 caught_offsets
    pub caught_rooms : AllByRecursion (λ (o : ℕ). (k : ℕ) → number_of code.instructions o ≡ Some k → 1 ≤ code.max_stack) caught_offsets

  parts_of : (a b : Bool) (x : Mark) → Grown (cond a (record m { walked = true; under = true }) (cond b (record m { walked = true; over = true }) (record m { walked = true; falls = m.falls || falls }))) x → IsClean x
      → (a ≡ false) × (b ≡ false) × (falls ≡ false)
  parts_of true b x g clean = absurd (false≢true (sym clean.under ∙ g.under refl))
  parts_of false true x g clean = absurd (false≢true (sym clean.over ∙ g.over refl))
  parts_of false false x g clean = (refl, refl, not_true falls (λ h. false≢true (sym clean.falls ∙ g.falls (ap (λ (b : Bool). m.falls || b) h ∙ or_true m.falls))))
    where
      or_true : (b : Bool) → (b || true) ≡ true
      or_true true = refl
      or_true false = refl

  new_height : (a b : Bool) → (cond a (record m { walked = true; under = true }) (cond b (record m { walked = true; over = true }) (record m { walked = true; falls = m.falls || falls }))).height ≡ Some height
  new_height true b = at
  new_height false true = at
  new_height false false = at

  pub step_goes_on : (end : List Mark) → length marks ≡ length code.instructions → Grows next end → Clean end → GoesOn end
  step_goes_on end long more clean =
      let own = own_mark end more in
      let r = parts_of (takes_too_much e height) (goes_over code.max_stack e height m) own.mark own.grown (clean number own.mark own.known) in
      let all : offsets ≡ successors code.instructions number p =
      ap (λ (a : Bool). cond (a || goes_over code.max_stack e height m) [] (successors code.instructions number p)) r.0
      ∙ ap (λ (b : Bool). cond (false || b) [] (successors code.instructions number p)) r.1 in
      let here_long : length here ≡ length code.instructions = length-set marks number new_mark ∙ long in
      let onward_long = (at_each-kept (reached (height_after e height)) code.instructions here offsets (reached-keeps (height_after e height))).count in
      let ch = each_changed (reached (height_after e height)) code.instructions here offsets (reached-grown (height_after e height)) (reached-keeps (height_after e height)) here_long in
      let ch_end = changed_more (reached (height_after e height)) code.instructions onward end offsets (grows_more onward next end next_grows more) ch in
      let ca = each_changed (caught code.max_stack) code.instructions onward caught_offsets (caught-grown code.max_stack) (caught-keeps code.max_stack) (onward_long ∙ here_long) in
      let ca_end = changed_more (caught code.max_stack) code.instructions next end caught_offsets more ca in
      record {
        enough = r.0;
        room = r.1;
        stays = r.2;
        own = record { mark = own.mark; known = own.known; is = own.grown.height height (new_height (takes_too_much e height) (goes_over code.max_stack e height m)) };
        onward_heights = subst (Heights code.instructions end (height_after e height)) all
            (heights_of (reached (height_after e height)) (height_after e height) code.instructions end offsets (λ k c. reached_at (height_after e height) end k clean c) ch_end);
        caught_heights = heights_of (caught code.max_stack) 1 code.instructions end caught_offsets (λ k c. caught_height code.max_stack end k clean c) ca_end;
        caught_rooms = rooms_of code.max_stack code.instructions end caught_offsets clean ca_end;
      }
