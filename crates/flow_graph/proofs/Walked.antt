-- What the walk keeps: how many instructions there are, and how many are not yet walked.
use Rattle.std.proofs.Common.{◌≡◌, ℕ, zero, suc, ◌+◌, Bool, true, false, cond, not, ◌&&◌, ◌||◌, List, [], ◌∷◌, length, set, get_or, IsSome, Option, Some, None, refl, sym, ap, ◌∙◌, subst, arith}
use Rattle.std.specs.List.{slice_get, position}
use Rattle.std.specs.Option.{option_map_or, is_some}
use Rattle.std.proofs.lemmas.List.{length-set}
use Rattle.std.proofs.lemmas.List.Quantifiers.{position-Some}
use Rattle.std.proofs.lemmas.Option.{slice_get-get_or, get_or_from_slice_get}
use Rattle.jvm_model.specs.declared.code.Code.{Code}
use Rattle.jvm_model.specs.declared.code.PlacedInstruction.{PlacedInstruction}
use Rattle.flow_graph.specs.declared.effect.Effect.{Effect}
use Rattle.flow_graph.specs.declared.mark.Mark.{Mark}
use Rattle.flow_graph.specs.Flows.{number_of, falls_off, successors, caught_at}
use Rattle.flow_graph.specs.Walks.{reached_after, reached, caught, at_number, at_offset, at_each, takes_too_much, goes_over, height_after, walked, reaches, is_waiting, after_walk, Walk, goes_on}
use Rattle.flow_graph.specs.Walking.{onward_each, IsWalkedOne}

-- how many instructions are not yet walked
abbrev pub one_unwalked : Bool → ℕ
one_unwalked true = 0
one_unwalked false = 1

abbrev pub unwalked : List Mark → ℕ
unwalked [] = 0
unwalked (m ∷ marks) = one_unwalked m.walked + unwalked marks

-- a change of a mark counts where the mark stood
pub unwalked-set : (marks : List Mark) (number : ℕ) (m x : Mark) → slice_get marks number ≡ Some m → unwalked (set marks number x) + one_unwalked m.walked ≡ unwalked marks + one_unwalked x.walked
unwalked-set [] number m x is = absurd cc
unwalked-set (y ∷ marks) zero m x is =
    let same : y ≡ m = cc is in
    omega (arith, ap (λ (z : Mark). one_unwalked z.walked) same)
unwalked-set (y ∷ marks) (suc number) m x is = omega (arith, unwalked-set marks number m x is)

-- a change keeps what was walked
abbrev pub Keeps : (Mark → Mark) → Type 0
Keeps change = (m : Mark) → (change m).walked ≡ m.walked

pub record IsKept (old new : List Mark) : Type 0 where
  pub count : length new ≡ length old
  pub left : unwalked new ≡ unwalked old

reached_after-keeps : (first : Option ℕ) (height : ℕ) (m : Mark) → (reached_after first height m).walked ≡ m.walked
reached_after-keeps None height m = refl
reached_after-keeps (Some first) height m = refl

pub reached-keeps : (height : ℕ) → Keeps (reached height)
reached-keeps height m = reached_after-keeps m.height height m

pub caught-keeps : (limit : ℕ) → Keeps (caught limit)
caught-keeps limit m = reached_after-keeps m.height 1 m

at_number-kept : (change : Mark → Mark) (marks : List Mark) (number : ℕ) → Keeps change → IsKept marks (at_number change marks number)
at_number-kept change marks number keeps = by (slice_get marks number) refl
  where
    by : (o : Option Mark) → slice_get marks number ≡ o → IsKept marks (option_map_or (λ (m : Mark). set marks number (change m)) o marks)
    by None is = record { count = refl; left = refl }
    by (Some m) is = record {
      count = length-set marks number (change m);
      left = omega (arith, unwalked-set marks number m (change m) is, ap one_unwalked (keeps m));
    }

at_offset-kept : (change : Mark → Mark) (instructions : List PlacedInstruction) (marks : List Mark) (offset : ℕ) → Keeps change → IsKept marks (at_offset change instructions marks offset)
at_offset-kept change instructions marks offset keeps = by (number_of instructions offset)
  where
    by : (o : Option ℕ) → IsKept marks (option_map_or (at_number change marks) o marks)
    by None = record { count = refl; left = refl }
    by (Some number) = at_number-kept change marks number keeps

kept_more : (a b c : List Mark) → IsKept a b → IsKept b c → IsKept a c
kept_more a b c x y = record { count = y.count ∙ x.count; left = y.left ∙ x.left }

pub at_each-kept : (change : Mark → Mark) (instructions : List PlacedInstruction) (marks : List Mark) (offsets : List ℕ) → Keeps change → IsKept marks (at_each change instructions marks offsets)
at_each-kept change instructions marks [] keeps = record { count = refl; left = refl }
at_each-kept change instructions marks (offset ∷ offsets) keeps =
    kept_more marks (at_offset change instructions marks offset) _ (at_offset-kept change instructions marks offset keeps)
    (at_each-kept change instructions (at_offset change instructions marks offset) offsets keeps)

pub onward_each-kept : (height : Option ℕ) (instructions : List PlacedInstruction) (marks : List Mark) (offsets : List ℕ) → IsKept marks (onward_each height instructions marks offsets)
onward_each-kept None instructions marks offsets = record { count = refl; left = refl }
onward_each-kept (Some height) instructions marks offsets = at_each-kept (reached height) instructions marks offsets (reached-keeps height)

-- an instruction that waits is there, was reached, and is not yet walked
pub record IsWaiting (marks : List Mark) (number : ℕ) (m : Mark) : Type 0 where
  pub known : slice_get marks number ≡ Some m
  pub reached_at : IsSome m.height
  pub unwalked_yet : m.walked ≡ false

waiting_parts : (m : Mark) → is_waiting m ≡ true → IsSome m.height × (m.walked ≡ false)
waiting_parts m is = by m.height m.walked is
  where
    by : (height : Option ℕ) (w : Bool) → (is_some height && not w) ≡ true → IsSome height × (w ≡ false)
    by None w is = absurd cc
    by (Some h) true is = absurd cc
    by (Some h) false is = (refl, refl)

pub first_waits : (marks : List Mark) (number : ℕ) (d : Mark) → position is_waiting marks ≡ Some number → IsWaiting marks number (get_or marks number d)
first_waits marks number d first =
    let p = position-Some is_waiting marks number d first in
    let parts = waiting_parts (get_or marks number d) p.1 in
    record { known = slice_get-get_or marks number d p.0; reached_at = parts.0; unwalked_yet = parts.1 }

pub walked-walked : (limit : ℕ) (e : Effect) (height : ℕ) (falls : Bool) (m : Mark) → (walked limit e height falls m).walked ≡ true
walked-walked limit e height falls m = by (takes_too_much e height) (goes_over limit e height m)
  where
    by : (a b : Bool) → (cond a (record m { walked = true; under = true }) (cond b (record m { walked = true; over = true }) (record m { walked = true; falls = m.falls || falls }))).walked ≡ true
    by true b = refl
    by false true = refl
    by false false = refl

-- a walked instruction is one less that is not yet walked
pub record IsOneLess (old new : List Mark) : Type 0 where
  pub count : length new ≡ length old
  pub less : unwalked new + 1 ≡ unwalked old

walks_one : (code : Code) (number : ℕ) (p : PlacedInstruction) (e : Effect) (m : Mark) (height : ℕ) (marks : List Mark) → slice_get marks number ≡ Some m → m.walked ≡ false
    → IsOneLess marks (after_walk code number p e m height marks)
walks_one code number p e m height marks is yet =
    let falls = falls_off code.instructions number p in
    let x = walked code.max_stack e height falls m in
    let here = set marks number x in
    let offsets = reaches code.max_stack e height m (successors code.instructions number p) in
    let onward = at_each (reached (height_after e height)) code.instructions here offsets in
    let a = at_each-kept (reached (height_after e height)) code.instructions here offsets (reached-keeps (height_after e height)) in
    let b = at_each-kept (caught code.max_stack) code.instructions onward (caught_at code.handlers p.offset) (caught-keeps code.max_stack) in
    let s = unwalked-set marks number m x is in
    let l = length-set marks number x in
    record {
      count = b.count ∙ a.count ∙ l;
      less = omega (arith, b.left, a.left, s, ap one_unwalked yet, ap one_unwalked (walked-walked code.max_stack e height falls m));
    }

-- so is each walk of the first one that waits
pub one_less : (code : Code) (effects : List Effect) (old new : List Mark) → IsWalkedOne code effects old new → IsOneLess old new
one_less code effects old new w =
    let s = w.waits in
    let p = first_waits old s.number s.mark s.first in
    let same : get_or old s.number s.mark ≡ s.mark = get_or_from_slice_get old s.number s.mark s.mark s.known in
    let yet : s.mark.walked ≡ false = sym (ap (λ (m : Mark). m.walked) same) ∙ p.unwalked_yet in
    subst (IsOneLess old) (sym w.after) (walks_one code s.number s.placed s.effect s.mark s.height old s.known yet)

-- the walk from there on is the rest of the whole
pub walk_more : (code : Code) (effects : List Effect) (old new end : List Mark) → IsWalkedOne code effects old new → Walk code effects new end → Walk code effects old end
walk_more code effects old new end w rest = goes_on old end w.waits (subst (λ (marks : List Mark). Walk code effects marks end) w.after rest)

onward_by : (b : Bool) (height : ℕ) (instructions : List PlacedInstruction) (marks : List Mark) (offsets : List ℕ)
    → onward_each (cond b None (Some height)) instructions marks offsets ≡ at_each (reached height) instructions marks (cond b [] offsets)
onward_by true height instructions marks offsets = refl
onward_by false height instructions marks offsets = refl

-- the first instruction that waits was walked, part by part
pub walked_one : (code : Code) (effects : List Effect) (marks mid end : List Mark) (number : ℕ) (p : PlacedInstruction) (e : Effect) (m x : Mark) (height : ℕ) (onward : Option ℕ) (next : List ℕ)
    → position is_waiting marks ≡ Some number → slice_get code.instructions number ≡ Some p → slice_get effects number ≡ Some e → slice_get marks number ≡ Some m → m.height ≡ Some height
    → x ≡ walked code.max_stack e height (falls_off code.instructions number p) m
    → onward ≡ cond (takes_too_much e height || goes_over code.max_stack e height m) None (Some (height_after e height))
    → next ≡ successors code.instructions number p
    → mid ≡ onward_each onward code.instructions (set marks number x) next
    → end ≡ at_each (caught code.max_stack) code.instructions mid (caught_at code.handlers p.offset)
    → IsWalkedOne code effects marks end
walked_one code effects marks mid end number p e m x height onward next first stands has known at is_x is_onward is_next is_mid is_end =
    let limit = code.max_stack in
    let here = set marks number (walked limit e height (falls_off code.instructions number p) m) in
    let b = takes_too_much e height || goes_over limit e height m in
    let mid_is : mid ≡ at_each (reached (height_after e height)) code.instructions here (cond b [] (successors code.instructions number p)) =
    is_mid ∙ ap (λ (y : Mark). onward_each onward code.instructions (set marks number y) next) is_x
    ∙ ap (λ (o : Option ℕ). onward_each o code.instructions here next) is_onward
    ∙ ap (λ (l : List ℕ). onward_each (cond b None (Some (height_after e height))) code.instructions here l) is_next
    ∙ onward_by b (height_after e height) code.instructions here (successors code.instructions number p) in
    record {
      waits = record { number = number; first = first; placed = p; stands = stands; effect = e; has = has; mark = m; known = known; height = height; reached_at = at };
      after = is_end ∙ ap (λ (ms : List Mark). at_each (caught limit) code.instructions ms (caught_at code.handlers p.offset)) mid_is;
    }
