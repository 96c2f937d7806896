-- Public contracts rest on this module.
-- The walk over the code of a method from its first instruction on (JVMS 2.6.2, 4.9.2, 4.10): at which height each
-- instruction is reached, and what is noted of it.
use Rattle.std.specs.Prelude.{◌≡◌, ℕ, ◌+◌, ◌-◌, Bool, true, false, ◌&&◌, ◌||◌, not, nat_eq, nat_lt, List, [], ◌∷◌, length, replicate, Option, Some, None, slice_get, slice_set, if◌then◌else◌}
use Rattle.std.specs.List.{position}
use Rattle.std.specs.Option.{option_map_or, is_some}
use Rattle.jvm_model.specs.declared.code.Code.{Code}
use Rattle.jvm_model.specs.declared.code.PlacedInstruction.{PlacedInstruction}
use Rattle.flow_graph.specs.declared.effect.Effect.{Effect}
use Rattle.flow_graph.specs.declared.mark.Mark.{Mark}
use Rattle.flow_graph.specs.Flows.{number_of, falls_off, successors, caught_at}

-- Of an instruction that was not reached nothing is known.
abbrev pub unreached : Mark
unreached = record { height = None; walked = false; under = false; over = false; merged = false; falls = false }

-- An instruction is reached: at its first height; at that height again; or at another one, which is noted.
abbrev pub reached_after : Option ℕ → ℕ → Mark → Mark
reached_after None height m = record m { height = Some height }
reached_after (Some first) height m = record m { merged = m.merged || not (nat_eq first height) }

abbrev pub reached : ℕ → Mark → Mark
reached height m = reached_after m.height height m

-- A handler begins with what was thrown on the operand stack, which is too much where the limit is 0 (JVMS 2.10).
abbrev pub caught : ℕ → Mark → Mark
caught limit m = let r = reached 1 m in record r { over = r.over || nat_eq limit 0 }

-- The mark of a number is changed.
abbrev pub at_number : (Mark → Mark) → List Mark → ℕ → List Mark
at_number change marks number = option_map_or (λ (m : Mark). slice_set marks number (change m)) (slice_get marks number) marks

-- The mark of the instruction at an offset is changed.
abbrev pub at_offset : (Mark → Mark) → List PlacedInstruction → List Mark → ℕ → List Mark
at_offset change instructions marks offset = option_map_or (at_number change marks) (number_of instructions offset) marks

-- So are those at several offsets, one after the other.
abbrev pub at_each : (Mark → Mark) → List PlacedInstruction → List Mark → List ℕ → List Mark
at_each change instructions marks [] = marks
at_each change instructions marks (offset ∷ offsets) = at_each change instructions (at_offset change instructions marks offset) offsets

-- An instruction takes more units than there are.
abbrev pub takes_too_much : Effect → ℕ → Bool
takes_too_much e height = nat_lt height e.pops

abbrev pub height_after : Effect → ℕ → ℕ
height_after e height = height - e.pops + e.pushes

-- The operand stack is past its limit after the instruction, or was noted to be so before it.
abbrev pub goes_over : ℕ → Effect → ℕ → Mark → Bool
goes_over limit e height m = m.over || nat_lt limit (height_after e height)

-- An instruction is walked at a height.
abbrev pub walked : ℕ → Effect → ℕ → Bool → Mark → Mark
walked limit e height falls m =
    if takes_too_much e height then record m { walked = true; under = true }
    else if goes_over limit e height m then record m { walked = true; over = true }
    else record m { walked = true; falls = m.falls || falls }

-- With too few or too many units it goes on nowhere.
abbrev pub reaches : ℕ → Effect → ℕ → Mark → List ℕ → List ℕ
reaches limit e height m offsets = if takes_too_much e height || goes_over limit e height m then [] else offsets

-- An instruction that was reached and not yet walked.
abbrev pub is_waiting : Mark → Bool
is_waiting m = is_some m.height && not m.walked

-- The first instruction that waits: its number, its effect, and the height at which it was reached.
pub record Waits (code : Code) (effects : List Effect) (marks : List Mark) : Type 0 where
  pub number : ℕ
  pub first : position is_waiting marks ≡ Some number
  pub placed : PlacedInstruction
  pub stands : slice_get code.instructions number ≡ Some placed
  pub effect : Effect
  pub has : slice_get effects number ≡ Some effect
  pub mark : Mark
  pub known : slice_get marks number ≡ Some mark
  pub height : ℕ
  pub reached_at : mark.height ≡ Some height

-- It is walked; then it reaches its successors, and then the handlers that cover it.
abbrev pub after_walk : (code : Code) → ℕ → PlacedInstruction → Effect → Mark → ℕ → List Mark → List Mark
after_walk code number p e m height marks =
    let here = slice_set marks number (walked code.max_stack e height (falls_off code.instructions number p) m) in
    let onward = at_each (reached (height_after e height)) code.instructions here (reaches code.max_stack e height m (successors code.instructions number p)) in
    at_each (caught code.max_stack) code.instructions onward (caught_at code.handlers p.offset)

-- The walk from some marks to its end: as long as an instruction waits, the first one is walked.
pub data Walk (code : Code) (effects : List Effect) : List Mark → List Mark → Type 0 where
  ends : (marks end : List Mark) → position is_waiting marks ≡ None → end ≡ marks → Walk code effects marks end
  goes_on : (marks end : List Mark) (w : Waits code effects marks) → Walk code effects (after_walk code w.number w.placed w.effect w.mark w.height marks) end
      → Walk code effects marks end

-- At first only the first instruction is reached, with no unit on the operand stack.
abbrev pub at_start : Code → List Mark
at_start code = at_number (reached 0) (replicate (length code.instructions) unreached) 0
