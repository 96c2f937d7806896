-- Public contracts rest on this module.
-- Where an instruction goes on, and which handlers cover it (JVMS 2.10, 3.12, 4.7.3, 6.5).
use Rattle.std.specs.Prelude.{ℕ, ◌+◌, Bool, true, false, ◌&&◌, not, nat_eq, nat_le, nat_lt, List, [], ◌∷◌, ◌++◌, map, filter, Option, option_map, slice_get, if◌then◌else◌}
use Rattle.std.specs.List.{list_any, position}
use Rattle.std.specs.Option.{option_map_or, option_to_list, is_some}
use Rattle.jvm_model.specs.declared.code.Handler.{Handler}
use Rattle.jvm_model.specs.declared.code.PlacedInstruction.{PlacedInstruction}
use Rattle.jvm_model.specs.Table.{Row, row_of, Flow, jump, leave, subroutine}

-- The number of the instruction at an offset: its place among the instructions of the code.
abbrev pub number_of : List PlacedInstruction → ℕ → Option ℕ
number_of instructions offset = position (λ (p : PlacedInstruction). nat_eq p.offset offset) instructions

-- An instruction may go on at the next one, unless it always jumps or leaves its method.
abbrev pub may_go_next : Flow → Bool
may_go_next jump = false
may_go_next leave = false
may_go_next subroutine = false
may_go_next _ = true

abbrev pub goes_next : PlacedInstruction → Bool
goes_next p = option_map_or (λ (r : Row). may_go_next r.flow) (row_of p.instruction.opcode) false

-- The offset of the instruction after the one of a number, if there is one.
abbrev pub offset_after : List PlacedInstruction → ℕ → Option ℕ
offset_after instructions number = option_map (λ (p : PlacedInstruction). p.offset) (slice_get instructions (number + 1))

-- It goes on past the end of the code.
abbrev pub falls_off : List PlacedInstruction → ℕ → PlacedInstruction → Bool
falls_off instructions number p = goes_next p && not (is_some (offset_after instructions number))

-- Each of the offsets once, where it stands first, after those that were met.
abbrev pub each_once : List ℕ → List ℕ → List ℕ
each_once met [] = met
each_once met (offset ∷ offsets) = each_once (if list_any (λ (m : ℕ). nat_eq m offset) met then met else met ++ offset ∷ []) offsets

-- Where the instruction of a number goes on: at the next one, and at its targets in the order of its operands.
abbrev pub successors : List PlacedInstruction → ℕ → PlacedInstruction → List ℕ
successors instructions number p =
    each_once [] ((if goes_next p then option_to_list (offset_after instructions number) else []) ++ p.instruction.targets)

-- A handler covers an offset from its start to before its end (JVMS 4.7.3).
abbrev pub covers : ℕ → Handler → Bool
covers offset h = nat_le h.start offset && nat_lt offset h.finish

-- The places of the handlers that cover an offset, from a place on.
abbrev pub covering_from : ℕ → ℕ → List Handler → List ℕ
covering_from place offset [] = []
covering_from place offset (h ∷ handlers) =
    if covers offset h then place ∷ covering_from (place + 1) offset handlers else covering_from (place + 1) offset handlers

-- The places of the handlers that cover an offset, in the order of their table.
abbrev pub covering : List Handler → ℕ → List ℕ
covering handlers offset = covering_from 0 offset handlers

-- Where those handlers begin.
abbrev pub caught_at : List Handler → ℕ → List ℕ
caught_at handlers offset = map (λ (h : Handler). h.target) (filter (covers offset) handlers)
