-- Public contracts rest on this module.
-- The code of some of the methods by its instructions, and the graph of each code: at each step the height of the stack, where it
-- goes on, and which handlers cover it.
use Rattle.std.specs.Prelude.{ℕ, List, [], ◌∷◌}
use Rattle.jvm_model.specs.declared.code.Code.{Code}
use Rattle.jvm_model.specs.declared.code.Handler.{Handler}
use Rattle.jvm_model.specs.declared.code.PlacedInstruction.{PlacedInstruction}
use Rattle.example_machine.specs.Building.{handler}
use Rattle.flow_graph.specs.declared.steps.Graph.{Graph}
use Rattle.flow_graph.specs.declared.steps.GraphStep.{GraphStep}

-- ---- builders

-- An instruction by its offset, its opcode, its operand, its dimensions and its targets.
abbrev pub instruction_with : (offset opcode operand dimensions : ℕ) → (targets : List ℕ) → PlacedInstruction
instruction_with offset opcode operand dimensions targets =
    record { offset = offset; instruction = record { opcode = opcode; operand = operand; dimensions = dimensions; targets = targets } }

abbrev pub plainly_placed : (offset opcode operand : ℕ) → PlacedInstruction
plainly_placed offset opcode operand = instruction_with offset opcode operand 0 []

-- A code without handlers, by its limits and its instructions.
abbrev pub code_of : (max_stack max_locals : ℕ) → List PlacedInstruction → Code
code_of max_stack max_locals instructions = record { at = 0; instructions = instructions; handlers = []; max_stack = max_stack; max_locals = max_locals }

-- One with handlers.
abbrev pub code_with : (max_stack max_locals : ℕ) → List PlacedInstruction → List Handler → Code
code_with max_stack max_locals instructions handlers = record { at = 0; instructions = instructions; handlers = handlers; max_stack = max_stack; max_locals = max_locals }

abbrev pub step : (offset height : ℕ) → (successors : List ℕ) → GraphStep
step offset height successors = record { offset = offset; height = height; successors = successors; handlers = [] }

-- Handlers cover it, by their places.
abbrev pub step_with : (offset height : ℕ) → (successors handlers : List ℕ) → GraphStep
step_with offset height successors handlers = record { offset = offset; height = height; successors = successors; handlers = handlers }

abbrev pub graph_of : List GraphStep → Graph
graph_of steps = record { steps = steps }

-- ---- the codes

abbrev pub makes_code : Code
makes_code = code_of 1 0 (plainly_placed 0 187 10 ∷ plainly_placed 3 87 0 ∷ plainly_placed 4 177 0 ∷ [])

abbrev pub makes_graph : Graph
makes_graph = graph_of (step 0 0 (3 ∷ []) ∷ step 3 1 (4 ∷ []) ∷ step 4 0 [] ∷ [])

abbrev pub switch_code : Code
switch_code = code_of 1 0 (
    plainly_placed 0 3 0
    ∷ instruction_with 1 170 0 0 (20 ∷ 21 ∷ [])
    ∷ plainly_placed 20 177 0
    ∷ plainly_placed 21 177 0
    ∷ [])

abbrev pub switch_graph : Graph
switch_graph = graph_of (
    step 0 0 (1 ∷ [])
    ∷ step 1 1 (20 ∷ 21 ∷ [])
    ∷ step 20 0 []
    ∷ step 21 0 []
    ∷ [])

abbrev pub wide_iinc_code : Code
wide_iinc_code = code_of 1 1 (
    plainly_placed 0 3 0
    ∷ plainly_placed 1 59 0
    ∷ plainly_placed 2 132 0
    ∷ plainly_placed 8 177 0
    ∷ [])

abbrev pub wide_iinc_graph : Graph
wide_iinc_graph = graph_of (
    step 0 0 (1 ∷ [])
    ∷ step 1 1 (2 ∷ [])
    ∷ step 2 0 (8 ∷ [])
    ∷ step 8 0 []
    ∷ [])

abbrev pub links_code : Code
links_code = code_of 2 0 (
    plainly_placed 0 178 14
    ∷ plainly_placed 3 178 14
    ∷ plainly_placed 6 181 17
    ∷ plainly_placed 9 178 14
    ∷ plainly_placed 12 180 17
    ∷ plainly_placed 15 87 0
    ∷ plainly_placed 16 177 0
    ∷ [])

abbrev pub links_graph : Graph
links_graph = graph_of (
    step 0 0 (3 ∷ [])
    ∷ step 3 1 (6 ∷ [])
    ∷ step 6 2 (9 ∷ [])
    ∷ step 9 0 (12 ∷ [])
    ∷ step 12 1 (15 ∷ [])
    ∷ step 15 1 (16 ∷ [])
    ∷ step 16 0 []
    ∷ [])

abbrev pub counts_code : Code
counts_code = code_of 2 0 (
    plainly_placed 0 178 14
    ∷ plainly_placed 3 4 0
    ∷ plainly_placed 4 181 21
    ∷ plainly_placed 7 178 14
    ∷ plainly_placed 10 180 21
    ∷ plainly_placed 13 87 0
    ∷ plainly_placed 14 177 0
    ∷ [])

abbrev pub counts_graph : Graph
counts_graph = graph_of (
    step 0 0 (3 ∷ [])
    ∷ step 3 1 (4 ∷ [])
    ∷ step 4 2 (7 ∷ [])
    ∷ step 7 0 (10 ∷ [])
    ∷ step 10 1 (13 ∷ [])
    ∷ step 13 1 (14 ∷ [])
    ∷ step 14 0 []
    ∷ [])

abbrev pub statics_code : Code
statics_code = code_of 1 0 (
    plainly_placed 0 178 14
    ∷ plainly_placed 3 179 24
    ∷ plainly_placed 6 178 24
    ∷ plainly_placed 9 87 0
    ∷ plainly_placed 10 177 0
    ∷ [])

abbrev pub statics_graph : Graph
statics_graph = graph_of (
    step 0 0 (3 ∷ [])
    ∷ step 3 1 (6 ∷ [])
    ∷ step 6 0 (9 ∷ [])
    ∷ step 9 1 (10 ∷ [])
    ∷ step 10 0 []
    ∷ [])

abbrev pub constant_code : Code
constant_code = code_of 1 0 (
    plainly_placed 0 18 25
    ∷ plainly_placed 2 87 0
    ∷ plainly_placed 3 177 0
    ∷ [])

abbrev pub constant_graph : Graph
constant_graph = graph_of (
    step 0 0 (2 ∷ [])
    ∷ step 2 1 (3 ∷ [])
    ∷ step 3 0 []
    ∷ [])

abbrev pub tables_code : Code
tables_code = code_of 2 0 (
    plainly_placed 0 5 0
    ∷ plainly_placed 1 4 0
    ∷ instruction_with 2 197 27 2 []
    ∷ plainly_placed 6 87 0
    ∷ plainly_placed 7 177 0
    ∷ [])

abbrev pub tables_graph : Graph
tables_graph = graph_of (
    step 0 0 (1 ∷ [])
    ∷ step 1 1 (2 ∷ [])
    ∷ step 2 2 (6 ∷ [])
    ∷ step 6 1 (7 ∷ [])
    ∷ step 7 0 []
    ∷ [])

abbrev pub boxes_code : Code
boxes_code = code_of 3 1 (
    plainly_placed 0 4 0
    ∷ plainly_placed 1 189 10
    ∷ plainly_placed 4 75 0
    ∷ plainly_placed 5 42 0
    ∷ plainly_placed 6 3 0
    ∷ plainly_placed 7 178 14
    ∷ plainly_placed 10 83 0
    ∷ plainly_placed 11 42 0
    ∷ plainly_placed 12 3 0
    ∷ plainly_placed 13 50 0
    ∷ plainly_placed 14 87 0
    ∷ plainly_placed 15 177 0
    ∷ [])

abbrev pub boxes_graph : Graph
boxes_graph = graph_of (
    step 0 0 (1 ∷ [])
    ∷ step 1 1 (4 ∷ [])
    ∷ step 4 1 (5 ∷ [])
    ∷ step 5 0 (6 ∷ [])
    ∷ step 6 1 (7 ∷ [])
    ∷ step 7 2 (10 ∷ [])
    ∷ step 10 3 (11 ∷ [])
    ∷ step 11 0 (12 ∷ [])
    ∷ step 12 1 (13 ∷ [])
    ∷ step 13 2 (14 ∷ [])
    ∷ step 14 1 (15 ∷ [])
    ∷ step 15 0 []
    ∷ [])

abbrev pub box_cast_code : Code
box_cast_code = code_of 1 0 (
    plainly_placed 0 178 14
    ∷ plainly_placed 3 192 10
    ∷ plainly_placed 6 87 0
    ∷ plainly_placed 7 177 0
    ∷ [])

abbrev pub box_cast_graph : Graph
box_cast_graph = graph_of (
    step 0 0 (3 ∷ [])
    ∷ step 3 1 (6 ∷ [])
    ∷ step 6 1 (7 ∷ [])
    ∷ step 7 0 []
    ∷ [])

abbrev pub catches_above_code : Code
catches_above_code = code_with 1 0 (
    plainly_placed 0 184 10
    ∷ plainly_placed 3 177 0
    ∷ plainly_placed 4 87 0
    ∷ plainly_placed 5 177 0
    ∷ []) (handler 0 3 4 21 ∷ [])

abbrev pub catches_above_graph : Graph
catches_above_graph = graph_of (
    step_with 0 0 (3 ∷ []) (0 ∷ [])
    ∷ step 3 0 []
    ∷ step 4 1 (5 ∷ [])
    ∷ step 5 0 []
    ∷ [])

abbrev pub inner_code : Code
inner_code = code_of 1 0 (
    plainly_placed 0 178 19
    ∷ plainly_placed 3 191 0
    ∷ [])

abbrev pub inner_graph : Graph
inner_graph = graph_of (
    step 0 0 (3 ∷ [])
    ∷ step 3 1 []
    ∷ [])

abbrev pub misfit_code : Code
misfit_code = code_of 3 0 (
    plainly_placed 0 4 0
    ∷ plainly_placed 1 189 29
    ∷ plainly_placed 4 3 0
    ∷ plainly_placed 5 178 14
    ∷ plainly_placed 8 83 0
    ∷ plainly_placed 9 177 0
    ∷ [])

abbrev pub misfit_graph : Graph
misfit_graph = graph_of (
    step 0 0 (1 ∷ [])
    ∷ step 1 1 (4 ∷ [])
    ∷ step 4 1 (5 ∷ [])
    ∷ step 5 2 (8 ∷ [])
    ∷ step 8 3 (9 ∷ [])
    ∷ step 9 0 []
    ∷ [])

abbrev pub division_code : Code
division_code = code_of 2 0 (
    plainly_placed 0 4 0
    ∷ plainly_placed 1 3 0
    ∷ plainly_placed 2 108 0
    ∷ plainly_placed 3 87 0
    ∷ plainly_placed 4 177 0
    ∷ [])

abbrev pub division_graph : Graph
division_graph = graph_of (
    step 0 0 (1 ∷ [])
    ∷ step 1 1 (2 ∷ [])
    ∷ step 2 2 (3 ∷ [])
    ∷ step 3 1 (4 ∷ [])
    ∷ step 4 0 []
    ∷ [])

abbrev pub branch_code : Code
branch_code = code_of 1 0 (
    plainly_placed 0 3 0
    ∷ instruction_with 1 153 0 0 (5 ∷ [])
    ∷ plainly_placed 4 0 0
    ∷ plainly_placed 5 177 0
    ∷ [])

abbrev pub branch_graph : Graph
branch_graph = graph_of (
    step 0 0 (1 ∷ [])
    ∷ step 1 1 (4 ∷ 5 ∷ [])
    ∷ step 4 0 (5 ∷ [])
    ∷ step 5 0 []
    ∷ [])

abbrev pub numbers_code : Code
numbers_code = code_of 1 0 (
    plainly_placed 0 5 0
    ∷ plainly_placed 1 188 10
    ∷ plainly_placed 3 190 0
    ∷ plainly_placed 4 87 0
    ∷ plainly_placed 5 177 0
    ∷ [])

abbrev pub numbers_graph : Graph
numbers_graph = graph_of (
    step 0 0 (1 ∷ [])
    ∷ step 1 1 (3 ∷ [])
    ∷ step 3 1 (4 ∷ [])
    ∷ step 4 1 (5 ∷ [])
    ∷ step 5 0 []
    ∷ [])

abbrev pub null_cast_code : Code
null_cast_code = code_of 1 0 (
    plainly_placed 0 1 0
    ∷ plainly_placed 1 192 10
    ∷ plainly_placed 4 87 0
    ∷ plainly_placed 5 177 0
    ∷ [])

abbrev pub null_cast_graph : Graph
null_cast_graph = graph_of (
    step 0 0 (1 ∷ [])
    ∷ step 1 1 (4 ∷ [])
    ∷ step 4 1 (5 ∷ [])
    ∷ step 5 0 []
    ∷ [])

abbrev pub null_branch_code : Code
null_branch_code = code_of 1 0 (
    plainly_placed 0 1 0
    ∷ instruction_with 1 198 0 0 (5 ∷ [])
    ∷ plainly_placed 4 177 0
    ∷ plainly_placed 5 177 0
    ∷ [])

abbrev pub null_branch_graph : Graph
null_branch_graph = graph_of (
    step 0 0 (1 ∷ [])
    ∷ step 1 1 (4 ∷ 5 ∷ [])
    ∷ step 4 0 []
    ∷ step 5 0 []
    ∷ [])

abbrev pub box_branch_code : Code
box_branch_code = code_of 1 0 (
    plainly_placed 0 178 14
    ∷ instruction_with 3 198 0 0 (7 ∷ [])
    ∷ plainly_placed 6 177 0
    ∷ plainly_placed 7 177 0
    ∷ [])

abbrev pub box_branch_graph : Graph
box_branch_graph = graph_of (
    step 0 0 (3 ∷ [])
    ∷ step 3 1 (6 ∷ 7 ∷ [])
    ∷ step 6 0 []
    ∷ step 7 0 []
    ∷ [])

abbrev pub same_branch_code : Code
same_branch_code = code_of 2 0 (
    plainly_placed 0 178 14
    ∷ plainly_placed 3 178 14
    ∷ instruction_with 6 165 0 0 (10 ∷ [])
    ∷ plainly_placed 9 177 0
    ∷ plainly_placed 10 177 0
    ∷ [])

abbrev pub same_branch_graph : Graph
same_branch_graph = graph_of (
    step 0 0 (3 ∷ [])
    ∷ step 3 1 (6 ∷ [])
    ∷ step 6 2 (9 ∷ 10 ∷ [])
    ∷ step 9 0 []
    ∷ step 10 0 []
    ∷ [])

abbrev pub other_branch_code : Code
other_branch_code = code_of 2 0 (
    plainly_placed 0 178 14
    ∷ plainly_placed 3 1 0
    ∷ instruction_with 4 165 0 0 (8 ∷ [])
    ∷ plainly_placed 7 177 0
    ∷ plainly_placed 8 177 0
    ∷ [])

abbrev pub other_branch_graph : Graph
other_branch_graph = graph_of (
    step 0 0 (3 ∷ [])
    ∷ step 3 1 (4 ∷ [])
    ∷ step 4 2 (7 ∷ 8 ∷ [])
    ∷ step 7 0 []
    ∷ step 8 0 []
    ∷ [])

abbrev pub lookup_code : Code
lookup_code = code_of 1 0 (
    plainly_placed 0 3 0
    ∷ instruction_with 1 171 0 0 (20 ∷ 21 ∷ [])
    ∷ plainly_placed 20 177 0
    ∷ plainly_placed 21 177 0
    ∷ [])

abbrev pub lookup_graph : Graph
lookup_graph = graph_of (
    step 0 0 (1 ∷ [])
    ∷ step 1 1 (20 ∷ 21 ∷ [])
    ∷ step 20 0 []
    ∷ step 21 0 []
    ∷ [])

abbrev pub class_constant_code : Code
class_constant_code = code_of 1 0 (
    plainly_placed 0 18 10
    ∷ plainly_placed 2 87 0
    ∷ plainly_placed 3 177 0
    ∷ [])

abbrev pub class_constant_graph : Graph
class_constant_graph = graph_of (
    step 0 0 (2 ∷ [])
    ∷ step 2 1 (3 ∷ [])
    ∷ step 3 0 []
    ∷ [])

abbrev pub monitor_code : Code
monitor_code = code_of 1 0 (
    plainly_placed 0 178 14
    ∷ plainly_placed 3 194 0
    ∷ plainly_placed 4 178 14
    ∷ plainly_placed 7 195 0
    ∷ plainly_placed 8 177 0
    ∷ [])

abbrev pub monitor_graph : Graph
monitor_graph = graph_of (
    step 0 0 (3 ∷ [])
    ∷ step 3 1 (4 ∷ [])
    ∷ step 4 0 (7 ∷ [])
    ∷ step 7 1 (8 ∷ [])
    ∷ step 8 0 []
    ∷ [])

abbrev pub first_number_code : Code
first_number_code = code_of 2 0 (
    plainly_placed 0 4 0
    ∷ plainly_placed 1 188 10
    ∷ plainly_placed 3 3 0
    ∷ plainly_placed 4 46 0
    ∷ plainly_placed 5 87 0
    ∷ plainly_placed 6 177 0
    ∷ [])

abbrev pub first_number_graph : Graph
first_number_graph = graph_of (
    step 0 0 (1 ∷ [])
    ∷ step 1 1 (3 ∷ [])
    ∷ step 3 1 (4 ∷ [])
    ∷ step 4 2 (5 ∷ [])
    ∷ step 5 1 (6 ∷ [])
    ∷ step 6 0 []
    ∷ [])

abbrev pub string_cast_code : Code
string_cast_code = code_of 1 0 (
    plainly_placed 0 178 14
    ∷ plainly_placed 3 192 29
    ∷ plainly_placed 6 87 0
    ∷ plainly_placed 7 177 0
    ∷ [])

abbrev pub string_cast_graph : Graph
string_cast_graph = graph_of (
    step 0 0 (3 ∷ [])
    ∷ step 3 1 (6 ∷ [])
    ∷ step 6 1 (7 ∷ [])
    ∷ step 7 0 []
    ∷ [])

abbrev pub null_throw_code : Code
null_throw_code = code_of 1 0 (
    plainly_placed 0 1 0
    ∷ plainly_placed 1 191 0
    ∷ [])

abbrev pub null_throw_graph : Graph
null_throw_graph = graph_of (
    step 0 0 (1 ∷ [])
    ∷ step 1 1 []
    ∷ [])

abbrev pub null_field_code : Code
null_field_code = code_of 1 0 (
    plainly_placed 0 1 0
    ∷ plainly_placed 1 180 17
    ∷ plainly_placed 4 87 0
    ∷ plainly_placed 5 177 0
    ∷ [])

abbrev pub null_field_graph : Graph
null_field_graph = graph_of (
    step 0 0 (1 ∷ [])
    ∷ step 1 1 (4 ∷ [])
    ∷ step 4 1 (5 ∷ [])
    ∷ step 5 0 []
    ∷ [])

abbrev pub catches_here_code : Code
catches_here_code = code_with 1 0 (
    plainly_placed 0 178 19
    ∷ plainly_placed 3 191 0
    ∷ plainly_placed 4 87 0
    ∷ plainly_placed 5 177 0
    ∷ []) (handler 0 4 4 23 ∷ handler 0 4 4 21 ∷ [])

abbrev pub catches_here_graph : Graph
catches_here_graph = graph_of (
    step_with 0 0 (3 ∷ []) (0 ∷ 1 ∷ [])
    ∷ step_with 3 1 [] (0 ∷ 1 ∷ [])
    ∷ step 4 1 (5 ∷ [])
    ∷ step 5 0 []
    ∷ [])

abbrev pub middle_code : Code
middle_code = code_with 1 0 (
    plainly_placed 0 184 13
    ∷ plainly_placed 3 177 0
    ∷ plainly_placed 4 87 0
    ∷ plainly_placed 5 177 0
    ∷ []) (handler 0 3 4 23 ∷ [])

abbrev pub middle_graph : Graph
middle_graph = graph_of (
    step_with 0 0 (3 ∷ []) (0 ∷ [])
    ∷ step 3 0 []
    ∷ step 4 1 (5 ∷ [])
    ∷ step 5 0 []
    ∷ [])

abbrev pub null_jump_code : Code
null_jump_code = code_of 1 0 (
    plainly_placed 0 1 0
    ∷ instruction_with 1 199 0 0 (5 ∷ [])
    ∷ plainly_placed 4 177 0
    ∷ plainly_placed 5 177 0
    ∷ [])

abbrev pub null_jump_graph : Graph
null_jump_graph = graph_of (
    step 0 0 (1 ∷ [])
    ∷ step 1 1 (4 ∷ 5 ∷ [])
    ∷ step 4 0 []
    ∷ step 5 0 []
    ∷ [])

abbrev pub box_jump_code : Code
box_jump_code = code_of 1 0 (
    plainly_placed 0 178 14
    ∷ instruction_with 3 199 0 0 (7 ∷ [])
    ∷ plainly_placed 6 177 0
    ∷ plainly_placed 7 177 0
    ∷ [])

abbrev pub box_jump_graph : Graph
box_jump_graph = graph_of (
    step 0 0 (3 ∷ [])
    ∷ step 3 1 (6 ∷ 7 ∷ [])
    ∷ step 6 0 []
    ∷ step 7 0 []
    ∷ [])

abbrev pub same_jump_code : Code
same_jump_code = code_of 2 0 (
    plainly_placed 0 187 10
    ∷ plainly_placed 3 89 0
    ∷ instruction_with 4 166 0 0 (8 ∷ [])
    ∷ plainly_placed 7 177 0
    ∷ plainly_placed 8 177 0
    ∷ [])

abbrev pub same_jump_graph : Graph
same_jump_graph = graph_of (
    step 0 0 (3 ∷ [])
    ∷ step 3 1 (4 ∷ [])
    ∷ step 4 2 (7 ∷ 8 ∷ [])
    ∷ step 7 0 []
    ∷ step 8 0 []
    ∷ [])

abbrev pub other_jump_code : Code
other_jump_code = code_of 2 0 (
    plainly_placed 0 178 14
    ∷ plainly_placed 3 1 0
    ∷ instruction_with 4 166 0 0 (8 ∷ [])
    ∷ plainly_placed 7 177 0
    ∷ plainly_placed 8 177 0
    ∷ [])

abbrev pub other_jump_graph : Graph
other_jump_graph = graph_of (
    step 0 0 (3 ∷ [])
    ∷ step 3 1 (4 ∷ [])
    ∷ step 4 2 (7 ∷ 8 ∷ [])
    ∷ step 7 0 []
    ∷ step 8 0 []
    ∷ [])

abbrev pub two_branch_code : Code
two_branch_code = code_of 2 0 (
    plainly_placed 0 187 10
    ∷ plainly_placed 3 187 10
    ∷ instruction_with 6 165 0 0 (10 ∷ [])
    ∷ plainly_placed 9 177 0
    ∷ plainly_placed 10 177 0
    ∷ [])

abbrev pub two_branch_graph : Graph
two_branch_graph = graph_of (
    step 0 0 (3 ∷ [])
    ∷ step 3 1 (6 ∷ [])
    ∷ step 6 2 (9 ∷ 10 ∷ [])
    ∷ step 9 0 []
    ∷ step 10 0 []
    ∷ [])

abbrev pub string_branch_code : Code
string_branch_code = code_of 2 0 (
    plainly_placed 0 18 25
    ∷ plainly_placed 2 18 25
    ∷ instruction_with 4 165 0 0 (8 ∷ [])
    ∷ plainly_placed 7 177 0
    ∷ plainly_placed 8 177 0
    ∷ [])

abbrev pub string_branch_graph : Graph
string_branch_graph = graph_of (
    step 0 0 (2 ∷ [])
    ∷ step 2 1 (4 ∷ [])
    ∷ step 4 2 (7 ∷ 8 ∷ [])
    ∷ step 7 0 []
    ∷ step 8 0 []
    ∷ [])

abbrev pub array_cast_code : Code
array_cast_code = code_of 1 0 (
    plainly_placed 0 4 0
    ∷ plainly_placed 1 189 10
    ∷ plainly_placed 4 192 31
    ∷ plainly_placed 7 87 0
    ∷ plainly_placed 8 177 0
    ∷ [])

abbrev pub array_cast_graph : Graph
array_cast_graph = graph_of (
    step 0 0 (1 ∷ [])
    ∷ step 1 1 (4 ∷ [])
    ∷ step 4 1 (7 ∷ [])
    ∷ step 7 1 (8 ∷ [])
    ∷ step 8 0 []
    ∷ [])

abbrev pub shuffles_code : Code
shuffles_code = code_of 10 0 (
    plainly_placed 0 1 0
    ∷ plainly_placed 1 3 0
    ∷ plainly_placed 2 90 0
    ∷ plainly_placed 3 91 0
    ∷ plainly_placed 4 92 0
    ∷ plainly_placed 5 93 0
    ∷ plainly_placed 6 94 0
    ∷ plainly_placed 7 95 0
    ∷ plainly_placed 8 177 0
    ∷ [])

abbrev pub shuffles_graph : Graph
shuffles_graph = graph_of (
    step 0 0 (1 ∷ [])
    ∷ step 1 1 (2 ∷ [])
    ∷ step 2 2 (3 ∷ [])
    ∷ step 3 3 (4 ∷ [])
    ∷ step 4 4 (5 ∷ [])
    ∷ step 5 6 (6 ∷ [])
    ∷ step 6 8 (7 ∷ [])
    ∷ step 7 10 (8 ∷ [])
    ∷ step 8 10 []
    ∷ [])
