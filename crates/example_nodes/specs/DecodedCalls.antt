-- Public contracts rest on this module.
-- The code and the graph of methods with calls, and of those that may start initialisers.
use Rattle.std.specs.Prelude.{[], ◌∷◌}
use Rattle.jvm_model.specs.declared.code.Code.{Code}
use Rattle.flow_graph.specs.declared.steps.Graph.{Graph}
use Rattle.example_machine.specs.Building.{handler}
use Rattle.example_nodes.specs.Decoded.{plainly_placed, code_of, code_with, step, step_with, graph_of}

abbrev pub gets_same_code : Code
gets_same_code = code_of 1 0 (
    plainly_placed 0 178 32
    ∷ plainly_placed 3 184 45
    ∷ plainly_placed 6 87 0
    ∷ plainly_placed 7 177 0
    ∷ [])

abbrev pub gets_same_graph : Graph
gets_same_graph = graph_of (
    step 0 0 (3 ∷ [])
    ∷ step 3 1 (6 ∷ [])
    ∷ step 6 1 (7 ∷ [])
    ∷ step 7 0 []
    ∷ [])

abbrev pub closes_code : Code
closes_code = code_of 1 0 (
    plainly_placed 0 178 32
    ∷ plainly_placed 3 182 16
    ∷ plainly_placed 6 178 32
    ∷ plainly_placed 9 182 16
    ∷ plainly_placed 12 177 0
    ∷ [])

abbrev pub closes_graph : Graph
closes_graph = graph_of (
    step 0 0 (3 ∷ [])
    ∷ step 3 1 (6 ∷ [])
    ∷ step 6 0 (9 ∷ [])
    ∷ step 9 1 (12 ∷ [])
    ∷ step 12 0 []
    ∷ [])

abbrev pub shuts_code : Code
shuts_code = code_of 1 0 (
    plainly_placed 0 178 32
    ∷ plainly_placed 3 185 22
    ∷ plainly_placed 8 177 0
    ∷ [])

abbrev pub shuts_graph : Graph
shuts_graph = graph_of (
    step 0 0 (3 ∷ [])
    ∷ step 3 1 (8 ∷ [])
    ∷ step 8 0 []
    ∷ [])

abbrev pub gate_close_code : Code
gate_close_code = code_of 1 1 (
    plainly_placed 0 42 0
    ∷ plainly_placed 1 183 9
    ∷ plainly_placed 4 177 0
    ∷ [])

abbrev pub gate_close_graph : Graph
gate_close_graph = graph_of (
    step 0 0 (1 ∷ [])
    ∷ step 1 1 (4 ∷ [])
    ∷ step 4 0 []
    ∷ [])

abbrev pub hashes_code : Code
hashes_code = code_of 1 0 (
    plainly_placed 0 4 0
    ∷ plainly_placed 1 188 10
    ∷ plainly_placed 3 182 26
    ∷ plainly_placed 6 87 0
    ∷ plainly_placed 7 177 0
    ∷ [])

abbrev pub hashes_graph : Graph
hashes_graph = graph_of (
    step 0 0 (1 ∷ [])
    ∷ step 1 1 (3 ∷ [])
    ∷ step 3 1 (6 ∷ [])
    ∷ step 6 1 (7 ∷ [])
    ∷ step 7 0 []
    ∷ [])

abbrev pub rings_code : Code
rings_code = code_of 0 0 (
    plainly_placed 0 184 38
    ∷ plainly_placed 3 177 0
    ∷ [])

abbrev pub rings_graph : Graph
rings_graph = graph_of (
    step 0 0 (3 ∷ [])
    ∷ step 3 0 []
    ∷ [])

abbrev pub keeps_code : Code
keeps_code = code_of 1 0 (
    plainly_placed 0 178 32
    ∷ plainly_placed 3 184 52
    ∷ plainly_placed 6 184 55
    ∷ plainly_placed 9 87 0
    ∷ plainly_placed 10 177 0
    ∷ [])

abbrev pub keeps_graph : Graph
keeps_graph = graph_of (
    step 0 0 (3 ∷ [])
    ∷ step 3 1 (6 ∷ [])
    ∷ step 6 0 (9 ∷ [])
    ∷ step 9 1 (10 ∷ [])
    ∷ step 10 0 []
    ∷ [])

abbrev pub fails_code : Code
fails_code = code_with 1 0 (
    plainly_placed 0 184 58
    ∷ plainly_placed 3 177 0
    ∷ plainly_placed 4 87 0
    ∷ plainly_placed 5 177 0
    ∷ []) (handler 0 3 4 60 ∷ [])

abbrev pub fails_graph : Graph
fails_graph = graph_of (
    step_with 0 0 (3 ∷ []) (0 ∷ [])
    ∷ step 3 0 []
    ∷ step 4 1 (5 ∷ [])
    ∷ step 5 0 []
    ∷ [])

abbrev pub closes_by_interface_code : Code
closes_by_interface_code = code_of 1 0 (
    plainly_placed 0 178 32
    ∷ plainly_placed 3 185 19
    ∷ plainly_placed 8 177 0
    ∷ [])

abbrev pub closes_by_interface_graph : Graph
closes_by_interface_graph = graph_of (
    step 0 0 (3 ∷ [])
    ∷ step 3 1 (8 ∷ [])
    ∷ step 8 0 []
    ∷ [])

abbrev pub gets_none_code : Code
gets_none_code = code_of 1 0 (
    plainly_placed 0 184 42
    ∷ plainly_placed 3 87 0
    ∷ plainly_placed 4 177 0
    ∷ [])

abbrev pub gets_none_graph : Graph
gets_none_graph = graph_of (
    step 0 0 (3 ∷ [])
    ∷ step 3 1 (4 ∷ [])
    ∷ step 4 0 []
    ∷ [])

abbrev pub gets_fresh_code : Code
gets_fresh_code = code_of 1 0 (
    plainly_placed 0 184 48
    ∷ plainly_placed 3 87 0
    ∷ plainly_placed 4 177 0
    ∷ [])

abbrev pub gets_fresh_graph : Graph
gets_fresh_graph = graph_of (
    step 0 0 (3 ∷ [])
    ∷ step 3 1 (4 ∷ [])
    ∷ step 4 0 []
    ∷ [])

abbrev pub calls_same_code : Code
calls_same_code = code_of 1 0 (
    plainly_placed 0 4 0
    ∷ plainly_placed 1 184 11
    ∷ plainly_placed 4 87 0
    ∷ plainly_placed 5 177 0
    ∷ [])

abbrev pub calls_same_graph : Graph
calls_same_graph = graph_of (
    step 0 0 (1 ∷ [])
    ∷ step 1 1 (4 ∷ [])
    ∷ step 4 1 (5 ∷ [])
    ∷ step 5 0 []
    ∷ [])

abbrev pub same_code : Code
same_code = code_of 1 1 (
    plainly_placed 0 26 0
    ∷ plainly_placed 1 172 0
    ∷ [])

abbrev pub same_graph : Graph
same_graph = graph_of (
    step 0 0 (1 ∷ [])
    ∷ step 1 1 []
    ∷ [])

abbrev pub door_close_code : Code
door_close_code = code_of 0 1 (
    plainly_placed 0 177 0
    ∷ [])

abbrev pub door_close_graph : Graph
door_close_graph = graph_of (
    step 0 0 []
    ∷ [])

abbrev pub makes_ready_code : Code
makes_ready_code = code_of 1 0 (
    plainly_placed 0 187 10
    ∷ plainly_placed 3 87 0
    ∷ plainly_placed 4 177 0
    ∷ [])

abbrev pub makes_ready_graph : Graph
makes_ready_graph = graph_of (
    step 0 0 (3 ∷ [])
    ∷ step 3 1 (4 ∷ [])
    ∷ step 4 0 []
    ∷ [])

abbrev pub makes_late_code : Code
makes_late_code = code_of 1 0 (
    plainly_placed 0 187 21
    ∷ plainly_placed 3 87 0
    ∷ plainly_placed 4 177 0
    ∷ [])

abbrev pub makes_late_graph : Graph
makes_late_graph = graph_of (
    step 0 0 (3 ∷ [])
    ∷ step 3 1 (4 ∷ [])
    ∷ step 4 0 []
    ∷ [])

abbrev pub reads_ready_code : Code
reads_ready_code = code_of 1 0 (
    plainly_placed 0 178 19
    ∷ plainly_placed 3 87 0
    ∷ plainly_placed 4 177 0
    ∷ [])

abbrev pub reads_ready_graph : Graph
reads_ready_graph = graph_of (
    step 0 0 (3 ∷ [])
    ∷ step 3 1 (4 ∷ [])
    ∷ step 4 0 []
    ∷ [])

abbrev pub makes_table_code : Code
makes_table_code = code_of 1 0 (
    plainly_placed 0 187 24
    ∷ plainly_placed 3 87 0
    ∷ plainly_placed 4 177 0
    ∷ [])

abbrev pub makes_table_graph : Graph
makes_table_graph = graph_of (
    step 0 0 (3 ∷ [])
    ∷ step 3 1 (4 ∷ [])
    ∷ step 4 0 []
    ∷ [])

abbrev pub writes_ready_code : Code
writes_ready_code = code_of 1 0 (
    plainly_placed 0 3 0
    ∷ plainly_placed 1 179 19
    ∷ plainly_placed 4 177 0
    ∷ [])

abbrev pub writes_ready_graph : Graph
writes_ready_graph = graph_of (
    step 0 0 (1 ∷ [])
    ∷ step 1 1 (4 ∷ [])
    ∷ step 4 0 []
    ∷ [])

abbrev pub breaks_code : Code
breaks_code = code_of 1 0 (
    plainly_placed 0 178 13
    ∷ plainly_placed 3 191 0
    ∷ [])

abbrev pub breaks_graph : Graph
breaks_graph = graph_of (
    step 0 0 (3 ∷ [])
    ∷ step 3 1 []
    ∷ [])

abbrev pub ready_starts_code : Code
ready_starts_code = code_of 0 1 (
    plainly_placed 0 177 0
    ∷ [])

abbrev pub ready_starts_graph : Graph
ready_starts_graph = graph_of (
    step 0 0 []
    ∷ [])

abbrev pub finds_code : Code
finds_code = code_of 1 0 (
    plainly_placed 0 184 11
    ∷ plainly_placed 3 87 0
    ∷ plainly_placed 4 177 0
    ∷ [])

abbrev pub finds_graph : Graph
finds_graph = graph_of (
    step 0 0 (3 ∷ [])
    ∷ step 3 1 (4 ∷ [])
    ∷ step 4 0 []
    ∷ [])

abbrev pub find_gate_code : Code
find_gate_code = code_of 1 0 (
    plainly_placed 0 178 17
    ∷ plainly_placed 3 176 0
    ∷ [])

abbrev pub find_gate_graph : Graph
find_gate_graph = graph_of (
    step 0 0 (3 ∷ [])
    ∷ step 3 1 []
    ∷ [])

abbrev pub makes_broken_code : Code
makes_broken_code = code_with 1 0 (
    plainly_placed 0 187 12
    ∷ plainly_placed 3 87 0
    ∷ plainly_placed 4 177 0
    ∷ plainly_placed 5 87 0
    ∷ plainly_placed 6 187 12
    ∷ plainly_placed 9 87 0
    ∷ plainly_placed 10 177 0
    ∷ []) (handler 0 3 5 0 ∷ [])

abbrev pub makes_broken_graph : Graph
makes_broken_graph = graph_of (
    step_with 0 0 (3 ∷ []) (0 ∷ [])
    ∷ step 3 1 (4 ∷ [])
    ∷ step 4 0 []
    ∷ step 5 1 (6 ∷ [])
    ∷ step 6 0 (9 ∷ [])
    ∷ step 9 1 (10 ∷ [])
    ∷ step 10 0 []
    ∷ [])
