-- Both machines step together, between the same states (`goes`); the node is `_`, found by `refl`.
-- Slots of known lists by a test: `moves_to`, `leaves`, `reads_alike`, `catches_with` (Slots.antt).
-- Nodes by hand are those of the rules by `node_is`: row, lowest slot and operation; the rest is `refl`.
-- Nodes raise classes of the program alone: programs that raise have those classes at their end.
mod Slots
mod Steps
mod StartNodes
mod CallSteps
mod WithinRuns
mod CallRuns
mod ExceptionRuns
mod InitialiserRuns
mod RaiseRuns
mod ReturnRuns
mod WithinTests
mod ComparedRuns
mod ResultRuns
mod TriggerRuns
mod MoveLists
mod NodesOf
mod LoweredRuns
mod LoweredCalls
mod LoweredThrows
mod LoweredTests
mod LoweredCompared
mod LoweredResults
mod LoweredTriggers
mod LoweredErrors
