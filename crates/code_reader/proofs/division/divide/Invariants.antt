use Rattle.std.proofs.Common.{◌≡◌, ℕ, ◌-◌, ◌≤◌, false, length, get_or}
use Rattle.code_reader.specs.Division.{starts}
use Rattle.code_reader.proofs.Divided.{GoesBefore}
use Rattle.code_reader.proofs.division.divide.Given as goal

abbrev pub decreases-loop-offset : goal.decreases-loop-offset
decreases-loop-offset l = length l.code - l.offset

abbrev pub invariant-loop-offset : goal.invariant-loop-offset
invariant-loop-offset l =
    (l.offset ≤ length l.code) × (length l.starts.items ≡ length l.code) × GoesBefore l.pool l.code l.offset l.spots.items
    × ((t : ℕ) → get_or l.starts.items t false ≡ starts l.spots.items t)
