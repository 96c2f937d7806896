-- Public contracts rest on this module.
-- Counters that stop at their last value, and what it means that one of them rose in a call.
use Rattle.std.specs.Prelude.{ℕ, ◌+◌, ◌-◌, ◌^◌, ◌<◌, ◌≤◌, ◌⊎◌, min}

-- The last value of a counter of an object: that of a u64.
abbrev pub last_count : ℕ
last_count = 2 ^ 64 - 1

-- The counter stands at its last value, past which it cannot go.
abbrev pub StandsAtLast : ℕ → Type 0
StandsAtLast count = last_count ≤ count

-- The counter rose in a call: it is greater after the call than before, or it stands at its last value.
abbrev pub Rose : ℕ → ℕ → Type 0
Rose old new = (old < new) ⊎ StandsAtLast new

-- The counter after n more of what it counts: the sum, or its last value.
abbrev pub raised : ℕ → ℕ → ℕ
raised count n = min (count + n) last_count
