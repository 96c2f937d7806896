-- Public contracts rest on this module.
-- What 32 bits can number.
use Rattle.std.specs.Prelude.{◌+◌, ◌≤◌, ◌^◌, List, length}
use Rattle.program_index.specs.declared.index_failure.TooMany.{TooMany}

-- There are 2^32 - 1 items or more, so that one more has no number.
abbrev pub AreTooMany : {X : Type 0} → List X → Type 0
AreTooMany xs = 2 ^ 32 ≤ length xs + 1

-- The cause that names this.
abbrev pub too_many : TooMany
too_many = record {}
