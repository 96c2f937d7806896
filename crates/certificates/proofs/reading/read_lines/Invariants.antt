use Rattle.std.proofs.Common.{◌≡◌, ◌++◌, ◌+◌, length}
use Rattle.certificates.specs.Format.{AreGood, count_of}
use Rattle.certificates.specs.Texts.{text}
use Rattle.certificates.proofs.reading.read_lines.Given as goal

-- the bytes begin with the good lines that were read, and these are counted
abbrev pub invariant-loop-rest : goal.invariant-loop-rest
invariant-loop-rest l = record {
  good : AreGood l.ranges l.lines.items;
  begins : l.bytes ≡ text l.lines.items ++ l.rest;
  number : l.number ≡ length l.lines.items + 1;
  states : l.counts.states ≡ count_of 2 l.lines.items;
  events : l.counts.events ≡ count_of 5 l.lines.items;
}

abbrev pub decreases-loop-rest : goal.decreases-loop-rest
decreases-loop-rest l = length l.rest
