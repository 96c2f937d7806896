use Rattle.std.proofs.Common.{◌≡◌, ◌-◌, ◌<◌, ◌≤◌, length, take}
use Rattle.program_index.proofs.text_index.TextIndex.truncate.Given as goal

-- the first texts are left, one fewer for each turn
abbrev pub invariant-loop-dropped : goal.invariant-loop-dropped
invariant-loop-dropped l = record {
  from : l.len ≤ l.dropped;
  until : l.len < l.dropped → l.dropped ≤ length l.fn.self;
  left : l.self ≡ take (length l.fn.self - (l.dropped - l.len)) l.fn.self;
}
