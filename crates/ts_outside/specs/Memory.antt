-- Public contracts rest on this module.
-- What the trees and the sink in memory are: what they hold, which of their calls fail, and what they counted.
use Rattle.std.specs.Prelude.{ℕ, ◌-◌, Bool, ◌||◌, nat_eq, List, ◌++◌, length, take, if◌then◌else◌}
use Rattle.std.specs.List.{list_any}
use Rattle.ts_outside.specs.Counts.{raised}
use Rattle.ts_outside.specs.Files.{File}

-- The call of this number, counted from 0, is one of those that are to fail.
abbrev pub is_failing : List ℕ → ℕ → Bool
is_failing failing number = list_any (λ n. nat_eq n number) failing

-- A tree in memory: its files, the numbers of the calls that fail, and how many calls and faults there were.
pub record HeldTree : Type 0 where
  pub files : List File
  pub failing : List ℕ
  pub calls : ℕ
  pub faults : ℕ

-- The next call of the tree fails.
abbrev pub tree_fails : HeldTree → Bool
tree_fails tree = is_failing tree.failing tree.calls

-- The tree after a call: one more call is counted, and one more fault if the call failed.
abbrev pub tree_after : HeldTree → HeldTree
tree_after tree = record tree {
  calls = raised tree.calls 1;
  faults = if tree_fails tree then raised tree.faults 1 else tree.faults;
}

-- A sink in memory: the bytes taken, how many it has room for in all, the numbers of the calls that fail, and
-- how many calls and faults there were.
pub record HeldSink : Type 0 where
  pub bytes : List ℕ
  pub capacity : ℕ
  pub failing : List ℕ
  pub calls : ℕ
  pub faults : ℕ

-- How many more bytes the sink has room for.
abbrev pub room : HeldSink → ℕ
room sink = sink.capacity - length sink.bytes

-- The next call of the sink fails: it is one of those that are to fail, or the sink is full.
abbrev pub sink_fails : HeldSink → Bool
sink_fails sink = is_failing sink.failing sink.calls || nat_eq (room sink) 0

-- The sink after a call with this piece: one more call is counted; if the call failed, one more fault, and else
-- as many of the first bytes of the piece are taken as there is room for.
abbrev pub sink_after : HeldSink → List ℕ → HeldSink
sink_after sink piece = record sink {
  bytes = if sink_fails sink then sink.bytes else sink.bytes ++ take (room sink) piece;
  calls = raised sink.calls 1;
  faults = if sink_fails sink then raised sink.faults 1 else sink.faults;
}
