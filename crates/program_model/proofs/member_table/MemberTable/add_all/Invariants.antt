use Rattle.std.proofs.Common.{◌≡◌, ◌++◌, map, take}
use Rattle.program_model.specs.MemberLists.{key_in, places_in}
use Rattle.program_model.proofs.member_table.MemberTable.add_all.Given as goal

-- those at the first places are added
abbrev pub invariant-loop-place : goal.invariant-loop-place
invariant-loop-place g l = record {
  keys : l.self.index ≡ l.initial.self.index ++ map (key_in l.class.0) (take l.place (g.K.MemberKind.members l.origin));
  places : l.self.places.items ≡ l.initial.self.places.items ++ places_in l.class.0 l.place;
}
