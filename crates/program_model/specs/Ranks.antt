-- Public contracts rest on this module.
-- What bounds each walk upward: ranks of names, which fall from each class to its direct supertypes.
use Rattle.std.specs.Prelude.{ℕ, ◌<◌, List, length, Contains}
use Rattle.jvm_model.specs.Programs.{Class, Program}
use Rattle.jvm_model.specs.Subtypes.{IsDirectSuper}

pub record IsRanked (p : Program) : Type 0 where
  pub rank : List ℕ → ℕ
  pub falls : (c : Class) (name : List ℕ) → Contains p.classes c → IsDirectSuper c name → rank name < rank c.name
  pub few : (c : Class) → Contains p.classes c → rank c.name < length p.classes
