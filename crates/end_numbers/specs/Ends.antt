-- Public contracts rest on this module.
-- The ends of path edges, each of which has a number.
use Rattle.std.specs.Prelude.{◌≡◌, List, [], ◌∷◌, ◌++◌, Option, Contains}
use Rattle.jvm_model.specs.declared.number.MethodNo.{MethodNo}
use Rattle.op_model.specs.declared.node.Spot.{Spot}
use Rattle.stage_facts.specs.Facts.{SiteFact}
use Rattle.stage_facts.specs.Plain.{fact_of}
use Rattle.end_numbers.specs.declared.path_end.PathEnd.{PathEnd}

-- A spot of a method, or of the start of the program where there is no method; and a fact that holds there.
pub record End : Type 0 where
  pub method : Option MethodNo
  pub spot : Spot
  pub fact : SiteFact

-- The end with these parts.
abbrev pub end : Option MethodNo → Spot → SiteFact → End
end method spot fact = record { method = method; spot = spot; fact = fact }

-- The end that a value stands for.
abbrev pub end_of : PathEnd → End
end_of e = end e.method e.spot (fact_of e.fact)

-- An end got a number: it had one, and nothing has changed; or it had none, and is the last one now.
pub data IsNumbered (old new : List End) (e : End) : Type 0 where
  was_held : Contains old e → new ≡ old → IsNumbered old new e
  is_added : (Contains old e → ⊥) → new ≡ old ++ e ∷ [] → IsNumbered old new e
