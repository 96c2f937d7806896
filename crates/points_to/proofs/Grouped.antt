-- Lists by number: one list more, and one value more.
use Rattle.std.proofs.Common.{◌≡◌, zero, suc, List, [], ◌∷◌, ◌++◌, refl, ◌∙◌}
use Rattle.std.specs.declared.vec.Vec.{Vec}
use Rattle.std.specs.declared.alloc.Global.{Global}
use Rattle.grouped_lists.specs.Groups.{IsSame}

-- an empty list more
same_pushed : {V : Type 0} (groups : List (Vec V Global)) (group : Vec V Global) → group.items ≡ [] → IsSame groups (groups ++ group ∷ [])
same_pushed [] group none zero = none
same_pushed [] group none (suc q) = refl
same_pushed (g ∷ groups) group none zero = refl
same_pushed (g ∷ groups) group none (suc q) = same_pushed groups group none q

pub same_on : {V : Type 0} (old mid new : List (Vec V Global)) → IsSame old mid → IsSame mid new → IsSame old new
same_on old mid new first second q = second q ∙ first q
