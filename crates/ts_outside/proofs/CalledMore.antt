-- Calls of a tree one after the other. The crates above cite it.
use Rattle.std.proofs.Common.{◌≡◌, List, ◌++◌, Option, Some, None, option_map, ◌∙◌, ap, append_assoc}
use Rattle.ts_outside.specs.Calls.{Called, Calls}

-- What came after the old calls, and what came after that.
pub calls_more : (old now new : Option (List Called)) (first more : List Called) → Calls old now first → Calls now new more → Calls old new (first ++ more)
calls_more None now new first more before after = after ∙ ap (option_map (λ (calls : List Called). calls ++ more)) before
calls_more (Some calls) now new first more before after =
    after ∙ (ap (option_map (λ (calls : List Called). calls ++ more)) before ∙ ap Some (append_assoc calls first more))
