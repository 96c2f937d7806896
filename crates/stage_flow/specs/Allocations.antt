-- This crate's own proofs alone rest on this module.
-- What an allocation does, and what is put into an array.
use Rattle.std.specs.Prelude.{ℕ, [], ◌∷◌, List, Some, if◌then◌else◌}
use Rattle.jvm_model.specs.declared.site.Site.{Site}
use Rattle.op_model.specs.declared.lowered.LoweredMethod.{LoweredMethod}
use Rattle.op_model.specs.declared.node.Node.{Node}
use Rattle.stage_facts.specs.Facts.{SiteFact, Tuple}
use Rattle.stage_transfer.specs.Settings.{Setting, same_site}
use Rattle.stage_transfer.specs.Changes.{changed, writing}
use Rattle.stage_transfer.specs.Operations.{after_new, on_tuples, puts_away}

-- An object of the site that facts are about, or another one, is allocated for a slot.
abbrev pub allocated : Setting → LoweredMethod → Node → Site → (target : ℕ) → SiteFact → List SiteFact
allocated w l n site target fact =
    if same_site site w.site
    then after_new w (Some target) (changed (writing w l n (target ∷ []))) fact
    else on_tuples (changed (writing w l n (target ∷ []))) fact

-- A value is put into an array.
abbrev pub put_into : Setting → LoweredMethod → Node → (array value : ℕ) → Tuple → Tuple
put_into w l n array value t = changed (writing w l n (array ∷ value ∷ [])) (puts_away (value ∷ []) t)
