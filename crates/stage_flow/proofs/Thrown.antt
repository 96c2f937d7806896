-- Where an object is thrown, the way's change is made.
use Rattle.std.proofs.Common.{◌≡◌, ℕ, List, Option, Some, None, refl}
use Rattle.op_model.specs.declared.lowered.LoweredMethod.{LoweredMethod}
use Rattle.op_model.specs.declared.node.Node.{Node}
use Rattle.stage_facts.specs.Facts.{SiteFact, Tuple, none_yet, some_yet, of_object}
use Rattle.stage_transfer.specs.Calls.{after_exception}
use Rattle.stage_transfer.specs.Changes.{changed}
use Rattle.stage_transfer.specs.Exceptions.{after_raise}
use Rattle.stage_transfer.specs.Operations.{on_tuples, puts_away}
use Rattle.stage_transfer.specs.Settings.{Setting}
use Rattle.stage_flow.specs.Shapes.{leaving_by}

pub raised : (w : Setting) (l : LoweredMethod) (n : Node) (handler : Option ℕ) (fact : SiteFact)
    → on_tuples (changed (leaving_by w l n n.op handler)) fact ≡ after_raise w l n handler fact
raised w l n None fact = refl
raised w l n (Some handler) fact = refl

pub raised_keeping : (w : Setting) (l : LoweredMethod) (n : Node) (kept : List ℕ) (handler : Option ℕ) (fact : SiteFact)
    → on_tuples (λ (t : Tuple). changed (leaving_by w l n n.op handler) (puts_away kept t)) fact ≡ after_exception w l n kept handler fact
raised_keeping w l n kept None none_yet = refl
raised_keeping w l n kept None some_yet = refl
raised_keeping w l n kept None (of_object t) = refl
raised_keeping w l n kept (Some handler) none_yet = refl
raised_keeping w l n kept (Some handler) some_yet = refl
raised_keeping w l n kept (Some handler) (of_object t) = refl
