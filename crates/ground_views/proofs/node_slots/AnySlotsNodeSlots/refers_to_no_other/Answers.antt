use Rattle.std.proofs.Common.{subst}
use Rattle.ground_views.specs.declared.node_slots.AnySlots.{AnySlots}
use Rattle.ground_views.specs.Known.{KnownOf}
use Rattle.ground_views.proofs.node_slots.AnySlotsNodeSlots.refers_to_no_other.Goals as goal

pub returns-in-Method : goal.returns-in-Method
returns-in-Method c = λ w l n known. c.refers_to_no_other.ensures w l n (subst (λ (s : AnySlots). KnownOf s w l n) c.in-Method.is known)

pub returns-in-Start : goal.returns-in-Start
returns-in-Start c = λ w l n known. c.refers_to_no_other-in-Start.ensures w l n (subst (λ (s : AnySlots). KnownOf s w l n) c.in-Start.is known)
