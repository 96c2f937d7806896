-- Where a method is entered.
use Rattle.std.proofs.Common.{◌≡◌, ℕ, List, refl}
use Rattle.jvm_model.specs.declared.site.Site.{Site}
use Rattle.machine_bytecode.specs.Objects.{Subject}
use Rattle.machine_bytecode.specs.States.{Value, reference_to, World}
use Rattle.points_to_rules.specs.Facts.{Fact}
use Rattle.access_paths.specs.declared.root.Root.{Root}
use Rattle.access_paths.specs.declared.root.Root.TheVariants.{Slot, Static, Returned, Thrown}
use Rattle.stage_facts.specs.Facts.{SiteFact, Says}
use Rattle.stage_facts.specs.Values.{of_slots, root_value}
use Rattle.stage_transfer.specs.Calls.{Entering}
use Rattle.stage_transfer.specs.Stages.{Transfer}
use Rattle.stage_relations.specs.Roots.{Entered}
use Rattle.stage_relations.specs.Laws.{IsStage}
use Rattle.stage_steps.specs.Said.{BeginsWith}
use Rattle.stage_steps.proofs.Calm.{From, entered_says}

-- the slot of an argument's unit has its value
entered_value : (by : Entering) (o : ℕ) (w : World) (old locals : List Value) → BeginsWith by old locals o → {r q : Root} → Entered by r q
    → root_value w (of_slots locals) q ≡ root_value w (of_slots old) r
entered_value by o w old locals begins (Entered.argument {c = c} {unit = unit} {z = z} by_is at) = begins.given c unit z by_is at
entered_value by o w old locals begins Entered.static = refl

entered_from : (by : Entering) (o : ℕ) (w : World) (old locals : List Value) → BeginsWith by old locals o → (q : Root) → root_value w (of_slots locals) q ≡ reference_to o
    → From (Entered by) w (of_slots old) o q
entered_from by o w old locals begins (Slot unit) is = let p = begins.others unit is in record { root = Slot p.slot; goes = Entered.argument p.by_is p.argument; is = p.is }
entered_from by o w old locals begins (Static f) is = record { root = Static f; goes = Entered.static; is = is }
entered_from by o w old locals begins Returned is = absurd (cc is)
entered_from by o w old locals begins Thrown is = absurd (cc is)

module _ (x : Subject) (S : Fact → Type 0) (s : Site) (t : Transfer) (laws : IsStage x S s t) (o : ℕ) where
  pub enter_says : (by : Entering) (f : SiteFact) (w : World) (old locals : List Value) → BeginsWith by old locals o → Says s f o w (of_slots old)
      → Says s (t.enter by f) o w (of_slots locals)
  enter_says by f w old locals begins says =
      entered_says s o w (of_slots old) (of_slots locals) (Entered by) (t.enter by) (laws.enter_idle by) (laws.enter by) (λ r q goes. entered_value by o w old locals begins goes)
      (entered_from by o w old locals begins) f says
