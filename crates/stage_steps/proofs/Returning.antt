-- Where a method returns.
use Rattle.std.proofs.Common.{◌≡◌, ◌≢◌, ℕ, List, Option, Some, None, refl, sym, ◌∙◌, ap}
use Rattle.jvm_model.specs.declared.site.Site.{Site}
use Rattle.op_model.specs.declared.lowered.LoweredMethod.{LoweredMethod}
use Rattle.op_model.specs.declared.node.Node.{Node}
use Rattle.op_model.specs.declared.op.Op.TheVariants.{New, Return, Throw}
use Rattle.machine_bytecode.specs.Objects.{Subject}
use Rattle.machine_bytecode.specs.States.{Value, reference_to, World}
use Rattle.machine_nodes.specs.Slots.{returned_value}
use Rattle.points_to_rules.specs.Facts.{Fact}
use Rattle.access_paths.specs.declared.root.Root.{Root}
use Rattle.access_paths.specs.declared.root.Root.TheVariants.{Slot, Static, Returned, Thrown}
use Rattle.stage_facts.specs.Facts.{SiteFact, Says}
use Rattle.stage_facts.specs.Values.{of_slots, of_return, root_value}
use Rattle.stage_transfer.specs.Stages.{Transfer}
use Rattle.stage_relations.specs.Roots.{Exited}
use Rattle.stage_relations.specs.Laws.{IsStage}
use Rattle.stage_steps.specs.Said.{Results}
use Rattle.stage_steps.proofs.Calm.{From, goes_agree, moved_says}

exited_value : (w : World) (value : Option ℕ) (slots : List Value) {r q : Root} → Exited value r q
    → root_value w (of_return (returned_value value slots)) q ≡ root_value w (of_slots slots) r
exited_value w value slots (Exited.value e) = ap (λ (v : Option ℕ). returned_value v slots) e
exited_value w value slots Exited.static = refl
exited_value w value slots Exited.thrown = refl

exited_from : (o : ℕ) (w : World) (value : Option ℕ) (slots : List Value) (q : Root) → root_value w (of_return (returned_value value slots)) q ≡ reference_to o
    → From (Exited value) w (of_slots slots) o q
exited_from o w value slots (Slot z) is = absurd (cc is)
exited_from o w value slots (Static f) is = record { root = Static f; goes = Exited.static; is = is }
exited_from o w value slots Thrown is = absurd (cc is)
exited_from o w None slots Returned is = absurd (cc is)
exited_from o w (Some z) slots Returned is = record { root = Slot z; goes = Exited.value refl; is = is }

module _ (x : Subject) (S : Fact → Type 0) (s : Site) (t : Transfer) (laws : IsStage x S s t) (o : ℕ) where
  pub return_says : (l : LoweredMethod) (n : Node) (value : Option ℕ) (f : SiteFact) (w : World) (slots : List Value) → n.op ≡ Return value → Says s f o w (of_slots slots)
      → Results (t.next l n f) (λ g. Says s g o w (of_return (returned_value value slots)))
  return_says l n value f w slots op_is says =
      moved_says s o w (of_slots slots) (of_return (returned_value value slots)) (Exited value) (Exited value) (t.next l n)
      (λ g idle. laws.next_idle l n g idle (λ z e. no_throw z (sym op_is ∙ e)) (λ target e. no_new target (sym op_is ∙ e))) (λ u. laws.return l n value u op_is)
      (λ r q goes. same goes) (exited_from o w value slots) (goes_agree o w w (of_slots slots) (of_return (returned_value value slots)) (Exited value) (λ r q goes. same goes)) f says
    where
      same : {r q : Root} → Exited value r q → root_value w (of_return (returned_value value slots)) q ≡ root_value w (of_slots slots) r
      same goes = exited_value w value slots goes

      no_throw : (z : ℕ) → Return value ≢ Throw z
      no_throw z e = cc e

      no_new : (target : ℕ) → Return value ≢ New s target
      no_new target e = cc e
