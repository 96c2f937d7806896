-- After a call, in the frame that waited.
use Rattle.std.proofs.Common.{◌≡◌, ◌≢◌, ◌⊎◌, inl, inr, ℕ, List, [], Some, refl, sym, ◌∙◌}
use Rattle.list_laws.proofs.Members.{contains_none}
use Rattle.jvm_model.specs.declared.site.Site.{Site}
use Rattle.op_model.specs.declared.lowered.LoweredMethod.{LoweredMethod}
use Rattle.op_model.specs.declared.node.Node.{Node}
use Rattle.op_model.specs.declared.op.Call.{Call as NodeCall}
use Rattle.op_model.specs.declared.op.Op.TheVariants.{Call, New, Throw}
use Rattle.machine_bytecode.specs.Objects.{Subject}
use Rattle.machine_bytecode.specs.States.{Value, reference_to, World, slot_at}
use Rattle.machine_nodes.specs.Slots.{AreLeft}
use Rattle.points_to_rules.specs.Facts.{Fact}
use Rattle.access_paths.specs.declared.root.Root.{Root}
use Rattle.access_paths.specs.declared.root.Root.TheVariants.{Slot, Static, Returned, Thrown}
use Rattle.stage_facts.specs.Facts.{SiteFact, Says}
use Rattle.stage_facts.specs.Values.{of_result, of_slots, root_value}
use Rattle.stage_transfer.specs.Calls.{by_call}
use Rattle.stage_transfer.specs.Stages.{Transfer}
use Rattle.stage_relations.specs.Roots.{Doubles, HasVariables, Received, StaysIn}
use Rattle.stage_relations.specs.Laws.{IsStage}
use Rattle.stage_steps.specs.Said.{AgreeOnPlaces, Results}
use Rattle.stage_steps.proofs.Sites.{some_or_not}
use Rattle.stage_steps.proofs.Calm.{From, doubled_value, moved_says}

received_value : (c : NodeCall) (v : Value) (w : World) (slots left : List Value) → AreLeft [] c.result v slots left → {r q : Root} → Received c r q
    → root_value w (of_slots left) q ≡ root_value w (of_result slots v) r
received_value c v w slots left are_left (Received.result {z = z} e) = are_left.given z e
received_value c v w slots left are_left (Received.kept {z = z} aside) = are_left.kept z (contains_none z) aside.no_result
received_value c v w slots left are_left Received.static = refl
received_value c v w slots left are_left Received.thrown = refl

received_from : (c : NodeCall) (v : Value) (o : ℕ) (w : World) (slots left : List Value) → AreLeft [] c.result v slots left
    → ((z place : ℕ) → slot_at slots z ≡ reference_to place → StaysIn (by_call c) z) → (q : Root) → root_value w (of_slots left) q ≡ reference_to o
    → From (Received c) w (of_result slots v) o q
received_from c v o w slots left are_left cleared (Static f) is = record { root = Static f; goes = Received.static; is = is }
received_from c v o w slots left are_left cleared Returned is = absurd (cc is)
received_from c v o w slots left are_left cleared Thrown is = absurd (cc is)
received_from c v o w slots left are_left cleared (Slot z) is = by (some_or_not c.result z)
  where
    by : (c.result ≡ Some z) ⊎ (c.result ≢ Some z) → From (Received c) w (of_result slots v) o (Slot z)
    by (inl e) = record { root = Returned; goes = Received.result e; is = sym (are_left.given z e) ∙ is }
    by (inr apart) =
        let before : slot_at slots z ≡ reference_to o = sym (are_left.kept z (contains_none z) apart) ∙ is in
        record {
          root = Slot z;
          goes = Received.kept (record { no_argument = cleared z o before; no_result = apart });
          is = before;
        }

module _ (x : Subject) (S : Fact → Type 0) (s : Site) (t : Transfer) (laws : IsStage x S s t) (o : ℕ) where
  pub receive_says : (l : LoweredMethod) (n : Node) (c : NodeCall) (v : Value) (f : SiteFact) (w : World) (slots left : List Value) → HasVariables l n → AgreeOnPlaces l n slots
      → n.op ≡ Call c → AreLeft [] c.result v slots left → ((z place : ℕ) → slot_at slots z ≡ reference_to place → StaysIn (by_call c) z)
      → Says s f o w (of_result slots v) → Results (t.next l n f) (λ g. Says s g o w (of_slots left))
  receive_says l n c v f w slots left variables agree op_is are_left cleared says =
      moved_says s o w (of_result slots v) (of_slots left) (Received c) (Doubles l n (Received c)) (t.next l n)
      (λ g idle. laws.next_idle l n g idle (λ z e. no_throw z (sym op_is ∙ e)) (λ target e. no_new target (sym op_is ∙ e))) (λ u. laws.receive l n c u variables op_is)
      (λ r q goes. same goes) (received_from c v o w slots left are_left cleared)
      (doubled_value o w w (of_result slots v) (of_slots left) l n (Received c) (λ r q goes. same goes) agree) f says
    where
      same : {r q : Root} → Received c r q → root_value w (of_slots left) q ≡ root_value w (of_result slots v) r
      same goes = received_value c v w slots left are_left goes

      no_throw : (z : ℕ) → Call c ≢ Throw z
      no_throw z e = cc e

      no_new : (target : ℕ) → Call c ≢ New s target
      no_new target e = cc e
