-- What the edges say where the program's start has returned from its call of the entry.
use Rattle.std.proofs.Common.{ℕ, List, [], ◌∷◌, None, Contains, sym, subst}
use Rattle.list_laws.proofs.Members.{contains_first, contains_later}
use Rattle.jvm_model.specs.declared.site.Site.{Site}
use Rattle.op_model.specs.declared.node.Node.{Node}
use Rattle.op_model.specs.Supplies.{Given, GivenAs}
use Rattle.machine_bytecode.specs.Machine.{AtStart}
use Rattle.machine_bytecode.specs.Objects.{Subject}
use Rattle.machine_bytecode.specs.States.{State}
use Rattle.points_to_rules.specs.Facts.{Fact}
use Rattle.stage_transfer.specs.Stages.{Transfer}
use Rattle.stage_edges.specs.Rules.{Edge}
use Rattle.stage_soundness.specs.Describing.{EndsAt, HasReturned}
use Rattle.stage_soundness.proofs.Known.{Described, Premises}
use Rattle.stage_soundness.proofs.Returning.{exits, last_edge}
use Rattle.stage_soundness.proofs.Standing.{stands_at_start}

module _ (x : Subject) (given : Given) (gives : GivenAs) (S : Fact → Type 0) (s : Site) (t : Transfer) (E : Edge → Type 0) (k : Premises x given gives S s t E) where
  pub ends_at : (state : State) → HasReturned state → (place : ℕ) → Described x given gives S s t E k place state → EndsAt s E state.world place
  ends_at state end place d =
      let f = end.frame in
      let n = k.start.1.return in
      let there : Contains k.start.0 n = subst (λ (ns : List Node). Contains ns n) (sym k.start.1.is) (contains_later k.start.1.call n (n ∷ []) (contains_first n [])) in
      let at : AtStart state 1 = record { frame = f; below = end.below; runs = end.runs; frames = end.frames; no_method = end.no_method; stands = end.stands } in
      let h = stands_at_start x given gives S s t E k state 1 at n there k.start.1.is_return.offset place d in
      let e = exits x given gives S s t E k state.world place f end.below n None k.start.1.is_return.op h in
      record { fact = e.fact; held = last_edge x given gives S s t E k state.world place f end.below None e end.no_method; says = e.says }
