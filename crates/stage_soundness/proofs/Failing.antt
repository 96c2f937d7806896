-- A call of a described method that throws: its event, and then the exception.
use Rattle.std.proofs.Common.{ℕ}
use Rattle.jvm_model.specs.declared.site.Site.{Site}
use Rattle.op_model.specs.Supplies.{Given, GivenAs}
use Rattle.machine_bytecode.specs.Objects.{Subject}
use Rattle.machine_bytecode.specs.States.{State}
use Rattle.machine_nodes.specs.NodeSteps.{AtNode, GetsException}
use Rattle.points_to_rules.specs.Facts.{Fact}
use Rattle.stage_facts.specs.Values.{field_in}
use Rattle.stage_transfer.specs.Stages.{Transfer}
use Rattle.stage_edges.specs.Rules.{Edge}
use Rattle.stage_steps.specs.Said.{IsTracked}
use Rattle.stage_steps.proofs.Described.{exception_says}
use Rattle.stage_soundness.proofs.Known.{Described, IsKnown, not_thrown, Premises, tracked_in}
use Rattle.stage_soundness.proofs.Running.{call_says}
use Rattle.stage_soundness.proofs.Thrown.{gets_exception_good}

module _ (x : Subject) (given : Given) (gives : GivenAs) (S : Fact → Type 0) (s : Site) (t : Transfer) (E : Edge → Type 0) (k : Premises x given gives S s t E) where
  pub described_throws_good : (state after : State) (at : AtNode x given state) → GetsException x given state after at → IsKnown x given gives S state → (place : ℕ)
      → IsTracked s place after.world.heap → Described x given gives S s t E k place state → Described x given gives S s t E k place after
  described_throws_good state after at a known place tracked d =
      let f = at.frame in
      let n = at.now.node in
      let is = call_says x given gives S s t E k state at a.calls place a.throws.called.method a.throws.called.stands known d in
      let h = is.stands in
      let e = exception_says x S s t k.laws place h.lowered n a.calls.call a.calls.target f is.results.fact a.calls.world a.world a.thrown f.slots h.variables
      (h.equal (known.alike at.runs f at.below at.frames)) a.calls.is_call (not_thrown x given gives S s t E k) a.throws
      (tracked_in x given gives S s t E k after _ place a.after tracked) is.results.says in
      gets_exception_good x given gives S s t E k state after at a place h is.results is.goes (λ g q. is.quiet.same (field_in g) q)
      (record { stub = e.stub; parameters = e.parameters; is_stub = e.is_stub; class = e.class; listed = e.listed; stands = e.stands; results = e.results })
