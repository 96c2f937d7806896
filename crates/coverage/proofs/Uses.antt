-- What a covering set says of static fields that are loaded, of calls and of returns.
use Rattle.std.proofs.Common.{sym, subst}
use Rattle.jvm_model.specs.declared.number.MethodNo.{MethodNo}
use Rattle.least_sets.specs.Rules.{IsClosedSet}
use Rattle.op_model.specs.declared.node.NodeRef.{NodeRef}
use Rattle.op_model.specs.Supplies.{Given, GivenAs, IsMapOf}
use Rattle.machine_bytecode.specs.Objects.{Subject}
use Rattle.machine_bytecode.specs.States.{State}
use Rattle.points_to_rules.specs.Facts.{Fact, may_call}
use Rattle.points_to_rules.specs.Rules.{Instance}
use Rattle.points_to_rules.specs.WholeMethods.{AreWholeMethods}
use Rattle.coverage.specs.Covering.{Covers}
use Rattle.coverage.specs.Uses.{Informs, InformsAll}
use Rattle.coverage.proofs.RefusedCalls.{HasNoRefusedCall}
use Rattle.coverage.proofs.Frames.{frames_are}
use Rattle.coverage.proofs.Places.{node_is}
use Rattle.coverage.proofs.Within.{static_covered}
use Rattle.coverage.proofs.Calls.{inside_of, called_by, returned}
use Rattle.coverage.proofs.Executions.{covers_all}

module _ (x : Subject) (given : Given) (gives : GivenAs) (S : Fact → Type 0) (map : IsMapOf given gives) (closed : IsClosedSet (Instance x.program gives (record { 0 = x.entry })) S)
    (whole : AreWholeMethods x.program gives) (unrefused : HasNoRefusedCall x.program gives S) where
  informs : (s : State) → Covers x gives S s → Informs x given gives S s
  informs s c = record {
    loaded = λ m l n field target runs is is_load. static_covered x gives S closed whole m l n field target s.world.heap (s.world.statics field.0) is runs is_load (c.world.statics field);
    called = λ at calls target there.
        let i = inside_of x given gives S map closed whole at.frame at.now calls.number calls.in_method in
        let is = called_by x given gives S map closed whole unrefused s at calls i target there c in
        let number : MethodNo = record { 0 = calls.target } in
        subst (λ (r : NodeRef). S (may_call r number)) (sym (node_is gives at.frame i.method i.lowered at.now.node i.here)) is.targeted.called;
    returned = λ at m l value here is_return.
        returned x given gives S map closed whole s.world.heap at.frame at.now value m l here is_return (frames_are x gives S s.world.heap s.frames at.below at.frame at.frames c.frames).0;
  }

  pub informs_all : InformsAll x given gives S
  informs_all states run s there = informs s (covers_all x given gives S map closed whole unrefused states run s there)
