-- The path edges of a site are the same by facts that are the same.
use Rattle.std.proofs.Common.{◌≡◌, ℕ, List, [], ◌∷◌, ◌++◌, Some, slice_get, take}
use Rattle.std.proofs.lemmas.List.Elements.{All-weaker}
use Rattle.jvm_model.specs.declared.site.Site.{Site}
use Rattle.jvm_model.specs.declared.number.MethodNo.{MethodNo}
use Rattle.op_model.specs.declared.lowered.LoweredMethod.{LoweredMethod}
use Rattle.op_model.specs.declared.node.Node.{Node}
use Rattle.op_model.specs.Supplies.{GivenAs}
use Rattle.machine_bytecode.specs.Objects.{Subject}
use Rattle.least_sets.specs.Rules.{Follows, IsDerivable, IsDerivation, IsLeast}
use Rattle.points_to_rules.specs.Facts.{Fact, Holder, may_call, may_hold, may_write, thrown_by}
use Rattle.stage_facts.specs.Facts.{SiteFact}
use Rattle.stage_transfer.specs.Calls.{Entering}
use Rattle.stage_transfer.specs.Settings.{Answers, AreAnswersOf, Setting}
use Rattle.stage_transfer.specs.Stages.{Transfer, transfer_of}
use Rattle.report_spec.specs.Traces.{IsErrorDerivation}
use Rattle.stage_edges.specs.Edges.{ArePathEdges, IsAtLimit, IsSafeBelow, IsSettingOf, StageInstance}
use Rattle.stage_edges.specs.Rules.{Edge, Enters, Instance, MayThrow, ThrowsClass, answers, call_returns, called, described_raises, enters, goes_on, held, listed, node_at, raises, resumes, returns, start, triggered, unwinds}

-- ---- derivations by other rules

module _ {F : Type 0} (I J : List F → F → Type 0) (over : (premises : List F) (fact : F) → I premises fact → J premises fact) where
  follows_over : (earlier : List F) (fact : F) → Follows I earlier fact → Follows J earlier fact
  follows_over earlier fact f = record { premises = f.premises; instance = over f.premises fact f.instance; hold = f.hold }

  pub derivation_over : (facts : List F) → IsDerivation I facts → IsDerivation J facts
  derivation_over facts d k fact stands = follows_over (take k facts) fact (d k fact stands)

  pub derivable_over : (fact : F) → IsDerivable I fact → IsDerivable J fact
  derivable_over fact d = (d.0, derivation_over (d.0 ++ fact ∷ []) d.1)

-- ---- rules by more facts

module _ (x : Subject) (gives : GivenAs) (S T : Fact → Type 0) (to : (fact : Fact) → S fact → T fact) where
  throws_over : (l : LoweredMethod) (n : Node) (class : List ℕ) → ThrowsClass x S l n class → ThrowsClass x T l n class
  throws_over l n class (listed number there is) = listed number there is
  throws_over l n class (held z h s is slot holds fits same) = held z h s is slot (to (may_hold h s) holds) fits same

  may_throw_over : (target : MethodNo) (class : List ℕ) → MayThrow S target class → MayThrow T target class
  may_throw_over target class m = (m.0, to (may_hold (thrown_by target) m.0) m.1, m.2)

  module _ (t : Transfer) where
    enters_over : (m : _) (l : LoweredMethod) (n : Node) (target : MethodNo) (f : SiteFact) (by : Entering) (sent : SiteFact)
        → Enters x S t m l n target f by sent → Enters x T t m l n target f by sent
    enters_over m l n target f by sent (called c g is goes of_file there) = called c g is (to (may_call (node_at m n) target) goes) of_file there
    enters_over m l n target f by sent (triggered starts) = triggered starts

    pub instance_over : (premises : List Edge) (edge : Edge) → Instance x gives S t premises edge → Instance x gives T t premises edge
    instance_over premises edge start = start
    instance_over premises edge (goes_on m l n e f g offset node no_call there to_fact) = goes_on m l n e f g offset node no_call there to_fact
    instance_over premises edge (returns m l n e f g value node is to_fact) = returns m l n e f g value node is to_fact
    instance_over premises edge (raises m l n e f g class handler spot node throws goes to_fact) =
        raises m l n e f g class handler spot node (throws_over l n class throws) goes to_fact
    instance_over premises edge (answers m l n e f sent g c target stub parameters result offset node is goes described listed_ there sends to_fact) =
        answers m l n e f sent g c target stub parameters result offset node is (to (may_call (node_at m n) target) goes) described listed_ there sends to_fact
    instance_over premises edge (described_raises m l n e f sent g c target stub parameters class handler spot node is goes described throws lands sends to_fact) =
        described_raises m l n e f sent g c target stub parameters class handler spot node is (to (may_call (node_at m n) target) goes) described throws lands sends to_fact
    instance_over premises edge (enters m l n e f sent target by node sends) = enters m l n e f sent target by node (enters_over m l n target f by sent sends)
    instance_over premises edge (call_returns m l n e f sent out g target c offset node sends there to_fact) =
        call_returns m l n e f sent out g target c offset node (enters_over m l n target f _ sent sends) there to_fact
    instance_over premises edge (resumes m l n e f out target exit node starts is) = resumes m l n e f out target exit node starts is
    instance_over premises edge (unwinds m l n e f sent out g target by class handler spot node sends throws lands to_fact) =
        unwinds m l n e f sent out g target by class handler spot node (enters_over m l n target f by sent sends) (may_throw_over target class throws) lands to_fact

-- ---- the same facts

module _ (x : Subject) (gives : GivenAs) (S T : Fact → Type 0) (to : (fact : Fact) → S fact → T fact) (back : (fact : Fact) → T fact → S fact) where
  answers_over : (a : Answers) → AreAnswersOf S a → AreAnswersOf T a
  answers_over a are = record {
    variables = are.variables;
    holds = λ h s. ((λ yes. to (may_hold h s) ((are.holds h s).0 yes)), (λ holds. (are.holds h s).1 (back (may_hold h s) holds)));
    alone = λ h s. (
      (λ yes other holds. (are.alone h s).0 yes other (back (may_hold h other) holds)),
      (λ only. (are.alone h s).1 (λ other holds. only other (to (may_hold h other) holds))),
    );
    writes = λ m f. ((λ yes. to (may_write m f) ((are.writes m f).0 yes)), (λ writes. (are.writes m f).1 (back (may_write m f) writes)));
  }

  module _ (w : Setting) where
    pub setting_over : IsSettingOf x S w → IsSettingOf x T w
    setting_over is = record { property = is.property; answers = answers_over w.answers is.answers }

    rule_over : (premises : List Edge) (edge : Edge) → StageInstance x gives S w premises edge → StageInstance x gives T w premises edge
    rule_over = instance_over x gives S T to (transfer_of w)

    rule_back : (premises : List Edge) (edge : Edge) → StageInstance x gives T w premises edge → StageInstance x gives S w premises edge
    rule_back = instance_over x gives T S back (transfer_of w)

    pub error_over : (edges : List Edge) → IsErrorDerivation x gives S w edges → IsErrorDerivation x gives T w edges
    error_over edges is = record {
      setting = setting_over is.setting;
      starts = is.starts;
      derivation = derivation_over (StageInstance x gives S w) (StageInstance x gives T w) rule_over edges is.derivation;
      error = is.error;
      ends = is.ends;
      is_error = is.is_error;
    }

    pub safe_below_over : (limit : ℕ) → IsSafeBelow x gives S w limit → IsSafeBelow x gives T w limit
    safe_below_over limit is = record {
      setting = setting_over is.setting;
      edges = is.edges;
      are = record {
        least = record {
          closed = λ premises edge instance hold. is.are.least.closed premises edge (rule_back premises edge instance) hold;
          derivable = All-weaker (IsDerivable (StageInstance x gives S w)) (IsDerivable (StageInstance x gives T w))
              (derivable_over (StageInstance x gives S w) (StageInstance x gives T w) rule_over) is.edges is.are.least.derivable;
        };
        apart = is.are.apart;
      };
      few = is.few;
      no_error = is.no_error;
    }

    pub limit_over : (limit : ℕ) → IsAtLimit x gives S w limit → IsAtLimit x gives T w limit
    limit_over limit is = record {
      setting = setting_over is.setting;
      many = record {
        facts = is.many.facts;
        derivable = All-weaker (IsDerivable (StageInstance x gives S w)) (IsDerivable (StageInstance x gives T w))
            (derivable_over (StageInstance x gives S w) (StageInstance x gives T w) rule_over) is.many.facts is.many.derivable;
        apart = is.many.apart;
        count = is.many.count;
      };
    }
