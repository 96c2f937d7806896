-- Transfers that agree at each node conclude the same path edges.
use Rattle.std.proofs.Common.{◌≡◌, ℕ, List, [], ◌∷◌, Option, Some, Contains, sym, ap, ◌∙◌, subst}
use Rattle.jvm_model.specs.declared.number.MethodNo.{MethodNo}
use Rattle.op_model.specs.declared.lowered.LoweredMethod.{LoweredMethod}
use Rattle.op_model.specs.declared.node.Node.{Node}
use Rattle.op_model.specs.declared.op.Call.{Call as NodeCall}
use Rattle.op_model.specs.Supplies.{GivenAs}
use Rattle.machine_bytecode.specs.Objects.{Subject}
use Rattle.points_to_rules.specs.Facts.{Fact}
use Rattle.stage_facts.specs.Facts.{SiteFact}
use Rattle.stage_transfer.specs.Calls.{Entering, Result, by_call, by_trigger}
use Rattle.stage_transfer.specs.Stages.{Transfer}
use Rattle.stage_edges.specs.Rules.{Edge, Enters, Instance, IsNode, before, edge as edge_of, given_by, kept_slots, answers, call_returns, called, described_raises, enters, goes_on, raises, resumes, returns, start, triggered, unwinds}

-- At a node two transfers do the same.
pub record AgreeAt (t u : Transfer) (l : LoweredMethod) (n : Node) : Type 0 where
  pub next : (f : SiteFact) → t.next l n f ≡ u.next l n f
  pub raise : (handler : Option ℕ) (f : SiteFact) → t.raise l n handler f ≡ u.raise l n handler f
  pub event : (c : NodeCall) (f : SiteFact) → t.event l n c f ≡ u.event l n c f
  pub answer : (c : NodeCall) (kept : List ℕ) (r : Result) (f : SiteFact) → t.answer l n c kept r f ≡ u.answer l n c kept r f
  pub exception : (kept : List ℕ) (handler : Option ℕ) (f : SiteFact) → t.exception l n kept handler f ≡ u.exception l n kept handler f
  pub leave : (by : Entering) (target : MethodNo) (caller exit : SiteFact) → t.leave l n by target caller exit ≡ u.leave l n by target caller exit

into : {A : Type 0} (xs ys : List A) (x : A) → xs ≡ ys → Contains xs x → Contains ys x
into {A} xs ys x same there = subst (λ (zs : List A). Contains zs x) same there

module _ (x : Subject) (gives : GivenAs) (S : Fact → Type 0) (t u : Transfer) (agree : (m : Option MethodNo) (l : LoweredMethod) (n : Node) → IsNode x gives m l n → AgreeAt t u l n)
    (entering : (by : Entering) (f : SiteFact) → t.enter by f ≡ u.enter by f) where
  -- the second transfer, which enters as the first one does
  abbrev mixed : Transfer
  mixed = record {
    next = u.next;
    raise = u.raise;
    event = u.event;
    answer = u.answer;
    exception = u.exception;
    enter = t.enter;
    leave = u.leave;
  }

  mixed_is : mixed ≡ u
  mixed_is = λ i. record {
    next = u.next;
    raise = u.raise;
    event = u.event;
    answer = u.answer;
    exception = u.exception;
    enter = λ by f. entering by f i;
    leave = u.leave;
  }

  enters_mixed : (m : Option MethodNo) (l : LoweredMethod) (n : Node) → IsNode x gives m l n → (target : MethodNo) (f : SiteFact) (by : Entering) (sent : SiteFact)
      → Enters x S t m l n target f by sent → Enters x S mixed m l n target f by sent
  enters_mixed m l n node target f by sent (called c g is goes of_file there) =
      called c g is goes of_file (into (t.event l n c f) (u.event l n c f) g ((agree m l n node).event c f) there)
  enters_mixed m l n node target f by sent (triggered starts) = triggered starts

  instance_mixed : (premises : List Edge) (edge : Edge) → Instance x gives S t premises edge → Instance x gives S mixed premises edge
  instance_mixed premises edge start = start
  instance_mixed premises edge (goes_on m l n e f g offset node no_call there gives_g) =
      goes_on m l n e f g offset node no_call there (into (t.next l n f) (u.next l n f) g ((agree m l n node).next f) gives_g)
  instance_mixed premises edge (returns m l n e f g value node is gives_g) =
      returns m l n e f g value node is (into (t.next l n f) (u.next l n f) g ((agree m l n node).next f) gives_g)
  instance_mixed premises edge (raises m l n e f g class handler spot node throws goes gives_g) =
      raises m l n e f g class handler spot node throws goes (into (t.raise l n handler f) (u.raise l n handler f) g ((agree m l n node).raise handler f) gives_g)
  instance_mixed premises edge (answers m l n e f sent g c target stub parameters result offset node is goes described listed_ there sends gives_g) =
      answers m l n e f sent g c target stub parameters result offset node is goes described listed_ there
      (into (t.event l n c f) (u.event l n c f) sent ((agree m l n node).event c f) sends)
      (into (t.answer l n c (kept_slots c stub parameters) (given_by m n c stub parameters result) sent) (u.answer l n c (kept_slots c stub parameters) (given_by m n c stub parameters result) sent) g
      ((agree m l n node).answer c (kept_slots c stub parameters) (given_by m n c stub parameters result) sent) gives_g)
  instance_mixed premises edge (described_raises m l n e f sent g c target stub parameters class handler spot node is goes described throws lands sends gives_g) =
      described_raises m l n e f sent g c target stub parameters class handler spot node is goes described throws lands
      (into (t.event l n c f) (u.event l n c f) sent ((agree m l n node).event c f) sends)
      (into (t.exception l n (kept_slots c stub parameters) handler sent) (u.exception l n (kept_slots c stub parameters) handler sent) g
      ((agree m l n node).exception (kept_slots c stub parameters) handler sent) gives_g)
  instance_mixed premises edge (enters m l n e f sent target by node sends) =
      enters m l n e f sent target by node (enters_mixed m l n node target f by sent sends)
  instance_mixed premises edge (call_returns m l n e f sent out g target c offset node sends there gives_g) =
      let left : t.leave l n (by_call c) target sent out ≡ u.leave l n (by_call c) target sent out = (agree m l n node).leave (by_call c) target sent out in
      call_returns m l n e f sent out g target c offset node (enters_mixed m l n node target f (by_call c) sent sends) there
      (into (t.next l n (t.leave l n (by_call c) target sent out)) (u.next l n (u.leave l n (by_call c) target sent out)) g
      (ap (t.next l n) left ∙ (agree m l n node).next (u.leave l n (by_call c) target sent out)) gives_g)
  instance_mixed premises edge (resumes m l n e f out target exit node starts is) =
      subst (λ (g : SiteFact). Instance x gives S mixed (edge_of m e (before n) f ∷ edge_of (Some target) (t.enter by_trigger f) exit out ∷ []) (edge_of m e (before n) g))
      (sym ((agree m l n node).leave by_trigger target f out)) (resumes m l n e f out target exit node starts is)
  instance_mixed premises edge (unwinds m l n e f sent out g target by class handler spot node sends throws lands gives_g) =
      let left : t.leave l n by target sent out ≡ u.leave l n by target sent out = (agree m l n node).leave by target sent out in
      unwinds m l n e f sent out g target by class handler spot node (enters_mixed m l n node target f by sent sends) throws lands
      (into (t.raise l n handler (t.leave l n by target sent out)) (u.raise l n handler (u.leave l n by target sent out)) g
      (ap (t.raise l n handler) left ∙ (agree m l n node).raise handler (u.leave l n by target sent out)) gives_g)

  pub instance_same : (premises : List Edge) (edge : Edge) → Instance x gives S t premises edge → Instance x gives S u premises edge
  instance_same premises edge instance = subst (λ (k : Transfer). Instance x gives S k premises edge) mixed_is (instance_mixed premises edge instance)
