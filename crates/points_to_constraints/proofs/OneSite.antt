-- A call of a node has one site: each of its holders is one.
use Rattle.std.proofs.Common.{◌≡◌, ℕ, List, Option, Some, None, Contains, refl, sym, ◌∙◌, ap}
use Rattle.list_laws.proofs.Zips.{zip_unique}
use Rattle.jvm_model.specs.declared.number.MethodNo.{MethodNo}
use Rattle.op_model.specs.declared.lowered.LoweredMethod.{LoweredMethod}
use Rattle.op_model.specs.declared.node.Node.{Node}
use Rattle.op_model.specs.declared.node.NodeHandler.{NodeHandler}
use Rattle.op_model.specs.declared.op.Call.{Call as NodeCall}
use Rattle.slot_names.specs.Variables.{AreReachedNodes}
use Rattle.points_to_rules.specs.Facts.{Holder}
use Rattle.points_to_rules.specs.Rules.{IsSlotAt}
use Rattle.points_to_constraints.specs.Items.{CatchClause, CatchChain, CallSite}
use Rattle.points_to_constraints.specs.NodeItems.{IsCatchClause, IsCatchChain, IsUnitHolder, AreResults, IsCallSite}
use Rattle.points_to_constraints.proofs.Holders.{same_holder, same_holder_at}

module _ (l : LoweredMethod) (reached : AreReachedNodes l) where
  one_catch_clause : (handler : NodeHandler) (a b : CatchClause) → IsCatchClause l handler a → IsCatchClause l handler b → a ≡ b
  one_catch_clause handler a b first second =
      let handlers = first.handler_is ∙ sym second.handler_is in
      let places = same_holder_at l reached handler.target l.slots a.to b.to first.slot second.slot in
      (λ i. record { handler = handlers i; to = places i })

  pub one_catch_chain : (m : MethodNo) (n : Node) (a b : CatchChain) → IsCatchChain m l n a → IsCatchChain m l n b → a ≡ b
  one_catch_chain m n a b first second =
      let catch_clauses = zip_unique (IsCatchClause l) one_catch_clause n.handlers a.catch_clauses b.catch_clauses first.catch_clauses second.catch_clauses in
      let outside = first.outside ∙ sym second.outside in
      (λ i. record { catch_clauses = catch_clauses i; outside = outside i })

  module _ (n : Node) (here : Contains l.nodes n) where
    one_unit : (unit : Option ℕ) (a b : Option Holder) → IsUnitHolder l n unit a → IsUnitHolder l n unit b → a ≡ b
    one_unit None None None first second = refl
    one_unit None None (Some h) first second = absurd second
    one_unit None (Some h) b first second = absurd first
    one_unit (Some z) None b first second = absurd first
    one_unit (Some z) (Some g) None first second = absurd second
    one_unit (Some z) (Some g) (Some h) first second = ap Some (same_holder l reached n here z g h first second)

    one_result : (result : Option ℕ) (a b : List Holder) → AreResults l n result a → AreResults l n result b → a ≡ b
    one_result None a b first second = first ∙ sym second
    one_result (Some z) a b first second =
        zip_unique (λ (offset : ℕ) (h : Holder). IsSlotAt l offset z h) (λ offset g h one other. same_holder_at l reached offset z g h one other) n.successors a b first second

    pub one_site : (m : MethodNo) (c : NodeCall) (a b : CallSite) → IsCallSite m l n c a → IsCallSite m l n c b → a ≡ b
    one_site m c a b first second =
        let ats = first.at ∙ sym second.at in
        let kinds = first.kind ∙ sym second.kind in
        let methods = first.resolved ∙ sym second.resolved in
        let arguments = zip_unique (IsUnitHolder l n) one_unit c.arguments a.arguments b.arguments first.arguments second.arguments in
        let results = one_result c.result a.results b.results first.results second.results in
        let catch_chains = one_catch_chain m n a.catch_chain b.catch_chain first.catch_chain second.catch_chain in
        (λ i. record { at = ats i; kind = kinds i; resolved = methods i; arguments = arguments i; results = results i; catch_chain = catch_chains i })
