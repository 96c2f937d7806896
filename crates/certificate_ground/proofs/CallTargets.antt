-- The targets of calls, node by node; and by which rules they follow.
use Rattle.std.proofs.Common.{◌≡◌, ◌⊎◌, ◌↔◌, ℕ, List, Option, Some, None, Result, Ok, Err, sym, ◌∙◌, ap, subst, inl, inr}
use Rattle.std.specs.List.{slice_get, Contains}
use Rattle.std.specs.Option.{option_flatten}
use Rattle.std.specs.declared.alloc.Global.{Global}
use Rattle.std.specs.declared.vec.Vec.{Vec}
use Rattle.std.proofs.lemmas.Option.{same_Some, none-some}
use Rattle.jvm_model.specs.declared.number.MethodNo.{MethodNo}
use Rattle.jvm_model.specs.declared.number.SiteNo.{SiteNo}
use Rattle.jvm_model.specs.declared.reason.Reason.{Reason}
use Rattle.jvm_model.specs.declared.site.Site.{Site}
use Rattle.jvm_model.specs.Programs.{Program}
use Rattle.op_model.specs.declared.lowered.LoweredMethod.{LoweredMethod}
use Rattle.op_model.specs.declared.node.Node.{Node}
use Rattle.op_model.specs.declared.node.NodeRef.{NodeRef}
use Rattle.op_model.specs.declared.op.Call.{Call as NodeCall}
use Rattle.op_model.specs.declared.op.Op.TheVariants.{Call}
use Rattle.slot_names.specs.declared.variable.Variable.{Variable}
use Rattle.slot_names.specs.Variables.{AreReachedNodes, IsVariable}
use Rattle.slot_names.proofs.OneVariable.{one_variable}
use Rattle.points_to_rules.specs.Calls.{SelectsFor}
use Rattle.points_to_rules.specs.Rules.{node_of}
use Rattle.call_selection.specs.OnlyAnswers.{IsOnlyAnswer}
use Rattle.certificate_ground.specs.declared.held.Held.{Held}
use Rattle.certificate_ground.specs.Pairs.{AddsPairs, IsJust, OfSome}
use Rattle.certificate_ground.specs.Targets.{GoesTo, IsHeldAt, IsReceiver, IsSelectedAt, IsSelectedBy, IsTargetOf, Selects, chosen, selected}
use Rattle.certificate_ground.proofs.PairTables.{pairs_as, pairs_both, pairs_none}

-- ---- an object of a site

module _ (p : Program) (sites : List Site) (c : NodeCall) (at : NodeRef) (number : SiteNo) (s : Site) (stands : slice_get sites number.0 ≡ Some s) where
  receiver_is : (target : MethodNo) (of : Selects p sites c number target) → of.receiver ≡ s
  receiver_is target of = same_Some of.receiver s (sym of.numbered ∙ stands)

  selects_it : (target : MethodNo) → Selects p sites c number target → SelectsFor c.kind p c.resolved s (Ok target.0)
  selects_it target of = subst (λ (t : Site). SelectsFor c.kind p c.resolved t (Ok target.0)) (receiver_is target of) of.selects

  -- it selects a target
  pub one_selected : (target : MethodNo) → IsOnlyAnswer (SelectsFor c.kind p c.resolved s) (Some (Ok target)) → (ka : List NodeRef) (ga : List (Vec MethodNo Global)) (kb : List NodeRef)
      (gb : List (Vec MethodNo Global)) → AddsPairs (IsJust at target) ka ga kb gb → AddsPairs (λ call t. IsSelectedAt p sites c at number call t) ka ga kb gb
  one_selected target only ka ga kb gb added =
      pairs_as (IsJust at target) (λ call t. IsSelectedAt p sites c at number call t) ka ga kb gb
      (λ call t (same_call, same). (
        same_call,
        record { receiver = s; numbered = stands; selects = subst (λ (m : MethodNo). SelectsFor c.kind p c.resolved s (Ok m.0)) (sym same) only.0 },
      ))
      (λ call t (same_call, of). (
        same_call,
        (let both : Ok t.0 ≡ Ok target.0 = only.1 (Ok t.0) (selects_it t of) in let same : t.0 ≡ target.0 = cc in (λ i. record { 0 = same i })),
      ))
      added

  -- it selects none
  pub none_selected : ((t : ℕ) → SelectsFor c.kind p c.resolved s (Ok t) → ⊥) → (ks : List NodeRef) (gs : List (Vec MethodNo Global))
      → AddsPairs (λ call t. IsSelectedAt p sites c at number call t) ks gs ks gs
  none_selected none ks gs = pairs_none (λ call t. IsSelectedAt p sites c at number call t) ks gs (λ call t (same_call, of). none t.0 (selects_it t of))

-- a reason is no target
pub reason_only : (Q : Result ℕ Reason → Type 0) (r : Reason) → IsOnlyAnswer Q (Some (Err r)) → (t : ℕ) → Q (Ok t) → ⊥
reason_only Q r only t q = (let both : Ok t ≡ Err r = only.1 (Ok t) q in cc)

-- ---- objects of sites

pub some_selected : (p : Program) (sites : List Site) (c : NodeCall) (at : NodeRef) (receivers : List SiteNo) (ka : List NodeRef) (ga : List (Vec MethodNo Global)) (kb : List NodeRef)
    (gb : List (Vec MethodNo Global)) → AddsPairs (OfSome (λ (n : SiteNo) call t. IsSelectedAt p sites c at n call t) receivers) ka ga kb gb → AddsPairs (IsSelectedBy p sites c at receivers) ka ga kb gb
some_selected p sites c at receivers ka ga kb gb added =
    pairs_as (OfSome (λ (n : SiteNo) call t. IsSelectedAt p sites c at n call t) receivers) (IsSelectedBy p sites c at receivers) ka ga kb gb
    (λ call t (n, there, (same, of)). (same, (n, there, of)))
    (λ call t (same, (n, there, of)). (n, there, (same, of)))
    added

-- ---- the objects of the first argument

module _ (held : Held) (l : LoweredMethod) (reached : AreReachedNodes l) (n : Node) (stands : Contains l.nodes n) (c : NodeCall) where
  pub receivers_are : (slot : ℕ) → Some slot ≡ option_flatten (slice_get c.arguments 0) → (v : Variable) → IsVariable l n slot v → (receivers : List SiteNo)
      → ((site : SiteNo) → Contains receivers site ↔ IsHeldAt held v site) → (site : SiteNo) → Contains receivers site ↔ IsReceiver held l n c site
  receivers_are slot is v named receivers are site =
      let passed = by (slice_get c.arguments 0) is in (
        (λ there. record { slot = slot; passed = passed; name = v; named = named; holds = (are site).0 there }),
        (λ of.
            let slots : of.slot ≡ slot = (let both : Some (Some of.slot) ≡ Some (Some slot) = sym of.passed ∙ passed in cc) in
            let also = subst (λ (z : ℕ). IsVariable l n z of.name) slots of.named in
            let same = one_variable l n slot of.name v reached stands also named in
            (are site).1 (subst (λ (w : Variable). IsHeldAt held w site) same of.holds)),
      )
    where
      by : (o : Option (Option ℕ)) → Some slot ≡ option_flatten o → o ≡ Some (Some slot)
      by None e = absurd (none-some slot (sym e))
      by (Some None) e = absurd (none-some slot (sym e))
      by (Some (Some z)) e = ap (λ (o : Option ℕ). Some o) (sym e)

  -- it is no reference
  pub no_receivers : None ≡ option_flatten (slice_get c.arguments 0) → (site : SiteNo) → IsReceiver held l n c site → ⊥
  no_receivers is site of = none-some of.slot (is ∙ ap option_flatten of.passed)

-- ---- a node

module _ (p : Program) (sites : List Site) (held : Held) (l : LoweredMethod) (n : Node) (ka : List NodeRef) (ga : List (Vec MethodNo Global)) where
  -- a call
  pub node_targets : (c : NodeCall) → n.op ≡ Call c → (receivers : List SiteNo) → ((site : SiteNo) → Contains receivers site ↔ IsReceiver held l n c site)
      → (kb : List NodeRef) (gb : List (Vec MethodNo Global)) (kc : List NodeRef) (gc : List (Vec MethodNo Global))
      → AddsPairs (λ call target. (call ≡ node_of l.method n) × (c.chosen ≡ Some target)) ka ga kb gb → AddsPairs (IsSelectedBy p sites c (node_of l.method n) receivers) kb gb kc gc
      → AddsPairs (IsTargetOf p sites held l n) ka ga kc gc
  node_targets c is receivers are kb gb kc gc first second =
      pairs_as _ (IsTargetOf p sites held l n) ka ga kc gc
      (λ call t either. elim either [
        | inl (same, is_chosen) ↦ (same, chosen c is is_chosen)
        | inr (same, (site, there, of)) ↦ (same, selected c site is ((are site).0 there) of)
      ])
      (λ call t (same, goes). by call t same goes)
      (pairs_both (λ call target. (call ≡ node_of l.method n) × (c.chosen ≡ Some target)) (IsSelectedBy p sites c (node_of l.method n) receivers) ka ga kb gb kc gc first second)
    where
      by : (call : NodeRef) (t : MethodNo) → call ≡ node_of l.method n → GoesTo p sites held l n t
          → ((call ≡ node_of l.method n) × (c.chosen ≡ Some t)) ⊎ IsSelectedBy p sites c (node_of l.method n) receivers call t
      by call t same (chosen d also is_chosen) =
          let both : Call d ≡ Call c = sym also ∙ is in
          let calls : d ≡ c = cc in
          inl (same, ap (λ (x : NodeCall). x.chosen) (sym calls) ∙ is_chosen)
      by call t same (selected d site also receiver of) =
          let both : Call d ≡ Call c = sym also ∙ is in
          let calls : d ≡ c = cc in
          inr (
            same,
            (site, (are site).1 (subst (λ (x : NodeCall). IsReceiver held l n x site) calls receiver), subst (λ (x : NodeCall). Selects p sites x site t) calls of),
          )

  -- no call
  pub no_targets : ((c : NodeCall) → n.op ≡ Call c → ⊥) → AddsPairs (IsTargetOf p sites held l n) ka ga ka ga
  no_targets none = pairs_none (IsTargetOf p sites held l n) ka ga (λ call t (same, goes). by t goes)
    where
      by : (t : MethodNo) → GoesTo p sites held l n t → ⊥
      by t (chosen c is is_chosen) = none c is
      by t (selected c site is receiver of) = none c is
