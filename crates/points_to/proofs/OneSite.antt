-- Two sites of calls of given methods at one node are one.
use Rattle.std.proofs.Common.{◌≡◌, Contains, Ok, sym, ◌∙◌, ap, subst}
use Rattle.std.proofs.lemmas.Option.{same_Some}
use Rattle.jvm_model.specs.declared.number.MethodNo.{MethodNo}
use Rattle.jvm_model.specs.Programs.{Program}
use Rattle.op_model.specs.declared.lowered.LoweredMethod.{LoweredMethod}
use Rattle.op_model.specs.declared.node.Node.{Node}
use Rattle.op_model.specs.declared.node.NodeRef.{NodeRef}
use Rattle.op_model.specs.declared.op.Call.{Call as NodeCall}
use Rattle.op_model.specs.declared.op.Op.TheVariants.{Call}
use Rattle.op_model.specs.Supplies.{GivenAs}
use Rattle.slot_names.proofs.PlacesOfSlots.{same_node}
use Rattle.points_to_rules.specs.Rules.{IsNodeOf, node_of}
use Rattle.points_to_rules.specs.WholeMethods.{AreWholeMethods}
use Rattle.points_to_constraints.specs.Items.{CallSite}
use Rattle.points_to_constraints.specs.NodeItems.{IsCallSite, IsCallOf}
use Rattle.points_to_constraints.proofs.OneSite.{one_site}
use Rattle.points_to.proofs.GivenMethods.{GivesOne}

-- ---- sites of given methods

-- It is the site of a call of a method that is given.
pub record IsGivenCall (gives : GivenAs) (m : MethodNo) (site : CallSite) : Type 0 where
  pub l : LoweredMethod
  pub n : Node
  pub stands : IsNodeOf gives m l n
  pub call : NodeCall
  pub is_call : n.op ≡ Call call
  pub is_site : IsCallSite m l n call site

module _ {p : Program} (gives : GivenAs) (methods : AreWholeMethods p gives) (one : GivesOne gives) where
  -- the call of a method that is given
  pub of_given : (m : MethodNo) (l : LoweredMethod) → gives m.0 (Ok l) → (site : CallSite) → IsCallOf l site → IsGivenCall gives m site
  of_given m l given site is = record {
    l = l;
    n = is.node;
    stands = record { given = given; stands = is.stands };
    call = is.call;
    is_call = is.is_call;
    is_site = subst (λ (k : MethodNo). IsCallSite k l is.node is.call site) (methods m.0 l given).number_is is.is_site;
  }

  -- two sites of one node are one
  pub one_given_call : (m k : MethodNo) (a b : CallSite) → IsGivenCall gives m a → IsGivenCall gives k b → a.at ≡ b.at → a ≡ b
  one_given_call m k a b first second same =
      let ats : node_of m first.n ≡ node_of k second.n = sym first.is_site.at ∙ same ∙ second.is_site.at in
      let ms : m ≡ k = same_Some m k (ap (λ (at : NodeRef). at.method) ats) in
      let given : gives k.0 (Ok first.l) = subst (λ (j : MethodNo). gives j.0 (Ok first.l)) ms first.stands.given in
      let oks = one k.0 (Ok first.l) (Ok second.l) given second.stands.given in
      let ls : first.l ≡ second.l = cc in
      let reached = (methods k.0 second.l second.stands.given).reached in
      let here : Contains second.l.nodes first.n = subst (λ (j : LoweredMethod). Contains j.nodes first.n) ls first.stands.stands in
      let ns : first.n ≡ second.n = same_node second.l reached first.n second.n here second.stands.stands (ap (λ (at : NodeRef). at.offset) ats) in
      let ops : Call first.call ≡ Call second.call = sym first.is_call ∙ ap (λ (j : Node). j.op) ns ∙ second.is_call in
      let cs : first.call ≡ second.call = cc in
      let moved = subst (λ (j : MethodNo). IsCallSite j first.l first.n first.call a) ms first.is_site in
      let lowered = subst (λ (j : LoweredMethod). IsCallSite k j first.n first.call a) ls moved in
      let at_node = subst (λ (j : Node). IsCallSite k second.l j first.call a) ns lowered in
      let whole = subst (λ (j : NodeCall). IsCallSite k second.l second.n j a) cs at_node in
      one_site second.l reached second.n second.stands.stands k second.call a b whole second.is_site
