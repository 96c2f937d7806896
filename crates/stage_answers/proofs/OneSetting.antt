-- By the same facts two settings of one site, stage and depth have the same path edges.
use Rattle.std.proofs.Common.{◌≡◌, ◌↔◌, ◌<◌, ℕ, zero, suc, Bool, true, false, List, [], ◌∷◌, Option, Some, Contains, IsTrue, All, length, refl, sym, ap, ◌∙◌, subst, arith}
use Rattle.std.specs.Prelude.{slice_get}
use Rattle.std.proofs.lemmas.List.Elements.{All-cons, All-nil, All-weaker}
use Rattle.std.proofs.lemmas.Option.{none-some, same_Some}
use Rattle.jvm_model.specs.declared.number.FieldNo.{FieldNo}
use Rattle.jvm_model.specs.declared.number.MethodNo.{MethodNo}
use Rattle.jvm_model.specs.declared.site.Site.{Site}
use Rattle.least_sets.specs.Parts.{HasAtLeast}
use Rattle.least_sets.specs.Rules.{IsDerivable}
use Rattle.least_sets.proofs.Parts.{at_least_facts}
use Rattle.least_sets.proofs.Places.{first}
use Rattle.op_model.specs.declared.lowered.LoweredMethod.{LoweredMethod}
use Rattle.op_model.specs.declared.node.Node.{Node}
use Rattle.machine_bytecode.specs.Objects.{Subject}
use Rattle.machine_nodes.specs.Nodes.{AreStartNodes}
use Rattle.slot_names.specs.Variables.{AreReachedNodes, IsReachedNode, at_first, from_node}
use Rattle.slot_names.proofs.OneVariable.{one_variable}
use Rattle.lowering_supply.specs.Supplied.{IsSupplied}
use Rattle.points_to_rules.specs.Facts.{Fact, Holder, may_hold, may_write}
use Rattle.simulation.proofs.Whole.{supplied_whole}
use Rattle.stage_transfer.specs.Settings.{Setting}
use Rattle.stage_transfer.specs.Stages.{transfer_of}
use Rattle.stage_edges.specs.Edges.{IsAtLimit, IsSafeBelow, IsSettingOf, StageInstance}
use Rattle.stage_edges.specs.Rules.{Edge, IsMethod, IsNode, of_file, of_start}
use Rattle.report_spec.proofs.SameEdges.{derivable_over}
use Rattle.report_spec.specs.Verdicts.{AtLimitBy, SafeBy, by_edges, by_events, of_edges}
use Rattle.stage_answers.proofs.Agreeing.{AgreeAt, instance_same}
use Rattle.stage_answers.proofs.Here.{answer_same, enter_same, event_same, exception_same, leave_same, next_same, raise_same}

-- ---- the start's nodes are reached

ascend_two : (c r : Node) → c.offset ≡ 0 → r.offset ≡ 1 → (i j : ℕ) (n k : Node) → i < j → slice_get (c ∷ r ∷ []) i ≡ Some n → slice_get (c ∷ r ∷ []) j ≡ Some k
    → n.offset < k.offset
ascend_two c r zero_is one_is zero zero n k lt e f = absurd (omega arith)
ascend_two c r zero_is one_is zero (suc zero) n k lt e f =
    let one = ap (λ (m : Node). m.offset) (same_Some c n e) in
    let other = ap (λ (m : Node). m.offset) (same_Some r k f) in
    omega arith
ascend_two c r zero_is one_is zero (suc (suc j)) n k lt e f = absurd (none-some k f)
ascend_two c r zero_is one_is (suc zero) zero n k lt e f = absurd (omega arith)
ascend_two c r zero_is one_is (suc zero) (suc zero) n k lt e f = absurd (omega arith)
ascend_two c r zero_is one_is (suc zero) (suc (suc j)) n k lt e f = absurd (none-some k f)
ascend_two c r zero_is one_is (suc (suc i)) j n k lt e f = absurd (none-some n e)

start_reached : (x : Subject) (l : LoweredMethod) → AreStartNodes x l.nodes → AreReachedNodes l
start_reached x l s =
    let at_call : IsReachedNode l s.call.offset = at_first s.call s.call.offset (ap (λ (ns : List Node). slice_get ns 0) s.is) refl in
    let stands : Contains l.nodes s.call = subst (λ (ns : List Node). Contains ns s.call) (sym s.is) (first s.call (s.return ∷ [])) in
    let goes : Contains s.call.successors 1 = subst (λ (os : List ℕ). Contains os 1) (sym s.is_call.successors) (first 1 []) in
    let at_return : IsReachedNode l s.return.offset = subst (IsReachedNode l) (sym s.is_return.offset) (from_node s.call 1 stands at_call goes) in
    let P : Node → Type 0 = λ n. IsReachedNode l n.offset in
    record {
      ascend = λ i j n k lt e f.
          ascend_two s.call s.return s.is_call.offset s.is_return.offset i j n k lt (sym (ap (λ (ns : List Node). slice_get ns i) s.is) ∙ e)
          (sym (ap (λ (ns : List Node). slice_get ns j) s.is) ∙ f);
      each = subst (λ (ns : List Node). All P ns) (sym s.is) (All-cons P s.call (s.return ∷ []) at_call (All-cons P s.return [] at_return (All-nil P)));
    }

method_reached : (x : Subject) (m : Option MethodNo) (l : LoweredMethod) → IsMethod x (IsSupplied x.program) l m → AreReachedNodes l
method_reached x m l (of_file number given) = (supplied_whole x.program number.0 l given).reached
method_reached x m l (of_start nodes slots stack params) = start_reached x l nodes

-- ---- the answers are one

one_test : (P : Type 0) (a b : Bool) → (IsTrue a ↔ P) → (IsTrue b ↔ P) → a ≡ b
one_test P true true x y = refl
one_test P true false x y = sym (y.1 (x.0 refl))
one_test P false true x y = x.1 (y.0 refl)
one_test P false false x y = refl

module _ (x : Subject) (facts : List Fact) (w v : Setting) (of_w : IsSettingOf x (Contains facts) w) (of_v : IsSettingOf x (Contains facts) v)
    (site : w.site ≡ v.site) (stage : w.stage ≡ v.stage) (depth : w.depth ≡ v.depth) where
  abbrev S : Fact → Type 0
  S = Contains facts

  property : w.property ≡ v.property
  property = of_w.property ∙ sym of_v.property

  holds : (h : Holder) (s : Site) → w.answers.may_hold_site h s ≡ v.answers.may_hold_site h s
  holds h s = one_test (S (may_hold h s)) (w.answers.may_hold_site h s) (v.answers.may_hold_site h s) (of_w.answers.holds h s) (of_v.answers.holds h s)

  alone : (h : Holder) (s : Site) → w.answers.holds_no_other h s ≡ v.answers.holds_no_other h s
  alone h s =
      one_test ((other : Site) → S (may_hold h other) → other ≡ s) (w.answers.holds_no_other h s) (v.answers.holds_no_other h s) (of_w.answers.alone h s) (of_v.answers.alone h s)

  writes : (m : MethodNo) (f : FieldNo) → w.answers.may_write_field m f ≡ v.answers.may_write_field m f
  writes m f = one_test (S (may_write m f)) (w.answers.may_write_field m f) (v.answers.may_write_field m f) (of_w.answers.writes m f) (of_v.answers.writes m f)

  agree : (m : Option MethodNo) (l : LoweredMethod) (n : Node) → IsNode x (IsSupplied x.program) m l n → AgreeAt (transfer_of w) (transfer_of v) l n
  agree m l n node =
      let reached = method_reached x m l node.method in
      let variables : (z : ℕ) → w.answers.variable_at l n z ≡ v.answers.variable_at l n z = λ z.
      one_variable l n z (w.answers.variable_at l n z) (v.answers.variable_at l n z) reached node.stands (of_w.answers.variables l n z reached node.stands)
      (of_v.answers.variables l n z reached node.stands) in
      record {
        next = next_same w v property site stage depth l n variables holds alone writes;
        raise = raise_same w v property site stage depth l n variables holds alone writes;
        event = event_same w v property site stage depth l n variables holds alone writes;
        answer = answer_same w v property site stage depth l n variables holds alone writes;
        exception = exception_same w v property site stage depth l n variables holds alone writes;
        leave = leave_same w v property site stage depth l n variables holds alone writes;
      }

  pub rule_same : (premises : List Edge) (edge : Edge) → StageInstance x (IsSupplied x.program) S w premises edge → StageInstance x (IsSupplied x.program) S v premises edge
  rule_same = instance_same x (IsSupplied x.program) S (transfer_of w) (transfer_of v) agree (enter_same w v property site stage depth)

-- ---- the same edges

module _ (x : Subject) (facts : List Fact) (w v : Setting) (of_w : IsSettingOf x (Contains facts) w) (of_v : IsSettingOf x (Contains facts) v)
    (site : w.site ≡ v.site) (stage : w.stage ≡ v.stage) (depth : w.depth ≡ v.depth) (limit : ℕ) where
  abbrev ByFirst : List Edge → Edge → Type 0
  ByFirst = StageInstance x (IsSupplied x.program) (Contains facts) w

  abbrev BySecond : List Edge → Edge → Type 0
  BySecond = StageInstance x (IsSupplied x.program) (Contains facts) v

  to : (premises : List Edge) (edge : Edge) → ByFirst premises edge → BySecond premises edge
  to = rule_same x facts w v of_w of_v site stage depth

  back : (premises : List Edge) (edge : Edge) → BySecond premises edge → ByFirst premises edge
  back = rule_same x facts v w of_v of_w (sym site) (sym stage) (sym depth)

  pub edge_same : (e : Edge) → IsDerivable ByFirst e → IsDerivable BySecond e
  edge_same = derivable_over ByFirst BySecond to

  pub safe_same : IsSafeBelow x (IsSupplied x.program) (Contains facts) w limit → IsSafeBelow x (IsSupplied x.program) (Contains facts) v limit
  safe_same is = record {
    setting = of_v;
    edges = is.edges;
    are = record {
      least = record {
        closed = λ premises edge instance hold. is.are.least.closed premises edge (back premises edge instance) hold;
        derivable = All-weaker (IsDerivable ByFirst) (IsDerivable BySecond) (derivable_over ByFirst BySecond to) is.edges is.are.least.derivable;
      };
      apart = is.are.apart;
    };
    few = is.few;
    no_error = is.no_error;
  }

  pub not_both : IsSafeBelow x (IsSupplied x.program) (Contains facts) w limit → IsAtLimit x (IsSupplied x.program) (Contains facts) v limit → ⊥
  not_both is many =
      let by_first : HasAtLeast ByFirst (λ (e : Edge). Some e) limit = record {
        facts = many.many.facts;
        derivable = All-weaker (IsDerivable BySecond) (IsDerivable ByFirst) (derivable_over BySecond ByFirst back) many.many.facts many.many.derivable;
        apart = many.many.apart;
        count = many.many.count;
      } in
      let most = at_least_facts ByFirst is.edges limit is.are.least by_first in
      let few = is.few in
      omega arith

pub either : (x : Subject) (facts : List Fact) (depth limit : ℕ) (s : Site) (stage : ℕ) → SafeBy x (IsSupplied x.program) (Contains facts) depth limit s stage
    → AtLimitBy x (IsSupplied x.program) (Contains facts) depth limit s stage → ⊥
either x facts depth limit s stage (by_events one pruned) (of_edges v of_v many) = let two = of_v.from_two in omega arith
either x facts depth limit s stage (by_edges w of_w below) (of_edges v of_v many) =
    not_both x facts w v below.setting many.setting (of_w.site ∙ sym of_v.site) (of_w.number ∙ sym of_v.number) (of_w.fields ∙ sym of_v.fields) limit below many
