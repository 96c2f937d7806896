-- By the same facts there is one certificate.
use Rattle.std.proofs.Common.{◌≡◌, ◌∙◌, ℕ, Bool, true, List, [], ◌∷◌, ◌++◌, Contains, refl, sym, ap, subst}
use Rattle.std.specs.Ordering.{is_lt, ordering_reverse}
use Rattle.std.specs.declared.cmp.Ordering.{Ordering}
use Rattle.std.specs.declared.cmp.Ordering.TheVariants.{Less, Equal, Greater}
use Rattle.jvm_model.specs.declared.site.Site.{Site}
use Rattle.machine_bytecode.specs.Objects.{Subject}
use Rattle.op_model.specs.Supplies.{GivenAs}
use Rattle.points_to_rules.specs.Facts.{Fact, may_hold, may_run, may_write}
use Rattle.site_report.specs.declared.verdict.Verdict.TheVariants.{Safe}
use Rattle.stage_edges.specs.Edges.{StageInstance}
use Rattle.report_spec.specs.Verdicts.{Asked}
use Rattle.report_spec.proofs.OneReport.{report_same}
use Rattle.report_spec.proofs.SameEdges.{derivable_over, instance_over, setting_over}
use Rattle.report_spec.proofs.SameFacts.{tracked_into, verdict_into}
use Rattle.stage_transfer.specs.Stages.{transfer_of}
use Rattle.certificate_lines.specs.declared.line.ListedEdge.{ListedEdge}
use Rattle.certificate_lines.specs.declared.line.Line.{Line}
use Rattle.certificate_lines.specs.declared.line.Line.TheVariants as lines
use Rattle.certificate_lines.specs.LineOrder.{line_cmp}
use Rattle.certificate_lines.specs.LineTexts.{edge_of, holder_of}
use Rattle.certificate_lines.proofs.LineOrders.{line_total}
use Rattle.certificate_spec.specs.Certificates.{DoAscend, IsCertificateOf, IsClaim, IsEdgeOf, IsTold, claims, follows, head_lines, holds, modifies, runs}
use Rattle.certificate_spec.proofs.OneOrder.{AreAmong, Ascends, same_lists}

-- ---- the order of lines

abbrev Precedes : Line → Line → Type 0
Precedes k l = is_lt (line_cmp k l) ≡ true

not_reversed : (o : Ordering) → is_lt (ordering_reverse o) ≡ true → is_lt o ≡ true → ⊥
not_reversed Less e f = absurd (cc e)
not_reversed Equal e f = absurd (cc f)
not_reversed Greater e f = absurd (cc f)

one_precedes : (k l : Line) → Precedes k l → Precedes l k → ⊥
one_precedes k l before after = not_reversed (line_cmp l k) (sym (ap is_lt (line_total.antisymm k l)) ∙ before) after

ascends : (all : List Line) → DoAscend all → Ascends Precedes one_precedes all
ascends all up = record { each = up.each }

-- ---- by the same facts the same is told

module _ (x : Subject) (gives : GivenAs) (S T : Fact → Type 0) (to : (fact : Fact) → S fact → T fact) (back : (fact : Fact) → T fact → S fact) (w : Asked) where
  claim_over : (stage : ℕ) (s : Site) → IsClaim x gives S w stage s → IsClaim x gives T w stage s
  claim_over stage s c = record {
    site = c.site;
    tracked = tracked_into gives S T to x.program x.property.class_name c.site c.tracked;
    verdict = verdict_into x gives S T to back w c.site (Safe stage) c.verdict;
    is = c.is;
  }

  edge_over : (e : ListedEdge) → IsEdgeOf x gives S w.depth e → IsEdgeOf x gives T w.depth e
  edge_over e is = record {
    setting = is.setting;
    of_stage = is.of_stage;
    of_facts = setting_over x gives S T to back is.setting is.of_facts;
    derivable = derivable_over (StageInstance x gives S is.setting) (StageInstance x gives T is.setting) (instance_over x gives S T to (transfer_of is.setting)) (edge_of e) is.derivable;
  }

  pub told_over : (line : Line) → IsTold x gives S w line → IsTold x gives T w line
  told_over line (runs m h) = runs m (to (may_run m) h)
  told_over line (holds h s there) = holds h s (to (may_hold (holder_of h) s) there)
  told_over line (modifies m f h) = modifies m f (to (may_write m f) h)
  told_over line (claims stage s c) = claims stage s (claim_over stage s c)
  told_over line (follows e c is) = follows e (claim_over e.stage e.site c) (edge_over e is)

module _ (x : Subject) (gives : GivenAs) (S T : Fact → Type 0) (to : (fact : Fact) → S fact → T fact) (back : (fact : Fact) → T fact → S fact) (w : Asked)
    (all others : List Line) (b c : Bool) (one : IsCertificateOf x gives S w all b) (other : IsCertificateOf x gives T w others c) where
  bodies_same : one.body ≡ other.body
  bodies_same =
      same_lists Precedes one_precedes one.body other.body (ascends one.body one.ascend) (ascends other.body other.ascend)
      (record { there = λ line h. (other.told line).1 (told_over x gives S T to back w line ((one.told line).0 h)) })
      (record { there = λ line h. (one.told line).1 (told_over x gives T S back to w line ((other.told line).0 h)) })

  pub certificate_same : (all ≡ others) × (b ≡ c)
  certificate_same = (
    one.is ∙ ap (λ (body : List Line). head_lines x w.depth ++ (body ++ lines.End ∷ [])) bodies_same ∙ sym other.is,
    (report_same x gives w S T to back one.report.0 other.report.0 b c one.report.1 other.report.1).1,
  )
