-- A report speaks of the methods that may run, of their calls and of what places may hold: by facts that are the same in these it is the same report.
use Rattle.std.proofs.Common.{ℕ, Bool, List, All, map}
use Rattle.std.proofs.lemmas.List.Elements.{All-weaker}
use Rattle.jvm_model.specs.declared.automaton.Automaton.{Automaton}
use Rattle.jvm_model.specs.declared.automaton.Event.{Event}
use Rattle.jvm_model.specs.declared.site.Site.{Site}
use Rattle.jvm_model.specs.Programs.{Program}
use Rattle.op_model.specs.Supplies.{GivenAs}
use Rattle.machine_bytecode.specs.Objects.{Subject}
use Rattle.points_to_rules.specs.Facts.{Fact, may_hold, may_run, may_call}
use Rattle.points_to_rules.specs.Rules.{node_of}
use Rattle.site_report.specs.declared.tracked_site.TrackedSite.{TrackedSite}
use Rattle.site_report.specs.declared.verdict.Verdict.{Verdict}
use Rattle.site_report.specs.Sites.{site_in}
use Rattle.prune_stage.specs.Pruning.{IsPruned, MayOccur}
use Rattle.report_spec.specs.Reports.{IsReport}
use Rattle.report_spec.specs.Tracked.{Allocates, AreTracked, IsTracked, makes, is_given}
use Rattle.report_spec.specs.Verdicts.{Asked, AtLimitBy, IsVerdict, SafeBy, by_events, by_edges, of_edges}
use Rattle.report_spec.proofs.FirstStages.{verdict_over}
use Rattle.report_spec.proofs.SameEdges.{limit_over, safe_below_over}

-- ---- facts of a larger set

module _ (gives : GivenAs) (S T : Fact → Type 0) (to : (fact : Fact) → S fact → T fact) where
  allocates_into : (p : Program) (s : Site) → Allocates p gives S s → Allocates p gives T s
  allocates_into p s (makes m l n target runs node is_op) = makes m l n target (to (may_run m) runs) node is_op
  allocates_into p s (is_given m l n c target stub class runs node is_op calls described listed is) =
      is_given m l n c target stub class (to (may_run m) runs) node is_op (to (may_call (node_of m n) target) calls) described listed is

  pub tracked_into : (p : Program) (upper : List ℕ) (t : TrackedSite) → IsTracked p gives S upper t → IsTracked p gives T upper t
  tracked_into p upper t is = record { known = is.known; allocated = allocates_into p (site_in p t) is.allocated; below = is.below }

  occurs_into : (a : Automaton) (s : Site) (e : Event) → MayOccur gives S a s e → MayOccur gives T a s e
  occurs_into a s e o = record {
    m = o.m;
    l = o.l;
    n = o.n;
    c = o.c;
    runs = to (may_run o.m) o.runs;
    node = o.node;
    is_call = o.is_call;
    selecting = o.selecting;
    event = o.event;
    z = o.z;
    receiver = o.receiver;
    from = o.from;
    slot = o.slot;
    holds = to (may_hold o.from s) o.holds;
  }

  -- fewer events lead to the error state by fewer words
  pruned_back : (a : Automaton) (s : Site) → IsPruned gives T a s → IsPruned gives S a s
  pruned_back a s is = record {
    no_word = λ word all ends. is.no_word word (All-weaker (MayOccur gives S a s) (MayOccur gives T a s) (occurs_into a s) word all) ends;
  }

-- ---- the same facts

module _ (x : Subject) (gives : GivenAs) (S T : Fact → Type 0) (to : (fact : Fact) → S fact → T fact) (back : (fact : Fact) → T fact → S fact) where
  safe_into : (depth limit : ℕ) (s : Site) (stage : ℕ) → SafeBy x gives S depth limit s stage → SafeBy x gives T depth limit s stage
  safe_into depth limit s stage (by_events first pruned) = by_events first (pruned_back gives T S back x.property s pruned)
  safe_into depth limit s stage (by_edges setting of below) = by_edges setting of (safe_below_over x gives S T to back setting limit below)

  limit_into : (depth limit : ℕ) (s : Site) (stage : ℕ) → AtLimitBy x gives S depth limit s stage → AtLimitBy x gives T depth limit s stage
  limit_into depth limit s stage (of_edges setting of many) = of_edges setting of (limit_over x gives S T to back setting limit many)

module _ (x : Subject) (gives : GivenAs) (S T : Fact → Type 0) (to : (fact : Fact) → S fact → T fact) (back : (fact : Fact) → T fact → S fact) where
  pub verdict_into : (w : Asked) (t : TrackedSite) (v : Verdict) → IsVerdict x gives S w t v → IsVerdict x gives T w t v
  verdict_into w t v is =
      let s = site_in x.program t in
      let d = w.depth in
      let n = w.fact_limit in
      verdict_over (SafeBy x gives S d n s) (SafeBy x gives T d n s) (AtLimitBy x gives S d n s) (AtLimitBy x gives T d n s) w.stages
      (λ stage within. safe_into x gives S T to back d n s stage) (λ stage within. safe_into x gives T S back to d n s stage)
      (λ stage within. limit_into x gives S T to back d n s stage) (λ stage within. limit_into x gives T S back to d n s stage) v is

  pub sites_into : (upper : List ℕ) (sites : List TrackedSite) → AreTracked x.program gives S upper sites → AreTracked x.program gives T upper sites
  sites_into upper sites are = record {
    those = λ t. (
      (λ there. tracked_into gives S T to x.program upper t ((are.those t).0 there)),
      (λ is. (are.those t).1 (tracked_into gives T S back x.program upper t is)),
    );
    order = are.order;
  }

  pub verdicts_into : (w : Asked) (found : List (TrackedSite × Verdict)) → All (λ (f : TrackedSite × Verdict). IsVerdict x gives S w f.0 f.1) found
      → All (λ (f : TrackedSite × Verdict). IsVerdict x gives T w f.0 f.1) found
  verdicts_into w found all =
      All-weaker (λ (f : TrackedSite × Verdict). IsVerdict x gives S w f.0 f.1) (λ (f : TrackedSite × Verdict). IsVerdict x gives T w f.0 f.1)
      (λ f is. verdict_into w f.0 f.1 is) found all

  pub report_into : (w : Asked) (lines : List (List ℕ)) (all_safe : Bool) → IsReport x gives S w lines all_safe → IsReport x gives T w lines all_safe
  report_into w lines all_safe r = record {
    found = r.found;
    tracked = sites_into x.property.class_name (map (λ (f : TrackedSite × Verdict). f.0) r.found) r.tracked;
    verdicts = verdicts_into w r.found r.verdicts;
    lines_are = r.lines_are;
    safe = r.safe;
  }
