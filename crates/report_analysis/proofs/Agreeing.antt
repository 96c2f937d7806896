-- Two suppliers that give the same nodes of methods that may run: the same sites are tracked, and the same events may occur.
use Rattle.std.proofs.Common.{◌≡◌, ℕ, List, Ok, refl, sym, ap, ◌∙◌, subst}
use Rattle.jvm_model.specs.declared.automaton.Automaton.{Automaton}
use Rattle.jvm_model.specs.declared.automaton.Event.{Event}
use Rattle.jvm_model.specs.declared.number.MethodNo.{MethodNo}
use Rattle.jvm_model.specs.declared.site.Site.{Site}
use Rattle.jvm_model.specs.Programs.{Program}
use Rattle.op_model.specs.declared.lowered.LoweredMethod.{LoweredMethod}
use Rattle.op_model.specs.declared.node.Node.{Node}
use Rattle.op_model.specs.Supplies.{GivenAs}
use Rattle.points_to_rules.specs.Facts.{Fact, may_run}
use Rattle.points_to_rules.specs.Rules.{IsNodeOf}
use Rattle.ground.specs.Findings.{gives_listed}
use Rattle.report_analysis.specs.Analyses.{AreListed}
use Rattle.prune_stage.specs.Pruning.{IsPruned, MayOccur}
use Rattle.site_report.specs.declared.tracked_site.TrackedSite.{TrackedSite}
use Rattle.site_report.specs.Sites.{site_in}
use Rattle.report_spec.specs.Tracked.{Allocates, AreTracked, IsTracked, makes, is_given}

-- Each node that the one gives of a method that may run, the other gives.
abbrev pub GivesNodes : (Fact → Type 0) → GivenAs → GivenAs → Type 0
GivesNodes S from to = (m : MethodNo) (l : LoweredMethod) (n : Node) → S (may_run m) → IsNodeOf from m l n → IsNodeOf to m l n

-- ---- from the one to the other

module _ (p : Program) (S : Fact → Type 0) (from to : GivenAs) (over : GivesNodes S from to) where
  allocates_over : (s : Site) → Allocates p from S s → Allocates p to S s
  allocates_over s (makes m l n target runs node is) = makes m l n target runs (over m l n runs node) is
  allocates_over s (is_given m l n c target stub class runs node is goes described listed same) =
      is_given m l n c target stub class runs (over m l n runs node) is goes described listed same

  pub tracked_over : (upper : List ℕ) (t : TrackedSite) → IsTracked p from S upper t → IsTracked p to S upper t
  tracked_over upper t tracked = record { known = tracked.known; allocated = allocates_over (site_in p t) tracked.allocated; below = tracked.below }

  occurs_over : (a : Automaton) (s : Site) (e : Event) → MayOccur from S a s e → MayOccur to S a s e
  occurs_over a s e o = record {
    m = o.m;
    l = o.l;
    n = o.n;
    c = o.c;
    runs = o.runs;
    node = over o.m o.l o.n o.runs o.node;
    is_call = o.is_call;
    selecting = o.selecting;
    event = o.event;
    z = o.z;
    receiver = o.receiver;
    from = o.from;
    slot = o.slot;
    holds = o.holds;
  }

  pub pruned_over : (a : Automaton) (s : Site) → IsPruned to S a s → IsPruned from S a s
  pruned_over a s pruned = record { no_word = λ word all. pruned.no_word word (λ k d l. occurs_over a s _ (all k d l)) }

-- ---- both ways

module _ (p : Program) (S : Fact → Type 0) (one other : GivenAs) (there : GivesNodes S one other) (back : GivesNodes S other one) where
  pub tracked_both : (upper : List ℕ) (sites : List TrackedSite) → AreTracked p one S upper sites → AreTracked p other S upper sites
  tracked_both upper sites are = record {
    those = λ t. (
      (λ listed. tracked_over p S one other there upper t ((are.those t).0 listed)),
      (λ tracked. (are.those t).1 (tracked_over p S other one back upper t tracked)),
    );
    order = are.order;
  }

-- ---- the listed methods

module _ (gives : GivenAs) (S : Fact → Type 0) (methods : List LoweredMethod) (listed : AreListed gives S methods) where
  -- a listed method is given
  pub listed_is_given : GivesNodes S (gives_listed methods) gives
  listed_is_given m l n runs node =
      let (x, among, number, answer) = node.given in
      let same : l ≡ x = cc in
      let as_listed = subst (λ (y : LoweredMethod). gives y.method.0 (Ok y)) (sym same) (listed.only x among).1 in
      let own : l.method.0 ≡ m.0 = ap (λ (y : LoweredMethod). y.method.0) same ∙ number in
      record { given = subst (λ (k : ℕ). gives k (Ok l)) own as_listed; stands = node.stands }

  -- and what is given of a method that may run is listed
  pub given_is_listed : ((number : ℕ) (l : LoweredMethod) → gives number (Ok l) → l.method ≡ record { 0 = number }) → GivesNodes S gives (gives_listed methods)
  given_is_listed whole m l n runs node =
      let own = ap (λ (number : MethodNo). number.0) (whole m.0 l node.given) in
      record { given = (l, listed.all m l runs node.given, own, refl); stands = node.stands }
