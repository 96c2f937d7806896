-- An object of an execution stands at a site that a method which may run makes it at: so a site of the property's class at which there is one is tracked.
use Rattle.std.proofs.Common.{◌≡◌, ◌⊎◌, inl, inr, ℕ, Bool, true, List, Contains, ap, subst}
use Rattle.jvm_model.specs.declared.number.MethodNo.{MethodNo}
use Rattle.jvm_model.specs.declared.site.Site.{Site}
use Rattle.jvm_model.specs.declared.site.SiteKind.{SiteKind}
use Rattle.jvm_model.specs.declared.site.SiteKind.TheVariants.{Boot, New, Result, Thrown}
use Rattle.jvm_model.specs.LinkedPrograms.{IsProgram}
use Rattle.machine_bytecode.specs.Executions.{Errs}
use Rattle.machine_bytecode.specs.Objects.{Subject}
use Rattle.op_model.specs.declared.lowered.LoweredMethod.{LoweredMethod}
use Rattle.op_model.specs.declared.node.Node.{Node}
use Rattle.op_model.specs.declared.op.Op.TheVariants.{NewArray}
use Rattle.points_to_rules.specs.Facts.{Fact, may_run}
use Rattle.points_to_rules.specs.Rules.{IsNodeOf}
use Rattle.lowering_supply.proofs.EachAnswer.{each_answer}
use Rattle.lowering_supply.proofs.Maps.{is_map}
use Rattle.lowering_supply.specs.Supplied.{IsSupplied}
use Rattle.coverage.proofs.Lists.{placed}
use Rattle.coverage.specs.Sites.{IsMadeAt, of_new, of_new_array, of_result, of_thrown, of_raised, IsSite, of_start, of_arguments, of_node, before_entry}
use Rattle.simulation.proofs.CoveredExecutions.{executions_covered}
use Rattle.simulation.proofs.Supplied.{supplied_runs}
use Rattle.simulation.specs.Simulation.{HasEntry, HasExceptions}
use Rattle.simulation.proofs.Whole.{supplied_arrays, supplied_whole}
use Rattle.site_report.specs.declared.tracked_site.TrackedSite.{TrackedSite}
use Rattle.site_report.specs.Sites.{site_in}
use Rattle.report_spec.specs.Tracked.{Allocates, IsTracked, makes, is_given}
use Rattle.run_soundness.specs.Claims.{IsOwnSite}
use Rattle.run_soundness.specs.ClosedFacts.{AreClosedFacts}
use Rattle.report_spec.specs.Verdicts.{Asked}
use Rattle.run_soundness.proofs.StageSites.{class_named, kind_of}
use Rattle.run_soundness.proofs.TrueReports.{EdgesNeverErr, IsReportBy, sites_true}

-- Objects are made there by an instruction or by a stub that gives one.
abbrev IsMade : SiteKind → Type 0
IsMade kind = (kind ≡ New) ⊎ (kind ≡ Result)

not_boot : (kind : SiteKind) → kind ≡ Boot → IsMade kind → ⊥
not_boot kind is (inl new) = cc
not_boot kind is (inr result) = cc

not_thrown : (kind : SiteKind) → kind ≡ Thrown → IsMade kind → ⊥
not_thrown kind is (inl new) = cc
not_thrown kind is (inr result) = cc

module _ (x : Subject) (facts : List Fact) (program : IsProgram x.program) (exceptions : HasExceptions x.program) (entry : HasEntry x) (are : AreClosedFacts x facts) where
  abbrev S : Fact → Type 0
  S = Contains facts

  made_there : (s : Site) → Errs x s → IsSite x.program (IsSupplied x.program) S s
  made_there s e =
      let m = is_map x.program program in
      let run = supplied_runs x m.0 program exceptions entry m.1 in
      let all = executions_covered x m.0 (IsSupplied x.program) S run m.1 (λ number coded. each_answer x.program number run.program coded) (supplied_whole x.program)
      (λ premises fact instance hold. are.closed premises fact (inl instance) hold) are.unrefused e.states e.execution in
      let object = (all.2 e.state e.reached).world.objects e.lives.0 e.object (placed e.state.world.heap e.object e.lives) in
      subst (IsSite x.program (IsSupplied x.program) S) e.of_site object.made

  module _ (s : Site) (made : IsMade s.kind) (no_array : (m : MethodNo) (l : LoweredMethod) (n : Node) (sites : List Site) (target : ℕ)
      → IsNodeOf (IsSupplied x.program) m l n → n.op ≡ NewArray sites target → Contains sites s → ⊥) where
    at_node : (m : MethodNo) (l : LoweredMethod) (n : Node) → S (may_run m) → IsNodeOf (IsSupplied x.program) m l n → IsMadeAt x.program S m n s
        → Allocates x.program (IsSupplied x.program) S s
    at_node m l n runs node (of_new target is) = makes m l n target runs node is
    at_node m l n runs node (of_new_array sites target is among) = absurd (no_array m l n sites target node is among)
    at_node m l n runs node (of_result c target stub class is goes described listed same) =
        is_given m l n c target stub class runs node is goes described listed same
    at_node m l n runs node (of_thrown c target stub class is goes described listed same) = absurd (not_thrown s.kind (ap kind_of same) made)
    at_node m l n runs node (of_raised number class among number_is same) = absurd (not_thrown s.kind (ap kind_of same) made)

    allocated : IsSite x.program (IsSupplied x.program) S s → Allocates x.program (IsSupplied x.program) S s
    allocated (of_start class among is) = absurd (not_boot s.kind (ap kind_of is) made)
    allocated (of_arguments is) = absurd (not_boot s.kind (ap kind_of is) made)
    allocated (of_node m l n runs node at) = at_node m l n runs node at
    allocated (before_entry class is_error is) = absurd (not_thrown s.kind (ap kind_of is) made)

  pub own_is_tracked : (t : TrackedSite) → IsOwnSite x t → Errs x (site_in x.program t) → IsTracked x.program (IsSupplied x.program) S x.property.class_name t
  own_is_tracked t own e = record {
    known = own.known;
    allocated = allocated (site_in x.program t) own.kind
        (λ m l n sites target node is among. supplied_arrays x.program m.0 l node.given n sites target node.stands is (site_in x.program t) among (class_named x.program program t.class.0 own.known))
        (made_there (site_in x.program t) e);
    below = own.below;
  }

-- Where a report says that all is safe, no site of the program's own ever errs.
pub own_never_err : EdgesNeverErr → (x : Subject) (w : Asked) (trace : Bool) (facts : List Fact) (lines : List (List ℕ)) (all_safe : Bool) → IsProgram x.program → HasExceptions x.program
    → HasEntry x → AreClosedFacts x facts → IsReportBy x w trace facts lines all_safe → all_safe ≡ true → (t : TrackedSite) → IsOwnSite x t → Errs x (site_in x.program t) → ⊥
own_never_err never_by_edges x w trace facts lines all_safe program exceptions entry are report safe t own errs =
    sites_true never_by_edges x w trace facts lines all_safe program exceptions entry are report safe t (own_is_tracked x facts program exceptions entry are t own errs) errs
