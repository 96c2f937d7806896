use Rattle.std.proofs.Common.{◌∙◌, true, Bool, List, sym, subst}
use Rattle.std.specs.List.{AllZip, Contains}
use Rattle.std.specs.Prelude.{zip}
use Rattle.std.specs.declared.alloc.Global.{Global}
use Rattle.std.specs.declared.vec.Vec.{Vec}
use Rattle.std.proofs.Common.{ℕ}
use Rattle.flow_graph.proofs.Effects.{zip_length}
use Rattle.ground.specs.Findings.{gives_listed}
use Rattle.site_report.specs.declared.verdict.Verdict.{Verdict}
use Rattle.report_analysis.specs.Judging.{IsToldBelowBy, asked_in}
use Rattle.report_analysis.specs.Later.{IsVerdictOf, subject_in}
use Rattle.report_analysis.proofs.Tracing.{none_told, told_parts}
use Rattle.report_analysis.proofs.later.judge_later.Goals as goal
use Rattle.report_analysis.proofs.later.judge_later.Goals.{then-are_told+in_ok-traces, else-are_told+in_ok-traces-2}

pub returns : goal.returns
returns c =
    let a = c.args.asked in
    let sites = c.args.sites.now in
    let verdicts = c.in_ok-verdicts.verdicts.items in
    record {
      verdicts = c.in_ok-verdicts.ensures;
      traces = elim c.if-are_told.branch [
        | then-are_told+in_ok-traces w ↦
            let parts = told_parts c.args.trace a.stages (sym c.are_told.ensures ∙ w.if-are_told.true) in
            let here = subst (λ (vs : List Verdict). AllZip (IsToldBelowBy a true) (zip sites vs) w.in_ok-traces.traces.items) w.as_slice-then-are_told.ensures.value w.in_ok-traces.ensures in
            let asked = subst (λ (b : Bool). AllZip (IsToldBelowBy a b) (zip sites verdicts) w.in_ok-traces.traces.items) (sym parts.0) here in
            subst (λ (ts : Vec (Vec ℕ Global) Global). AllZip (IsToldBelowBy a c.args.trace) (zip sites verdicts) ts.items) (sym w.traces-is) asked
        | else-are_told+in_ok-traces-2 w ↦
            let empty = w.in_ok-traces-2 in
            let long = zip_length (IsVerdictOf a) sites verdicts c.in_ok-verdicts.ensures in
            let none = none_told (subject_in a) (gives_listed a.ground.now.methods) (Contains a.ground.now.facts) (asked_in a) c.args.trace (sym c.are_told.ensures ∙ w.if-are_told.false) sites verdicts
            empty.traces.items long (record { long = empty.ensures.count; each = empty.ensures.empty }) in
            subst (λ (ts : Vec (Vec ℕ Global) Global). AllZip (IsToldBelowBy a c.args.trace) (zip sites verdicts) ts.items) (sym w.traces-is) none
      ];
    }
