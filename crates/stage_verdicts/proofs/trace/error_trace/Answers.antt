use Rattle.std.proofs.Common.{◌≡◌, ◌∙◌, ℕ, Option, Some, sym, ap, refl, subst}
use Rattle.std.specs.List.{slice_get}
use Rattle.std.specs.Prelude.{IfNone, IfSome, MatchOption}
use Rattle.std.proofs.lemmas.Option.{slice_get_within}
use Rattle.std.proofs.lemmas.Result.{IfOk-weaker}
use Rattle.jvm_model.specs.declared.site.Site.{Site}
use Rattle.list_laws.proofs.Places.{stands_below}
use Rattle.machine_bytecode.specs.Objects.{Subject}
use Rattle.tabulation.specs.Found.{Found}
use Rattle.stage_verdicts.specs.declared.finding.Finding.TheVariants as findings
use Rattle.stage_verdicts.specs.LaterVerdicts.{HasAsMany, HasErrorAt, HasFound, HasNoError, IsFoundBy, IsSubjectOf, IsTraceText}
use Rattle.stage_verdicts.specs.TraceTexts.{AreDerivationLines}
use Rattle.stage_verdicts.proofs.Deriving.{trace_text}
use Rattle.stage_verdicts.proofs.Judged.{finding_of_place, limit_is_found, own, own_is}
use Rattle.stage_verdicts.proofs.trace.error_trace.Goals as goal

pub unreachable-requires : goal.unreachable-requires
unreachable-requires c =
    let a = c.args.asked in
    let q = c.question_of-question.result in
    let (s, at) = stands_below a.ground.now.sites c.args.site.0 c.requires.site in
    let many = subst (λ (o : Option Found). IfNone o (HasAsMany q)) c.in_default.is c.in_ok-edges.ensures.limit in
    let found = limit_is_found a (own a) s a.stages c.requires.asked (own_is a) c.requires.two c.requires.asked.stages c.args.site q c.question_of-question.ensures at many in
    (c.requires.left (own a) s (own_is a) at).1 found.1

pub derivation_lines-requires : goal.derivation_lines-requires
derivation_lines-requires c =
    let edges = c.in-Some.edges.edges in
    let error = subst (λ (o : Option ℕ). MatchOption o (HasNoError c.args.asked.automaton.now edges) (HasErrorAt c.args.asked.automaton.now edges)) c.in-Some-error_place.is c.error_place.ensures in
    slice_get_within edges c.in-Some-error_place.place error.0 error.1

pub unreachable-requires-in-None : goal.unreachable-requires-in-None
unreachable-requires-in-None c =
    let a = c.args.asked in
    let q = c.question_of-question.result in
    let (s, at) = stands_below a.ground.now.sites c.args.site.0 c.requires.site in
    let has = subst (λ (o : Option Found). IfSome o (HasFound q)) c.in-Some.is c.in_ok-edges.ensures.edges in
    let safe = subst (λ (o : Option ℕ). IsFoundBy o findings.Safe) (sym c.in-None.is) refl in
    (c.requires.left (own a) s (own_is a) at).0
    (finding_of_place a (own a) s a.stages c.requires.asked (own_is a) c.requires.two c.requires.asked.stages c.args.site q c.question_of-question.ensures at c.in-Some.edges has
    c.error_place.result c.error_place.ensures findings.Safe safe)

pub returns : goal.returns
returns c =
    let a = c.args.asked in
    let q = c.question_of-question.result in
    let found = c.in-Some.edges in
    let has = subst (λ (o : Option Found). IfSome o (HasFound q)) c.in-Some.is c.in_ok-edges.ensures.edges in
    let error = subst (λ (o : Option ℕ). MatchOption o (HasNoError a.automaton.now found.edges) (HasErrorAt a.automaton.now found.edges)) c.in-Some-error_place.is c.error_place.ensures in
    IfOk-weaker c.derivation_lines.result (λ text. AreDerivationLines q.setting.stage q.setting.site.now found c.in-Some-error_place.place text.items)
    (λ text. (x : Subject) (s : Site) → IsSubjectOf a x → slice_get a.ground.now.sites c.args.site.0 ≡ Some s → IsTraceText a x s text.items)
    (λ text lines x s subject at.
    trace_text a x s c.requires.asked subject c.requires.two c.args.site q c.question_of-question.ensures at found has.reasons c.in-Some-error_place.place error text.items lines)
    c.derivation_lines.ensures
