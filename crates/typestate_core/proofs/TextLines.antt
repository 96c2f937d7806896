-- What a run says is a text of lines: so it is cut into these again.
use Rattle.std.proofs.Common.{◌≡◌, ◌≢◌, ◌∙◌, ℕ, Bool, List, [], ◌∷◌, ◌++◌, All, map, refl, sym, ap, append-nil, subst}
use Rattle.std.specs.List.{AllByRecursion}
use Rattle.std.proofs.lemmas.List.Elements.{All-cons, All-nil, All-from_recursion}
use Rattle.machine_bytecode.specs.Objects.{Subject}
use Rattle.op_model.specs.Supplies.{GivenAs}
use Rattle.points_to_rules.specs.Facts.{Fact}
use Rattle.site_report.proofs.PlainLines.{IsLine as IsTold}
use Rattle.certificate_lines.specs.declared.line.Line.{Line}
use Rattle.certificate_lines.specs.LineTexts.{line_text}
use Rattle.certificates.specs.Texts.{text}
use Rattle.certificate_spec.proofs.PlainCertificates.{lines_are_lines}
use Rattle.report_spec.specs.Traces.{IsTracedReport, traced_lines}
use Rattle.report_spec.proofs.Traced.{traced_are_lines}
use Rattle.report_spec.specs.Verdicts.{Asked}
use Rattle.report_analysis.specs.Texts.{IsReportText}
use Rattle.report_analysis.specs.Texts.{text_of}
use Rattle.typestate_core.specs.Output.{IsLine, lines_in}
use Rattle.typestate_core.proofs.Cutting.{lines_of_text}

is_line : (line : List ℕ) → IsTold line → IsLine line
is_line line told = record {
  content = told.content;
  plain = All-from_recursion (λ (b : ℕ). b ≢ 10) told.content told.plain.each;
  line_is = told.is;
}

are_lines : (lines : List (List ℕ)) → AllByRecursion IsTold lines → All IsLine lines
are_lines [] told = All-nil IsLine
are_lines (line ∷ lines) told = All-cons IsLine line lines (is_line line told.0) (are_lines lines told.1)

-- a text of one line
pub one_line : (text line : List ℕ) → IsTold line → text ≡ line → lines_in text ≡ line ∷ []
one_line text line told is =
    ap lines_in (is ∙ sym (append-nil line)) ∙ lines_of_text (line ∷ []) (are_lines (line ∷ []) (told, tt))

-- the text of a certificate
joined : (lines : List Line) → text_of (map line_text lines) ≡ text lines
joined [] = refl
joined (line ∷ lines) = ap (λ (rest : List ℕ). line_text line ++ rest) (joined lines)

pub certificate_cut : (lines : List Line) (bytes : List ℕ) → bytes ≡ text lines → lines_in bytes ≡ map line_text lines
certificate_cut lines bytes is = ap lines_in (is ∙ sym (joined lines)) ∙ lines_of_text (map line_text lines) (are_lines (map line_text lines) (lines_are_lines lines))

-- the text of a report
pub report_cut : (x : Subject) (gives : GivenAs) (S : Fact → Type 0) (w : Asked) (trace : Bool) (text : List ℕ) (all_safe : Bool) → IsReportText x gives S w trace text all_safe
    → IsTracedReport x gives S w trace (lines_in text) all_safe
report_cut x gives S w trace text all_safe told =
    let r = told.report in
    let lines = traced_lines x.program w.stages r.report.found r.traces in
    let formed = traced_are_lines x.program w.stages r.report.found r.traces in
    let cut : lines_in (text_of lines) ≡ lines = lines_of_text lines (are_lines lines formed) in
    let same : lines_in text ≡ told.lines = ap lines_in (told.text_is ∙ ap text_of r.lines_are) ∙ (cut ∙ sym r.lines_are) in
    subst (λ (ls : List (List ℕ)). IsTracedReport x gives S w trace ls all_safe) (sym same) r
