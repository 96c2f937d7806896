use Rattle.std.proofs.Common.{◌≡◌, ◌∙◌, ◌<◌, ℕ, List, All, length, sym, subst}
use Rattle.std.specs.List.{flat_map}
use Rattle.std.proofs.lemmas.Result.{IfOk-weaker}
use Rattle.stage_verdicts.specs.TraceTexts.{AreDerivationLines, line_at}
use Rattle.stage_verdicts.proofs.Deriving.{edges_there, lines_there}
use Rattle.stage_verdicts.proofs.trace.derivation_lines.Goals as goal

pub returns : goal.returns
returns c =
    let n = c.args.setting.stage in
    let s = c.args.setting.site.now in
    let found = c.args.edges.now in
    let places = c.in_ok-places.places.items in
    let cut = c.in_ok-places.ensures in
    let (these, stand) = edges_there found.edges places cut.within in
    IfOk-weaker c.lines_at.result (λ text. text.items ≡ flat_map (line_at n s found.edges) c.as_slice.result.now) (λ text. AreDerivationLines n s found c.args.last text.items)
    (λ text is.
    let at : text.items ≡ flat_map (line_at n s found.edges) places = subst (λ (ps : List ℕ). text.items ≡ flat_map (line_at n s found.edges) ps) c.as_slice.ensures.value is in
    record {
      places = places;
      cut = cut.cut;
      these = these;
      stand = stand;
      derived = λ q x w right. cut.derived q x w these right stand;
      text_is = at ∙ lines_there found.edges n s places these stand;
    })
    c.lines_at.ensures
