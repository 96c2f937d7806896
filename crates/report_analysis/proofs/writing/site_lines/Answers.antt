use Rattle.std.proofs.lemmas.List.Elements.{Contains-get_or}
use Rattle.report_analysis.proofs.writing.site_lines.Goals as goal

pub verdict_line-requires : goal.verdict_line-requires
verdict_line-requires c = c.requires.known _ (Contains-get_or c.args.sites.now c.loop-place.place _ c.loop-place-test.true)
