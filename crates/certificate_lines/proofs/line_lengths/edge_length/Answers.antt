use Rattle.std.proofs.Common.{decimal, length, ap, ◌∙◌, arith}
use Rattle.stage_facts.specs.Plain.{fact_of}
use Rattle.edge_lines.specs.EdgeLines.{fact_words, method_word, site_words, spot_word}
use Rattle.certificate_lines.proofs.Lengths.{edge_count}
use Rattle.certificate_lines.proofs.line_lengths.edge_length.Goals as goal

pub returns-clause-long : goal.returns-clause-long
returns-clause-long c =
    let e = c.args.edge.now in
    let whole = edge_count (decimal e.stage) (site_words e.site) (method_word e.method) (fact_words (fact_of e.entry)) (spot_word e.spot) (fact_words (fact_of e.fact)) in
    let stage = c.number_length-stage.ensures.long ∙ ap (λ n. length (decimal n)) c.from.ensures in
    omega (
      arith,
      whole,
      stage,
      c.site_length-site.ensures.long,
      c.method_length-method.ensures.long,
      c.fact_length-entry.ensures.long,
      c.spot_length-spot.ensures.long,
      c.fact_length-fact.ensures.long,
    )
