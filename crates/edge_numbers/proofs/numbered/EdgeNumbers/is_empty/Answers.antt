use Rattle.std.proofs.Common.{◌∙◌, sym}
use Rattle.edge_numbers.proofs.EdgeRows.{none_from, none_of}
use Rattle.edge_numbers.proofs.numbered.EdgeNumbers.is_empty.Goals as goal

pub returns : goal.returns
returns c =
    let rows = c.self.inside.pool.rows in
    (λ yes. sym c.self.view_is ∙ none_from rows (c.is_empty.ensures.0 yes), λ none. c.is_empty.ensures.1 (none_of rows (c.self.view_is ∙ none)))
