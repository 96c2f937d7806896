use Rattle.std.proofs.Common.{◌∙◌, sym, ap}
use Rattle.fact_pool.specs.Rows.{PoolRows, word_count}
use Rattle.fact_pool.proofs.Releasing.{word_count-rows}
use Rattle.fact_pool.proofs.pool.FactPool.mark.Goals as goal

pub returns-clause-words : goal.returns-clause-words
returns-clause-words c =
    let inside = c.self.inside in
    let all = word_count-rows inside.words.items inside.entries.items c.self.invariant.table.ends_ascend in
    c.len-2.ensures ∙ inside.words.ok.0 ∙ sym all ∙ ap (λ (p : PoolRows). word_count p.rows) c.self.view_is
