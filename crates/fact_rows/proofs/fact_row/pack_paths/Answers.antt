use Rattle.std.proofs.Common.{◌≡◌, ◌<◌, List, length, get_or, ◌∙◌, ap, arith}
use Rattle.std.proofs.lemmas.Bool.{false≢true}
use Rattle.access_paths.specs.Paths.{Path}
use Rattle.fact_rows.specs.PathRows.{path_words}
use Rattle.fact_rows.proofs.Growing.{gets_more, grows_more, one_more, spare_next, words_of_path}
use Rattle.fact_rows.proofs.fact_row.pack_paths.Goals as goal

pub returns-in_err-row-clause-sure : goal.returns-in_err-row-clause-sure
returns-in_err-row-clause-sure c spare =
    let within : c.loop-path.path-index < length c.args.set.now = omega (arith, ap length c.as_slice-path-items.ensures.paths) in
    absurd (false≢true (c.in_err-row.ensures.sure
    (spare_next c.loop-path.path-index (length c.args.set.now) c.args.pool.now c.loop-path.pool c.loop-path.invariant.2 within spare)))

pub loop-path-preserved : goal.loop-path-preserved
loop-path-preserved c =
    let i = c.loop-path.path-index in
    let x = c.path-item.result in
    let now = c.loop-path.pool in
    let new = c.pack_path.new.pool in
    let within : i < length c.args.set.now = omega (arith, ap length c.as_slice-path-items.ensures.paths) in
    let at : x ≡ get_or c.args.set.now i x = c.path-item.is ∙ ap (λ (xs : List Path). get_or xs i x) c.as_slice-path-items.ensures.paths in
    let row = c.in_ok-row.ensures.row in
    let interned = c.in_ok-row.ensures.interned in (
      gets_more now.rows new.rows c.args.set.now i x c.args.words.now.items c.loop-path.words.items c.push.new.self.items c.in_ok-row.row.0
          c.loop-path.invariant.0 c.pack_path.ensures.kept within at row c.push.ensures.items,
      omega (arith, c.push.ensures.len, c.loop-path.invariant.1),
      grows_more i c.args.pool.now now new (path_words x) c.loop-path.invariant.2 interned c.pack_path.ensures.room
          (words_of_path new.rows c.in_ok-row.row.0 x row) (one_more now new (path_words x) interned),
    )
