use Rattle.std.proofs.Common.{◌≡◌, ◌≤◌, List, length, take, ◌∙◌, ap, arith}
use Rattle.std.proofs.lemmas.List.{take_all}
use Rattle.access_paths.specs.declared.cut.Cut.{Cut}
use Rattle.access_paths.specs.Paths.{Path, with_path}
use Rattle.fact_rows.proofs.Growing.{have_length}
use Rattle.fact_rows.proofs.Reading.{add_next, path_at}
use Rattle.fact_rows.proofs.fact_row.unpack_paths.Goals as goal

pub unpack_path-requires : goal.unpack_path-requires
unpack_path-requires c =
    let found = path_at c.args.pool.now.rows c.requires.0 c.args.numbers.now c.loop-number.number-index c.requires.1 (omega arith) in
    (found.0, found.2)

pub loop-number-preserved : goal.loop-number-preserved
loop-number-preserved c set has =
    let i = c.loop-number.number-index in
    let found = path_at c.args.pool.now.rows set c.args.numbers.now i has (omega arith) in
    let path : c.unpack_path.result ≡ found.0 = c.unpack_path.ensures found.0 found.2 in
    ap (λ (cut : Cut). cut.set) c.add-set.ensures ∙ ap (λ (x : Path). take 6 (with_path x c.loop-number.set)) path
    ∙ ap (λ (xs : List Path). take 6 (with_path found.0 xs)) (c.loop-number.invariant set has) ∙ add_next set i found.0 has.is_set found.1

pub returns : goal.returns
returns c set has =
    let all : length set ≤ c.loop-number.number-index = omega (arith, have_length c.args.pool.now.rows set c.args.numbers.now has.have) in
    c.loop-number.invariant set has ∙ take_all c.loop-number.number-index set all
