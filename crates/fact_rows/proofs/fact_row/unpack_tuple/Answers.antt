use Rattle.std.proofs.Common.{◌≡◌}
use Rattle.fact_rows.proofs.Reading.{may_is, must_not_part, must_part, must_within, state_is, unique_is}
use Rattle.fact_rows.proofs.fact_row.unpack_tuple.Goals as goal

pub split_at-requires : goal.split_at-requires
split_at-requires c = must_within c.args.pool.now.rows c.args.words.now c.requires.0 c.requires.1

pub unpack_paths-requires : goal.unpack_paths-requires
unpack_paths-requires c =
    let t = c.requires.0 in
    (t.must, must_part c.args.pool.now.rows c.args.words.now c.split_at.result.0.now t c.requires.1 c.split_at.ensures.front)

pub unpack_paths-requires-2 : goal.unpack_paths-requires-2
unpack_paths-requires-2 c =
    let t = c.requires.0 in
    (t.must_not, must_not_part c.args.pool.now.rows c.args.words.now c.split_at.result.1.now t c.requires.1 c.split_at.ensures.back)

pub returns : goal.returns
returns c t are =
    let rows = c.args.pool.now.rows in
    let words = c.args.words.now in
    let must : c.unpack_paths.result ≡ t.must =
    c.unpack_paths.ensures t.must (must_part rows words c.split_at.result.0.now t are c.split_at.ensures.front) in
    let must_not : c.unpack_paths-2.result ≡ t.must_not =
    c.unpack_paths-2.ensures t.must_not (must_not_part rows words c.split_at.result.1.now t are c.split_at.ensures.back) in
    let unique = unique_is rows words t are in
    let state = state_is rows words t are in
    let may = may_is rows words t are in
    λ i. record { unique = unique i; state = state i; must = must i; may = may i; must_not = must_not i }
