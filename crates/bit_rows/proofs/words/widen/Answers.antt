use Rattle.std.proofs.Common.{◌≡◌, ℕ, ◌+◌, length, refl, subst, arith}
use Rattle.std.specs.List.{RotatedRight}
use Rattle.bit_rows.proofs.Places.{widened}
use Rattle.bit_rows.proofs.words.widen.Goals as goal

pub returns-clause-moved : goal.returns-clause-moved
returns-clause-moved c =
    let old = c.args.words.now in
    let filled = c.resize.new.self in
    let new = c.rotate_right.new.self in
    let made = c.in_ok-resize.ensures in
    let count : length filled.items ≡ c.args.before + length old.items + c.args.behind = omega (arith, made.len, filled.ok.0, old.ok.0, c.len.ensures) in
    let as_long : filled.len ≡ length filled.items = filled.ok.0 in
    widened c.args.before c.args.behind old.items filled.items new.items count (omega (arith, c.rotate_right.ensures.len, new.ok.0, filled.ok.0))
    (λ k l. made.by_index.0 k 0 (omega (arith, c.len.ensures, old.ok.0)) (omega (arith, old.ok.0)))
    (λ k l m. made.by_index.1 k 0 refl (omega (arith, old.ok.0)) (omega (arith, c.len.ensures, old.ok.0)))
    (subst (λ (n : ℕ). RotatedRight filled.items new.items n c.args.before) as_long c.rotate_right.ensures.by_index)
