use Rattle.std.proofs.Common.{◌≡◌, ℕ, ◌≤◌, ◌<◌, List, length, get_or, arith, ap, ◌∙◌}
use Rattle.std.specs.Fmt.{decimal}
use Rattle.std.proofs.lemmas.Fmt.{decimal_nonempty, first_decimal}
use Rattle.stub_file.proofs.OneWord.{number_read}
use Rattle.stub_file.proofs.words.number_of.Goals as goal

pub returns-in-len1-up : goal.returns-in-len1-up
returns-in-len1-up c =
    let first : 48 < get_or c.args.digits.now 0 0 = rw (← c.as_bytes.ensures.value) c.if-first-gt48.true in
    rw c.ok.ensures.value (number_read c.args.digits.now c.from_str_radix.result first c.from_str_radix.ensures.value)

pub returns-in_default : goal.returns-in_default
returns-in_default c = λ x h.
    let small : x ≤ 255 = h.1 in
    let same : length c.args.digits.now ≡ length (decimal x) = ap length h.2 in
    omega (arith, decimal_nonempty x (omega arith))

pub returns-in_default-2 : goal.returns-in_default-2
returns-in_default-2 c = λ x h.
    let low : 1 ≤ x = h.0 in
    let small : x ≤ 255 = h.1 in
    let same : get_or c.as_bytes.result.now 0 0 ≡ get_or (decimal x) 0 0 = ap (λ (l : List ℕ). get_or l 0 0) (c.as_bytes.ensures.value ∙ h.2) in
    omega (arith, first_decimal x (omega arith) (omega arith))
