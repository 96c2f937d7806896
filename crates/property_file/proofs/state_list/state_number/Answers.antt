use Rattle.std.proofs.Common.{◌≡◌, ◌<◌, Some, length, below_more, arith, refl, sym, ap, ◌∙◌}
use Rattle.std.proofs.lemmas.Bool.{false≢true}
use Rattle.std.proofs.lemmas.Option.{same_Some, slice_get_read, slice_get_within}
use Rattle.std.proofs.lemmas.Slice.Eq.{bytes_eq-Decides}
use Rattle.property_file.proofs.state_list.state_number.Goals as goal

pub returns-then-eq : goal.returns-then-eq
returns-then-eq c =
    let name = c.args.name.now in
    let here = slice_get_read c.args.states.now (length c.args.states.now) c.loop-number.number c.index-states-number.result refl c.loop-number-test.true c.index-states-number.is in
    let same : c.as_str.result.now ≡ name = (bytes_eq-Decides c.as_str.result.now name).0 (sym c.eq.ensures ∙ c.if-eq.true) in
    here ∙ ap Some (sym c.as_str.ensures ∙ same)

pub loop-number-preserved : goal.loop-number-preserved
loop-number-preserved c =
    let name = c.args.name.now in
    let here = slice_get_read c.args.states.now (length c.args.states.now) c.loop-number.number c.index-states-number.result refl c.loop-number-test.true c.index-states-number.is in
    below_more _ _ c.loop-number.invariant (λ e.
    let same : c.as_str.result.now ≡ name = c.as_str.ensures ∙ same_Some _ _ (sym here ∙ e) in
    false≢true (sym c.if-eq.false ∙ c.eq.ensures ∙ (bytes_eq-Decides c.as_str.result.now name).1 same))

pub returns : goal.returns
returns c = λ k e.
    let within : k < length c.args.states.now = slice_get_within c.args.states.now k c.args.name.now e in
    c.loop-number.invariant k (omega arith) e
