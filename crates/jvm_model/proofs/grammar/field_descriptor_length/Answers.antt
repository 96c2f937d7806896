use Rattle.std.proofs.Common.{◌≤◌, length, take, drop, zero, ◌∙◌, subst, arith, length-drop}
use Rattle.std.proofs.lemmas.List.{take_rest}
use Rattle.jvm_model.specs.Descriptors.{IsFieldDescriptor, IsFieldType}
use Rattle.jvm_model.proofs.Fields.{is_component_byte, found_some, found_none, none_found, field_found, field_behind, with_dimensions}
use Rattle.jvm_model.proofs.grammar.field_descriptor_length.Goals as goal

pub returns-in_err-dimensions : goal.returns-in_err-dimensions
returns-in_err-dimensions c =
    let text = c.args.text.now in
    none_found IsFieldDescriptor text c.from_residual.result c.from_residual.ensures
    (λ front rest is e.
    let at = field_found text front rest is e in
    found_none is_component_byte text is.dimensions c.dimensions_of.result c.dimensions_of.ensures c.in_err-dimensions.was at.at at.inside)

pub returns-then-dimensions-gt-MOST_DIMENSIONS : goal.returns-then-dimensions-gt-MOST_DIMENSIONS
returns-then-dimensions-gt-MOST_DIMENSIONS c = λ front rest is e.
    let text = c.args.text.now in
    let at = found_some is_component_byte text c.in_ok-dimensions.dimensions c.dimensions_of.result c.dimensions_of.ensures c.in_ok-dimensions.was in
    let most = c.if-dimensions-gt-MOST_DIMENSIONS.true in
    omega (arith, at.at, (field_found text front rest is e).at, is.limit, most)

pub returns-in_err-length : goal.returns-in_err-length
returns-in_err-length c =
    let text = c.args.text.now in
    let d = c.in_ok-dimensions.dimensions in
    let at = found_some is_component_byte text d c.dimensions_of.result c.dimensions_of.ensures c.in_ok-dimensions.was in
    none_found IsFieldDescriptor text c.from_residual-in_err-length.result c.from_residual-in_err-length.ensures
    (λ front rest is e.
    let behind = field_behind text front rest d is e at.at in
    c.in_err-length.ensures (drop d front) rest behind.0 (take_rest text d ∙ behind.1))

pub returns : goal.returns
returns c =
    let text = c.args.text.now in
    let d = c.in_ok-dimensions.dimensions in
    let n = c.in_ok-length.length in
    let at = found_some is_component_byte text d c.dimensions_of.result c.dimensions_of.ensures c.in_ok-dimensions.was in
    let le : n ≤ length (drop d text) = subst (λ s. n ≤ length s) (take_rest text d) c.in_ok-length.ensures.0 in
    let component : IsFieldType zero (take n (drop d text)) = subst (λ s. IsFieldType zero (take n s)) (take_rest text d) c.in_ok-length.ensures.1 in
    let most = c.if-dimensions-gt-MOST_DIMENSIONS.false in (
      omega (arith, le, length-drop d text, at.inside),
      record {
        dimensions = d;
        limit = most;
        type_is = with_dimensions d n text at.at (omega (arith, at.inside)) component;
      },
    )
