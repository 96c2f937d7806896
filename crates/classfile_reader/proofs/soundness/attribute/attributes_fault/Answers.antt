use Rattle.std.proofs.Common.{List, [], ◌∷◌, subst, arith}
use Rattle.jvm_model.specs.declared.pool.EntryKind.TheVariants as kinds
use Rattle.jvm_model.specs.Soundness.{Use, leads, at_offset, attribute_places}
use Rattle.jvm_model.specs.Spelling as spelling
use Rattle.jvm_model.proofs.Lengths.{one_fits}
use Rattle.classfile_reader.specs.FirstPlace.{IsFirstBreach}
use Rattle.classfile_reader.proofs.FirstPlaces.{Walked-init, Walked-more, Walked-stops, Walked-all}
use Rattle.classfile_reader.proofs.soundness.attribute.attributes_fault.Goals as goal

pub returns-in-Some : goal.returns-in-Some
returns-in-Some c =
    let pool = c.args.pool.now in
    let uses : List Use = leads (kinds.Text ∷ []) c.attribute-item.result.name ∷ [] in
    let first = subst (IsFirstBreach pool (at_offset c.loop-attribute.offset uses)) c.in-Some.is (c.at_offset.ensures pool uses c.index_reason-reason.ensures) in
    Walked-stops pool attribute_places spelling.attribute c.args.start c.args.attributes.now c.loop-attribute.attribute-index c.loop-attribute.offset c.attribute-item.result c.in-Some.fault c.loop-attribute-test.true c.attribute-item.is
    c.loop-attribute.invariant first

pub loop-attribute-init : goal.loop-attribute-init
loop-attribute-init c = Walked-init c.args.pool.now attribute_places spelling.attribute c.args.start c.args.attributes.now

pub attribute_length-offset-requires : goal.attribute_length-offset-requires
attribute_length-offset-requires c =
    let fits = one_fits spelling.attribute c.args.attributes.now c.loop-attribute.attribute-index c.attribute-item.result c.loop-attribute-test.true c.attribute-item.is in
    omega (arith, fits, c.requires)

pub overflow_add-offset : goal.overflow_add-offset
overflow_add-offset c =
    let fits = one_fits spelling.attribute c.args.attributes.now c.loop-attribute.attribute-index c.attribute-item.result c.loop-attribute-test.true c.attribute-item.is in
    omega (arith, fits, c.requires, c.loop-attribute.invariant.at, c.attribute_length-offset.ensures)

pub loop-attribute-preserved : goal.loop-attribute-preserved
loop-attribute-preserved c =
    let pool = c.args.pool.now in
    let uses : List Use = leads (kinds.Text ∷ []) c.attribute-item.result.name ∷ [] in
    let none = subst (IsFirstBreach pool (at_offset c.loop-attribute.offset uses)) c.in_default.is (c.at_offset.ensures pool uses c.index_reason-reason.ensures) in
    rw c.attribute_length-offset.ensures
    (Walked-more pool attribute_places spelling.attribute c.args.start c.args.attributes.now c.loop-attribute.attribute-index c.loop-attribute.offset c.attribute-item.result c.loop-attribute-test.true c.attribute-item.is c.loop-attribute.invariant none)

pub returns : goal.returns
returns c =
    Walked-all c.args.pool.now attribute_places spelling.attribute c.args.start c.args.attributes.now c.loop-attribute.attribute-index c.loop-attribute.offset (omega (arith, c.loop-attribute-test.false)) c.loop-attribute.invariant
