use Rattle.std.proofs.Common.{List, [], ◌∷◌, take, refl, sym, subst, arith}
use Rattle.jvm_model.specs.declared.class_file.Attribute.{Attribute}
use Rattle.jvm_model.specs.declared.pool.EntryKind.TheVariants as kinds
use Rattle.jvm_model.specs.Soundness.{Use, is_code, leads, code_allowed, at_offset, code_places}
use Rattle.jvm_model.specs.Spelling as spelling
use Rattle.jvm_model.proofs.Lengths.{one_fits}
use Rattle.classfile_reader.specs.FirstPlace.{IsFirstBreach}
use Rattle.classfile_reader.proofs.FirstPlaces.{Walked-init, Walked-more, Walked-stops, any_more, item_read}
use Rattle.classfile_reader.proofs.soundness.attribute.code_fault.Goals as goal

pub returns-in-Some : goal.returns-in-Some
returns-in-Some c =
    let pool = c.args.pool.now in
    let method = c.args.method.now in
    let i = c.loop-attribute.attribute-index in
    let item : Attribute = c.attribute-item.result in
    let at = item_read method.attributes _ i item c.as_slice-attribute-items.ensures c.loop-attribute-test.true c.attribute-item.is in
    let earlier : List Attribute = take i method.attributes in
    let uses : List Use = leads (kinds.Text ∷ []) item.name ∷ code_allowed method earlier item ∷ [] in
    let first = subst (IsFirstBreach pool (at_offset c.loop-attribute.offset uses)) c.in-Some.is (c.at_offset.ensures pool uses (c.attribute_reason-reason.ensures earlier c.loop-attribute.invariant.1)) in
    Walked-stops pool (code_places method) spelling.attribute c.args.start method.attributes i c.loop-attribute.offset item c.in-Some.fault at.0 at.1 c.loop-attribute.invariant.0 first

pub loop-attribute-init : goal.loop-attribute-init
loop-attribute-init c = (Walked-init c.args.pool.now (code_places c.args.method.now) spelling.attribute c.args.start c.args.method.now.attributes, refl)

pub loop-attribute-preserved : goal.loop-attribute-preserved
loop-attribute-preserved c =
    let pool = c.args.pool.now in
    let method = c.args.method.now in
    let i = c.loop-attribute.attribute-index in
    let item : Attribute = c.attribute-item.result in
    let at = item_read method.attributes _ i item c.as_slice-attribute-items.ensures c.loop-attribute-test.true c.attribute-item.is in
    let earlier : List Attribute = take i method.attributes in
    let uses : List Use = leads (kinds.Text ∷ []) item.name ∷ code_allowed method earlier item ∷ [] in
    let none = subst (IsFirstBreach pool (at_offset c.loop-attribute.offset uses)) c.in_default.is (c.at_offset.ensures pool uses (c.attribute_reason-reason.ensures earlier c.loop-attribute.invariant.1)) in
    let walked = Walked-more pool (code_places method) spelling.attribute c.args.start method.attributes i c.loop-attribute.offset item at.0 at.1 c.loop-attribute.invariant.0 none in
    let more = any_more (is_code pool) method.attributes i item at.0 at.1 in
    (rw c.attribute_length-offset.ensures walked, rw (c.loop-attribute.invariant.1, c.is_code-has_code.ensures) (sym more))

pub attribute_length-offset-requires : goal.attribute_length-offset-requires
attribute_length-offset-requires c =
    let attributes = c.args.method.now.attributes in
    let i = c.loop-attribute.attribute-index in
    let item : Attribute = c.attribute-item.result in
    let at = item_read attributes _ i item c.as_slice-attribute-items.ensures c.loop-attribute-test.true c.attribute-item.is in
    omega (arith, one_fits spelling.attribute attributes i item at.0 at.1, c.requires)

pub overflow_add-offset : goal.overflow_add-offset
overflow_add-offset c =
    let attributes = c.args.method.now.attributes in
    let i = c.loop-attribute.attribute-index in
    let item : Attribute = c.attribute-item.result in
    let at = item_read attributes _ i item c.as_slice-attribute-items.ensures c.loop-attribute-test.true c.attribute-item.is in
    omega (arith, one_fits spelling.attribute attributes i item at.0 at.1, c.requires, c.loop-attribute.invariant.0.at, c.attribute_length-offset.ensures)
