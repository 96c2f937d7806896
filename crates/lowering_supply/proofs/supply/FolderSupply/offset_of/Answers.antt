use Rattle.std.proofs.Common.{sym, ◌∙◌, subst, arith}
use Rattle.std.proofs.lemmas.Option.{slice_get_within, get_or_from_slice_get}
use Rattle.jvm_model.specs.Programs.{Program}
use Rattle.code_reader.specs.Places.{method_offset}
use Rattle.lowering_supply.specs.Methods.{IsShown}
use Rattle.lowering_supply.proofs.Counted.{offset_below, counted_more}
use Rattle.lowering_supply.proofs.Shown.{file_of_class}
use Rattle.lowering_supply.proofs.supply.FolderSupply.offset_of.Goals as goal

pub index-requires : goal.index-requires
index-requires c =
    let is = subst (λ (p : Program). IsShown p c.args.method) (sym c.self.view_is) c.requires in
    let are = c.self.invariant.each c.args.method.class.0 c.in-Some.offsets.now (sym c.in-Some.ensures.value) c.args.method.file.now (file_of_class c.self.inside.program.now c.args.method is) in
    let below = offset_below c.args.method.file.now c.in-Some.offsets.now.items c.args.method.place are (slice_get_within c.args.method.file.now.methods c.args.method.place is.code.owner is.code.there) in
    omega (arith, below, c.in-Some.offsets.now.ok)

pub returns-in-Some-clause-offset : goal.returns-in-Some-clause-offset
returns-in-Some-clause-offset c =
    let is = subst (λ (p : Program). IsShown p c.args.method) (sym c.self.view_is) c.requires in
    let are = c.self.invariant.each c.args.method.class.0 c.in-Some.offsets.now (sym c.in-Some.ensures.value) c.args.method.file.now (file_of_class c.self.inside.program.now c.args.method is) in
    let there = are.each c.args.method.place (slice_get_within c.args.method.file.now.methods c.args.method.place is.code.owner is.code.there) in
    c.index.ensures ∙ get_or_from_slice_get c.in-Some.offsets.now.items c.args.method.place (method_offset c.args.method.file.now c.args.method.place) c.index.result.now there

pub index-offset-requires : goal.index-offset-requires
index-offset-requires c =
    let below = offset_below c.args.method.file.now c.in_ok-offsets.offsets.items c.args.method.place c.in_ok-offsets.ensures (slice_get_within c.args.method.file.now.methods c.args.method.place c.requires.code.owner c.requires.code.there) in
    omega (arith, below, c.in_ok-offsets.offsets.ok)

pub invariant_of-self-2 : goal.invariant_of-self-2
invariant_of-self-2 c =
    let is = subst (λ (p : Program). IsShown p c.args.method) (sym c.self.view_is) c.requires in
    counted_more c.self.inside.program.now c.self.inside.offsets c.insert.new.self c.args.method.class.0 c.in_ok-offsets.offsets c.args.method.file.now c.well_formed-2.ensures.files
    (file_of_class c.self.inside.program.now c.args.method is) c.in_ok-offsets.ensures c.self.invariant c.in_ok-insert.ensures.updates

pub returns-clause-offset : goal.returns-clause-offset
returns-clause-offset c =
    let there = (c.in_ok-offsets.ensures).each c.args.method.place (slice_get_within c.args.method.file.now.methods c.args.method.place c.requires.code.owner c.requires.code.there) in
    c.index-offset.ensures ∙ get_or_from_slice_get c.in_ok-offsets.offsets.items c.args.method.place (method_offset c.args.method.file.now c.args.method.place) c.index-offset.result.now there
