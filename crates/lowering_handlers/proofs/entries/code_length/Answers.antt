use Rattle.std.proofs.Common.{◌≡◌, Some, ℕ, ◌≤◌, List, length, sym, ap, ◌∙◌, subst, arith}
use Rattle.std.proofs.lemmas.Option.{same_Some}
use Rattle.jvm_model.specs.declared.class_file.Member.{Member}
use Rattle.std.specs.List.{slice_get}
use Rattle.jvm_model.specs.Code.{CodeBody, HasCode}
use Rattle.jvm_model.specs.Layout.{HasFirstCode}
use Rattle.code_reader.proofs.ToldCodes.{stands_there}
use Rattle.lowering_handlers.specs.Entries.{fifth_to_eighth}
use Rattle.lowering_handlers.proofs.CodeLengths.{first_is, said_length, body_long, has_read, first_in, none_in, not_none, table_fits}
use Rattle.lowering_handlers.proofs.entries.code_length.Goals as goal

pub unreachable-requires : goal.unreachable-requires
unreachable-requires c =
    let class = c.args.class.now in
    let read = c.requires.code.1 in
    let m = c.index-as_slice-method.result in
    let there = stands_there class c.args.method read.owner m m c.as_slice.result.now read.there c.as_slice.ensures c.index-as_slice-method.is in
    not_none class c.args.method m c.requires.code.0 there read (none_in class.pool _ m.attributes _ c.as_slice-2.ensures c.as_slice-3.ensures c.in_default.ensures.none)

pub length_said-requires : goal.length_said-requires
length_said-requires c =
    let class = c.args.class.now in
    let read = c.requires.code.1 in
    let m = c.index-as_slice-method.result in
    let there = stands_there class c.args.method read.owner m m c.as_slice.result.now read.there c.as_slice.ensures c.index-as_slice-method.is in
    let h = has_read class c.requires.checked c.args.method m c.requires.code.0 there read in
    let attribute = c.in-Some.attribute.now in
    let first = first_in class.pool _ m.attributes _ attribute c.as_slice-2.ensures c.as_slice-3.ensures c.in-Some.ensures.first in
    let long = body_long attribute.body h.body (first_is class m attribute h.body first h.has) in
    let enough : 8 ≤ length attribute.body = omega (arith, long) in
    subst (λ (bytes : List ℕ). 8 ≤ length bytes) (sym c.as_slice-4.ensures) enough

pub returns : goal.returns
returns c = record {
  said = said;
  fits = λ code read. table_fits c.args.class.now c.requires.checked c.args.method code read c.length_said.result said;
}
  where
    said : (m : Member) (body : CodeBody) → slice_get c.args.class.now.methods c.args.method ≡ Some m → HasCode c.args.class.now m body → c.length_said.result ≡ length body.bytes
    said m body stands has =
        let class = c.args.class.now in
        let n = c.index-as_slice-method.result in
        let there = stands_there class c.args.method m n n c.as_slice.result.now stands c.as_slice.ensures c.index-as_slice-method.is in
        let same : n ≡ m = same_Some n m (sym there ∙ stands) in
        let attribute = c.in-Some.attribute.now in
        let first : HasFirstCode class.pool n.attributes attribute = first_in class.pool _ n.attributes _ attribute c.as_slice-2.ensures c.as_slice-3.ensures c.in-Some.ensures.first in
        let of_m = subst (λ (k : Member). HasFirstCode class.pool k.attributes attribute) same first in
        c.length_said.ensures ∙ ap fifth_to_eighth c.as_slice-4.ensures ∙ said_length attribute.body body (first_is class m attribute body of_m has)
