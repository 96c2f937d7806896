use Rattle.std.proofs.Common.{◌≡◌, ℕ, ◌+◌, List, Some, length, take, sym, ap, ◌∙◌, subst, arith}
use Rattle.std.specs.List.{flat_map}
use Rattle.jvm_model.specs.declared.class_file.Member.{Member}
use Rattle.jvm_model.specs.Soundness.{methods_offset}
use Rattle.jvm_model.specs.Spelling.{member}
use Rattle.jvm_model.proofs.Lengths.{one_fits, one_more, at_end}
use Rattle.code_reader.proofs.MethodPlaces.{front_fits}
use Rattle.lowering_supply.proofs.Counting.{AreCountedTo, one_counted, none_counted}
use Rattle.lowering_supply.proofs.offsets.method_offsets.Goals as goal

pub loop-method-init : goal.loop-method-init
loop-method-init c =
    let none = c.new-offsets.ensures.items in
    (omega (arith, c.methods_offset-offset.ensures), ap (λ (xs : List ℕ). length xs) none, none_counted (λ k. methods_offset c.args.class.now + length (flat_map member (take k c.as_slice-method-items.result.now))) c.new-offsets.result.items)

pub member_length-offset-requires : goal.member_length-offset-requires
member_length-offset-requires c =
    let fits = front_fits c.args.class.now (length c.args.class.now.methods) in
    let same = ap (λ (ms : List Member). length (flat_map member (take (length c.args.class.now.methods) ms))) c.as_slice-method-items.ensures in
    let counts = ap (λ (ms : List Member). length ms) c.as_slice-method-items.ensures in
    let all = at_end member c.as_slice-method-items.result.now (length c.args.class.now.methods) (omega (arith, counts)) in
    omega (arith, fits, same, all, c.requires, one_fits member c.as_slice-method-items.result.now c.loop-method.method-index c.method-item.result c.loop-method-test.true c.method-item.is)

pub overflow_add-offset : goal.overflow_add-offset
overflow_add-offset c =
    let fits = front_fits c.args.class.now (length c.args.class.now.methods) in
    let same = ap (λ (ms : List Member). length (flat_map member (take (length c.args.class.now.methods) ms))) c.as_slice-method-items.ensures in
    let counts = ap (λ (ms : List Member). length ms) c.as_slice-method-items.ensures in
    let all = at_end member c.as_slice-method-items.result.now (length c.args.class.now.methods) (omega (arith, counts)) in
    let at = c.loop-method.invariant.0 in
    omega (arith, fits, same, all, at, c.requires, c.member_length-offset.ensures, one_fits member c.as_slice-method-items.result.now c.loop-method.method-index c.method-item.result c.loop-method-test.true c.method-item.is)

pub loop-method-preserved : goal.loop-method-preserved
loop-method-preserved c =
    let value : ℕ → ℕ = λ k. methods_offset c.args.class.now + length (flat_map member (take k c.as_slice-method-items.result.now)) in
    let at = c.loop-method.invariant.0 in
    let next = one_more member c.as_slice-method-items.result.now c.loop-method.method-index c.method-item.result c.loop-method-test.true c.method-item.is in
    let pushed = c.in_ok-push.ensures.items in
    let longer = one_counted value c.loop-method.offsets.items c.loop-method.method-index c.loop-method.offset c.loop-method.invariant.1 at c.loop-method.invariant.2 in (
      omega (arith, at, next, c.member_length-offset.ensures),
      subst (λ (xs : List ℕ). length xs ≡ c.loop-method.method-index + 1) (sym pushed) longer.count,
      subst (λ (xs : List ℕ). AreCountedTo value xs (c.loop-method.method-index + 1)) (sym pushed) longer.counted,
    )

pub returns : goal.returns
returns c = record {
  each = λ place lt.
      let same = c.as_slice-method-items.ensures in
      let counts = ap (λ (ms : List Member). length ms) same in
      let past = c.loop-method-test.false in
      c.loop-method.invariant.2 place (omega (arith, lt, counts, past))
      ∙ ap (λ (ms : List Member). Some (methods_offset c.args.class.now + length (flat_map member (take place ms)))) same;
}
