use Rattle.std.proofs.Common.{◌≡◌, ◌++◌, ℕ, List, Option, get_or, ap, ◌∙◌, subst}
use Rattle.std.specs.List.{flat_map}
use Rattle.std.specs.Option.{option_to_list}
use Rattle.std.proofs.lemmas.Option.{slice_get-get_or}
use Rattle.jvm_model.specs.declared.stub.StubArgument.{StubArgument}
use Rattle.jvm_model.specs.declared.stub.StubArgument.TheVariants.{This}
use Rattle.node_ways.proofs.Describing.{kept_all, kept_more, kept_of}
use Rattle.node_ways.proofs.described.kept_slots.Goals as goal

pub loop-argument-preserved : goal.loop-argument-preserved
loop-argument-preserved c = record {
  kept = λ parameters of.
      let keeps = c.as_slice-argument-items.result.now in
      let k = c.loop-argument.argument-index in
      let a : StubArgument = get_or keeps k This in
      let f = kept_of c.args.call.now c.args.stub.now parameters in
      let b = c.loop-argument.kept.items in
      kept_more f keeps k a (slice_get-get_or keeps k This c.loop-argument-test.true) b c.push_slot.new.slots.items (c.loop-argument.invariant.kept parameters of)
      (c.in_ok-push_slot.ensures ∙ ap (λ (o : Option ℕ). b ++ option_to_list o) (c.argument_slot.ensures parameters of));
}

pub returns : goal.returns
returns c = λ parameters of.
    let f = kept_of c.args.call.now c.args.stub.now parameters in
    subst (λ (keeps : List StubArgument). c.loop-argument.kept.items ≡ flat_map f keeps) c.as_slice-argument-items.ensures
    (kept_all f c.as_slice-argument-items.result.now c.loop-argument.argument-index c.loop-argument-test.false c.loop-argument.kept.items (c.loop-argument.invariant.kept parameters of))
