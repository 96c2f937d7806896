use Rattle.std.proofs.Common.{true≢false, ◌≡◌, false, sym, ◌∙◌, ap}
use Rattle.std.specs.Str.{bytes_eq}
use Rattle.std.proofs.lemmas.Slice.Eq.{bytes_eq-Decides}
use Rattle.jvm_model.specs.Soundness.{plain_descriptor}
use Rattle.jvm_model.specs.Lookups.{Signature}
use Rattle.hierarchy.proofs.ClassPlaces.{place_there}
use Rattle.points_to_rules.specs.Rules.{HasArguments}
use Rattle.points_to_numbers.proofs.Adding.{adds_same}
use Rattle.points_to.specs.Starting.{ArgumentItem, IsArgument}
use Rattle.points_to.proofs.start.argument_items.Goals as goal

pub returns-clause-adds : goal.returns-clause-adds
returns-clause-adds c =
    let p = c.args.program.now in
    let entry = c.args.entry in
    let (m, stands) = place_there p.methods entry.0 c.requires in
    let view = c.method.ensures m stands in
    let text = c.method.result.signature.descriptor.now in
    let also = c.if-eq.ensures in
    let is_plain : bytes_eq text plain_descriptor ≡ false = sym (also ∙ ap (bytes_eq text) c.as_slice.ensures) in
    let has : HasArguments p entry = record {
      method = m;
      stands = stands;
      some = λ e. true≢false ((sym ((bytes_eq-Decides text plain_descriptor).1 (ap (λ (s : Signature). s.descriptor) (sym view.signature) ∙ e))) ∙ is_plain);
    } in
    adds_same c.string_items.new.work.tables (IsArgument entry) (ArgumentItem p entry) c.args.work.now.steps.items c.string_items.new.work.steps.items
    (λ x. ((λ h. (has, h)), (λ h. h.1))) c.in_ok-string_items.ensures.adds
