use Rattle.std.proofs.Common.{◌≡◌, ◌<◌, false, length, get_or, sym, ◌∙◌, ap, arith}
use Rattle.std.proofs.lemmas.List.{get_or_default}
use Rattle.program_index.specs.ClassSets.{Classes}
use Rattle.program_index.proofs.Marks.{marked_push}
use Rattle.program_index.proofs.class_set.ClassSet.add.Goals as goal

pub invariant_of-self-then-not-index : goal.invariant_of-self-then-not-index
invariant_of-self-then-not-index c =
    let marks = c.self.inside.marks.items in
    let size = ap (λ (s : Classes). s.size) c.self.view_is in
    let below : c.args.class < length marks = omega (arith, c.requires) in
    let unmarked : get_or marks c.args.class false ≡ false =
    get_or_default marks c.args.class false c.index.result.now below ∙ sym c.index.ensures ∙ c.if-not-index.true in
    rw c.in_ok-push.ensures.items (marked_push marks c.self.inside.items.items c.args.class c.self.invariant below unmarked)
