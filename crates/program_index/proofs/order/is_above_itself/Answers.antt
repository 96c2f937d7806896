use Rattle.std.proofs.Common.{◌≡◌, ◌<◌, ℕ, [], length, refl, sym, ◌∙◌, ap, arith}
use Rattle.std.proofs.lemmas.Option.{slice_get_read}
use Rattle.program_index.specs.Supertypes.{direct_of}
use Rattle.program_index.specs.ClassSets.{Classes, with_classes}
use Rattle.program_index.proofs.ClassLists.{with_classes_longer}
use Rattle.program_index.proofs.Walking.{walk_start, walk_more, walked_all, walked_only}
use Rattle.program_index.proofs.order.is_above_itself.Goals as goal

pub loop-done-init : goal.loop-done-init
loop-done-init c =
    let g = c.args.parents.now in
    let p = c.index-parents-class.result in
    let stands = slice_get_read g (length g) c.args.class p refl c.requires.class c.index-parents-class.is in
    let items : c.add_direct.new.classes.items ≡ with_classes [] (direct_of p) =
    ap (λ (s : Classes). s.items) c.in_ok-add_direct.ensures ∙ ap (λ (s : Classes). with_classes s.items (direct_of p)) c.clear.ensures in
    record {
      size = ap (λ (s : Classes). s.size) c.in_ok-add_direct.ensures ∙ ap (λ (s : Classes). s.size) c.clear.ensures ∙ c.requires.size;
      walk = rw items (walk_start g c.args.class p stands);
      within = omega arith;
    }

pub loop-done-preserved : goal.loop-done-preserved
loop-done-preserved c =
    let g = c.args.parents.now in
    let p = c.index-parents-next.result in
    let walked = c.loop-done.walked.items in
    let below : c.at-next.result < length g = omega (arith, c.at-next.ensures.below, c.loop-done.invariant.size) in
    let stands = slice_get_read g (length g) c.at-next.result p refl below c.index-parents-next.is in
    let items : c.add_direct-in-loop-done.new.classes.items ≡ with_classes walked (direct_of p) = ap (λ (s : Classes). s.items) c.in_ok-add_direct-2.ensures in
    record {
      size = ap (λ (s : Classes). s.size) c.in_ok-add_direct-2.ensures ∙ c.loop-done.invariant.size;
      walk = rw items (walk_more g c.args.class walked c.loop-done.done c.at-next.result p c.loop-done.invariant.walk c.at-next.ensures.found stands);
      within = omega (arith, c.len.ensures.count, with_classes_longer walked (direct_of p), ap (length {A = ℕ}) items);
    }

pub returns-clause-answer : goal.returns-clause-answer
returns-clause-answer c =
    let g = c.args.parents.now in (
      (λ h. walked_only g c.args.class c.loop-done.walked.items c.loop-done.done c.loop-done.invariant.walk c.args.class (sym c.contains.ensures ∙ h)),
      (λ a. c.contains.ensures ∙ walked_all g c.args.class c.loop-done.walked.items c.loop-done.done c.loop-done.invariant.walk (omega (arith, c.len.ensures.count)) c.args.class a),
    )
