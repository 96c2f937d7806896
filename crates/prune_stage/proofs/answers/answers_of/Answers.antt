use Rattle.std.proofs.Common.{◌↔◌, ◌+◌, [], ◌∷◌, ◌++◌, ℕ, Bool, List, length, refl, take, sym, ◌∙◌, ap, subst}
use Rattle.std.specs.Prelude.{IsTrue}
use Rattle.std.specs.List.{AllZip}
use Rattle.std.proofs.lemmas.Option.{slice_get_read}
use Rattle.std.proofs.lemmas.Slice.Zip.{all_zipped_more}
use Rattle.program_model.proofs.Pieces.{take_one_more}
use Rattle.prune_stage.specs.StageOne.{IsSafe, picked}
use Rattle.prune_stage.specs.declared.event_set.EventSet.{EventSet}
use Rattle.prune_stage.proofs.answers.answers_of.Goals as goal

pub loop-set-preserved : goal.loop-set-preserved
loop-set-preserved c =
    let a = c.args.automaton.now in
    let sets = c.args.sets.now in
    let k = c.loop-set.set-index in
    let set = c.set-item.result in
    let answers = c.loop-set.answers.items in
    let answer = c.is_safe.result in
    let Answers : EventSet → Bool → Type 0 = λ s b. IsTrue b ↔ IsSafe a (picked (take (length a.events) s.occurs) a.events) in
    let at = slice_get_read sets (length sets) k set refl c.loop-set-test.true c.set-item.is in
    let first = c.first.ensures ∙ ap (λ (n : ℕ). take n set.occurs) c.len-count.ensures in
    let one = subst (λ (occurs : List Bool). IsTrue answer ↔ IsSafe a (picked occurs a.events)) first c.is_safe.ensures in
    let more = all_zipped_more Answers (take k sets) answers set answer c.loop-set.invariant.answered one in
    record {
      answered = subst (λ (items : List Bool). AllZip Answers (take (k + 1) sets) items) (sym c.in_ok-push.ensures.items)
          (subst (λ (front : List EventSet). AllZip Answers front (answers ++ answer ∷ [])) (sym (take_one_more sets k set at)) more);
    }
