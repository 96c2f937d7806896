use Rattle.std.proofs.Common.{◌≡◌, ◌↔◌, ℕ, Bool, List, length, take, sym, ◌∙◌, ap, subst}
use Rattle.std.specs.Prelude.{IsTrue}
use Rattle.std.specs.List.{AllZip}
use Rattle.std.proofs.lemmas.Result.{IfOk-weaker}
use Rattle.jvm_model.specs.Programs.{Program}
use Rattle.program_model.specs.Numbers.{IsClassNumber}
use Rattle.prune_stage.specs.StageOne.{IsSafe, picked}
use Rattle.prune_stage.specs.declared.event_set.EventSet.{EventSet}
use Rattle.prune_stage.specs.Marks.{IsMarked}
use Rattle.prune_stage.specs.Places.{ArePlaces}
use Rattle.prune_stage.proofs.NumberedPlaces.{are_below}
use Rattle.prune_stage.proofs.PrunedSites.{all_pruned, written_back}
use Rattle.prune_stage.proofs.pruning.prune.Goals as goal

pub site_places-requires-clause-known : goal.site_places-requires-clause-known
site_places-requires-clause-known c = λ t there. subst (λ (p : Program). IsClassNumber p t.class.0) (sym c.program.ensures) (c.requires.known t there)

pub mark_methods-requires-clause-below : goal.mark_methods-requires-clause-below
mark_methods-requires-clause-below c =
    let g = c.args.ground.now in
    let sites = c.args.sites.now in
    let places = c.in_ok-places.places.items in
    let are = subst (λ (p : Program). ArePlaces p g.sites sites places) c.program.ensures c.in_ok-places.ensures in
    let long = ap (length {A = EventSet}) c.deref_mut.ensures.value ∙ c.in_ok-sets.ensures.count in
    are_below g.program g.sites sites places (length c.deref_mut.result.now) (sym long) are

pub returns : goal.returns
returns c =
    let g = c.args.ground.now in
    let a = c.args.automaton.now in
    let sites = c.args.sites.now in
    let items = c.in_ok-sets.sets.items in
    let empty = c.deref_mut.result.now in
    let sets = c.mark_methods.new.sets in
    let places = c.in_ok-places.places.items in
    let are = subst (λ (p : Program). ArePlaces p g.sites sites places) c.program.ensures c.in_ok-places.ensures in
    let none = subst (λ (list : List EventSet). (place event : ℕ) → IsMarked list place event → ⊥) (sym c.deref_mut.ensures.value) c.in_ok-sets.ensures.none in
    let kept : length sets ≡ length empty = c.mark_methods.auto.sets in
    let whole : length empty ≡ length items = ap (length {A = EventSet}) c.deref_mut.ensures.value in
    let count : length items ≡ c.in_ok-sets.sets.len = sym whole ∙ c.deref_mut.ensures.len in
    let read = written_back sets items c.deref.result.now c.in_ok-sets.sets.len c.deref.ensures.value (kept ∙ whole) count in
    let Answered : EventSet → Bool → Type 0 = λ set answer. IsTrue answer ↔ IsSafe a (picked (take (length a.events) set.occurs) a.events) in
    IfOk-weaker c.answers_of.result _ _
    (λ answers all.
    all_pruned g a sites places are empty sets none c.mark_methods.ensures c.well_formed-2.ensures.held (kept ∙ whole ∙ c.in_ok-sets.ensures.count) answers.items
    (subst (λ (list : List EventSet). AllZip Answered list answers.items) read all))
    c.answers_of.ensures
