use Rattle.std.proofs.Common.{◌≡◌, ◌∙◌, List, length, rules, replicate, subst, sym, arith}
use Rattle.std.proofs.lemmas.List.{take_at}
use Rattle.slot_names.specs.declared.arrivals.Arrival.{Arrival}
use Rattle.slot_names.specs.declared.arrivals.Arrival.TheVariants.{Nothing}
use Rattle.slot_names.specs.Arriving.{AreArrivals}
use Rattle.slot_names.proofs.NotedArrivals.{AreSound-start}
use Rattle.slot_names.proofs.arrivals.arrivals.Goals as goal

-- nothing is noted at first
pub note_all-requires-clause-sound : goal.note_all-requires-clause-sound
note_all-requires-clause-sound c =
    let made : c.in_ok-arrivals.arrivals.items ≡ replicate c.len.result Nothing = c.in_ok-arrivals.ensures.items_if_clones_equal (λ y h. search rules) in
    AreSound-start c.args.method.now c.deref_mut.result.now c.len.result (c.deref_mut.ensures.value ∙ made) c.len.ensures

pub returns : goal.returns
returns c =
    let count : length c.note_all.new.arrivals ≡ c.in_ok-arrivals.arrivals.len = omega (arith, c.note_all.auto.arrivals, c.deref_mut.ensures.len) in
    subst (λ (xs : List Arrival). AreArrivals c.args.method.now xs) (sym (take_at c.note_all.new.arrivals _ c.in_ok-arrivals.arrivals.len count)) c.note_all.ensures
