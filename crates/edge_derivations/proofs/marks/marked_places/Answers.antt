use Rattle.std.proofs.Common.{◌+◌, List, ℕ, sym, ◌∙◌, ap, subst}
use Rattle.edge_derivations.specs.Marks.{AreListed, IsMarked}
use Rattle.edge_derivations.proofs.Listing.{is_marked, listed_more, listed_still, not_marked}
use Rattle.edge_derivations.proofs.marks.marked_places.Goals as goal
use Rattle.edge_derivations.proofs.marks.marked_places.Goals.{then-is_marked+in_ok-push, else-is_marked}

pub loop-place-preserved : goal.loop-place-preserved
loop-place-preserved c =
    let marks = c.args.marks.now in
    let place = c.loop-place.place in
    let were = c.loop-place.invariant.listed in
    let Are : List ℕ → Type 0 = λ places. AreListed (IsMarked marks) (place + 1) places in
    elim c.if-is_marked.branch [
      | then-is_marked+in_ok-push w ↦
          let more = listed_more (IsMarked marks) place c.loop-place.places.items were (is_marked marks place c.loop-place-test.true w.if-is_marked.true) in
          record { listed = subst Are (sym (ap (λ v. v.items) w.places-is ∙ w.in_ok-push.ensures.items)) more }
      | else-is_marked w ↦
          let still = listed_still (IsMarked marks) place c.loop-place.places.items were (not_marked marks place c.loop-place-test.true w.if-is_marked.false) in
          record { listed = subst Are (sym (ap (λ v. v.items) w.places-is)) still }
    ]
