use Rattle.std.proofs.Common.{◌≡◌, ◌+◌, ◌-◌, ◌<◌, Bool, List, Some, replicate, false, sym, ap, ◌∙◌, subst, arith}
use Rattle.std.proofs.lemmas.Option.{slice_get_read}
use Rattle.edge_numbers.specs.Premises.{premises}
use Rattle.edge_derivations.specs.Marks.{AreFollowed, AreMarkedBefore}
use Rattle.edge_derivations.proofs.Following.{all_followed, first_followed, followed_more, followed_still, written_back}
use Rattle.edge_derivations.proofs.derivation.needed_before.Goals as goal

pub loop-place-init : goal.loop-place-init
loop-place-init c =
    let reasons = c.args.found.now.reasons in
    let last = c.args.last in
    let items = c.in_ok-needed.needed.items in
    let new = c.mark_named.new.marks in
    let reason = premises c.because.result in
    let made : items ≡ replicate last false = c.in_ok-needed.ensures.items_if_clones_equal (λ y e. e) in
    let marked : AreMarkedBefore last reason items new = subst (λ (bs : List Bool). AreMarkedBefore last reason bs new) c.deref_mut.ensures.value c.mark_named.ensures in
    let back = written_back c.in_ok-needed.needed.len new items c.in_ok-needed.needed.ok.0 marked.long in
    let followed = first_followed reasons last reason new c.because.ensures (subst (λ (bs : List Bool). AreMarkedBefore last reason bs new) made marked) in
    record { followed = subst (λ (bs : List Bool). AreFollowed reasons last last bs) (sym back) followed }

pub loop-place-preserved-then-index : goal.loop-place-preserved-then-index
loop-place-preserved-then-index c =
    let reasons = c.args.found.now.reasons in
    let last = c.args.last in
    let place = c.loop-place.place - 1 in
    let items = c.loop-place.needed.items in
    let new = c.mark_named-then-index.new.marks in
    let reason = premises c.because-then-index.result in
    let was = c.loop-place.invariant.followed in
    let marked : AreMarkedBefore place reason items new = subst (λ (bs : List Bool). AreMarkedBefore place reason bs new) c.deref_mut-then-index.ensures.value c.mark_named-then-index.ensures in
    let back = written_back c.loop-place.needed.len new items c.loop-place.needed.ok.0 marked.long in
    let next : c.loop-place.place ≡ place + 1 = omega arith in
    let within : place < last = omega arith in
    let here = slice_get_read items last place c.index.result.now (sym was.long) within c.index.ensures ∙ ap Some c.if-index.true in
    let followed = followed_more reasons last c.loop-place.place place reason items new next here c.because-then-index.ensures marked was in
    record { followed = subst (λ (bs : List Bool). AreFollowed reasons last place bs) (sym back) followed }

pub loop-place-preserved : goal.loop-place-preserved
loop-place-preserved c =
    let last = c.args.last in
    let place = c.loop-place.place - 1 in
    let items = c.loop-place.needed.items in
    let was = c.loop-place.invariant.followed in
    let next : c.loop-place.place ≡ place + 1 = omega arith in
    let within : place < last = omega arith in
    let here = slice_get_read items last place c.index.result.now (sym was.long) within c.index.ensures ∙ ap Some c.if-index.false in
    record { followed = followed_still c.args.found.now.reasons last c.loop-place.place place items next within here was }

pub returns : goal.returns
returns c = all_followed c.args.found.now.reasons c.args.last c.loop-place.place c.loop-place.needed.items c.loop-place-test.false c.loop-place.invariant.followed
