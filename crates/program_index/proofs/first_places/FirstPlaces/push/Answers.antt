use Rattle.std.proofs.Common.{◌≡◌, ◌+◌, ◌<◌, ◌^◌, length, List, arith, sym, subst}
use Rattle.std.proofs.lemmas.Grind.{common_steps}
use Rattle.program_index.specs.declared.numbered_key.NumberedKey.{NumberedKey}
use Rattle.program_index.specs.KeyPlaces.{ArePlaces}
use Rattle.program_index.proofs.NumberedKeys.{places_stay, known_push, new_push}
use Rattle.program_index.proofs.first_places.FirstPlaces.push.Goals as goal

pub invariant_of-self-then-contains_key : goal.invariant_of-self-then-contains_key
invariant_of-self-then-contains_key c =
    let keys = c.self.inside.keys.items in
    let room : length keys + 1 < 2 ^ 32 = grind (arith, common_steps) in
    subst (λ (xs : List NumberedKey). ArePlaces xs c.self.inside.places) (sym c.in_ok-push.ensures.items)
    (known_push keys c.self.inside.places c.self.inside.places c.self.invariant c.args.key room c.if-contains_key.ensures)

pub invariant_of-self-in-Err : goal.invariant_of-self-in-Err
invariant_of-self-in-Err c =
    let keys = c.self.inside.keys.items in
    let back : c.pop.new.self.items ≡ keys = grind (arith, common_steps) in
    subst (λ (xs : List NumberedKey). ArePlaces xs c.insert.new.self) (sym back)
    (places_stay keys c.self.inside.places c.insert.new.self c.self.invariant c.in-Err.ensures.err)

pub invariant_of-self-in_default : goal.invariant_of-self-in_default
invariant_of-self-in_default c =
    let keys = c.self.inside.keys.items in
    let room : length keys + 1 < 2 ^ 32 = grind (arith, common_steps) in
    let place : c.in_ok-place.place ≡ length keys = grind (arith, common_steps) in
    subst (λ (xs : List NumberedKey). ArePlaces xs c.insert.new.self) (sym c.in_ok-push.ensures.items)
    (new_push keys c.self.inside.places c.insert.new.self c.self.invariant c.args.key room c.in_ok-place.place c.if-contains_key.ensures place c.in_default.ensures.updates.0)
