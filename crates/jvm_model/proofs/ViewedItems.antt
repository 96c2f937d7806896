-- What a slice gives at an index, seen by a view of its elements.
use Rattle.std.proofs.Common.{◌≡◌, ℕ, ◌≤◌, List, Option, Some, None, map, option_map, sym, ap, ◌∙◌, arith}
use Rattle.std.specs.Prelude.{slice_get}
use Rattle.std.specs.Borrow.{Bor}
use Rattle.std.specs.Slice.{IsItemAt}
use Rattle.std.proofs.lemmas.Option.{slice_get_past, slice_get-get_or, slice_get-map}

-- what `get` lends, seen, is what stands there among the elements seen
pub viewed_item : {X Y : Type 0} (view : X → Y) (xs : List X) (i : ℕ) (r : Option (Bor X)) → IsItemAt xs i r → option_map (λ x. view x.now) r ≡ slice_get (map view xs) i
viewed_item view xs i None h = sym (slice_get-map view xs i ∙ ap (option_map view) (slice_get_past xs i h.3))
viewed_item view xs i (Some x) h =
    let same : i ≤ i = omega arith in
    sym (slice_get-map view xs i ∙ ap (option_map view) (slice_get-get_or xs i x.now h.3.0 ∙ ap Some (sym (h.4 same x.now))))
