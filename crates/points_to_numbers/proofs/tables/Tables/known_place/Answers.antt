use Rattle.std.proofs.Common.{◌≡◌, ℕ, Option, Some, None, Contains, sym}
use Rattle.std.specs.List.{slice_get, position}
use Rattle.std.specs.Option.{IfSome, IfNone}
use Rattle.points_to_rules.specs.Facts.{Holder}
use Rattle.points_to_numbers.specs.Kept.{kept}
use Rattle.points_to_numbers.specs.Numbered.{IsHolderAt}
use Rattle.points_to_rules.proofs.ExactPlaces.{same_places}
use Rattle.points_to_numbers.proofs.KnownPlaces.{known_at, unknown}
use Rattle.points_to_numbers.proofs.tables.Tables.known_place.Goals as goal

pub returns-clause-found : goal.returns-clause-found
returns-clause-found c = by c.get_index_of.result c.get_index_of.ensures.index
  where
    by : (o : Option ℕ) → o ≡ position (same_places c.args.place) c.self.inside.places.keys → IfSome o (λ number. (h : Holder) → IsHolderAt c.args.self.now c.args.place h → slice_get c.args.self.now.holders number ≡ Some h)
    by None e = tt
    by (Some number) e = known_at (kept c.self.inside) c.args.self.now c.self.view_is c.self.invariant c.args.place number (sym e)

pub returns-clause-none : goal.returns-clause-none
returns-clause-none c = by c.get_index_of.result c.get_index_of.ensures.index
  where
    by : (o : Option ℕ) → o ≡ position (same_places c.args.place) c.self.inside.places.keys → IfNone o ((h : Holder) → IsHolderAt c.args.self.now c.args.place h → Contains c.args.self.now.holders h → ⊥)
    by None e = unknown (kept c.self.inside) c.args.self.now c.self.view_is c.self.invariant c.apart.ensures c.args.place (sym e)
    by (Some number) e = tt
