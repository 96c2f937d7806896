-- Public contracts rest on this module.
-- Places that stand for one thing whatever is numbered, and the constraints between them.
use Rattle.points_to_constraints.specs.Items.{Constraint, filter_to, copy_to, load_elements, load_field, store_elements, store_field}
use Rattle.points_to_methods.specs.declared.adding.FixedPlace.{FixedPlace}
use Rattle.points_to_methods.specs.declared.adding.FixedPlace.TheVariants as fixed_places
use Rattle.points_to_methods.specs.declared.adding.Passing.{Passing}
use Rattle.points_to_methods.specs.declared.adding.Passing.TheVariants as passings
use Rattle.points_to_rules.specs.Facts.{Holder, kept_objects, returned_by, static_field, thrown_by, variable}

-- What a place stands for.
abbrev pub holder_of : FixedPlace → Holder
holder_of (fixed_places.Variable v) = variable v
holder_of (fixed_places.Static field) = static_field field
holder_of fixed_places.Kept = kept_objects
holder_of (fixed_places.Returned method) = returned_by method
holder_of (fixed_places.Thrown method) = thrown_by method

-- The constraint of a kind, with the holder to which it leads, or from which it stores.
abbrev pub constraint_by : Passing → Holder → Constraint
constraint_by passings.To to = copy_to to
constraint_by (passings.Fitting class) to = filter_to class.now to
constraint_by (passings.LoadField field) to = load_field field to
constraint_by (passings.StoreField field) from = store_field field from
constraint_by passings.LoadElements to = load_elements to
constraint_by passings.StoreElements from = store_elements from
