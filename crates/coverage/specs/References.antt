-- Public contracts rest on this module.
-- References to objects of some sites.
use Rattle.std.specs.Prelude.{◌≡◌, ℕ, List, Some, slice_get}
use Rattle.jvm_model.specs.declared.site.Site.{Site}
use Rattle.machine_bytecode.specs.States.{Value, primitive_value, null_value, reference_to, Object}

-- There is an object at the place, of one of the sites.
pub record LeadsTo (Among : Site → Type 0) (heap : List Object) (place : ℕ) : Type 0 where
  pub object : Object
  pub held : slice_get heap place ≡ Some object
  pub among : Among object.site

-- The value is no reference, or it is one to an object of one of the sites.
abbrev pub IsCovered : (Site → Type 0) → List Object → Value → Type 0
IsCovered Among heap primitive_value = Unit {0}
IsCovered Among heap null_value = Unit {0}
IsCovered Among heap (reference_to place) = LeadsTo Among heap place
