-- Public contracts rest on this module.
-- Calls of methods that a stub describes: what they keep, and then a result or an exception, each by its place in the list of
-- the description, so that each entry is a way of its own.
use Rattle.std.specs.Prelude.{◌≡◌, ℕ, ◌+◌, ◌-◌, Bool, false, if◌then◌else◌, List, [], ◌∷◌, map, take, sum_by, Some, slice_get, Contains}
use Rattle.std.specs.List.{flat_map}
use Rattle.jvm_model.specs.declared.site.SiteKind.TheVariants.{Result, Thrown}
use Rattle.jvm_model.specs.declared.stub.StubArgument.{StubArgument}
use Rattle.jvm_model.specs.declared.stub.StubArgument.TheVariants.{This, Argument}
use Rattle.jvm_model.specs.declared.stub.StubMethod.{StubMethod}
use Rattle.jvm_model.specs.declared.stub.StubResult.{StubResult}
use Rattle.jvm_model.specs.declared.stub.StubResult.TheVariants.{Primitive, Void, Null, Given, New, Kept}
use Rattle.jvm_model.specs.Descriptors.{IsMethodDescriptor, units_of}
use Rattle.jvm_model.specs.Programs.{Method, described}
use Rattle.jvm_model.specs.Stubs.{result_class}
use Rattle.machine_bytecode.specs.Objects.{Subject, IsOf, MakesObject}
use Rattle.machine_bytecode.specs.States.{Value, primitive_value, null_value, reference_to, Frame, World, slot_at, with_kept, site_at}

-- The method of a number is described, and is not abstract.
pub record DescribedMethod (x : Subject) (number : ℕ) : Type 0 where
  pub method : Method
  pub stands : slice_get x.program.methods number ≡ Some method
  pub stub : StubMethod
  pub is_described : method.body ≡ described stub
  pub concrete : stub.is_abstract ≡ false
  pub descriptor : IsMethodDescriptor stub.descriptor

-- Where an argument stands among the units of a call: the receiver is the first, and a parameter comes after those before
-- it, of which a long and a double are two units.
abbrev pub argument_unit : Bool → List (List ℕ) → StubArgument → ℕ
argument_unit is_static parameters This = 0
argument_unit is_static parameters (Argument number) = (if is_static then 0 else 1) + sum_by units_of (take (number - 1) parameters)

abbrev pub argument_value : (x : Subject) (number : ℕ) → DescribedMethod x number → List Value → StubArgument → Value
argument_value x number d units argument = slot_at units (argument_unit d.stub.is_static d.descriptor.parameters argument)

-- The object that a value refers to: none for null.
abbrev pub places_of : Value → List ℕ
places_of primitive_value = []
places_of null_value = []
places_of (reference_to place) = place ∷ []

-- The world after the method has kept what it keeps.
abbrev pub kept_by : (x : Subject) (number : ℕ) → DescribedMethod x number → List Value → World → World
kept_by x number d units w = with_kept w (flat_map (λ (a : StubArgument). places_of (argument_value x number d units a)) d.stub.keeps)

-- A kept object whose class fits that of the method's result.
pub record IsKept (x : Subject) (descriptor : List ℕ) (w : World) (v : Value) : Type 0 where
  pub class : List ℕ
  pub of_result : result_class descriptor ≡ Some class
  pub object : IsOf x.program class w v
  pub kept : Contains w.kept object.to.place

-- What a listed result gives, and the world after that. A primitive, and no result, give no reference.
abbrev pub Gives : (x : Subject) (number : ℕ) → DescribedMethod x number → Frame → List Value → StubResult → World → Value → World → Type 0
Gives x number d caller units Primitive before v after = (v ≡ primitive_value) × (after ≡ before)
Gives x number d caller units Void before v after = (v ≡ primitive_value) × (after ≡ before)
Gives x number d caller units Null before v after = (v ≡ null_value) × (after ≡ before)
Gives x number d caller units (Given argument) before v after = (v ≡ argument_value x number d units argument) × (after ≡ before)
Gives x number d caller units (New class) before v after = MakesObject x (site_at Result caller class) before v after
Gives x number d caller units Kept before v after = IsKept x d.stub.descriptor before v × (after ≡ before)

-- A call with these units, from a frame, gives a value.
pub record GivesResult (x : Subject) (number : ℕ) (caller : Frame) (units : List Value) (before : World) (v : Value) (after : World) : Type 0 where
  pub called : DescribedMethod x number
  pub place : ℕ
  pub result : StubResult
  pub listed : slice_get called.stub.returns place ≡ Some result
  pub gives : Gives x number called caller units result (kept_by x number called units before) v after

-- It throws: a new object of a listed class is made at the call, and its place is this.
pub record ThrowsListed (x : Subject) (number : ℕ) (caller : Frame) (units : List Value) (before : World) (thrown : ℕ) (after : World) : Type 0 where
  pub called : DescribedMethod x number
  pub place : ℕ
  pub class : List ℕ
  pub listed : slice_get called.stub.throws place ≡ Some class
  pub makes : MakesObject x (site_at Thrown caller class) (kept_by x number called units before) (reference_to thrown) after
