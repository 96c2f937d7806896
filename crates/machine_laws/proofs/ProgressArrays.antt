-- What instructions on arrays may do when they raise nothing.
use Rattle.std.proofs.Common.{◌≡◌, ℕ, ◌<◌, ◌≤◌, List, [], ◌∷◌, length, map, refl, ap, arith}
use Rattle.std.specs.List.{Contains}
use Rattle.std.specs.Prelude.{slice_set}
use Rattle.jvm_model.specs.declared.site.Site.{Site}
use Rattle.jvm_model.specs.declared.site.SiteKind.TheVariants.{New}
use Rattle.jvm_model.specs.Table.{load_element, store_element, make_array}
use Rattle.machine_bytecode.specs.Machine.{NamesArrays}
use Rattle.machine_bytecode.specs.Objects.{Subject, IsArrayOf, MayStand}
use Rattle.machine_bytecode.specs.States.{Value, primitive_value, null_value, reference_to, elements, Frame, State, Dimension, slot_at, site_at, with_contents}
use Rattle.machine_laws.specs.Progress.{GoesOnward, dimensions_of, with_arrays}
use Rattle.machine_laws.proofs.ProgressSteps.{HasUnits, goes_onward_with}

pub loads_element : (x : Subject) (s : State) (h : HasUnits x s) → h.at.now.row.action ≡ load_element → (array : IsArrayOf null_value s.world (slot_at h.units 0)) (v : Value)
    → Contains array.array.values v → GoesOnward x s h.at v s.world
loads_element x s h is array v among = goes_onward_with x s h load_element is refl v s.world (record { of = array; among = among }, refl)

pub stores_element : (x : Subject) (s : State) (h : HasUnits x s) → h.at.now.row.action ≡ store_element → (array : IsArrayOf null_value s.world (slot_at h.units 0))
    → MayStand x.program s.world array.array.to.object.class (slot_at h.units 2) → (index : ℕ) → index < length array.array.values
    → GoesOnward x s h.at primitive_value (with_contents s.world array.array.to.place array.array.to.object (elements (slice_set array.array.values index (slot_at h.units 2))))
stores_element x s h is array suits index inside =
    goes_onward_with x s h store_element is refl primitive_value _ (record { of = array; suits = suits; index = index; inside = inside; is = refl }, refl)

-- ---- new arrays

same_sites : (f : Frame) (arrays : List (List ℕ)) (lengths : List ℕ) → length lengths ≡ length arrays → map (λ (d : Dimension). d.site) (dimensions_of f arrays lengths) ≡ map (site_at New f) arrays
same_sites f [] lengths e = refl
same_sites f (array ∷ arrays) [] e = absurd (omega (arith, e))
same_sites f (array ∷ arrays) (long ∷ lengths) e = ap (λ (sites : List Site). site_at New f array ∷ sites) (same_sites f arrays lengths (omega (arith, e)))

some_dimension : (f : Frame) (arrays : List (List ℕ)) (first : ℕ) (others : List ℕ) → length (first ∷ others) ≡ length arrays → 1 ≤ length (dimensions_of f arrays (first ∷ others))
some_dimension f [] first others e = absurd (omega (arith, e))
some_dimension f (array ∷ arrays) first others e = omega arith

pub makes_arrays : (x : Subject) (s : State) (h : HasUnits x s) → h.at.now.row.action ≡ make_array → (arrays : List (List ℕ)) → NamesArrays h.at.now.here.code.file.pool h.at.now.instruction arrays
    → (first : ℕ) (others : List ℕ) → length (first ∷ others) ≡ length arrays
    → GoesOnward x s h.at (reference_to (length s.world.heap)) (with_arrays x s.world (dimensions_of h.at.frame arrays (first ∷ others)))
makes_arrays x s h is arrays named first others e =
    goes_onward_with x s h make_array is refl (reference_to (length s.world.heap)) _ (
      arrays,
      named,
      record {
        dimensions = dimensions_of h.at.frame arrays (first ∷ others);
        of_sites = same_sites h.at.frame arrays (first ∷ others) e;
        some = some_dimension h.at.frame arrays first others e;
        made_is = refl;
        after_is = refl;
      },
    )
