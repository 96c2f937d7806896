-- A first state of a program.
use Rattle.std.proofs.Common.{◌≡◌, ℕ, Bool, true, false, List, [], ◌∷◌, ◌++◌, Option, Some, None, All, refl}
use Rattle.std.specs.List.{slice_get}
use Rattle.std.specs.Option.{option_map_or}
use Rattle.std.specs.Prelude.{map}
use Rattle.std.specs.Str.{bytes_eq}
use Rattle.jvm_model.specs.Programs.{Program, Method, Field}
use Rattle.jvm_model.specs.Soundness.{plain_descriptor}
use Rattle.jvm_model.specs.Subtypes.{array_of}
use Rattle.machine_bytecode.specs.Objects.{Subject, string_name}
use Rattle.machine_bytecode.specs.Start.{IsFirst, BeginsAs, no_field, holding, by_default, MayBeArgument, AreArgumentObjects, held_place, boot_site, boot_object, boot_classes, start_frame}
use Rattle.machine_bytecode.specs.States.{State, Value, primitive_value, reference_to, Object, default_value, new_array, runs_on}

-- what a static field begins with: the object that it holds, or its default
abbrev first_of : Program → ℕ → Field → Value
first_of p number f = option_map_or (λ (class : List ℕ). reference_to (held_place p number)) f.holds (default_value f.signature.descriptor)

abbrev first_statics : Program → ℕ → Value
first_statics p number = option_map_or (first_of p number) (slice_get p.fields number) primitive_value

begins_of : (p : Program) (number : ℕ) (f : Field) → slice_get p.fields number ≡ Some f → (o : Option (List ℕ)) → f.holds ≡ o
    → BeginsAs p number (option_map_or (λ (class : List ℕ). reference_to (held_place p number)) o (default_value f.signature.descriptor))
begins_of p number f stands (Some class) holds = holding f class stands holds refl
begins_of p number f stands None holds = by_default f stands holds refl

begins_at : (p : Program) (number : ℕ) (o : Option Field) → slice_get p.fields number ≡ o → BeginsAs p number (option_map_or (first_of p number) o primitive_value)
begins_at p number (Some f) stands = begins_of p number f stands f.holds refl
begins_at p number None stands = no_field stands refl

-- the array of the arguments, if the entry takes one
abbrev argument_objects : Subject → Bool → List Value → List Object
argument_objects x true values = []
argument_objects x false values = new_array (boot_site (array_of string_name)) values x.property.initial ∷ []

are_arguments : (x : Subject) (entry : Method) (values : List Value) → All MayBeArgument values → (b : Bool) → bytes_eq entry.signature.descriptor plain_descriptor ≡ b
    → AreArgumentObjects x entry (argument_objects x b values)
are_arguments x entry values each true e = rw e refl
are_arguments x entry values each false e = rw e (record { values = values; each = each; is = refl })

pub some_first : (x : Subject) (entry : Method) → slice_get x.program.methods x.entry ≡ Some entry → (values : List Value) → All MayBeArgument values → (s : State) × IsFirst x s
some_first x entry stands values each =
    let takes = bytes_eq entry.signature.descriptor plain_descriptor in (
      runs_on (start_frame ∷ []) (record { heap = map (boot_object x) (boot_classes x.program) ++ argument_objects x takes values; statics = first_statics x.program; kept = []; started = [] }),
      record {
        entry = entry;
        stands = stands;
        objects = argument_objects x takes values;
        arguments = are_arguments x entry values each takes refl;
        statics = first_statics x.program;
        begins = λ number. begins_at x.program number (slice_get x.program.fields number) refl;
        is = refl;
      },
    )
