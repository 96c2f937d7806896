-- Public contracts rest on this module.
-- What the entries of a table of handlers take (JVMS 4.7.3).
use Rattle.std.specs.Prelude.{◌≡◌, ◌≢◌, ℕ, List, Option, Some, None, slice_get}
use Rattle.jvm_model.specs.declared.number.ClassNo.{ClassNo}
use Rattle.jvm_model.specs.declared.code.Handler.{Handler}
use Rattle.jvm_model.specs.declared.pool.PoolEntry.{PoolEntry}
use Rattle.jvm_model.specs.Lookups.{class_name_at}
use Rattle.jvm_model.specs.Programs.{Program}
use Rattle.jvm_model.specs.Subtypes.{class_named}
use Rattle.lowering_spec.specs.LoweredMethods.{IsCatch}
use Rattle.lowering_handlers.specs.declared.catches.Catch.{Catch}
use Rattle.lowering_handlers.specs.declared.catches.Catch.TheVariants.{Each, OfClass, Unknown}

-- The class that the entry takes is not in the program. (No class of a program has the name of an array.)
pub record TakesUnknown (p : Program) (pool : List PoolEntry) (h : Handler) : Type 0 where
  pub typed : h.catch_type ≢ 0
  pub name : List ℕ
  pub named : class_name_at pool h.catch_type ≡ Some name
  pub absent : class_named p name ≡ None

-- What an entry takes: each object; those of a class; or those of a class that is not in the program.
abbrev pub IsCatchOf : Program → List PoolEntry → Handler → Catch → Type 0
IsCatchOf p pool h Each = IsCatch p pool h.catch_type None
IsCatchOf p pool h (OfClass number) = IsCatch p pool h.catch_type (Some number)
IsCatchOf p pool h Unknown = TakesUnknown p pool h

-- The entry of this place takes a class that is not in the program.
pub record IsUnknownEntry (p : Program) (pool : List PoolEntry) (handlers : List Handler) (place : ℕ) : Type 0 where
  pub handler : Handler
  pub stands : slice_get handlers place ≡ Some handler
  pub takes : TakesUnknown p pool handler

-- An entry of code that was read takes each object, or names a class.
abbrev pub NamesClass : List PoolEntry → Handler → Type 0
NamesClass pool h = h.catch_type ≢ 0 → (name : List ℕ) × (class_name_at pool h.catch_type ≡ Some name)

-- The class that it names, if it is in the program.
abbrev pub class_taken : Catch → Option ClassNo
class_taken Each = None
class_taken (OfClass number) = Some number
class_taken Unknown = None
