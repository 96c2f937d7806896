-- Public contracts rest on this module.
-- The constants that have an object.
use Rattle.std.specs.Prelude.{codes, ℕ, List, Option, Some, None, option_and_then}
use Rattle.jvm_model.specs.declared.pool.PoolEntry.{PoolEntry}
use Rattle.jvm_model.specs.declared.pool.PoolEntry.TheVariants.{Str, Class}
use Rattle.jvm_model.specs.Lookups.{entry_at}

-- The class of what ldc loads for an entry: for a string, or a class; none for another one.
abbrev pub constant_class_in : PoolEntry → Option (List ℕ)
constant_class_in (Str text) = Some (codes "java/lang/String")
constant_class_in (Class name) = Some (codes "java/lang/Class")
constant_class_in _ = None

abbrev pub constant_class : List PoolEntry → ℕ → Option (List ℕ)
constant_class pool index = option_and_then constant_class_in (entry_at pool index)
