-- Only the proofs of this crate rest on this module.
-- The texts of a constant pool that are known to be in a grammar.
use Rattle.std.specs.Prelude.{ℕ, List, nat_eq, IsTrue}
use Rattle.std.specs.HashSet.{HashSet, contains}
use Rattle.jvm_model.specs.declared.grammar.Grammar.{Grammar}
use Rattle.jvm_model.specs.declared.grammar.Grammar.TheVariants.{ClassOrArray, FieldName, MethodName, FieldDescriptor, MethodDescriptor}
use Rattle.jvm_model.specs.declared.pool.PoolEntry.{PoolEntry}
use Rattle.jvm_model.specs.Soundness.{TextIsIn}
use Rattle.classfile_reader.specs.declared.soundness.known.KnownTexts.{KnownTexts}

-- The text at each of the indices is in the grammar.
abbrev pub AreKnownIn : {S : Type 0} → List PoolEntry → Grammar → HashSet ℕ S → Type 0
AreKnownIn pool grammar indices = (index : ℕ) → IsTrue (contains nat_eq indices index) → TextIsIn pool grammar index

-- The same for each grammar and the indices that are kept for it.
pub record AreKnown (pool : List PoolEntry) (known : KnownTexts) : Type 0 where
  pub class_or_array : AreKnownIn pool ClassOrArray known.class_or_array
  pub field_name : AreKnownIn pool FieldName known.field_name
  pub method_name : AreKnownIn pool MethodName known.method_name
  pub field_descriptor : AreKnownIn pool FieldDescriptor known.field_descriptor
  pub method_descriptor : AreKnownIn pool MethodDescriptor known.method_descriptor
