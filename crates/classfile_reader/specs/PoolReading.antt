-- Public contracts rest on this module.
-- Reading the constant pool (JVMS 4.4).
use Rattle.std.specs.Prelude.{ℕ, zero, suc, ◌-◌, List, [], ◌∷◌, Option, Some, None, Result, Ok, Err, ◌==◌, if◌then◌else◌}
use Rattle.std.specs.Int.{Width, w16, w32, w64}
use Rattle.jvm_model.specs.declared.reason.Reason.TheVariants.{BadTag, BadIndex}
use Rattle.jvm_model.specs.declared.pool.PoolEntry.{PoolEntry}
use Rattle.jvm_model.specs.declared.pool.PoolEntry.TheVariants.{Utf8, Integer, Float, Long, Double, Class, Str, Fieldref, Methodref, InterfaceMethodref, NameAndType, MethodHandle, MethodType, InvokeDynamic, Taken}
use Rattle.jvm_model.specs.Spelling.{is_wide}
use Rattle.jvm_model.specs.declared.reason.Fault.{Fault}
use Rattle.byte_reader.specs.Reading.{Place, ◌>>=◌, fault_at, number_at, byte_at, bytes_at}

-- An entry that has one number.
unfoldable pub one_at : Width → (ℕ → PoolEntry) → Place → Result (PoolEntry × Place) Fault
one_at w make place = do
  n ← number_at w place
  Ok (make n.0, n.1)

-- Two numbers of two bytes.
unfoldable pub pair_at : Place → Result ((ℕ × ℕ) × Place) Fault
pair_at place = do
  first ← number_at w16 place
  second ← number_at w16 first.1
  Ok ((first.0, second.0), second.1)

-- An entry that has two numbers of two bytes.
unfoldable pub two_at : (ℕ → ℕ → PoolEntry) → Place → Result (PoolEntry × Place) Fault
two_at make place = do
  pair ← pair_at place
  Ok (make pair.0.0 pair.0.1, pair.1)

-- A text: its length and its bytes (JVMS 4.4.7).
unfoldable pub utf8_at : Place → Result (PoolEntry × Place) Fault
utf8_at place = do
  len ← number_at w16 place
  bytes ← bytes_at len.0 len.1
  Ok (Utf8 bytes.0, bytes.1)

-- A kind and what the handle is for (JVMS 4.4.8).
unfoldable pub handle_at : Place → Result (PoolEntry × Place) Fault
handle_at place = do
  kind ← byte_at place
  reference ← number_at w16 kind.1
  Ok (MethodHandle kind.0 reference.0, reference.1)

-- What a tag calls for (JVMS 4.4, table 4.4-A).
unfoldable pub contents_at : ℕ → Place → Result (PoolEntry × Place) Fault
contents_at tag place =
    if tag == 1 then utf8_at place else
    if tag == 3 then one_at w32 Integer place else
    if tag == 4 then one_at w32 Float place else
    if tag == 5 then one_at w64 Long place else
    if tag == 6 then one_at w64 Double place else
    if tag == 7 then one_at w16 Class place else
    if tag == 8 then one_at w16 Str place else
    if tag == 9 then two_at Fieldref place else
    if tag == 10 then two_at Methodref place else
    if tag == 11 then two_at InterfaceMethodref place else
    if tag == 12 then two_at NameAndType place else
    if tag == 15 then handle_at place else
    if tag == 16 then one_at w16 MethodType place else
    if tag == 18 then two_at InvokeDynamic place else
    fault_at place BadTag

-- A tag and what it calls for.
unfoldable pub tagged_at : Place → Result (PoolEntry × Place) Fault
tagged_at place = do
  tag ← byte_at place
  contents_at tag.0 tag.1

-- The whole is one field: whatever is wrong inside it is reported at its first byte.
abbrev pub as_field : {A : Type 0} → Place → Result A Fault → Result A Fault
as_field place (Ok x) = Ok x
as_field place (Err e) = fault_at place e.reason

-- An entry, which is one field.
unfoldable pub entry_at : Place → Result (PoolEntry × Place) Fault
entry_at place = as_field place (tagged_at place)

-- The place of a Long or a Double, whose second index comes next.
abbrev pub wide_at : Place → PoolEntry → Option ℕ
wide_at place entry = if is_wide entry then Some place.offset else None

-- What the next index holds: the second of a Long or a Double if one comes before, else an entry (JVMS 4.4.5).
unfoldable pub index_at : Option ℕ → Place → Result ((PoolEntry × Option ℕ) × Place) Fault
index_at (Some tag) place = Ok ((Taken, None), place)
index_at None place = do
  entry ← entry_at place
  Ok ((entry.0, wide_at place entry.0), entry.1)

-- That many indices. No Long and no Double has the last one.
unfoldable pub indices_at : ℕ → Option ℕ → Place → Result (List PoolEntry × Place) Fault
indices_at zero None place = Ok ([], place)
indices_at zero (Some tag) place = Err (record { offset = tag; reason = BadIndex })
indices_at (suc n) wide place = do
  first ← index_at wide place
  others ← indices_at n first.0.1 first.1
  Ok (first.0.0 ∷ others.0, others.1)

-- The pool: its count, which is one more than its last index, and the entries (JVMS 4.1).
unfoldable pub pool_at : Place → Result (List PoolEntry × Place) Fault
pool_at place = do
  count ← number_at w16 place
  if count.0 == 0 then fault_at place BadIndex else indices_at (count.0 - 1) None count.1
