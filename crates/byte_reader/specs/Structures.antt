-- Public contracts rest on this module.
-- Reading attributes, fields and methods (JVMS 4.5 to 4.7).
use Rattle.std.specs.Prelude.{Result, Ok}
use Rattle.std.specs.Int.{w16, w32}
use Rattle.jvm_model.specs.declared.class_file.Member.{Member}
use Rattle.jvm_model.specs.declared.class_file.Attribute.{Attribute}
use Rattle.jvm_model.specs.declared.reason.Fault.{Fault}
use Rattle.byte_reader.specs.Reading.{Place, ◌>>=◌, number_at, bytes_at, table_at}

-- An attribute: its name, the length of its body, and the body, which is one field (JVMS 4.7).
unfoldable pub attribute_at : Place → Result (Attribute × Place) Fault
attribute_at place = do
  name ← number_at w16 place
  len ← number_at w32 name.1
  body ← bytes_at len.0 len.1
  Ok (record { name = name.0; body = body.0 }, body.1)

-- A field or a method (JVMS 4.5, 4.6).
unfoldable pub member_at : Place → Result (Member × Place) Fault
member_at place = do
  flags ← number_at w16 place
  name ← number_at w16 flags.1
  descriptor ← number_at w16 name.1
  attributes ← table_at attribute_at descriptor.1
  Ok (record { flags = flags.0; name = name.0; descriptor = descriptor.0; attributes = attributes.0 }, attributes.1)
