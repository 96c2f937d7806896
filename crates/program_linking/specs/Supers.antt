-- Only the proofs of this crate rest on this module.
-- Supertypes that are lent, and those of a stub in two parts.
use Rattle.std.specs.Prelude.{ℕ, List, map, true, false}
use Rattle.std.specs.Option.{option_to_list}
use Rattle.jvm_model.specs.declared.stub.StubClass.{StubClass}
use Rattle.jvm_model.specs.Linking.{NamedSuper}
use Rattle.jvm_model.specs.Stubs.{super_of}
use Rattle.program_linking.specs.declared.supers.Super.{Super}

-- the supertype that is lent
abbrev pub named_super : Super → NamedSuper
named_super s = record { name = s.name.now; as_interface = s.as_interface; file = s.file.now; offset = s.offset }

-- the superclass that a stub names, if it names one
abbrev pub stub_superclass : StubClass → List NamedSuper
stub_superclass c = map (λ (name : List ℕ). record { name = name; as_interface = false; file = c.file; offset = 0 }) (option_to_list (super_of c))

-- the superinterfaces that a stub of a file names
abbrev pub stub_interfaces : List ℕ → List (List ℕ) → List NamedSuper
stub_interfaces file names = map (λ (name : List ℕ). record { name = name; as_interface = true; file = file; offset = 0 }) names
