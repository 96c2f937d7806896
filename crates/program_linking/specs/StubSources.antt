-- Only the proofs of this crate rest on this module.
-- The stubs that are there from the start, and those of the user's files.
use Rattle.std.specs.Prelude.{Bool, not, ◌&&◌, List, [], ◌∷◌, filter, if◌then◌else◌}
use Rattle.jvm_model.specs.declared.stub.StubClass.{StubClass}
use Rattle.jvm_model.specs.Linking.{is_base_stub, own_classes}
use Rattle.program_linking.specs.declared.class_names.StubSource.{StubSource}
use Rattle.program_linking.specs.declared.class_names.StubSource.TheVariants.{Base, User}

-- The stub comes from this source.
abbrev pub is_from : StubSource → StubClass → Bool
is_from Base c = is_base_stub c
is_from User c = not (is_base_stub c)

-- It comes from this source, and is a class of its own.
abbrev pub is_own_from : StubSource → StubClass → Bool
is_own_from source c = not c.is_patch && is_from source c

-- The stubs of a source that are classes of their own; and the stub, if it is one of them.
abbrev pub own_from : StubSource → List StubClass → List StubClass
own_from source stubs = filter (is_from source) (own_classes stubs)

abbrev pub one_from : StubSource → StubClass → List StubClass
one_from source c = if is_own_from source c then c ∷ [] else []
