-- Public contracts rest on this module.
-- What linking knows of where classes come from.
use Rattle.std.specs.Prelude.{◌≡◌, false, All}
use Rattle.jvm_model.specs.declared.program.Origin.{Origin}
use Rattle.jvm_model.specs.declared.program.Origin.TheVariants.{Folder, Stub}
use Rattle.jvm_model.specs.Soundness.{IsChecked}
use Rattle.jvm_model.specs.StubRules.{IsSoundMethod, IsSoundStub}

-- A class file was checked, and what patches say of its native methods keeps the rules of stub files; a stub keeps them too,
-- and is no patch.
abbrev pub IsSoundOrigin : Origin → Type 0
IsSoundOrigin (Folder f natives) = IsChecked f.class × All IsSoundMethod natives
IsSoundOrigin (Stub c) = IsSoundStub c × (c.is_patch ≡ false)
