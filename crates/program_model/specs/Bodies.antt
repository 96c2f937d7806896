-- Public contracts rest on this module.
-- What stands for a method, as it is shown.
use Rattle.std.specs.Prelude.{◌≡◌}
use Rattle.jvm_model.specs.Programs.{Body, in_file, described}
use Rattle.program_model.specs.declared.method_body.MethodBody.{MethodBody}
use Rattle.program_model.specs.declared.method_body.MethodBody.TheVariants.{InFile, Described}

-- A method of a class file is shown by the file and its number, and a description as itself.
abbrev pub IsBodyView : Body → MethodBody → Type 0
IsBodyView (in_file file number member) (InFile f n) = (file ≡ f.now) × (number ≡ n)
IsBodyView (in_file file number member) (Described d) = ⊥
IsBodyView (described description) (InFile f n) = ⊥
IsBodyView (described description) (Described d) = description ≡ d.now
