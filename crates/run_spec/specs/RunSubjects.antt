-- Public contracts rest on this module.
-- What a run is of: the program, the property and the entry that its words and the files of the tree give.
use Rattle.std.specs.Prelude.{◌≡◌, ℕ, List, Ok}
use Rattle.ts_outside.specs.Files.{File}
use Rattle.jvm_model.specs.Linking.{Links}
use Rattle.machine_bytecode.specs.Objects.{Subject}
use Rattle.entry_points.specs.Entries.{IsEntry}
use Rattle.run_spec.specs.Inputs.{Input, IsInput, all_stubs}

-- Words and files give an input with the property; its class files link, with the stubs that are built in and with its own, to the program; and the
-- entry is the method of the class and the name that the words ask for.
pub record IsRunOf (words : List (List ℕ)) (files : List File) (x : Subject) : Type 0 where
  pub input : Input
  pub is_input : IsInput words files input
  pub property : input.property ≡ x.property
  pub links : Links input.classes (all_stubs input.stubs) (Ok x.program)
  pub entry : IsEntry x.program input.wanted.class input.wanted.method x.entry
