use Rattle.std.proofs.Common.{◌∷◌, refl}
use Rattle.example_machine.specs.Building.{files_of, stubs_of}
use Rattle.example_machine.specs.Within.{order as within_order}
use Rattle.example_machine.specs.Calling.{order as calling_order}
use Rattle.example_machine.specs.Excepting.{order as excepting_order}
use Rattle.example_machine.specs.Initialising.{order as initialising_order}
use Rattle.example_machine.specs.Patching.{main_patch, order as patching_order}
use Rattle.example_machine.proofs.LinkTests.{links}
use Rattle.example_machine.proofs.linked.programs_are_linked.Goals as goal

pub returns-clause-within : goal.returns-clause-within
returns-clause-within c = λ descriptor k. links (files_of (within_order descriptor k)) (stubs_of (within_order descriptor k)) (within_order descriptor k) refl refl refl refl

pub returns-clause-calling : goal.returns-clause-calling
returns-clause-calling c = λ k. links (files_of (calling_order k)) (stubs_of (calling_order k)) (calling_order k) refl refl refl refl

pub returns-clause-excepting : goal.returns-clause-excepting
returns-clause-excepting c = λ k. links (files_of (excepting_order k)) (stubs_of (excepting_order k)) (excepting_order k) refl refl refl refl

pub returns-clause-initialising : goal.returns-clause-initialising
returns-clause-initialising c = λ k. links (files_of (initialising_order k)) (stubs_of (initialising_order k)) (initialising_order k) refl refl refl refl

pub returns-clause-patching : goal.returns-clause-patching
returns-clause-patching c = links (files_of patching_order) (main_patch ∷ stubs_of patching_order) patching_order refl refl refl refl
