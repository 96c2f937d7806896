-- Public contracts rest on this module.
-- What the call that links answers.
use Rattle.std.specs.Prelude.{List, ◌++◌, Result, Ok, Err}
use Rattle.jvm_model.specs.declared.program.NamedClass.{NamedClass}
use Rattle.jvm_model.specs.declared.reason.Refusal.{Refusal}
use Rattle.jvm_model.specs.declared.stub.StubClass.{StubClass}
use Rattle.jvm_model.specs.Linking.{Claim, Links, LinksInOrder, kind_claims, name_claims, own_classes, there_claims}
use Rattle.jvm_model.specs.Programs.{Program}
use Rattle.jvm_model.specs.Soundness.{IsChecked}
use Rattle.failure.specs.declared.Failure.{Failure}
use Rattle.program_model.specs.declared.link_failure.LinkFault.{LinkFault}
use Rattle.failure.specs.declared.Failure.TheVariants.{Cause, OutOfMemory}
use Rattle.program_model.specs.declared.link_failure.LinkFault.TheVariants.{Refused, TooMany}
use Rattle.program_linking.specs.TooLarge.{IsTooLargeInput}

-- The call gives the outcome, which is a program or the first demand that is not met; or it says that there is too much to
-- number, and this is so; or out of memory.
abbrev pub IsAnswer : (Result Program Refusal → Type 0) → Type 0 → Result Program (Failure LinkFault) → Type 0
IsAnswer IsOutcome Large (Ok p) = IsOutcome (Ok p)
IsAnswer IsOutcome Large (Err (Cause (Refused refusal))) = IsOutcome (Err refusal)
IsAnswer IsOutcome Large (Err (Cause TooMany)) = Large
IsAnswer IsOutcome Large (Err OutOfMemory) = Unit {0}

-- What linking class files and stubs gives; and what it gives of class files that are in the order of their files.
abbrev pub IsLinkAnswer : List NamedClass → List StubClass → Result Program (Failure LinkFault) → Type 0
IsLinkAnswer files stubs answer = IsAnswer (Links files stubs) (IsTooLargeInput files stubs) answer

abbrev pub IsAnswerInOrder : List NamedClass → List StubClass → Result Program (Failure LinkFault) → Type 0
IsAnswerInOrder files stubs answer = IsAnswer (LinksInOrder files stubs) (IsTooLargeInput files stubs) answer

-- The class file was checked (JVMS 4.8).
abbrev pub IsSoundFile : NamedClass → Type 0
IsSoundFile f = IsChecked f.class

-- What is demanded before the classes are put in order.
abbrev pub flat_claims : List NamedClass → List StubClass → List Claim
flat_claims files stubs = name_claims files (own_classes stubs) ++ there_claims files stubs ++ kind_claims files (own_classes stubs)
