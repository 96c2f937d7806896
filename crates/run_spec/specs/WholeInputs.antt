-- Public contracts rest on this module.
-- An input in which nothing is missing and nothing is refused.
use Rattle.std.specs.Prelude.{◌≡◌, ◌<◌, ℕ, Bool, true, List, length, Some, Contains}
use Rattle.ts_outside.specs.Files.{File}
use Rattle.jvm_model.specs.Programs.{Class}
use Rattle.jvm_model.specs.Subtypes.{class_named}
use Rattle.certificate_lines.specs.declared.line.Line.{Line}
use Rattle.certificate_spec.specs.Certificates.{IsCertificateOf}
use Rattle.certificates.specs.Texts.{most_bytes, text}
use Rattle.command_words.specs.Requests.{is_certificate}
use Rattle.machine_bytecode.specs.Objects.{Subject}
use Rattle.lowering_supply.specs.Supplied.{IsSupplied}
use Rattle.points_to_rules.specs.Solutions.{IsSolution}
use Rattle.points_to_rules.specs.Facts.{Fact}
use Rattle.report_spec.specs.AllFacts.{AreAllFacts}
use Rattle.run_spec.specs.Outcomes.{asked_of}
use Rattle.run_spec.specs.RunSubjects.{IsRunOf}

-- Words and files give a program, a property and an entry; the property's class is there; and nothing that may run is refused, with fewer pairs than
-- the limit.
pub record IsWholeInput (words : List (List ℕ)) (files : List File) : Type 0 where
  pub x : Subject
  pub run : IsRunOf words files x
  pub class : Class
  pub is_class : class_named x.program x.property.class_name ≡ Some class
  pub facts : List Fact
  pub solution : IsSolution x.program (IsSupplied x.program) (record { 0 = x.entry }) run.input.wanted.pair_limit facts

-- Words ask for a certificate, and the text of that of the run is over the limit.
pub record HasLargeCertificate (words : List (List ℕ)) (files : List File) : Type 0 where
  pub x : Subject
  pub run : IsRunOf words files x
  pub asked : is_certificate run.input.wanted.mode ≡ true
  pub facts : List Fact
  pub of_all : AreAllFacts x.program (IsSupplied x.program) (record { 0 = x.entry }) facts
  pub certificate : List Line
  pub all_safe : Bool
  pub is : IsCertificateOf x (IsSupplied x.program) (Contains facts) (asked_of run.input) certificate all_safe
  pub over : most_bytes < length (text certificate)
