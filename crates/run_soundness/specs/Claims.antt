-- Public contracts rest on this module.
-- What is true of a line that says that a site is safe, wherever a run has written it; and of a run that ends with all sites safe.
use Rattle.std.specs.Prelude.{◌≡◌, ◌≢◌, ◌⊎◌, ℕ, List, [], ◌∷◌, ◌++◌, Option, Some, All}
use Rattle.ts_outside.specs.Files.{File}
use Rattle.jvm_model.specs.declared.site.SiteKind.TheVariants as kinds
use Rattle.jvm_model.specs.Subtypes.{IsSubtype}
use Rattle.program_model.specs.Numbers.{name_at, IsClassNumber}
use Rattle.machine_bytecode.specs.Executions.{Errs}
use Rattle.machine_bytecode.specs.Objects.{Subject}
use Rattle.run_soundness.specs.Truth.{IsTrueLine}
use Rattle.run_spec.specs.RunSubjects.{IsRunOf}
use Rattle.site_report.specs.declared.tracked_site.TrackedSite.{TrackedSite}
use Rattle.site_report.specs.Sites.{site_in}

-- A text that is empty or ends with a newline.
abbrev pub IsFront : List ℕ → Type 0
IsFront front = (front ≡ []) ⊎ ((earlier : List ℕ) × (front ≡ earlier ++ 10 ∷ []))

-- The line stands in the text: at its start or after a newline, and a newline ends it.
pub record StandsIn (text line : List ℕ) : Type 0 where
  pub front : List ℕ
  pub whole : IsFront front
  pub rest : List ℕ
  pub text_is : text ≡ front ++ (line ++ rest)
  pub content : List ℕ
  pub plain : All (λ b. b ≢ 10) content
  pub line_is : line ≡ content ++ 10 ∷ []

-- The line stands in what a sink took after what it had before.
pub record WroteLine (old new : Option (List ℕ)) (line : List ℕ) : Type 0 where
  pub before : List ℕ
  pub before_is : old ≡ Some before
  pub text : List ℕ
  pub new_is : new ≡ Some (before ++ text)
  pub stands : StandsIn text line

-- Words and files give a program, a property and an entry, of which the line is true: it is that of a site, and no execution of the bytecode, of any
-- length, has a state in which an object of the site is in the error state.
pub record IsTrueOfRun (words : List (List ℕ)) (files : List File) (line : List ℕ) : Type 0 where
  pub x : Subject
  pub run : IsRunOf words files x
  pub is_true : IsTrueLine x line

-- Objects of the property's class, or of one below it, may be made at the site: by an instruction of the program, or by a stub that gives a new one.
pub record IsOwnSite (x : Subject) (t : TrackedSite) : Type 0 where
  pub kind : (t.kind ≡ kinds.New) ⊎ (t.kind ≡ kinds.Result)
  pub known : IsClassNumber x.program t.class.0
  pub below : IsSubtype x.program x.property.class_name (name_at x.program t.class.0)

-- Words and files give a program, a property and an entry, and no execution of the bytecode, of any length, has a state in which an object of one of these
-- sites is in the error state.
pub record KeepsProtocol (words : List (List ℕ)) (files : List File) : Type 0 where
  pub x : Subject
  pub run : IsRunOf words files x
  pub never : (t : TrackedSite) → IsOwnSite x t → Errs x (site_in x.program t) → ⊥
