-- A file that was read up to a limit: what is said of the bytes that were read is said of all of the file.
use Rattle.std.proofs.Common.{◌≡◌, ℕ, ◌<◌, ◌≤◌, List, length, take, Option, Some, None, option_map, ◌⊎◌, inl, inr, sym, ◌∙◌, subst, refl, arith}
use Rattle.std.proofs.lemmas.Bool.{cases_lt}
use Rattle.std.proofs.lemmas.List.{length-take, take_all}
use Rattle.failure.specs.declared.Failure.TheVariants.{Cause}
use Rattle.jvm_model.specs.declared.automaton.Automaton.{Automaton}
use Rattle.jvm_model.specs.declared.stub.StubClass.{StubClass}
use Rattle.property_file.specs.PropertyFile.{IsPropertyFile}
use Rattle.property_file.specs.Refusals.{IsBrokenFile}
use Rattle.stub_file.specs.declared.stub_failure.StubFault.TheVariants.{BadStub}
use Rattle.stub_file.specs.StubFile.{IsStubFile, IsStubRefusal}
use Rattle.toml_tables.specs.Documents.{IsNoDocument, too_large}

-- the value behind a cut
pub whole_of : (o : Option (List ℕ)) (n : ℕ) (bytes : List ℕ) → option_map (take n) o ≡ Some bytes → (whole : List ℕ) × (o ≡ Some whole) × (take n whole ≡ bytes)
whole_of None n bytes e = cc
whole_of (Some whole) n bytes e = (whole, refl, cc)

-- The first bytes are within the limit only where they are all of them.
cut_whole : (n limit : ℕ) (whole bytes : List ℕ) → limit < n → take n whole ≡ bytes → length bytes ≤ limit → bytes ≡ whole
cut_whole n limit whole bytes past is fits =
    let l : length (take n whole) ≤ limit = rw is fits in
    sym is ∙ take_all n whole (omega (arith, l, length-take n whole))

-- bytes that are too many, or all of the file
whole_or_large : (n : ℕ) (whole bytes : List ℕ) → 1048576 < n → take n whole ≡ bytes → (bytes ≡ whole) ⊎ (1048576 < length whole)
whole_or_large n whole bytes past is =
    elim (cases_lt 1048576 (length whole)) [
      | inl large ↦ inr large
      | inr small ↦ inl (sym is ∙ take_all n whole (omega arith))
    ]

pub document_whole : (n : ℕ) (whole bytes : List ℕ) → 1048576 < n → take n whole ≡ bytes → IsNoDocument bytes → IsNoDocument whole
document_whole n whole bytes past is bad =
    elim (whole_or_large n whole bytes past is) [
      | inl same ↦ subst IsNoDocument same bad
      | inr large ↦ too_large large
    ]

-- ---- a property file

pub property_whole : (n : ℕ) (whole bytes : List ℕ) (a : Automaton) → 1048576 < n → take n whole ≡ bytes → IsPropertyFile bytes a → IsPropertyFile whole a
property_whole n whole bytes a past is p = subst (λ (x : List ℕ). IsPropertyFile x a) (cut_whole n 1048576 whole bytes past is p.document.limit) p

pub broken_whole : (n : ℕ) (whole bytes key : List ℕ) → 1048576 < n → take n whole ≡ bytes → IsBrokenFile bytes key → IsBrokenFile whole key
broken_whole n whole bytes key past is b = subst (λ (x : List ℕ). IsBrokenFile x key) (cut_whole n 1048576 whole bytes past is b.document.limit) b

-- ---- a stub file

pub stubs_whole : (n : ℕ) (whole bytes file : List ℕ) (stubs : List StubClass) → 1048576 < n → take n whole ≡ bytes → IsStubFile file bytes stubs → IsStubFile file whole stubs
stubs_whole n whole bytes file stubs past is s =
    subst (λ (x : List ℕ). IsStubFile file x stubs) (cut_whole n 1048576 whole bytes past is s.document.limit) s

pub broken_stubs_whole : (n : ℕ) (whole bytes file : List ℕ) (class : Option ℕ) → 1048576 < n → take n whole ≡ bytes → IsStubRefusal file bytes (Cause (BadStub class))
    → IsStubRefusal file whole (Cause (BadStub class))
broken_stubs_whole n whole bytes file class past is b =
    subst (λ (x : List ℕ). IsStubRefusal file x (Cause (BadStub class))) (cut_whole n 1048576 whole bytes past is b.document.limit) b
