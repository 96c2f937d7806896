use Rattle.std.proofs.Common.{◌≡◌, ◌↔◌, ℕ, List, Bool, true, false, cond, Option, Some, None, Result, Ok, Err, IfOk, MatchResult, IsTrue, refl, subst}
use Rattle.std.proofs.lemmas.Bool.{false≢true}
use Rattle.toml.specs.Data.{Members}
use Rattle.toml.specs.View.{table_view}
use Rattle.jvm_model.specs.declared.stub.StubClass.{StubClass}
use Rattle.jvm_model.specs.StubRules.{IsSoundStub}
use Rattle.stub_file.specs.StubFile.{GivesClass}
use Rattle.stub_file.specs.StubSpelling.{SpellsClass}
use Rattle.toml_tables.specs.Tables.{Finds}
use Rattle.toml_tables.proofs.Finding.{Finds-some}
use Rattle.stub_file.proofs.Spelling.{SpellsClass-unique}
use Rattle.stub_file.proofs.class_table.class_of.Goals as goal

-- the class that the table spells is given if it keeps the rules, and otherwise none is
gives_kept : {E : Type 0} (file : List ℕ) (ms : Members) (class : StubClass) (kept : Result Bool E) (r : Result (Option StubClass) E) → SpellsClass file ms class → IfOk kept (λ sound. IsTrue sound ↔ IsSoundStub class) → MatchResult kept (λ is. r ≡ Ok (cond is (Some class) None)) (λ e. r ≡ Err e) → IfOk r (Finds (GivesClass file ms))
gives_kept file ms class (Ok true) r spells keeps is = rw is record { spells = spells; sound = keeps.0 refl }
gives_kept file ms class (Ok false) r spells keeps is = rw is λ other gives.
    let same : other ≡ class = SpellsClass-unique file ms other class gives.spells spells in
    false≢true (keeps.1 (subst (λ (k : StubClass). IsSoundStub k) same gives.sound))
gives_kept file ms class (Err e) r spells keeps is = rw is tt

pub returns : goal.returns
returns c =
    let file = c.args.file.now in
    let ms = table_view c.args.table.now in
    let found = Finds-some (SpellsClass file ms) c.in_ok-class.field-0 c.in-Some.class c.in-Some.is c.in_ok-class.ensures in
    gives_kept file ms c.in-Some.class c.is_sound_class-sound.result c.kept_if.result found c.is_sound_class-sound.ensures c.kept_if.ensures
