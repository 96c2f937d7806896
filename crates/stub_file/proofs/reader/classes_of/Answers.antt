use Rattle.std.proofs.Common.{◌≡◌, List, length, arith, subst}
use Rattle.std.specs.List.{AllZip}
use Rattle.std.proofs.lemmas.List.{take_all}
use Rattle.toml.specs.Data.{Members}
use Rattle.toml.specs.View.{view}
use Rattle.stub_file.specs.StubFile.{GivesClass}
use Rattle.stub_file.specs.StubSpelling.{SpellsTable}
use Rattle.toml_tables.proofs.Finding.{Finds-none, Finds-some}
use Rattle.stub_file.proofs.Whole.{as_many, breach_told, classes_more, table_at, IsFirstBreach-at}
use Rattle.stub_file.proofs.reader.classes_of.Goals as goal

pub returns-in-None : goal.returns-in-None
returns-in-None c = λ ts e.
    let file = c.args.file.now in
    let values = c.args.values.now in
    let here = table_at values ts c.loop-number.number c.index-values-number.result e (omega arith) c.index-values-number.is in
    let none = Finds-none (SpellsTable (GivesClass file) (view c.index-values-number.result)) c.in_ok-class.field-0 c.in-None.is c.in_ok-class.ensures in
    breach_told file ts c.loop-number.number c.breach_at.result c.breach_at.ensures
    (IsFirstBreach-at file ts c.loop-number.classes.items c.loop-number.number (view c.index-values-number.result) here (c.loop-number.invariant ts e) none)

pub loop-number-preserved : goal.loop-number-preserved
loop-number-preserved c = λ ts e.
    let file = c.args.file.now in
    let values = c.args.values.now in
    let here = table_at values ts c.loop-number.number c.index-values-number.result e (omega arith) c.index-values-number.is in
    let found = Finds-some (SpellsTable (GivesClass file) (view c.index-values-number.result)) c.in_ok-class.field-0 c.in-Some.class c.in-Some.is c.in_ok-class.ensures in
    rw c.in_ok-push-in-Some.ensures.items
    (classes_more file ts c.loop-number.classes.items c.loop-number.number (view c.index-values-number.result) c.in-Some.class here (c.loop-number.invariant ts e) found)

pub returns : goal.returns
returns c = λ ts e.
    let many : length c.args.values.now ≡ length ts = as_many c.args.values.now ts e in
    subst (λ (us : List Members). AllZip (GivesClass c.args.file.now) us c.loop-number.classes.items) (take_all c.loop-number.number ts (omega arith)) (c.loop-number.invariant ts e)
