use Rattle.std.proofs.Common.{◌≡◌, take, subst, arith, All}
use Rattle.std.proofs.lemmas.List.{take_all}
use Rattle.std.proofs.lemmas.Bool.{false≢true}
use Rattle.jvm_model.specs.declared.program.NamedClass.{NamedClass}
use Rattle.entry_points.specs.Entries.{NamesMember}
use Rattle.entry_points.proofs.Files.{none_more, none_among}
use Rattle.entry_points.proofs.named.has_method_named.Goals as goal

pub loop-file-preserved : goal.loop-file-preserved
loop-file-preserved c =
    none_more (NamesMember c.args.class.now c.args.method.now) c.args.classes.now c.loop-file.file-index c.file-item.result c.loop-file-test.true c.file-item.is
    c.loop-file.invariant (λ names. false≢true (c.if-names_method.ensures.1 names))

pub returns : goal.returns
returns c =
    let files = c.args.classes.now in
    let whole : take c.loop-file.file-index files ≡ files = take_all c.loop-file.file-index files (omega arith) in
    let none : All (λ (f : NamedClass). NamesMember c.args.class.now c.args.method.now f → ⊥) files =
    subst (All (λ (f : NamedClass). NamesMember c.args.class.now c.args.method.now f → ⊥)) whole c.loop-file.invariant in (
      λ no. absurd (false≢true no),
      λ named. absurd (none_among (NamesMember c.args.class.now c.args.method.now) files named.file none named.stands named.names),
    )
