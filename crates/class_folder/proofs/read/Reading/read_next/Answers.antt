use Rattle.std.proofs.Common.{◌≡◌, ◌+◌, List, ℕ, length, IfSome, Some, take, option_map, string_bytes, ap, arith, rules, subst}
use Rattle.std.proofs.lemmas.List.Elements.{All-push, All-same}
use Rattle.std.proofs.lemmas.Result.{err_from_is_err_and}
use Rattle.jvm_model.specs.declared.program.NamedClass.{NamedClass}
use Rattle.jvm_model.specs.Soundness.{IsChecked}
use Rattle.ts_outside.specs.Files.{file_at}
use Rattle.class_folder.specs.Reading.{IsFileFailure, IsFileRead}
use Rattle.class_folder.proofs.OneFile.{fails_next, reads_next}
use Rattle.class_folder.proofs.read.Reading.read_next.Goals as goal

pub returns-in_err-class-clause-failure : goal.returns-in_err-class-clause-failure
returns-in_err-class-clause-failure g c =
    let p = err_from_is_err_and c.from_residual.result c.from_residual.ensures.1 in
    let files = g.T.Tree.files c.args.tree.now in
    let name = string_bytes c.args.name in
    let size = c.args.self.now.size in
    let sum = size + c.len.result in
    let bytes = c.in-Ok.bytes.items in
    let long : c.len.result ≡ length bytes = search rules in
    let read = subst (λ (text : List ℕ). IfSome files
    (λ held. option_map (take 4194305) (file_at held text) ≡ Some bytes)) c.as_str.ensures.value c.in-Ok.ensures.bytes in
    let failed : IsFileFailure name bytes sum c.in_err-class.field-0.0 =
    subst (λ (xs : List ℕ). IsFileFailure name xs sum c.in_err-class.field-0.0) c.deref.ensures.value c.in_err-class.ensures.failure in
    rw (p.1, p.2) (fails_next files name bytes 4194305 size sum c.in_err-class.field-0.0 (omega arith) read (ap (λ (n : ℕ). size + n) long) failed)

pub returns-clause-read : goal.returns-clause-read
returns-clause-read g c =
    let files = g.T.Tree.files c.args.tree.now in
    let name = string_bytes c.args.name in
    let size = c.args.self.now.size in
    let sum = size + c.len.result in
    let bytes = c.in-Ok.bytes.items in
    let long : c.len.result ≡ length bytes = search rules in
    let read = subst (λ (text : List ℕ). IfSome files
    (λ held. option_map (take 4194305) (file_at held text) ≡ Some bytes)) c.as_str.ensures.value c.in-Ok.ensures.bytes in
    let one : IsFileRead name bytes sum c.in_ok-class.class = subst (λ
    (xs : List ℕ). IsFileRead name xs sum c.in_ok-class.class) c.deref.ensures.value c.in_ok-class.ensures.read in
    reads_next files name bytes 4194305 size sum c.in_ok-class.class c.args.self.now.classes.items c.push.new.self.items (omega arith) read (ap
    (λ (n : ℕ). size + n) long) one c.in_ok-push.ensures.items

pub returns-clause-sound : goal.returns-clause-sound
returns-clause-sound g c = λ old. All-same (λ (x : NamedClass). IsChecked x.class) _ _ c.in_ok-push.ensures.items
    (All-push (λ (x : NamedClass). IsChecked x.class) c.args.self.now.classes.items c.in_ok-class.class old c.in_ok-class.ensures.read.checked)
