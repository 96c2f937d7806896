use Rattle.std.proofs.Common.{◌<◌, List, [], ◌∷◌, ◌++◌, length, take, sym, ap, ◌∙◌, subst}
use Rattle.std.proofs.lemmas.List.{take_more}
use Rattle.jvm_model.specs.declared.class_file.Member.{Member}
use Rattle.classfile_reader.specs.Repeats.{AreEarlier}
use Rattle.classfile_reader.proofs.Repeats.{answers_more}
use Rattle.classfile_reader.proofs.soundness.repeats.repeats.Goals as goal

pub loop-member-preserved : goal.loop-member-preserved
loop-member-preserved c =
    let pool = c.args.pool.now in
    let members = c.args.members.now in
    let i = c.loop-member.member-index in
    let m : Member = c.member-item.result in
    let before = take i members in
    let have = c.loop-member.invariant in
    let lt : i < length members = c.loop-member-test.true in
    let more = sym (take_more members i m lt ∙ ap (λ (x : Member). before ++ x ∷ []) (sym c.member-item.is)) in
    let new = c.add.new.self in
    record {
      numbers = c.in_ok-answer.ensures.numbers;
      earlier = subst (λ (ms : List Member). AreEarlier pool ms new.numbers new.signatures) more (c.in_ok-answer.ensures.added before have.earlier);
      answered = rw c.in_ok-push.ensures.items (answers_more pool members i m c.loop-member.answers.items c.in_ok-answer.answer lt c.member-item.is have.answered (c.in_ok-answer.ensures.repeat before have.earlier));
    }
