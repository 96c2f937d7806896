use Rattle.std.proofs.Common.{◌≡◌, Bool, false, List}
use Rattle.std.specs.HashSet.{contains}
use Rattle.std.specs.Option.{option_map_or}
use Rattle.std.proofs.lemmas.Result.{IfOk-weaker, on_ok_weaker}
use Rattle.jvm_model.specs.declared.class_file.Member.{Member}
use Rattle.classfile_reader.specs.Repeats.{signature_eq, AreEarlier, IsRepeat}
use Rattle.classfile_reader.proofs.Repeats.{answer_is, earlier_more, still_earlier}
use Rattle.classfile_reader.proofs.soundness.repeats.EarlierMembers.add.Goals as goal

pub returns-clause-repeat : goal.returns-clause-repeat
returns-clause-repeat c =
    let pool = c.args.pool.now in
    let m = c.args.member.now in
    let old = c.args.self.now.numbers in
    let new = c.signature_of.new.numbers in
    let signatures = c.args.self.now.signatures in
    let signature = c.in_ok-signature in
    IfOk-weaker c.was_seen.result (λ (was : Bool). was ≡ option_map_or (contains signature_eq signatures) signature.signature false)
    (λ (answer : Bool). (earlier : List Member) → AreEarlier pool earlier old signatures → IsRepeat pool earlier m answer)
    (λ answer told earlier have.
    answer_is pool earlier m new signatures signature.signature answer signature.ensures.known signature.ensures.signature (still_earlier pool earlier old new signatures signature.ensures.stay have) told)
    c.was_seen.ensures.before

pub returns-clause-added : goal.returns-clause-added
returns-clause-added c =
    let pool = c.args.pool.now in
    let old = c.args.self.now.numbers in
    let new = c.signature_of.new.numbers in
    let signatures = c.args.self.now.signatures in
    let signature = c.in_ok-signature in
    on_ok_weaker c.was_seen.result
    (λ after earlier have.
    earlier_more pool new c.args.member.now signature.signature signature.ensures.signature signatures c.was_seen.new.seen after earlier (still_earlier pool earlier old new signatures signature.ensures.stay have))
    c.was_seen.ensures.after
