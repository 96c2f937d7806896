use Rattle.std.proofs.Common.{sym, ap, ◌∙◌}
use Rattle.std.proofs.lemmas.Bool.{false≢true}
use Rattle.std.proofs.lemmas.Option.{same_Some}
use Rattle.hierarchy.proofs.ClassPlaces.{method_there}
use Rattle.jvm_model.specs.declared.access.AccessFlag.TheVariants.{Native}
use Rattle.jvm_model.specs.Access.{has_flag}
use Rattle.jvm_model.specs.Programs.{Method}
use Rattle.points_to_rules.proofs.TargetBodies.{file_by_view, described_by_view}
use Rattle.points_to_calls.proofs.selecting.is_undescribed.Goals as goal

pub returns-in-InFile : goal.returns-in-InFile
returns-in-InFile c =
    let p = c.args.program.now in let there = method_there p c.args.method.0 c.requires in
    let of = file_by_view p c.args.method there.0 c.in-InFile.file c.in-InFile.number there.1 (c.in-InFile.ensures there.0 there.1) in
    let view = c.method.ensures of.method of.stands in (
      λ set. record { method = of.method; stands = of.stands; native = ap (λ flags. has_flag flags Native) view.flags ∙ sym c.is_set_in.ensures ∙ set; file = of.file; place = of.place; member = of.member; of_file = of.of_file },
      λ un. c.is_set_in.ensures ∙ sym (ap (λ flags. has_flag flags Native) (c.method.ensures un.method un.stands).flags) ∙ un.native,
    )

pub returns-in-Described : goal.returns-in-Described
returns-in-Described c =
    let p = c.args.program.now in let there = method_there p c.args.method.0 c.requires in
    let body = described_by_view there.0 c.in-Described.field-0 (c.in-Described.ensures there.0 there.1) in (
      λ e. absurd (false≢true e),
      λ un. (let e = sym un.of_file ∙ ap (λ (m : Method). m.body) (same_Some un.method there.0 (sym un.stands ∙ there.1)) ∙ body in cc e),
    )
