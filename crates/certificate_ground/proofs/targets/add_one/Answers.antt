use Rattle.std.proofs.Common.{length, Option, Ok, Err, Result, refl, sym, ap, ◌∙◌, subst}
use Rattle.std.proofs.lemmas.Option.{slice_get_read}
use Rattle.std.proofs.lemmas.Result.{on_ok_weaker}
use Rattle.jvm_model.specs.declared.number.MethodNo.{MethodNo}
use Rattle.jvm_model.specs.declared.reason.Reason.{Reason}
use Rattle.jvm_model.specs.declared.site.Site.{Site}
use Rattle.points_to_rules.specs.Calls.{SelectsFor}
use Rattle.call_selection.specs.OnlyAnswers.{IsOnlyAnswer}
use Rattle.call_selection.proofs.SelectedTargets.{only_matched}
use Rattle.certificate_ground.proofs.CallTargets.{none_selected, one_selected, reason_only}
use Rattle.certificate_ground.proofs.targets.add_one.Goals as goal

pub returns-in_default : goal.returns-in_default
returns-in_default c =
    let p = c.args.known.now.program.now in
    let sites = c.args.known.now.sites.now in
    let call = c.args.call.now in
    let old = c.args.targets.now in
    let s = c.index-known-site.result in
    let stands = slice_get_read sites (length sites) c.args.site.0 s refl c.requires.within c.index-known-site.is in
    let only = subst (λ (o : Option (Result MethodNo Reason)). IsOnlyAnswer (SelectsFor call.kind p call.resolved s) o) c.in_default.is
    (c.selected_for-answer.ensures s (c.as_slice.ensures ∙ ap (λ (t : Site). t.class) (sym c.index-known-site.is))) in
    none_selected p sites call c.args.at c.args.site s stands (λ t selects. only (Ok t) selects) old.calls.keys old.targets.groups.items

pub returns-in-Ok : goal.returns-in-Ok
returns-in-Ok c =
    let p = c.args.known.now.program.now in
    let sites = c.args.known.now.sites.now in
    let call = c.args.call.now in
    let old = c.args.targets.now in
    let new = c.add_target.new.targets in
    let s = c.index-known-site.result in
    let stands = slice_get_read sites (length sites) c.args.site.0 s refl c.requires.within c.index-known-site.is in
    let only = only_matched (SelectsFor call.kind p call.resolved s) c.selected_for-answer.result c.in-Some.chosen (Ok c.in-Ok.target) c.in-Some.is c.in-Ok.is
    (c.selected_for-answer.ensures s (c.as_slice.ensures ∙ ap (λ (t : Site). t.class) (sym c.index-known-site.is))) in
    on_ok_weaker c.add_target.result
    (λ added. one_selected p sites call c.args.at c.args.site s stands c.in-Ok.target only old.calls.keys old.targets.groups.items new.calls.keys new.targets.groups.items added)
    c.add_target.ensures

pub returns-in-Err : goal.returns-in-Err
returns-in-Err c =
    let p = c.args.known.now.program.now in
    let sites = c.args.known.now.sites.now in
    let call = c.args.call.now in
    let old = c.args.targets.now in
    let s = c.index-known-site.result in
    let stands = slice_get_read sites (length sites) c.args.site.0 s refl c.requires.within c.index-known-site.is in
    let only = only_matched (SelectsFor call.kind p call.resolved s) c.selected_for-answer.result c.in-Some.chosen (Err c.in-Err.field-0) c.in-Some.is c.in-Err.is
    (c.selected_for-answer.ensures s (c.as_slice.ensures ∙ ap (λ (t : Site). t.class) (sym c.index-known-site.is))) in
    none_selected p sites call c.args.at c.args.site s stands (reason_only (SelectsFor call.kind p call.resolved s) c.in-Err.field-0 only) old.calls.keys old.targets.groups.items
