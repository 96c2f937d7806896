use Rattle.std.proofs.Common.{append_assoc}
use Rattle.site_report.proofs.MethodViews.{view_class, view_text}
use Rattle.site_report.proofs.lines.push_method.Goals as goal

pub class_name-requires : goal.class_name-requires
class_name-requires c = view_class c.args.program.now c.args.number c.method-view.result c.requires c.method-view.ensures

pub returns : goal.returns
returns c =
    let text = view_text c.args.program.now c.args.number c.method-view.result c.requires c.method-view.ensures in
    rw (text, c.in_ok-push_name-3.ensures, c.in_ok-push_name-2.ensures, c.in_ok-push.ensures.items, c.in_ok-push_name.ensures, c.class_name.ensures)
    (simp append_assoc)
