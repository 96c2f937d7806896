use Rattle.std.proofs.Common.{append_assoc}
use Rattle.site_report.proofs.lines.push_site.Goals as goal

pub returns : goal.returns
returns c =
    rw (
      c.in_ok-push_name.ensures,
      c.in_ok-push-2.ensures.items,
      c.in_ok-push_number.ensures,
      c.in_ok-push.ensures.items,
      c.in_ok-push_place.ensures,
      c.class_name.ensures,
    )
    (simp append_assoc)
