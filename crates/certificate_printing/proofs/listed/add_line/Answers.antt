use Rattle.std.proofs.Common.{◌≡◌, List, sym, subst}
use Rattle.ground.specs.Added.{AreAdded}
use Rattle.ground.proofs.Adding.{pushed_adds}
use Rattle.certificate_lines.specs.declared.line.Line.{Line}
use Rattle.certificate_printing.proofs.listed.add_line.Goals as goal

pub returns : goal.returns
returns c =
    let old = c.args.lines.now.items in
    subst (λ (new : List Line). AreAdded (λ (o : Line). c.args.line ≡ o) old new) (sym c.in_ok-push.ensures.items) (pushed_adds old c.args.line)
