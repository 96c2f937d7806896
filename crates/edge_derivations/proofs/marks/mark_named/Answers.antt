use Rattle.std.proofs.Common.{sym, subst}
use Rattle.edge_numbers.specs.declared.because.Because.{Because}
use Rattle.edge_numbers.specs.Premises.{premises}
use Rattle.edge_derivations.specs.Marks.{AreMarkedBefore}
use Rattle.edge_derivations.proofs.Following.{both_marked}
use Rattle.edge_derivations.proofs.marks.mark_named.Goals as goal

pub returns-in-Two : goal.returns-in-Two
returns-in-Two c =
    let old = c.args.marks.now in
    let mid = c.mark_before-in-Two.new.marks in
    let new = c.mark_before-in-Two-2.new.marks in
    subst (λ (b : Because). AreMarkedBefore c.args.place (premises b) old new) (sym c.in-Two.is)
    (both_marked c.args.place c.in-Two.caller.0 c.in-Two.exit.0 old mid new c.mark_before-in-Two.ensures c.mark_before-in-Two-2.ensures)
