use Rattle.std.proofs.Common.{◌∙◌, sym}
use Rattle.hierarchy.proofs.ClassPlaces.{name_at-at, names_differ}
use Rattle.hierarchy.proofs.special.ReachedStep.at.Goals as goal

pub returns-else-eq : goal.returns-else-eq
returns-else-eq c = λ class stands named.
    let p = c.args.program.now in
    names_differ p c.well_formed-2.ensures.program c.args.class.0 c.args.self.now.upper.0 c.requires.class c.requires.fits (sym c.eq.ensures ∙ c.if-eq.false)
    (name_at-at p c.args.class.0 class stands ∙ named)
