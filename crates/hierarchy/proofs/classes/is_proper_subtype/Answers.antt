use Rattle.std.proofs.Common.{◌∙◌, sym}
use Rattle.std.proofs.lemmas.Bool.{not-true}
use Rattle.hierarchy.proofs.ClassPlaces.{names_differ}
use Rattle.hierarchy.proofs.classes.is_proper_subtype.Goals as goal

pub returns-then-ne : goal.returns-then-ne
returns-then-ne c = (
  λ t. (
    c.is_subtype.ensures.0 t,
    names_differ c.args.program.now c.well_formed-2.ensures.program c.args.lower.0 c.args.upper.0 c.requires.lower c.requires.upper
        (not-true _ (sym c.ne.ensures ∙ c.if-ne.true)),
  ),
  λ h. c.is_subtype.ensures.1 h.0,
)
