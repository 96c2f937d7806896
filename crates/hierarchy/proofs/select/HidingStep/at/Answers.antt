use Rattle.std.proofs.Common.{◌∙◌, sym, subst}
use Rattle.std.proofs.lemmas.Bool.{false≢true}
use Rattle.jvm_model.specs.Lookups.{lent_signature}
use Rattle.program_model.specs.Numbers.{name_at}
use Rattle.hierarchy.specs.Searches.{Hides}
use Rattle.hierarchy.proofs.ClassPlaces.{name_at-at, names_differ}
use Rattle.hierarchy.proofs.select.HidingStep.at.Goals as goal

pub returns : goal.returns
returns c = λ class stands.
    let p = c.args.program.now in
    let owner = c.args.self.now.owner.0 in
    let name = name_at-at p c.args.class.0 class stands in (
      λ e. names_differ p c.well_formed-2.ensures.program c.args.class.0 owner c.requires.class c.requires.fits (sym c.eq.ensures ∙ c.if-eq.false) (name ∙ e),
      λ h. false≢true (sym c.if-hides.false ∙ c.hides.ensures.1 (subst (Hides p (name_at p owner) (lent_signature c.args.self.now.signature)) (sym name) h)),
    )
