-- Facts as a program holds them, and as the rules have them: each of the one is one of the other.
use Rattle.std.proofs.Common.{◌≡◌, refl, sym, ap, ◌∙◌}
use Rattle.op_model.specs.declared.node.Spot.{Spot}
use Rattle.stage_facts.specs.declared.plain.PlainFact.{PlainFact}
use Rattle.stage_facts.specs.declared.plain.PlainFact.TheVariants.{NoneYet, SomeYet, OfObject}
use Rattle.stage_facts.specs.Facts.{SiteFact, none_yet, some_yet, of_object}
use Rattle.stage_facts.specs.Plain.{fact_of}
use Rattle.edge_steps.specs.declared.conclusions.Conclusion.{Conclusion}

abbrev pub plain : SiteFact → PlainFact
plain none_yet = NoneYet
plain some_yet = SomeYet
plain (of_object t) = OfObject t

pub plain_is : (g : SiteFact) → fact_of (plain g) ≡ g
plain_is none_yet = refl
plain_is some_yet = refl
plain_is (of_object t) = refl

is_plain : (f : PlainFact) → plain (fact_of f) ≡ f
is_plain NoneYet = refl
is_plain SomeYet = refl
is_plain (OfObject t) = refl

pub one_fact : (f g : PlainFact) → fact_of f ≡ fact_of g → f ≡ g
one_fact f g e = sym (is_plain f) ∙ ap plain e ∙ is_plain g

abbrev pub concluded : Spot → SiteFact → Conclusion
concluded spot g = record { spot = spot; fact = plain g }
