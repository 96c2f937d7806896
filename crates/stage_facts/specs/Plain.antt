-- Public contracts rest on this module.
-- The fact that a program's value stands for.
use Rattle.stage_facts.specs.declared.plain.PlainFact.{PlainFact}
use Rattle.stage_facts.specs.declared.plain.PlainFact.TheVariants.{NoneYet, SomeYet, OfObject}
use Rattle.stage_facts.specs.Facts.{SiteFact, none_yet, some_yet, of_object}

abbrev pub fact_of : PlainFact → SiteFact
fact_of NoneYet = none_yet
fact_of SomeYet = some_yet
fact_of (OfObject t) = of_object t
