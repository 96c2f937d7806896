-- This crate's own proofs alone rest on this module.
-- What constraints make of an object, but for those that select the target of a call.
use Rattle.std.specs.Prelude.{ℕ, List}
use Rattle.jvm_model.specs.declared.site.Site.{Site}
use Rattle.jvm_model.specs.Programs.{Program}
use Rattle.points_to_constraints.specs.ItemRules.{Passed}
use Rattle.points_to_constraints.specs.Items.{Constraint, copy_to, filter_to, load_field, store_field, load_elements, store_elements, throw_to, rethrow_to, dispatch, Item}
use Rattle.points_to_rules.specs.Facts.{Holder}

-- The holder has an object of the site, if it fits the class.
abbrev pub FittingPassed : Program → (class : List ℕ) → (to : Holder) → Site → Item → Type 0
FittingPassed p class to s x = Passed p (filter_to class to) s x

-- What a constraint makes of an object; one that selects a target makes nothing here.
abbrev pub PlainPassed : Program → Constraint → Site → Item → Type 0
PlainPassed p (copy_to to) s x = Passed p (copy_to to) s x
PlainPassed p (filter_to class to) s x = Passed p (filter_to class to) s x
PlainPassed p (load_field field to) s x = Passed p (load_field field to) s x
PlainPassed p (store_field field from) s x = Passed p (store_field field from) s x
PlainPassed p (load_elements to) s x = Passed p (load_elements to) s x
PlainPassed p (store_elements from) s x = Passed p (store_elements from) s x
PlainPassed p (throw_to catch_chain) s x = Passed p (throw_to catch_chain) s x
PlainPassed p (rethrow_to catch_chain) s x = Passed p (rethrow_to catch_chain) s x
PlainPassed p (dispatch site) s x = ⊥
