-- Public contracts rest on this module.
-- Answers that are kept under numbers, and when they are right.
use Rattle.std.specs.Prelude.{◌≡◌, ◌↔◌, ℕ, Bool, List, Option, Some, Result, slice_get, IsTrue}
use Rattle.indexmap.specs.IndexMap.{get}
use Rattle.jvm_model.specs.declared.number.MethodNo.{MethodNo}
use Rattle.jvm_model.specs.declared.reason.Reason.{Reason}
use Rattle.jvm_model.specs.declared.site.Site.{Site}
use Rattle.jvm_model.specs.Programs.{Program}
use Rattle.jvm_model.specs.Subtypes.{Fits}
use Rattle.points_to_rules.specs.Calls.{SelectsAs}
use Rattle.points_to_numbers.specs.Numbered.{Numbered}
use Rattle.points_to_calls.specs.declared.answer_keys.FitKey.{FitKey}
use Rattle.points_to_calls.specs.declared.answer_keys.SelectKey.{SelectKey}
use Rattle.points_to_calls.specs.declared.kept.Answers.{Answers}
use Rattle.points_to_calls.specs.contracts.answer_keys.FitKeyPartialEq.TheImpl as fit_block
use Rattle.points_to_calls.specs.contracts.answer_keys.SelectKeyPartialEq.TheImpl as select_block
use Rattle.call_selection.specs.OnlyAnswers.{IsOnlyAnswer}

-- `==` of two keys.
abbrev pub same_fits : FitKey → FitKey → Bool
same_fits = (fit_block.ghosts).eq

abbrev pub same_selects : SelectKey → SelectKey → Bool
same_selects = (select_block.ghosts).eq

-- The answer is right: it says whether objects of the lower class fit the upper one, by the names for which the numbers stand.
pub record IsFitAnswer (p : Program) (n : Numbered) (key : FitKey) (answer : Bool) : Type 0 where
  pub upper : List ℕ
  pub upper_is : slice_get n.classes key.upper.0 ≡ Some upper
  pub lower : List ℕ
  pub lower_is : slice_get n.classes key.lower.0 ≡ Some lower
  pub right : IsTrue answer ↔ Fits p upper lower

-- The answer is right: it is the only one that a call of the resolved method gives by the class of an object, or there is none and it gives none.
pub record IsSelectAnswer (p : Program) (n : Numbered) (key : SelectKey) (answer : Option (Result MethodNo Reason)) : Type 0 where
  pub class : List ℕ
  pub class_is : slice_get n.classes key.class.0 ≡ Some class
  pub right : (s : Site) → class ≡ s.class → IsOnlyAnswer (SelectsAs key.interface p key.resolved s) answer

-- Each kept answer is right.
pub record AreRight (p : Program) (n : Numbered) (answers : Answers) : Type 0 where
  pub fits : (key : FitKey) (answer : Bool) → get same_fits answers.fits key ≡ Some answer → IsFitAnswer p n key answer
  pub selected : (key : SelectKey) (answer : Option (Result MethodNo Reason))
      → get same_selects answers.selected key ≡ Some answer → IsSelectAnswer p n key answer
