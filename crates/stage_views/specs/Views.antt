-- Public contracts rest on this module.
-- What the parts that a transfer is given stand for, and what it gives.
use Rattle.std.specs.Prelude.{◌≡◌, ◌⊎◌, ◌≤◌, nat_lt, true, false, List, [], ◌∷◌, length, take}
use Rattle.jvm_model.specs.declared.site.Site.{Site}
use Rattle.access_paths.specs.Paths.{Path, most_paths, path_set}
use Rattle.stage_facts.specs.Facts.{SiteFact}
use Rattle.stage_facts.specs.Plain.{fact_of}
use Rattle.stage_transfer.specs.Calls.{Entering, by_call, by_trigger, Result, an_argument, a_new_object, another}
use Rattle.stage_transfer.specs.Settings.{Setting, same_site}
use Rattle.stage_views.specs.declared.calls.Answer.{Answer}
use Rattle.stage_views.specs.declared.calls.Answer.TheVariants.{Argument, Own, Other}
use Rattle.stage_views.specs.declared.calls.Entering.{Entering as CodeEntering}
use Rattle.stage_views.specs.declared.calls.Entering.TheVariants.{Call, Trigger}
use Rattle.stage_views.specs.declared.facts.Facts.{Facts}
use Rattle.stage_views.specs.declared.facts.Facts.TheVariants as some
use Rattle.stage_views.specs.declared.gathering.Gathering.{Gathering}
use Rattle.stage_views.specs.declared.setting.StageSetting.{StageSetting}

-- The parts are those of the setting. What the program answers is told elsewhere.
pub record IsSettingBy (s : StageSetting) (w : Setting) : Type 0 where
  pub property : w.property ≡ s.automaton.now
  pub site : w.site ≡ s.site.now
  pub stage : w.stage ≡ s.stage
  pub depth : w.depth ≡ s.depth
  pub few : w.depth ≤ 3

abbrev pub entering_of : CodeEntering → Entering
entering_of (Call c) = by_call c.now
entering_of Trigger = by_trigger

-- What the answer stands for, where facts are about the site.
abbrev pub IsAnswerOf : Site → Answer → Result → Type 0
IsAnswerOf site (Argument z) r = r ≡ an_argument z
IsAnswerOf site Own r = (made : Site) × (r ≡ a_new_object made) × (same_site made site ≡ true)
IsAnswerOf site Other r = (r ≡ another) ⊎ ((made : Site) × (r ≡ a_new_object made) × (same_site made site ≡ false))

-- The facts, in their order.
abbrev pub facts_of : Facts → List SiteFact
facts_of some.None = []
facts_of (some.One f) = fact_of f ∷ []
facts_of (some.Two f g) = fact_of f ∷ fact_of g ∷ []

-- These paths were gathered: as a set they have these least ones, and others were left out just where there are too many.
pub record Gathers (g : Gathering) (paths : List Path) : Type 0 where
  pub set : g.set ≡ take most_paths (path_set paths)
  pub dropped : g.dropped ≡ nat_lt most_paths (length (path_set paths))
