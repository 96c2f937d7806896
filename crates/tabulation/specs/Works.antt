-- This crate's own proofs alone rest on this module.
-- What tabulation works with.
use Rattle.std.specs.Prelude.{◌≡◌, Some, slice_get}
use Rattle.ground_views.specs.Views.{AreViewsOf}
use Rattle.tabulation.specs.declared.work.Work.{Work}

-- The views are those of the ground that is asked of, and the setting has the site of the number.
pub record IsWork (work : Work) : Type 0 where
  pub views : AreViewsOf work.question.now.ground.now work.question.now.entry work.views.now
  pub site : slice_get work.question.now.ground.now.sites work.question.now.site.0 ≡ Some work.question.now.setting.site.now
