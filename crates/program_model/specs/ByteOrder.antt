-- Public contracts rest on this module.
-- Texts in the order of their bytes: the first byte that differs decides, and a front comes before the longer text.
use Rattle.std.specs.Prelude.{◌≡◌, ℕ, ◌<◌, List, Some, slice_get}
use Rattle.std.specs.Ordering.{nat_cmp}
use Rattle.std.specs.Cmp.Lexicographic.{slice_cmp}
use Rattle.std.specs.declared.cmp.Ordering.TheVariants.{Less}

-- each text is below all that come after it, so that none stands twice
pub record IsAscending (texts : List (List ℕ)) : Type 0 where
  pub below : (i j : ℕ) (x y : List ℕ) → i < j → slice_get texts i ≡ Some x → slice_get texts j ≡ Some y → slice_cmp nat_cmp x y ≡ Less
