-- Public contracts rest on this module.
-- Which site a tracked site is, and the order of a report.
use Rattle.std.specs.Prelude.{◌≡◌, ◌<◌, ℕ, suc, Option, Some, None, List, slice_get}
use Rattle.jvm_model.specs.declared.number.MethodNo.{MethodNo}
use Rattle.jvm_model.specs.declared.site.Site.{Site}
use Rattle.jvm_model.specs.declared.site.SiteKind.{SiteKind}
use Rattle.jvm_model.specs.declared.site.SiteKind.TheVariants.{Boot, New, Result, Thrown}
use Rattle.jvm_model.specs.Programs.{Program}
use Rattle.program_model.specs.Numbers.{name_at, IsClassNumber, IsMethodNumber}
use Rattle.site_report.specs.declared.tracked_site.TrackedSite.{TrackedSite}

-- The allocation site: its class by name.
abbrev pub site_in : Program → TrackedSite → Site
site_in p t = record { kind = t.kind; method = t.method; offset = t.offset; class = name_at p t.class.0 }

-- Its class is one of the program, and so is its method, if it has one.
pub record IsKnownSite (p : Program) (t : TrackedSite) : Type 0 where
  pub class : IsClassNumber p t.class.0
  pub method : (m : MethodNo) → t.method ≡ Some m → IsMethodNumber p m.0

-- The start of the program comes before its methods, and these by their numbers; and the kinds of sites in their order.
abbrev pub method_rank : Option MethodNo → ℕ
method_rank None = 0
method_rank (Some m) = suc m.0

abbrev pub kind_rank : SiteKind → ℕ
kind_rank Boot = 0
kind_rank New = 1
kind_rank Result = 2
kind_rank Thrown = 3

-- The one site comes before the other in a report: by the method, by the offset, by the class, and by the kind. Classes are numbered in the order of
-- their names.
pub data IsBefore (t u : TrackedSite) : Type 0 where
  by_method : method_rank t.method < method_rank u.method → IsBefore t u
  by_offset : t.method ≡ u.method → t.offset < u.offset → IsBefore t u
  by_class : t.method ≡ u.method → t.offset ≡ u.offset → t.class.0 < u.class.0 → IsBefore t u
  by_kind : t.method ≡ u.method → t.offset ≡ u.offset → t.class ≡ u.class → kind_rank t.kind < kind_rank u.kind → IsBefore t u

-- The sites stand in the order of a report, each once.
pub record AreInOrder (sites : List TrackedSite) : Type 0 where
  pub ascend : (i j : ℕ) (t u : TrackedSite) → i < j → slice_get sites i ≡ Some t → slice_get sites j ≡ Some u → IsBefore t u
