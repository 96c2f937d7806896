-- Public contracts rest on this module.
-- The lines of a report. Each ends with a newline.
use Rattle.std.specs.Prelude.{codes, ℕ, ◌+◌, List, [], ◌∷◌, ◌++◌, Option, Some, None, option_map, unwrap_or, slice_get}
use Rattle.std.specs.Fmt.{decimal}
use Rattle.jvm_model.specs.declared.number.MethodNo.{MethodNo}
use Rattle.jvm_model.specs.Programs.{Method, Program}
use Rattle.program_model.specs.Numbers.{name_at}
use Rattle.site_report.specs.declared.tracked_site.TrackedSite.{TrackedSite}
use Rattle.site_report.specs.declared.verdict.Verdict.{Verdict}
use Rattle.site_report.specs.declared.verdict.Verdict.TheVariants.{Safe, Unproved, Limit}
use Rattle.site_report.specs.Printed.{printed}

-- A method as it is printed: its class, a full stop, its name and its descriptor.
abbrev pub printed_method : Method → List ℕ
printed_method m = printed m.class ++ codes "." ++ printed m.signature.name ++ printed m.signature.descriptor

-- The method of a number; and what stands for the start of the program.
abbrev pub method_text : Program → Option MethodNo → List ℕ
method_text p None = codes "boot"
method_text p (Some m) = unwrap_or (option_map printed_method (slice_get p.methods m.0)) []

-- A site as it is printed: its method, its offset in the method's code, and the class of its objects.
abbrev pub site_text : Program → TrackedSite → List ℕ
site_text p t = method_text p t.method ++ codes " " ++ decimal t.offset ++ codes " " ++ printed (name_at p t.class.0)

-- The line of a site, by what is found of it.
abbrev pub verdict_line : Program → TrackedSite → Verdict → List ℕ
verdict_line p t (Safe stage) = codes "safe " ++ decimal stage ++ codes " " ++ site_text p t ++ 10 ∷ []
verdict_line p t Unproved = codes "unproved " ++ site_text p t ++ 10 ∷ []
verdict_line p t (Limit stage) = codes "limit " ++ decimal stage ++ codes " " ++ site_text p t ++ 10 ∷ []

-- The last line: how many sites there are, and of how many each is found.
abbrev pub summary_line : (safe unproved limit : ℕ) → List ℕ
summary_line safe unproved limit =
    codes "sites " ++ decimal (safe + unproved + limit) ++ codes " safe " ++ decimal safe ++ codes " unproved " ++ decimal unproved
    ++ codes " limit " ++ decimal limit ++ 10 ∷ []
