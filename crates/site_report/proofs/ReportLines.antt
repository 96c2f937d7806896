-- The line of a site in two parts; and that the lines of a report are lines.
use Rattle.std.proofs.Common.{codes, decimal, ◌≡◌, ◌+◌, ℕ, List, [], ◌∷◌, ◌++◌, Option, Some, None, slice_get, option_map, unwrap_or, refl}
use Rattle.jvm_model.specs.declared.number.MethodNo.{MethodNo}
use Rattle.jvm_model.specs.Programs.{Method, Program}
use Rattle.program_model.specs.Numbers.{name_at}
use Rattle.site_report.specs.declared.tracked_site.TrackedSite.{TrackedSite}
use Rattle.site_report.specs.declared.verdict.Verdict.{Verdict}
use Rattle.site_report.specs.declared.verdict.Verdict.TheVariants.{Safe, Unproved, Limit}
use Rattle.site_report.specs.Lines.{printed_method, method_text, site_text, verdict_line, summary_line}
use Rattle.site_report.specs.Verdicts.{verdict_words}
use Rattle.site_report.proofs.PlainLines.{IsPlain, IsLine, IsPlain-append, IsPlain-test, word, number, name, ended}

-- what is found of the site, and then the site
pub line_parts : (p : Program) (t : TrackedSite) (v : Verdict) → verdict_line p t v ≡ verdict_words v ++ site_text p t ++ 10 ∷ []
line_parts p t (Safe stage) = refl
line_parts p t Unproved = refl
line_parts p t (Limit stage) = refl

-- ---- lines

method_plain : (p : Program) (m : Option MethodNo) → IsPlain (method_text p m)
method_plain p None = IsPlain-test (codes "boot") refl
method_plain p (Some n) = by (slice_get p.methods n.0)
  where
    by : (o : Option Method) → IsPlain (unwrap_or (option_map printed_method o) [])
    by None = IsPlain-test [] refl
    by (Some m) = name m.signature.descriptor (name m.signature.name (word (codes ".") refl (name m.class (IsPlain-test [] refl))))

site_plain : (p : Program) (t : TrackedSite) → IsPlain (site_text p t)
site_plain p t = name (name_at p t.class.0) (word (codes " ") refl (number t.offset (word (codes " ") refl (method_plain p t.method))))

stage_plain : (words : List ℕ) (stage : ℕ) → IsPlain words → IsPlain (words ++ decimal stage ++ codes " ")
stage_plain words stage plain = word (codes " ") refl (number stage plain)

words_plain : (v : Verdict) → IsPlain (verdict_words v)
words_plain (Safe stage) = stage_plain (codes "safe ") stage (IsPlain-test (codes "safe ") refl)
words_plain Unproved = IsPlain-test (codes "unproved ") refl
words_plain (Limit stage) = stage_plain (codes "limit ") stage (IsPlain-test (codes "limit ") refl)

-- The line of a site is one line, whatever its names are.
pub verdict_is_line : (p : Program) (t : TrackedSite) (v : Verdict) → IsLine (verdict_line p t v)
verdict_is_line p t v =
    let plain = IsPlain-append (verdict_words v) (site_text p t) (words_plain v) (site_plain p t) in
    record { content = verdict_words v ++ site_text p t; plain = plain; is = line_parts p t v }

-- So is the summary.
pub summary_is_line : (safe unproved limit : ℕ) → IsLine (summary_line safe unproved limit)
summary_is_line safe unproved limit =
    ended (number limit (word (codes " limit ") refl (number unproved (word (codes " unproved ") refl
    (number safe (word (codes " safe ") refl (number (safe + unproved + limit) (IsPlain-test (codes "sites ") refl))))))))
