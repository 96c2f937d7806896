-- Public contracts rest on this module.
-- What the lines of a certificate list.
use Rattle.std.specs.Prelude.{List, [], ◌∷◌, ◌++◌, Contains}
use Rattle.jvm_model.specs.declared.number.FieldNo.{FieldNo}
use Rattle.jvm_model.specs.declared.number.MethodNo.{MethodNo}
use Rattle.jvm_model.specs.declared.site.Site.{Site}
use Rattle.points_to_rules.specs.Facts.{Fact, may_hold, may_run, may_write}
use Rattle.certificate_lines.specs.LineTexts.{holder_of}
use Rattle.certificate_lines.specs.declared.line.Holder.{Holder}
use Rattle.certificate_lines.specs.declared.line.Holder.TheVariants as holders
use Rattle.certificate_lines.specs.declared.line.Line.{Line}
use Rattle.certificate_lines.specs.declared.line.Line.TheVariants as lines

-- A line says the fact: that a method may run, that a holder may hold a site, or that a method may write a field.
pub data IsListed (all : List Line) : Fact → Type 0 where
  runs : (m : MethodNo) → Contains all (lines.Reached m) → IsListed all (may_run m)
  holds : (h : Holder) (s : Site) → Contains all (lines.PointsTo h s) → IsListed all (may_hold (holder_of h) s)
  writes : (m : MethodNo) (f : FieldNo) → Contains all (lines.Modifies m f) → IsListed all (may_write m f)

-- The site whose objects have the holder, if it is a field or the elements.
abbrev pub holder_sites : Holder → List Site
holder_sites (holders.Variable v) = []
holder_sites (holders.Field s f) = s ∷ []
holder_sites (holders.Elements s) = s ∷ []
holder_sites (holders.Static f) = []
holder_sites holders.Kept = []
holder_sites (holders.Returned m) = []
holder_sites (holders.Thrown m) = []

-- The sites that a line of a pair or of a claim names.
abbrev pub named_sites : Line → List Site
named_sites lines.Version = []
named_sites (lines.Class name) = []
named_sites (lines.State name) = []
named_sites (lines.Initial q) = []
named_sites (lines.Error q) = []
named_sites (lines.Event e) = []
named_sites (lines.Entry m) = []
named_sites (lines.Depth k) = []
named_sites (lines.Reached m) = []
named_sites (lines.PointsTo h s) = holder_sites h ++ s ∷ []
named_sites (lines.Modifies m f) = []
named_sites (lines.Claim stage s) = s ∷ []
named_sites (lines.PathEdge e) = []
named_sites lines.End = []
