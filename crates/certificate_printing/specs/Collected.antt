-- This crate's own proofs alone rest on this module.
-- The lines that each part of what is known of a program gives, and the values of lines that stand for holders and edges.
use Rattle.std.specs.Prelude.{◌≡◌, ◌<◌, ◌++◌, ℕ, List, [], ◌∷◌, map, Some, slice_get, Contains}
use Rattle.jvm_model.specs.declared.automaton.Automaton.{Automaton}
use Rattle.jvm_model.specs.declared.number.MethodNo.{MethodNo}
use Rattle.jvm_model.specs.declared.number.SiteNo.{SiteNo}
use Rattle.jvm_model.specs.declared.site.Site.{Site}
use Rattle.points_to_rules.specs.Facts as facts
use Rattle.ground.specs.declared.lists.FieldWrite.{FieldWrite}
use Rattle.ground.specs.Findings.{Findings}
use Rattle.stage_facts.specs.declared.plain.PlainFact.{PlainFact}
use Rattle.stage_facts.specs.declared.plain.PlainFact.TheVariants.{NoneYet, SomeYet, OfObject}
use Rattle.stage_facts.specs.Facts.{SiteFact, none_yet, some_yet, of_object}
use Rattle.stage_edges.specs.Rules.{Edge}
use Rattle.certificate_lines.specs.declared.line.Holder.{Holder}
use Rattle.certificate_lines.specs.declared.line.Holder.TheVariants as holders
use Rattle.certificate_lines.specs.declared.line.ListedEdge.{ListedEdge}
use Rattle.certificate_lines.specs.declared.line.Line.{Line}
use Rattle.certificate_lines.specs.declared.line.Line.TheVariants as lines

-- ---- values of lines

-- The holder of a line, for one of the analysis.
abbrev pub listed_holder : facts.Holder → Holder
listed_holder (facts.variable v) = holders.Variable v
listed_holder (facts.field_of s f) = holders.Field s f
listed_holder (facts.elements_of s) = holders.Elements s
listed_holder (facts.static_field f) = holders.Static f
listed_holder facts.kept_objects = holders.Kept
listed_holder (facts.returned_by m) = holders.Returned m
listed_holder (facts.thrown_by m) = holders.Thrown m

-- The value of a fact.
abbrev pub plain_of : SiteFact → PlainFact
plain_of none_yet = NoneYet
plain_of some_yet = SomeYet
plain_of (of_object t) = OfObject t

-- The edge of a line, for one of the site at the stage.
abbrev pub listed_edge : (stage : ℕ) → Site → Edge → ListedEdge
listed_edge stage s e = record { stage = stage; site = s; method = e.method; entry = plain_of e.entry; spot = e.spot; fact = plain_of e.fact }

-- ---- lines

-- The head of a certificate, by the automaton, the entry and the depth.
abbrev pub head_by : Automaton → MethodNo → (depth : ℕ) → List Line
head_by a entry depth =
    (lines.Version ∷ lines.Class a.class_name ∷ []) ++ (map lines.State a.states ++ ((lines.Initial a.initial ∷ lines.Error a.error ∷ [])
    ++ (map lines.Event a.events ++ (lines.Entry entry ∷ lines.Depth depth ∷ []))))

-- It tells that the method may run.
abbrev pub IsReachedLine : MethodNo → Line → Type 0
IsReachedLine m line = line ≡ lines.Reached m

-- It tells that the method may write the field.
abbrev pub IsWriteLine : FieldWrite → Line → Type 0
IsWriteLine w line = line ≡ lines.Modifies w.method w.field

-- It tells that the holder at the place may hold objects of the site of the number.
pub record IsSiteLine (g : Findings) (place : ℕ) (number : SiteNo) (line : Line) : Type 0 where
  pub holder : facts.Holder
  pub site : Site
  pub stands : slice_get g.holders place ≡ Some holder
  pub numbered : slice_get g.sites number.0 ≡ Some site
  pub is : line ≡ lines.PointsTo (listed_holder holder) site

-- It tells what the holder at the place may hold.
pub record IsHeldLine (g : Findings) (place : ℕ) (line : Line) : Type 0 where
  pub holder : facts.Holder
  pub site : Site
  pub stands : slice_get g.holders place ≡ Some holder
  pub holds : Contains g.facts (facts.may_hold holder site)
  pub is : line ≡ lines.PointsTo (listed_holder holder) site

-- It is the line of a path edge of the site at the stage.
abbrev pub IsEdgeLine : (stage : ℕ) → Site → Edge → Line → Type 0
IsEdgeLine stage s e line = line ≡ lines.PathEdge (listed_edge stage s e)

-- Some number below the limit has the relation to it.
abbrev pub OfBelow : {Y : Type 0} → (ℕ → Y → Type 0) → ℕ → Y → Type 0
OfBelow R limit y = (k : ℕ) × (k < limit) × R k y
