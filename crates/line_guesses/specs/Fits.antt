-- Public contracts rest on this module.
-- That the parts of a line fit the types in which a program holds them: numbers of 32 and of 8 bits, bytes, and sets of paths.
use Rattle.std.specs.Prelude.{◌<◌, ◌≤◌, ℕ, List, length, Option, Some, None}
use Rattle.std.specs.List.{AllByRecursion}
use Rattle.jvm_model.specs.declared.automaton.Event.{Event}
use Rattle.jvm_model.specs.declared.number.FieldNo.{FieldNo}
use Rattle.jvm_model.specs.declared.number.MethodNo.{MethodNo}
use Rattle.jvm_model.specs.declared.site.Site.{Site}
use Rattle.op_model.specs.declared.node.Spot.{Spot}
use Rattle.op_model.specs.declared.node.Spot.TheVariants as spots
use Rattle.slot_names.specs.declared.variable.Variable.TheVariants as variables
use Rattle.access_paths.specs.declared.root.Root.{Root}
use Rattle.access_paths.specs.declared.root.Root.TheVariants as roots
use Rattle.access_paths.specs.Paths.{Path}
use Rattle.access_paths.specs.Sets.{IsPathSet}
use Rattle.stage_facts.specs.declared.plain.PlainFact.{PlainFact}
use Rattle.stage_facts.specs.declared.plain.PlainFact.TheVariants as plain
use Rattle.stage_facts.specs.Facts.{Tuple}
use Rattle.certificate_lines.specs.declared.line.Holder.{Holder}
use Rattle.certificate_lines.specs.declared.line.Holder.TheVariants as holders
use Rattle.certificate_lines.specs.declared.line.ListedEdge.{ListedEdge}
use Rattle.certificate_lines.specs.declared.line.Line.{Line}
use Rattle.certificate_lines.specs.declared.line.Line.TheVariants as lines

-- ---- names and sites

abbrev pub AreBytes : List ℕ → Type 0
AreBytes name = AllByRecursion (λ b. b < 256) name

abbrev pub FitsMethod : Option MethodNo → Type 0
FitsMethod None = Unit {0}
FitsMethod (Some m) = m.0 < 4294967296

pub record FitsSite (s : Site) : Type 0 where
  pub method : FitsMethod s.method
  pub offset : s.offset < 4294967296
  pub class : AreBytes s.class

-- ---- facts

abbrev pub FitsRoot : Root → Type 0
FitsRoot (roots.Slot z) = z < 4294967296
FitsRoot (roots.Static f) = f.0 < 4294967296
FitsRoot roots.Returned = Unit {0}
FitsRoot roots.Thrown = Unit {0}

abbrev pub FitsField : FieldNo → Type 0
FitsField f = f.0 < 4294967296

pub record FitsPath (x : Path) : Type 0 where
  pub root : FitsRoot x.root
  pub fields : AllByRecursion FitsField x.fields
  pub few : length x.fields ≤ 3

pub record FitsSet (set : List Path) : Type 0 where
  pub each : AllByRecursion FitsPath set
  pub ordered : IsPathSet set

pub record FitsTuple (t : Tuple) : Type 0 where
  pub state : t.state < 256
  pub must : FitsSet t.must
  pub must_not : FitsSet t.must_not

abbrev pub FitsFact : PlainFact → Type 0
FitsFact plain.NoneYet = Unit {0}
FitsFact plain.SomeYet = Unit {0}
FitsFact (plain.OfObject t) = FitsTuple t

abbrev pub FitsSpot : Spot → Type 0
FitsSpot (spots.Node offset) = offset < 4294967296
FitsSpot spots.Returned = Unit {0}
FitsSpot spots.Thrown = Unit {0}

pub record FitsEdge (e : ListedEdge) : Type 0 where
  pub stage : e.stage < 256
  pub site : FitsSite e.site
  pub method : FitsMethod e.method
  pub entry : FitsFact e.entry
  pub spot : FitsSpot e.spot
  pub fact : FitsFact e.fact

-- ---- lines

abbrev pub FitsHolder : Holder → Type 0
FitsHolder (holders.Variable (variables.At m offset slot)) = (m.0 < 4294967296) × ((offset < 4294967296) × (slot < 4294967296))
FitsHolder (holders.Variable (variables.Parameter m slot)) = (m.0 < 4294967296) × (slot < 4294967296)
FitsHolder (holders.Field s f) = FitsSite s × (f.0 < 4294967296)
FitsHolder (holders.Elements s) = FitsSite s
FitsHolder (holders.Static f) = f.0 < 4294967296
FitsHolder holders.Kept = Unit {0}
FitsHolder (holders.Returned m) = m.0 < 4294967296
FitsHolder (holders.Thrown m) = m.0 < 4294967296

pub record FitsEvent (e : Event) : Type 0 where
  pub name : AreBytes e.name
  pub descriptor : AreBytes e.descriptor
  pub next : AreBytes e.next

abbrev pub Fits : Line → Type 0
Fits lines.Version = Unit {0}
Fits (lines.Class name) = AreBytes name
Fits (lines.State name) = AreBytes name
Fits (lines.Initial q) = q < 256
Fits (lines.Error q) = q < 256
Fits (lines.Event e) = FitsEvent e
Fits (lines.Entry m) = m.0 < 4294967296
Fits (lines.Depth k) = k < 256
Fits (lines.Reached m) = m.0 < 4294967296
Fits (lines.PointsTo h s) = FitsHolder h × FitsSite s
Fits (lines.Modifies m f) = (m.0 < 4294967296) × (f.0 < 4294967296)
Fits (lines.Claim stage s) = (stage < 256) × FitsSite s
Fits (lines.PathEdge e) = FitsEdge e
Fits lines.End = Unit {0}
