-- Public contracts rest on this module.
-- A line as text, which ends with a newline. A space stands between two words.
use Rattle.std.specs.Prelude.{codes, ℕ, List, [], ◌∷◌, ◌++◌}
use Rattle.std.specs.Fmt.{decimal}
use Rattle.std.specs.List.{flat_map}
use Rattle.jvm_model.specs.declared.automaton.Event.{Event}
use Rattle.slot_names.specs.declared.variable.Variable.TheVariants as variables
use Rattle.points_to_rules.specs.Facts as facts
use Rattle.site_report.specs.Printed.{printed}
use Rattle.stage_edges.specs.Rules.{Edge, edge}
use Rattle.stage_facts.specs.Plain.{fact_of}
use Rattle.edge_lines.specs.EdgeLines.{edge_line, site_words}
use Rattle.certificate_lines.specs.declared.line.Holder.{Holder}
use Rattle.certificate_lines.specs.declared.line.Holder.TheVariants as holders
use Rattle.certificate_lines.specs.declared.line.ListedEdge.{ListedEdge}
use Rattle.certificate_lines.specs.declared.line.Line.{Line}
use Rattle.certificate_lines.specs.declared.line.Line.TheVariants as lines

-- ---- what the values of a line stand for

-- The holder, as the analysis speaks of it.
abbrev pub holder_of : Holder → facts.Holder
holder_of (holders.Variable v) = facts.variable v
holder_of (holders.Field s f) = facts.field_of s f
holder_of (holders.Elements s) = facts.elements_of s
holder_of (holders.Static f) = facts.static_field f
holder_of holders.Kept = facts.kept_objects
holder_of (holders.Returned m) = facts.returned_by m
holder_of (holders.Thrown m) = facts.thrown_by m

-- The edge, as the rules speak of it.
abbrev pub edge_of : ListedEdge → Edge
edge_of e = edge e.method (fact_of e.entry) e.spot (fact_of e.fact)

-- ---- words

-- A letter for what holds, and the numbers and the site by which it is known.
abbrev pub holder_words : facts.Holder → List ℕ
holder_words (facts.variable (variables.At m offset slot)) = codes "v " ++ decimal m.0 ++ codes " " ++ decimal offset ++ codes " " ++ decimal slot
holder_words (facts.variable (variables.Parameter m slot)) = codes "p " ++ decimal m.0 ++ codes " " ++ decimal slot
holder_words (facts.field_of s f) = codes "f " ++ site_words s ++ codes " " ++ decimal f.0
holder_words (facts.elements_of s) = codes "a " ++ site_words s
holder_words (facts.static_field f) = codes "s " ++ decimal f.0
holder_words facts.kept_objects = codes "k"
holder_words (facts.returned_by m) = codes "r " ++ decimal m.0
holder_words (facts.thrown_by m) = codes "x " ++ decimal m.0

-- The next state of a state, behind a space.
abbrev pub next_word : ℕ → List ℕ
next_word q = codes " " ++ decimal q

-- The name and the descriptor of the method that is called, and for each state in order the next one.
abbrev pub event_words : Event → List ℕ
event_words e = printed e.name ++ codes " " ++ printed e.descriptor ++ flat_map next_word e.next

-- ---- lines

abbrev pub line_text : Line → List ℕ
line_text lines.Version = codes "typestate-certificate 1" ++ 10 ∷ []
line_text (lines.Class name) = codes "class " ++ printed name ++ 10 ∷ []
line_text (lines.State name) = codes "state " ++ printed name ++ 10 ∷ []
line_text (lines.Initial q) = codes "initial " ++ decimal q ++ 10 ∷ []
line_text (lines.Error q) = codes "error " ++ decimal q ++ 10 ∷ []
line_text (lines.Event e) = codes "event " ++ event_words e ++ 10 ∷ []
line_text (lines.Entry m) = codes "entry " ++ decimal m.0 ++ 10 ∷ []
line_text (lines.Depth k) = codes "depth " ++ decimal k ++ 10 ∷ []
line_text (lines.Reached m) = codes "reached " ++ decimal m.0 ++ 10 ∷ []
line_text (lines.PointsTo h s) = codes "pts " ++ holder_words (holder_of h) ++ codes " " ++ site_words s ++ 10 ∷ []
line_text (lines.Modifies m f) = codes "mods " ++ decimal m.0 ++ codes " " ++ decimal f.0 ++ 10 ∷ []
line_text (lines.Claim stage s) = codes "claim " ++ decimal stage ++ codes " " ++ site_words s ++ 10 ∷ []
line_text (lines.PathEdge e) = edge_line e.stage e.site (edge_of e)
line_text lines.End = codes "end" ++ 10 ∷ []
