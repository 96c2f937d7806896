-- Each line of a certificate is one line, and none says that a site is safe.
use Rattle.std.proofs.Common.{codes, ◌≡◌, ℕ, Bool, false, nat_eq, List, [], ◌∷◌, ◌++◌, decimal, map, refl}
use Rattle.std.specs.List.{AllByRecursion, flat_map}
use Rattle.std.specs.Prelude.{slice_index_or}
use Rattle.jvm_model.specs.declared.automaton.Event.{Event}
use Rattle.slot_names.specs.declared.variable.Variable.TheVariants as variables
use Rattle.points_to_rules.specs.Facts as facts
use Rattle.site_report.specs.Printed.{printed}
use Rattle.site_report.proofs.PlainLines.{IsLine, IsPlain, IsPlain-append, IsPlain-test, ended, name, number, word}
use Rattle.edge_lines.specs.EdgeLines.{site_words}
use Rattle.edge_lines.proofs.PlainEdges.{each_plain, edge_is_line, site_plain}
use Rattle.certificate_lines.specs.declared.line.Line.{Line}
use Rattle.certificate_lines.specs.declared.line.Line.TheVariants as lines
use Rattle.certificate_lines.specs.LineTexts.{edge_of, event_words, holder_of, holder_words, line_text, next_word}

nothing : IsPlain []
nothing = IsPlain-test [] refl

-- ---- words

holder_plain : (h : facts.Holder) → IsPlain (holder_words h)
holder_plain (facts.variable (variables.At m offset slot)) =
    number slot (word (codes " ") refl (number offset (word (codes " ") refl (number m.0 (IsPlain-test (codes "v ") refl)))))
holder_plain (facts.variable (variables.Parameter m slot)) = number slot (word (codes " ") refl (number m.0 (IsPlain-test (codes "p ") refl)))
holder_plain (facts.field_of s f) =
    number f.0 (word (codes " ") refl (IsPlain-append (codes "f ") (site_words s) (IsPlain-test (codes "f ") refl) (site_plain s)))
holder_plain (facts.elements_of s) = IsPlain-append (codes "a ") (site_words s) (IsPlain-test (codes "a ") refl) (site_plain s)
holder_plain (facts.static_field f) = number f.0 (IsPlain-test (codes "s ") refl)
holder_plain facts.kept_objects = IsPlain-test (codes "k") refl
holder_plain (facts.returned_by m) = number m.0 (IsPlain-test (codes "r ") refl)
holder_plain (facts.thrown_by m) = number m.0 (IsPlain-test (codes "x ") refl)

next_plain : (q : ℕ) → IsPlain (next_word q)
next_plain q = number q (IsPlain-test (codes " ") refl)

event_plain : (e : Event) → IsPlain (event_words e)
event_plain e =
    let called : IsPlain (printed e.name ++ codes " " ++ printed e.descriptor) = name e.descriptor (word (codes " ") refl (name e.name nothing)) in
    IsPlain-append (printed e.name ++ codes " " ++ printed e.descriptor) (flat_map next_word e.next) called (each_plain next_word next_plain e.next)

-- ---- lines

pub line_is_line : (x : Line) → IsLine (line_text x)
line_is_line lines.Version = ended (IsPlain-test (codes "typestate-certificate 1") refl)
line_is_line (lines.Class n) = ended (name n (IsPlain-test (codes "class ") refl))
line_is_line (lines.State n) = ended (name n (IsPlain-test (codes "state ") refl))
line_is_line (lines.Initial q) = ended (number q (IsPlain-test (codes "initial ") refl))
line_is_line (lines.Error q) = ended (number q (IsPlain-test (codes "error ") refl))
line_is_line (lines.Event e) = ended (IsPlain-append (codes "event ") (event_words e) (IsPlain-test (codes "event ") refl) (event_plain e))
line_is_line (lines.Entry m) = ended (number m.0 (IsPlain-test (codes "entry ") refl))
line_is_line (lines.Depth k) = ended (number k (IsPlain-test (codes "depth ") refl))
line_is_line (lines.Reached m) = ended (number m.0 (IsPlain-test (codes "reached ") refl))
line_is_line (lines.PointsTo h s) =
    let holder = IsPlain-append (codes "pts ") (holder_words (holder_of h)) (IsPlain-test (codes "pts ") refl) (holder_plain (holder_of h)) in
    ended (IsPlain-append (codes "pts " ++ holder_words (holder_of h) ++ codes " ") (site_words s) (word (codes " ") refl holder) (site_plain s))
line_is_line (lines.Modifies m f) = ended (number f.0 (word (codes " ") refl (number m.0 (IsPlain-test (codes "mods ") refl))))
line_is_line (lines.Claim stage s) =
    let front = word (codes " ") refl (number stage (IsPlain-test (codes "claim ") refl)) in
    ended (IsPlain-append (codes "claim " ++ decimal stage ++ codes " ") (site_words s) front (site_plain s))
line_is_line (lines.PathEdge e) = edge_is_line e.stage e.site (edge_of e)
line_is_line lines.End = ended (IsPlain-test (codes "end") refl)

pub lines_are_lines : (all : List Line) → AllByRecursion IsLine (map line_text all)
lines_are_lines [] = tt
lines_are_lines (x ∷ all) = (line_is_line x, lines_are_lines all)

-- the second letter is not that of the word that says that a site is safe
abbrev second_is_a : List ℕ → Bool
second_is_a line = nat_eq (slice_index_or line 1 0) 97

pub no_second_a : (x : Line) → second_is_a (line_text x) ≡ false
no_second_a lines.Version = refl
no_second_a (lines.Class n) = refl
no_second_a (lines.State n) = refl
no_second_a (lines.Initial q) = refl
no_second_a (lines.Error q) = refl
no_second_a (lines.Event e) = refl
no_second_a (lines.Entry m) = refl
no_second_a (lines.Depth k) = refl
no_second_a (lines.Reached m) = refl
no_second_a (lines.PointsTo h s) = refl
no_second_a (lines.Modifies m f) = refl
no_second_a (lines.Claim stage s) = refl
no_second_a (lines.PathEdge e) = refl
no_second_a lines.End = refl
