-- Public contracts rest on this module.
-- The order of lines: by their kinds, and within a kind by the words from left to right. Numbers stand by their values, and names by their bytes.
use Rattle.std.specs.Prelude.{ℕ, List, [], Option, Some, None}
use Rattle.std.specs.declared.cmp.Ordering.{Ordering}
use Rattle.std.specs.Cmp.Lexicographic.{slice_cmp}
use Rattle.std.specs.Option.{option_cmp}
use Rattle.std.specs.Ordering.{bool_cmp, nat_cmp, ordering_then}
use Rattle.jvm_model.specs.declared.site.Site.{Site}
use Rattle.op_model.specs.declared.node.Spot.{Spot}
use Rattle.op_model.specs.declared.node.Spot.TheVariants as spots
use Rattle.slot_names.specs.declared.variable.Variable.TheVariants as variables
use Rattle.points_to_rules.specs.Facts as facts
use Rattle.site_report.specs.Sites.{kind_rank, method_rank}
use Rattle.access_paths.specs.Orders.{path_order}
use Rattle.access_paths.specs.Paths.{Path}
use Rattle.stage_facts.specs.Facts.{SiteFact, Tuple, none_yet, some_yet, of_object}
use Rattle.stage_edges.specs.Rules.{Edge}
use Rattle.certificate_lines.specs.LineTexts.{edge_of, holder_of}
use Rattle.certificate_lines.specs.declared.line.Line.{Line}
use Rattle.certificate_lines.specs.declared.line.Line.TheVariants as lines

-- ---- names and sites

abbrev pub bytes_cmp : List ℕ → List ℕ → Ordering
bytes_cmp one other = slice_cmp nat_cmp one other

-- By what allocates, then by the method, the offset and the class. The start of the program comes before its methods.
abbrev pub site_cmp : Site → Site → Ordering
site_cmp s t = ordering_then (nat_cmp (kind_rank s.kind) (kind_rank t.kind))
    (ordering_then (nat_cmp (method_rank s.method) (method_rank t.method)) (ordering_then (nat_cmp s.offset t.offset) (bytes_cmp s.class t.class)))

-- ---- facts

-- Sets path by path, and a set before those that go on behind it.
abbrev pub paths_cmp : List Path → List Path → Ordering
paths_cmp one other = slice_cmp path_order one other

abbrev pub tuple_cmp : Tuple → Tuple → Ordering
tuple_cmp t u = ordering_then (bool_cmp t.unique u.unique) (ordering_then (nat_cmp t.state u.state)
    (ordering_then (bool_cmp t.may u.may) (ordering_then (paths_cmp t.must u.must) (paths_cmp t.must_not u.must_not))))

-- No object, then some object, then what is known of one.
abbrev pub fact_rank : SiteFact → ℕ
fact_rank none_yet = 0
fact_rank some_yet = 1
fact_rank (of_object t) = 2

abbrev pub tuple_in : SiteFact → Option Tuple
tuple_in none_yet = None
tuple_in some_yet = None
tuple_in (of_object t) = Some t

abbrev pub fact_cmp : SiteFact → SiteFact → Ordering
fact_cmp f g = ordering_then (nat_cmp (fact_rank f) (fact_rank g)) (option_cmp tuple_cmp (tuple_in f) (tuple_in g))

-- ---- edges

-- Nodes by their offsets, then the return, then the throw.
abbrev pub spot_rank : Spot → ℕ
spot_rank (spots.Node offset) = 0
spot_rank spots.Returned = 1
spot_rank spots.Thrown = 2

abbrev pub spot_offset : Spot → ℕ
spot_offset (spots.Node offset) = offset
spot_offset spots.Returned = 0
spot_offset spots.Thrown = 0

abbrev pub spot_cmp : Spot → Spot → Ordering
spot_cmp s t = ordering_then (nat_cmp (spot_rank s) (spot_rank t)) (nat_cmp (spot_offset s) (spot_offset t))

abbrev pub edge_cmp : Edge → Edge → Ordering
edge_cmp e f = ordering_then (nat_cmp (method_rank e.method) (method_rank f.method))
    (ordering_then (fact_cmp e.entry f.entry) (ordering_then (spot_cmp e.spot f.spot) (fact_cmp e.fact f.fact)))

-- ---- holders

-- What a holder is ordered by: its kind, the site and the numbers in its words. Where there are fewer, a number is 0.
pub record HolderKey : Type 0 where
  pub kind : ℕ
  pub site : Option Site
  pub first : ℕ
  pub second : ℕ
  pub third : ℕ

abbrev pub holder_key : facts.Holder → HolderKey
holder_key (facts.variable (variables.At m offset slot)) = record { kind = 0; site = None; first = m.0; second = offset; third = slot }
holder_key (facts.variable (variables.Parameter m slot)) = record { kind = 1; site = None; first = m.0; second = slot; third = 0 }
holder_key (facts.field_of s f) = record { kind = 2; site = Some s; first = f.0; second = 0; third = 0 }
holder_key (facts.elements_of s) = record { kind = 3; site = Some s; first = 0; second = 0; third = 0 }
holder_key (facts.static_field f) = record { kind = 4; site = None; first = f.0; second = 0; third = 0 }
holder_key facts.kept_objects = record { kind = 5; site = None; first = 0; second = 0; third = 0 }
holder_key (facts.returned_by m) = record { kind = 6; site = None; first = m.0; second = 0; third = 0 }
holder_key (facts.thrown_by m) = record { kind = 7; site = None; first = m.0; second = 0; third = 0 }

abbrev pub holder_key_cmp : HolderKey → HolderKey → Ordering
holder_key_cmp h k = ordering_then (nat_cmp h.kind k.kind) (ordering_then (option_cmp site_cmp h.site k.site)
    (ordering_then (nat_cmp h.first k.first) (ordering_then (nat_cmp h.second k.second) (nat_cmp h.third k.third))))

abbrev pub holder_cmp : facts.Holder → facts.Holder → Ordering
holder_cmp h k = holder_key_cmp (holder_key h) (holder_key k)

-- ---- lines

-- What a line is ordered by: its kind and its words, as far as it has such. A claim and an edge have the stage as their first number.
pub record LineKey : Type 0 where
  pub kind : ℕ
  pub first : ℕ
  pub second : ℕ
  pub holder : Option facts.Holder
  pub site : Option Site
  pub edge : Option Edge
  pub name : List ℕ
  pub descriptor : List ℕ
  pub next : List ℕ

-- The keys of lines with numbers alone, with names, and with sites.
abbrev pub of_numbers : (kind first second : ℕ) → LineKey
of_numbers kind first second =
    record { kind = kind; first = first; second = second; holder = None; site = None; edge = None; name = []; descriptor = []; next = [] }

abbrev pub of_names : (kind : ℕ) → (name descriptor next : List ℕ) → LineKey
of_names kind name descriptor next =
    record { kind = kind; first = 0; second = 0; holder = None; site = None; edge = None; name = name; descriptor = descriptor; next = next }

abbrev pub of_site : (kind first : ℕ) → Option facts.Holder → Site → Option Edge → LineKey
of_site kind first holder s e =
    record { kind = kind; first = first; second = 0; holder = holder; site = Some s; edge = e; name = []; descriptor = []; next = [] }

abbrev pub line_key : Line → LineKey
line_key lines.Version = of_numbers 0 0 0
line_key (lines.Class name) = of_names 1 name [] []
line_key (lines.State name) = of_names 2 name [] []
line_key (lines.Initial q) = of_numbers 3 q 0
line_key (lines.Error q) = of_numbers 4 q 0
line_key (lines.Event e) = of_names 5 e.name e.descriptor e.next
line_key (lines.Entry m) = of_numbers 6 m.0 0
line_key (lines.Depth k) = of_numbers 7 k 0
line_key (lines.Reached m) = of_numbers 8 m.0 0
line_key (lines.PointsTo h s) = of_site 9 0 (Some (holder_of h)) s None
line_key (lines.Modifies m f) = of_numbers 10 m.0 f.0
line_key (lines.Claim stage s) = of_site 11 stage None s None
line_key (lines.PathEdge e) = of_site 12 e.stage None e.site (Some (edge_of e))
line_key lines.End = of_numbers 13 0 0

abbrev pub line_key_cmp : LineKey → LineKey → Ordering
line_key_cmp x y = ordering_then (nat_cmp x.kind y.kind) (ordering_then (nat_cmp x.first y.first) (ordering_then (nat_cmp x.second y.second)
    (ordering_then (option_cmp holder_cmp x.holder y.holder) (ordering_then (option_cmp site_cmp x.site y.site)
    (ordering_then (option_cmp edge_cmp x.edge y.edge) (ordering_then (bytes_cmp x.name y.name)
    (ordering_then (bytes_cmp x.descriptor y.descriptor) (bytes_cmp x.next y.next))))))))

abbrev pub line_cmp : Line → Line → Ordering
line_cmp x y = line_key_cmp (line_key x) (line_key y)
