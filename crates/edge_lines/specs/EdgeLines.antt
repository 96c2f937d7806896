-- Public contracts rest on this module.
-- A path edge as a line, which ends with a newline. A space stands between two words.
use Rattle.std.specs.Prelude.{codes, ℕ, Bool, true, false, List, [], ◌∷◌, ◌++◌, Option, Some, None}
use Rattle.std.specs.Fmt.{decimal}
use Rattle.std.specs.List.{flat_map, join_by}
use Rattle.jvm_model.specs.declared.number.FieldNo.{FieldNo}
use Rattle.jvm_model.specs.declared.number.MethodNo.{MethodNo}
use Rattle.jvm_model.specs.declared.site.Site.{Site}
use Rattle.jvm_model.specs.declared.site.SiteKind.{SiteKind}
use Rattle.jvm_model.specs.declared.site.SiteKind.TheVariants as kinds
use Rattle.op_model.specs.declared.node.Spot.{Spot}
use Rattle.op_model.specs.declared.node.Spot.TheVariants as spots
use Rattle.site_report.specs.Printed.{printed}
use Rattle.access_paths.specs.declared.root.Root.{Root}
use Rattle.access_paths.specs.declared.root.Root.TheVariants as roots
use Rattle.access_paths.specs.Paths.{Path}
use Rattle.stage_facts.specs.Facts.{SiteFact, none_yet, some_yet, of_object, Tuple}
use Rattle.stage_edges.specs.Rules.{Edge}

-- ---- methods, spots and sites

-- The number of a method; and what stands for the start of the program.
abbrev pub method_word : Option MethodNo → List ℕ
method_word None = codes "boot"
method_word (Some m) = decimal m.0

-- The offset of a node; and where the method returns or throws.
abbrev pub spot_word : Spot → List ℕ
spot_word (spots.Node offset) = decimal offset
spot_word spots.Returned = codes "ret"
spot_word spots.Thrown = codes "exc"

-- What allocates at a site.
abbrev pub kind_word : SiteKind → List ℕ
kind_word kinds.Boot = codes "b"
kind_word kinds.New = codes "n"
kind_word kinds.Result = codes "r"
kind_word kinds.Thrown = codes "t"

-- What allocates, the method, the offset in its code, and the class of the objects.
abbrev pub site_words : Site → List ℕ
site_words s = kind_word s.kind ++ codes " " ++ method_word s.method ++ codes " " ++ decimal s.offset ++ codes " " ++ printed s.class

-- ---- access paths

-- A slot and a static field by their numbers; the value that is returned, and the exception that is thrown.
abbrev pub root_text : Root → List ℕ
root_text (roots.Slot z) = codes "v" ++ decimal z
root_text (roots.Static f) = codes "s" ++ decimal f.0
root_text roots.Returned = codes "ret"
root_text roots.Thrown = codes "exc"

-- A field that is followed, by its number.
abbrev pub field_text : FieldNo → List ℕ
field_text f = codes "." ++ decimal f.0

-- The root, and the fields one after another.
abbrev pub path_text : Path → List ℕ
path_text x = root_text x.root ++ flat_map field_text x.fields

-- The paths of a set, in order.
abbrev pub paths_text : List Path → List ℕ
paths_text [] = codes "-"
paths_text (x ∷ rest) = join_by path_text (codes ",") (x ∷ rest)

-- ---- facts

abbrev pub flag_word : Bool → List ℕ
flag_word false = codes "0"
flag_word true = codes "1"

-- What is known of an object: whether it is the only one, its state, whether other cells may hold it, and the paths that refer to it and that do not.
abbrev pub tuple_words : Tuple → List ℕ
tuple_words t =
    codes "t " ++ flag_word t.unique ++ codes " " ++ decimal t.state ++ codes " " ++ flag_word t.may ++ codes " " ++ paths_text t.must ++ codes " "
    ++ paths_text t.must_not

abbrev pub fact_words : SiteFact → List ℕ
fact_words none_yet = codes "none"
fact_words some_yet = codes "some"
fact_words (of_object t) = tuple_words t

-- ---- edges

-- The method, the fact with which it is entered, the spot, and the fact there.
abbrev pub edge_words : Edge → List ℕ
edge_words e = method_word e.method ++ codes " " ++ fact_words e.entry ++ codes " " ++ spot_word e.spot ++ codes " " ++ fact_words e.fact

-- A path edge of a site, at a stage.
abbrev pub edge_line : (stage : ℕ) → Site → Edge → List ℕ
edge_line stage s e = codes "edge " ++ decimal stage ++ codes " " ++ site_words s ++ codes " " ++ edge_words e ++ 10 ∷ []
