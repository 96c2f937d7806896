-- The line of a path edge is one line: no word of it has a newline.
use Rattle.std.proofs.Common.{codes, ℕ, Bool, true, false, List, [], ◌∷◌, ◌++◌, decimal, Option, Some, None, refl}
use Rattle.std.specs.List.{flat_map}
use Rattle.jvm_model.specs.declared.number.MethodNo.{MethodNo}
use Rattle.jvm_model.specs.declared.site.Site.{Site}
use Rattle.jvm_model.specs.declared.site.SiteKind.{SiteKind}
use Rattle.jvm_model.specs.declared.site.SiteKind.TheVariants as kinds
use Rattle.op_model.specs.declared.node.Spot.{Spot}
use Rattle.op_model.specs.declared.node.Spot.TheVariants as spots
use Rattle.site_report.proofs.PlainLines.{IsLine, IsPlain, IsPlain-append, IsPlain-test, ended, name, number, word}
use Rattle.access_paths.specs.declared.root.Root.{Root}
use Rattle.access_paths.specs.declared.root.Root.TheVariants as roots
use Rattle.access_paths.specs.Paths.{Path}
use Rattle.stage_facts.specs.Facts.{SiteFact, Tuple, none_yet, some_yet, of_object}
use Rattle.stage_edges.specs.Rules.{Edge}
use Rattle.edge_lines.specs.EdgeLines.{edge_line, edge_words, fact_words, field_text, flag_word, kind_word, method_word, path_text, paths_text, root_text, site_words, spot_word, tuple_words}

nothing : IsPlain []
nothing = IsPlain-test [] refl

pub each_plain : {X : Type 0} (text : X → List ℕ) → ((x : X) → IsPlain (text x)) → (xs : List X) → IsPlain (flat_map text xs)
each_plain text plain [] = nothing
each_plain text plain (x ∷ xs) = IsPlain-append (text x) (flat_map text xs) (plain x) (each_plain text plain xs)

-- ---- methods, spots and sites

method_plain : (m : Option MethodNo) → IsPlain (method_word m)
method_plain None = IsPlain-test (codes "boot") refl
method_plain (Some m) = number m.0 nothing

spot_plain : (s : Spot) → IsPlain (spot_word s)
spot_plain (spots.Node offset) = number offset nothing
spot_plain spots.Returned = IsPlain-test (codes "ret") refl
spot_plain spots.Thrown = IsPlain-test (codes "exc") refl

kind_plain : (k : SiteKind) → IsPlain (kind_word k)
kind_plain kinds.Boot = IsPlain-test (codes "b") refl
kind_plain kinds.New = IsPlain-test (codes "n") refl
kind_plain kinds.Result = IsPlain-test (codes "r") refl
kind_plain kinds.Thrown = IsPlain-test (codes "t") refl

pub site_plain : (s : Site) → IsPlain (site_words s)
site_plain s =
    let kind = word (codes " ") refl (kind_plain s.kind) in
    let method = IsPlain-append (kind_word s.kind ++ codes " ") (method_word s.method) kind (method_plain s.method) in
    name s.class (word (codes " ") refl (number s.offset (word (codes " ") refl method)))

-- ---- facts

root_plain : (r : Root) → IsPlain (root_text r)
root_plain (roots.Slot z) = number z (IsPlain-test (codes "v") refl)
root_plain (roots.Static f) = number f.0 (IsPlain-test (codes "s") refl)
root_plain roots.Returned = IsPlain-test (codes "ret") refl
root_plain roots.Thrown = IsPlain-test (codes "exc") refl

path_plain : (x : Path) → IsPlain (path_text x)
path_plain x =
    IsPlain-append (root_text x.root) (flat_map field_text x.fields) (root_plain x.root) (each_plain field_text (λ f. number f.0 (IsPlain-test (codes ".") refl)) x.fields)

paths_plain : (xs : List Path) → IsPlain (paths_text xs)
paths_plain [] = IsPlain-test (codes "-") refl
paths_plain (x ∷ rest) =
    IsPlain-append (path_text x) (flat_map (λ (y : Path). codes "," ++ path_text y) rest) (path_plain x)
    (each_plain (λ (y : Path). codes "," ++ path_text y) (λ y. IsPlain-append (codes ",") (path_text y) (IsPlain-test (codes ",") refl) (path_plain y)) rest)

flag_plain : (b : Bool) → IsPlain (flag_word b)
flag_plain false = IsPlain-test (codes "0") refl
flag_plain true = IsPlain-test (codes "1") refl

tuple_plain : (t : Tuple) → IsPlain (tuple_words t)
tuple_plain t =
    let unique = IsPlain-append (codes "t ") (flag_word t.unique) (IsPlain-test (codes "t ") refl) (flag_plain t.unique) in
    let state = number t.state (word (codes " ") refl unique) in
    let may = IsPlain-append _ (flag_word t.may) (word (codes " ") refl state) (flag_plain t.may) in
    let must = IsPlain-append _ (paths_text t.must) (word (codes " ") refl may) (paths_plain t.must) in
    IsPlain-append _ (paths_text t.must_not) (word (codes " ") refl must) (paths_plain t.must_not)

fact_plain : (f : SiteFact) → IsPlain (fact_words f)
fact_plain none_yet = IsPlain-test (codes "none") refl
fact_plain some_yet = IsPlain-test (codes "some") refl
fact_plain (of_object t) = tuple_plain t

-- ---- edges

edge_plain : (e : Edge) → IsPlain (edge_words e)
edge_plain e =
    let entry = IsPlain-append _ (fact_words e.entry) (word (codes " ") refl (method_plain e.method)) (fact_plain e.entry) in
    let spot = IsPlain-append _ (spot_word e.spot) (word (codes " ") refl entry) (spot_plain e.spot) in
    IsPlain-append _ (fact_words e.fact) (word (codes " ") refl spot) (fact_plain e.fact)

pub edge_is_line : (stage : ℕ) (s : Site) (e : Edge) → IsLine (edge_line stage s e)
edge_is_line stage s e =
    let front = word (codes " ") refl (number stage (IsPlain-test (codes "edge ") refl)) in
    let site = IsPlain-append _ (site_words s) front (site_plain s) in
    ended (IsPlain-append _ (edge_words e) (word (codes " ") refl site) (edge_plain e))
