-- Public contracts rest on this module.
-- The line that stands at the front of bytes, and what comes after it, as a guess: something for any bytes, and right where they begin with a line.
-- Each part goes by the bytes that tell lines apart, and passes over the others unseen.
use Rattle.std.specs.Prelude.{ℕ, suc, zero, ◌+◌, ◌-◌, ◌*◌, ◌%◌, Bool, ◌==◌, ◌&&◌, nat_lt, nat_le, List, [], ◌∷◌, ◌++◌, length, take, drop, Option, Some, None, slice_index, if◌then◌else◌}
use Rattle.jvm_model.specs.declared.automaton.Event.{Event}
use Rattle.jvm_model.specs.declared.number.FieldNo.{FieldNo}
use Rattle.jvm_model.specs.declared.number.MethodNo.{MethodNo}
use Rattle.jvm_model.specs.declared.site.Site.{Site}
use Rattle.jvm_model.specs.declared.site.SiteKind.{SiteKind}
use Rattle.jvm_model.specs.declared.site.SiteKind.TheVariants as kinds
use Rattle.op_model.specs.declared.node.Spot.{Spot}
use Rattle.op_model.specs.declared.node.Spot.TheVariants as spots
use Rattle.slot_names.specs.declared.variable.Variable.TheVariants as variables
use Rattle.access_paths.specs.declared.fields.Fields.{Fields}
use Rattle.access_paths.specs.declared.fields.Fields.TheVariants.{Zero, One, Two, Three}
use Rattle.access_paths.specs.declared.root.Root.{Root}
use Rattle.access_paths.specs.declared.root.Root.TheVariants as roots
use Rattle.access_paths.specs.Followed.{listed}
use Rattle.access_paths.specs.Paths.{Path, with_path}
use Rattle.stage_facts.specs.declared.plain.PlainFact.{PlainFact}
use Rattle.stage_facts.specs.declared.plain.PlainFact.TheVariants as plain
use Rattle.certificate_lines.specs.declared.line.Holder.{Holder}
use Rattle.certificate_lines.specs.declared.line.Holder.TheVariants as holders
use Rattle.certificate_lines.specs.declared.line.ListedEdge.{ListedEdge}
use Rattle.certificate_lines.specs.declared.line.Line.{Line}
use Rattle.certificate_lines.specs.declared.line.Line.TheVariants as lines

abbrev pub first_byte : List ℕ → ℕ
first_byte bytes = slice_index bytes 0

-- ---- numbers

abbrev pub is_digit : ℕ → Bool
is_digit b = nat_le 48 b && nat_le b 57

-- How many digits stand at the front.
unfoldable pub digit_count : List ℕ → ℕ
digit_count [] = 0
digit_count (b ∷ bs) = if is_digit b then suc (digit_count bs) else 0

-- The number that digits make behind those of a number.
abbrev pub read_on : ℕ → List ℕ → ℕ
read_on n [] = n
read_on n (c ∷ cs) = read_on (10 * n + (c - 48)) cs

abbrev pub within : ℕ → ℕ → ℕ
within limit n = if nat_lt n limit then n else 0

unfoldable pub number_at : List ℕ → ℕ × List ℕ
number_at bytes = let k = digit_count bytes in if nat_le k 10 then (within 4294967296 (read_on 0 (take k bytes)), drop k bytes) else (0, bytes)

unfoldable pub small_at : List ℕ → ℕ × List ℕ
small_at bytes = let n = number_at bytes in (within 256 n.0, n.1)

-- ---- names

-- The value of a hexadecimal digit in lower case.
abbrev pub hex_value : ℕ → ℕ
hex_value b = if nat_le b 57 then b - 48 else b - 87

-- A byte of a name: as it is, or behind \x.
unfoldable pub byte_at : List ℕ → ℕ × List ℕ
byte_at bytes =
    if first_byte bytes == 92 then ((16 * hex_value (first_byte (drop 2 bytes)) + hex_value (first_byte (drop 3 bytes))) % 256, drop 4 bytes)
    else (within 256 (first_byte bytes), drop 1 bytes)

-- A name goes on up to a space or a newline, for at most so many bytes.
unfoldable pub name_on : ℕ → List ℕ → List ℕ → List ℕ × List ℕ
name_on zero name bytes = (name, bytes)
name_on (suc k) name bytes =
    if nat_le (first_byte bytes) 32 then (name, bytes) else (let b = byte_at bytes in name_on k (name ++ b.0 ∷ []) b.1)

unfoldable pub name_at : List ℕ → List ℕ × List ℕ
name_at bytes = name_on (length bytes) [] bytes

-- ---- sites

unfoldable pub kind_at : List ℕ → SiteKind
kind_at bytes =
    if first_byte bytes == 98 then kinds.Boot
    else (if first_byte bytes == 110 then kinds.New else (if first_byte bytes == 114 then kinds.Result else kinds.Thrown))

unfoldable pub method_at : List ℕ → Option MethodNo × List ℕ
method_at bytes =
    if first_byte bytes == 98 then (None, drop 4 bytes) else (let n = number_at bytes in (Some (record { 0 = n.0 }), n.1))

unfoldable pub site_at : List ℕ → Site × List ℕ
site_at bytes =
    let method = method_at (drop 2 bytes) in
    let offset = number_at (drop 1 method.1) in
    let class = name_at (drop 1 offset.1) in
    (record { kind = kind_at bytes; method = method.0; offset = offset.0; class = class.0 }, class.1)

-- ---- facts

unfoldable pub root_at : List ℕ → Root × List ℕ
root_at bytes =
    if first_byte bytes == 118 then (let n = number_at (drop 1 bytes) in (roots.Slot n.0, n.1))
    else (if first_byte bytes == 115 then (let n = number_at (drop 1 bytes) in (roots.Static (record { 0 = n.0 }), n.1))
    else (if first_byte bytes == 114 then (roots.Returned, drop 3 bytes) else (roots.Thrown, drop 3 bytes)))

unfoldable pub field_at : List ℕ → FieldNo × List ℕ
field_at bytes = let n = number_at (drop 1 bytes) in (record { 0 = n.0 }, n.1)

-- At most three fields, each behind a full stop.
unfoldable pub second_at : FieldNo → List ℕ → Fields × List ℕ
second_at f bytes =
    if first_byte bytes == 46
    then (let g = field_at bytes in if first_byte g.1 == 46 then (let h = field_at g.1 in (Three f g.0 h.0, h.1)) else (Two f g.0, g.1))
    else (One f, bytes)

unfoldable pub fields_at : List ℕ → Fields × List ℕ
fields_at bytes = if first_byte bytes == 46 then (let f = field_at bytes in second_at f.0 f.1) else (Zero, bytes)

unfoldable pub path_at : List ℕ → Path × List ℕ
path_at bytes = let root = root_at bytes in let fields = fields_at root.1 in (record { root = root.0; fields = listed fields.0 }, fields.1)

-- A set gains at most so many more paths.
unfoldable pub more_at : ℕ → List Path → List ℕ → List Path × List ℕ
more_at zero set bytes = (set, bytes)
more_at (suc k) set bytes =
    if first_byte bytes == 44 then (let path = path_at (drop 1 bytes) in more_at k (take 6 (with_path path.0 set)) path.1) else (set, bytes)

unfoldable pub paths_at : List ℕ → List Path × List ℕ
paths_at bytes = if first_byte bytes == 45 then ([], drop 1 bytes) else (let path = path_at bytes in more_at 5 (path.0 ∷ []) path.1)

unfoldable pub tuple_at : List ℕ → PlainFact × List ℕ
tuple_at bytes =
    let state = small_at (drop 4 bytes) in
    let must = paths_at (drop 3 state.1) in
    let must_not = paths_at (drop 1 must.1) in (
      plain.OfObject (record {
        unique = first_byte (drop 2 bytes) == 49;
        state = state.0;
        must = must.0;
        may = first_byte (drop 1 state.1) == 49;
        must_not = must_not.0;
      }),
      must_not.1,
    )

unfoldable pub fact_at : List ℕ → PlainFact × List ℕ
fact_at bytes =
    if first_byte bytes == 110 then (plain.NoneYet, drop 4 bytes)
    else (if first_byte bytes == 115 then (plain.SomeYet, drop 4 bytes) else tuple_at bytes)

unfoldable pub spot_at : List ℕ → Spot × List ℕ
spot_at bytes =
    if first_byte bytes == 114 then (spots.Returned, drop 3 bytes)
    else (if first_byte bytes == 101 then (spots.Thrown, drop 3 bytes) else (let n = number_at bytes in (spots.Node n.0, n.1)))

unfoldable pub edge_at : List ℕ → ListedEdge × List ℕ
edge_at bytes =
    let stage = small_at bytes in
    let site = site_at (drop 1 stage.1) in
    let method = method_at (drop 1 site.1) in
    let entry = fact_at (drop 1 method.1) in
    let spot = spot_at (drop 1 entry.1) in
    let fact = fact_at (drop 1 spot.1) in
    (record { stage = stage.0; site = site.0; method = method.0; entry = entry.0; spot = spot.0; fact = fact.0 }, fact.1)

-- ---- holders

unfoldable pub slot_at : List ℕ → Holder × List ℕ
slot_at bytes =
    let method = number_at bytes in
    let offset = number_at (drop 1 method.1) in
    let slot = number_at (drop 1 offset.1) in
    (holders.Variable (variables.At (record { 0 = method.0 }) offset.0 slot.0), slot.1)

unfoldable pub parameter_at : List ℕ → Holder × List ℕ
parameter_at bytes =
    let method = number_at bytes in let slot = number_at (drop 1 method.1) in (holders.Variable (variables.Parameter (record { 0 = method.0 }) slot.0), slot.1)

unfoldable pub site_field_at : List ℕ → Holder × List ℕ
site_field_at bytes = let site = site_at bytes in let field = number_at (drop 1 site.1) in (holders.Field site.0 (record { 0 = field.0 }), field.1)

-- The holders that are no variables and have no site.
unfoldable pub plain_holder_at : List ℕ → Holder × List ℕ
plain_holder_at bytes =
    if first_byte bytes == 107 then (holders.Kept, drop 1 bytes)
    else (let n = number_at (drop 2 bytes) in
    if first_byte bytes == 115 then (holders.Static (record { 0 = n.0 }), n.1)
    else (if first_byte bytes == 114 then (holders.Returned (record { 0 = n.0 }), n.1) else (holders.Thrown (record { 0 = n.0 }), n.1)))

unfoldable pub holder_at : List ℕ → Holder × List ℕ
holder_at bytes =
    if first_byte bytes == 118 then slot_at (drop 2 bytes)
    else (if first_byte bytes == 112 then parameter_at (drop 2 bytes)
    else (if first_byte bytes == 102 then site_field_at (drop 2 bytes)
    else (if first_byte bytes == 97 then (let site = site_at (drop 2 bytes) in (holders.Elements site.0, site.1)) else plain_holder_at bytes)))

-- ---- lines

-- At most so many states, each behind a space.
unfoldable pub states_on : ℕ → List ℕ → List ℕ → List ℕ × List ℕ
states_on zero states bytes = (states, bytes)
states_on (suc k) states bytes =
    if first_byte bytes == 32 then (let q = small_at (drop 1 bytes) in states_on k (states ++ q.0 ∷ []) q.1) else (states, bytes)

unfoldable pub event_at : List ℕ → Event × List ℕ
event_at bytes =
    let name = name_at bytes in
    let descriptor = name_at (drop 1 name.1) in
    let next = states_on (length descriptor.1) [] descriptor.1 in
    (record { name = name.0; descriptor = descriptor.0; next = next.0 }, next.1)

-- The line without its newline, of those that begin with c, with e, and with other letters. The mark tells lines apart by a later letter.
unfoldable pub claim_or_class : List ℕ → Line × List ℕ
claim_or_class bytes =
    if first_byte (drop 3 bytes) == 105
    then (let stage = small_at (drop 6 bytes) in let site = site_at (drop 1 stage.1) in (lines.Claim stage.0 site.0, site.1))
    else (let name = name_at (drop 6 bytes) in (lines.Class name.0, name.1))

unfoldable pub entry_or_end : List ℕ → Line × List ℕ
entry_or_end bytes =
    if first_byte (drop 2 bytes) == 116 then (let n = number_at (drop 6 bytes) in (lines.Entry (record { 0 = n.0 }), n.1)) else (lines.End, drop 3 bytes)

unfoldable pub by_second : List ℕ → Line × List ℕ
by_second bytes =
    if first_byte (drop 1 bytes) == 100 then (let edge = edge_at (drop 5 bytes) in (lines.PathEdge edge.0, edge.1))
    else (if first_byte (drop 1 bytes) == 118 then (let event = event_at (drop 6 bytes) in (lines.Event event.0, event.1))
    else (if first_byte (drop 1 bytes) == 114 then (let q = small_at (drop 6 bytes) in (lines.Error q.0, q.1)) else entry_or_end bytes))

unfoldable pub points_to_at : List ℕ → Line × List ℕ
points_to_at bytes = let holder = holder_at bytes in let site = site_at (drop 1 holder.1) in (lines.PointsTo holder.0 site.0, site.1)

unfoldable pub modifies_at : List ℕ → Line × List ℕ
modifies_at bytes =
    let method = number_at bytes in let field = number_at (drop 1 method.1) in (lines.Modifies (record { 0 = method.0 }) (record { 0 = field.0 }), field.1)

-- The lines of numbers alone, by their first letters.
unfoldable pub plain_at : List ℕ → Line × List ℕ
plain_at bytes =
    if first_byte bytes == 116 then (lines.Version, drop 23 bytes)
    else (if first_byte bytes == 105 then (let q = small_at (drop 8 bytes) in (lines.Initial q.0, q.1))
    else (if first_byte bytes == 100 then (let k = small_at (drop 6 bytes) in (lines.Depth k.0, k.1))
    else (if first_byte bytes == 114 then (let n = number_at (drop 8 bytes) in (lines.Reached (record { 0 = n.0 }), n.1)) else modifies_at (drop 5 bytes))))

unfoldable pub content_at : List ℕ → Line × List ℕ
content_at bytes =
    if first_byte bytes == 101 then by_second bytes
    else (if first_byte bytes == 99 then claim_or_class bytes
    else (if first_byte bytes == 112 then points_to_at (drop 4 bytes)
    else (if first_byte bytes == 115 then (let name = name_at (drop 6 bytes) in (lines.State name.0, name.1)) else plain_at bytes)))

-- The line, and what comes after its newline.
unfoldable pub line_at : List ℕ → Line × List ℕ
line_at bytes = let content = content_at bytes in (content.0, drop 1 content.1)
