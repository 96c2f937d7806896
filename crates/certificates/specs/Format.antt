-- Public contracts rest on this module.
-- Which line may follow others: the format, line by line; and the first line that is not of it.
use Rattle.std.specs.Prelude.{◌≡◌, ℕ, ◌+◌, ◌-◌, Bool, true, false, not, ◌==◌, ◌&&◌, ◌||◌, nat_le, nat_lt, List, [], ◌∷◌, ◌++◌, length, take, Option, Some, None, slice_get, Contains, if◌then◌else◌}
use Rattle.std.specs.List.{list_all}
use Rattle.std.specs.Ordering.{is_lt}
use Rattle.std.specs.Str.{IsUtf8}
use Rattle.jvm_model.specs.declared.automaton.Event.{Event}
use Rattle.jvm_model.specs.declared.number.FieldNo.{FieldNo}
use Rattle.jvm_model.specs.declared.number.MethodNo.{MethodNo}
use Rattle.jvm_model.specs.declared.site.Site.{Site}
use Rattle.jvm_model.specs.declared.site.SiteKind.{SiteKind}
use Rattle.jvm_model.specs.declared.site.SiteKind.TheVariants as kinds
use Rattle.slot_names.specs.declared.variable.Variable.TheVariants as variables
use Rattle.access_paths.specs.declared.root.Root.{Root}
use Rattle.access_paths.specs.declared.root.Root.TheVariants as roots
use Rattle.access_paths.specs.Paths.{Path}
use Rattle.stage_facts.specs.declared.plain.PlainFact.{PlainFact}
use Rattle.stage_facts.specs.declared.plain.PlainFact.TheVariants as plain
use Rattle.stage_facts.specs.Facts.{Tuple}
use Rattle.certificate_lines.specs.declared.line.Holder.{Holder}
use Rattle.certificate_lines.specs.declared.line.Holder.TheVariants as holders
use Rattle.certificate_lines.specs.declared.line.Line.{Line}
use Rattle.certificate_lines.specs.declared.line.Line.TheVariants as lines
use Rattle.certificate_lines.specs.LineOrder.{line_cmp, line_key}
use Rattle.certificate_lines.specs.LineTexts.{line_text}
use Rattle.line_guesses.specs.Fits.{Fits}
use Rattle.certificates.specs.declared.ranges.Ranges.{Ranges}
use Rattle.certificates.specs.Texts.{text}

-- ---- a line by itself

-- Methods and fields are those of the program, and no name is empty.
abbrev pub is_method : Ranges → MethodNo → Bool
is_method r m = nat_lt m.0 r.methods

abbrev pub is_field : Ranges → FieldNo → Bool
is_field r f = nat_lt f.0 r.fields

abbrev pub is_name : List ℕ → Bool
is_name name = nat_lt 0 (length name)

abbrev pub is_optional_method : Ranges → Option MethodNo → Bool
is_optional_method r None = true
is_optional_method r (Some m) = is_method r m

-- A site at the start of the program has no method and the offset 0. Others have a method.
abbrev pub is_boot : SiteKind → Bool
is_boot kinds.Boot = true
is_boot kinds.New = false
is_boot kinds.Result = false
is_boot kinds.Thrown = false

abbrev pub is_made_in : Ranges → SiteKind → Option MethodNo → (offset : ℕ) → Bool
is_made_in r kind None offset = is_boot kind && (offset == 0)
is_made_in r kind (Some m) offset = not (is_boot kind) && is_method r m

abbrev pub is_site : Ranges → Site → Bool
is_site r s = is_made_in r s.kind s.method s.offset && is_name s.class

abbrev pub is_root : Ranges → Root → Bool
is_root r (roots.Slot z) = true
is_root r (roots.Static f) = is_field r f
is_root r roots.Returned = true
is_root r roots.Thrown = true

abbrev pub is_path : Ranges → Path → Bool
is_path r x = is_root r x.root && list_all (is_field r) x.fields

-- States are those of the lines before.
abbrev pub is_tuple : Ranges → (states : ℕ) → Tuple → Bool
is_tuple r states t = nat_lt t.state states && (list_all (is_path r) t.must && list_all (is_path r) t.must_not)

abbrev pub is_fact : Ranges → (states : ℕ) → PlainFact → Bool
is_fact r states plain.NoneYet = true
is_fact r states plain.SomeYet = true
is_fact r states (plain.OfObject t) = is_tuple r states t

abbrev pub is_holder : Ranges → Holder → Bool
is_holder r (holders.Variable (variables.At m offset slot)) = is_method r m
is_holder r (holders.Variable (variables.Parameter m slot)) = is_method r m
is_holder r (holders.Field s f) = is_site r s && is_field r f
is_holder r (holders.Elements s) = is_site r s
is_holder r (holders.Static f) = is_field r f
is_holder r holders.Kept = true
is_holder r (holders.Returned m) = is_method r m
is_holder r (holders.Thrown m) = is_method r m

-- An event has one next state for each state.
abbrev pub is_event : (states : ℕ) → Event → Bool
is_event states e = is_name e.name && (is_name e.descriptor && ((length e.next == states) && list_all (λ q. nat_lt q states) e.next))

-- A depth is at most 3. Claims are of the stages 1 to 4, and edges of those from 2 on.
abbrev pub is_line : Ranges → (states : ℕ) → Line → Bool
is_line r states lines.Version = true
is_line r states (lines.Class name) = is_name name
is_line r states (lines.State name) = is_name name
is_line r states (lines.Initial q) = nat_lt q states
is_line r states (lines.Error q) = nat_lt q states
is_line r states (lines.Event e) = is_event states e
is_line r states (lines.Entry m) = is_method r m
is_line r states (lines.Depth k) = nat_le k 3
is_line r states (lines.Reached m) = is_method r m
is_line r states (lines.PointsTo h s) = is_holder r h && is_site r s
is_line r states (lines.Modifies m f) = is_method r m && is_field r f
is_line r states (lines.Claim stage s) = nat_le 1 stage && (nat_le stage 4 && is_site r s)
is_line r states (lines.PathEdge e) =
    nat_le 2 e.stage && (nat_le e.stage 4 && (is_site r e.site && (is_optional_method r e.method && (is_fact r states e.entry && is_fact r states e.fact))))
is_line r states lines.End = true

-- The name of a state is UTF-8.
abbrev pub IsText : Line → Type 0
IsText lines.Version = Unit {0}
IsText (lines.Class name) = Unit {0}
IsText (lines.State name) = IsUtf8 name
IsText (lines.Initial q) = Unit {0}
IsText (lines.Error q) = Unit {0}
IsText (lines.Event e) = Unit {0}
IsText (lines.Entry m) = Unit {0}
IsText (lines.Depth k) = Unit {0}
IsText (lines.Reached m) = Unit {0}
IsText (lines.PointsTo h s) = Unit {0}
IsText (lines.Modifies m f) = Unit {0}
IsText (lines.Claim stage s) = Unit {0}
IsText (lines.PathEdge e) = Unit {0}
IsText lines.End = Unit {0}

-- ---- a line behind others

-- The kinds are numbered from 0: state lines are of kind 2, event lines of kind 5, the depth is of kind 7, and those that ascend come behind it.
abbrev pub kind : Line → ℕ
kind x = (line_key x).kind

-- How many lines are of a kind.
abbrev pub count_of : ℕ → List Line → ℕ
count_of k [] = 0
count_of k (x ∷ xs) = (if kind x == k then 1 else 0) + count_of k xs

-- Up to the depth each kind follows the one before it. There are 2 to 32 states, and 1 to 32 events.
abbrev pub is_next : (states events last new : ℕ) → Bool
is_next states events last new =
    if new == last then ((last == 2) && nat_lt states 32) || ((last == 5) && nat_lt events 32)
    else (new == last + 1) && (not (last == 2) || nat_le 2 states)

-- Behind the depth lines ascend strictly, so their kinds do not fall, and no line stands twice.
abbrev pub follows : Option Line → (states events : ℕ) → Line → Bool
follows None states events x = kind x == 0
follows (Some last) states events x =
    if nat_lt (kind last) 7 then is_next states events (kind last) (kind x) else nat_lt 7 (kind x) && is_lt (line_cmp last x)

abbrev pub last_of : List Line → Option Line
last_of all = slice_get all (length all - 1)

-- The stage and the site of an edge are claimed before it.
abbrev pub IsClaimedIn : List Line → Line → Type 0
IsClaimedIn earlier lines.Version = Unit {0}
IsClaimedIn earlier (lines.Class name) = Unit {0}
IsClaimedIn earlier (lines.State name) = Unit {0}
IsClaimedIn earlier (lines.Initial q) = Unit {0}
IsClaimedIn earlier (lines.Error q) = Unit {0}
IsClaimedIn earlier (lines.Event e) = Unit {0}
IsClaimedIn earlier (lines.Entry m) = Unit {0}
IsClaimedIn earlier (lines.Depth k) = Unit {0}
IsClaimedIn earlier (lines.Reached m) = Unit {0}
IsClaimedIn earlier (lines.PointsTo h s) = Unit {0}
IsClaimedIn earlier (lines.Modifies m f) = Unit {0}
IsClaimedIn earlier (lines.Claim stage s) = Unit {0}
IsClaimedIn earlier (lines.PathEdge e) = Contains earlier (lines.Claim e.stage e.site)
IsClaimedIn earlier lines.End = Unit {0}

-- The line may stand behind these.
pub record IsGoodAfter (r : Ranges) (earlier : List Line) (x : Line) : Type 0 where
  pub fits : Fits x
  pub line : is_line r (count_of 2 earlier) x ≡ true
  pub named : IsText x
  pub place : follows (last_of earlier) (count_of 2 earlier) (count_of 5 earlier) x ≡ true
  pub claimed : IsClaimedIn earlier x

-- ---- certificates

-- Each line may stand behind those before it.
abbrev pub AreGood : Ranges → List Line → Type 0
AreGood r all = (k : ℕ) (x : Line) → slice_get all k ≡ Some x → IsGoodAfter r (take k all) x

abbrev pub IsEnded : List Line → Type 0
IsEnded all = last_of all ≡ Some lines.End

pub record IsCertificate (r : Ranges) (all : List Line) : Type 0 where
  pub good : AreGood r all
  pub ended : IsEnded all

-- The first line that is not of the format, by its number from 1: the bytes begin with good lines, one fewer, behind which they do not go on with
-- a line that is good there; and these are not all of a certificate.
pub record IsBadLine (r : Ranges) (bytes : List ℕ) (n : ℕ) : Type 0 where
  pub earlier : List Line
  pub rest : List ℕ
  pub good : AreGood r earlier
  pub begins : bytes ≡ text earlier ++ rest
  pub number : n ≡ length earlier + 1
  pub stops : (x : Line) (more : List ℕ) → IsGoodAfter r earlier x → rest ≡ line_text x ++ more → ⊥
  pub not_all : IsEnded earlier → rest ≡ [] → ⊥
