-- Public contracts rest on this module.
-- What the transfer of facts asks for: the site and its property, which stage it is, and answers about the program.
use Rattle.std.specs.Prelude.{◌≡◌, ◌↔◌, ℕ, ◌+◌, nat_eq, nat_lt, Bool, false, ◌&&◌, List, [], ◌∷◌, filter, Contains, IsTrue, if◌then◌else◌}
use Rattle.std.specs.List.{list_any, range_with_len}
use Rattle.std.specs.Str.{bytes_eq}
use Rattle.std.specs.Option.{option_map_or}
use Rattle.jvm_model.specs.declared.automaton.Automaton.{Automaton}
use Rattle.jvm_model.specs.declared.number.FieldNo.{FieldNo}
use Rattle.jvm_model.specs.declared.number.MethodNo.{MethodNo}
use Rattle.jvm_model.specs.declared.site.Site.{Site}
use Rattle.jvm_model.specs.declared.site.SiteKind.{SiteKind}
use Rattle.jvm_model.specs.declared.site.SiteKind.TheVariants as kinds
use Rattle.op_model.specs.declared.lowered.LoweredMethod.{LoweredMethod}
use Rattle.op_model.specs.declared.node.Node.{Node}
use Rattle.slot_names.specs.declared.variable.Variable.{Variable}
use Rattle.slot_names.specs.declared.variable.Variable.TheVariants.{Parameter, At}
use Rattle.slot_names.specs.Variables.{AreReachedNodes, IsVariable}
use Rattle.points_to_rules.specs.Facts.{Holder, Fact, may_hold, may_write}

-- Answers about a program: the variable of a slot at a node; whether a holder may hold objects of a site, and of no other site; and whether a
-- method, or one that it calls or starts, may write an instance field.
pub record Answers : Type 0 where
  pub variable_at : LoweredMethod → Node → ℕ → Variable
  pub may_hold_site : Holder → Site → Bool
  pub holds_no_other : Holder → Site → Bool
  pub may_write_field : MethodNo → FieldNo → Bool

-- They are those of a set of facts of the points-to analysis.
pub record AreAnswersOf (S : Fact → Type 0) (a : Answers) : Type 0 where
  pub variables : (l : LoweredMethod) (n : Node) (z : ℕ) → AreReachedNodes l → Contains l.nodes n → IsVariable l n z (a.variable_at l n z)
  pub holds : (h : Holder) (s : Site) → IsTrue (a.may_hold_site h s) ↔ S (may_hold h s)
  pub alone : (h : Holder) (s : Site) → IsTrue (a.holds_no_other h s) ↔ ((other : Site) → S (may_hold h other) → other ≡ s)
  pub writes : (m : MethodNo) (f : FieldNo) → IsTrue (a.may_write_field m f) ↔ S (may_write m f)

-- The site whose objects the facts are about, and their property; the number of the stage; and how many fields a store may give a path.
pub record Setting : Type 0 where
  pub property : Automaton
  pub site : Site
  pub stage : ℕ
  pub depth : ℕ
  pub answers : Answers

-- ---- tests

abbrev pub among : List ℕ → ℕ → Bool
among numbers z = list_any (nat_eq z) numbers

abbrev pub same_field : FieldNo → FieldNo → Bool
same_field f g = nat_eq f.0 g.0

abbrev pub same_variable : Variable → Variable → Bool
same_variable (Parameter m y) (Parameter n z) = nat_eq m.0 n.0 && nat_eq y z
same_variable (Parameter m y) (At n offset z) = false
same_variable (At m offset y) (Parameter n z) = false
same_variable (At m offset y) (At n other z) = nat_eq m.0 n.0 && (nat_eq offset other && nat_eq y z)

abbrev pub number_of_kind : SiteKind → ℕ
number_of_kind kinds.Boot = 0
number_of_kind kinds.New = 1
number_of_kind kinds.Result = 2
number_of_kind kinds.Thrown = 3

abbrev pub method_key : Site → List ℕ
method_key s = option_map_or (λ (m : MethodNo). m.0 ∷ []) s.method []

abbrev pub same_site : Site → Site → Bool
same_site s r =
    nat_eq (number_of_kind s.kind) (number_of_kind r.kind) && (bytes_eq (method_key s) (method_key r) && (nat_eq s.offset r.offset && bytes_eq s.class r.class))

-- ---- slots of one variable

-- The slots that have the variable of this one at the node, itself among them. A slot past those of the method shares its variable with no other.
abbrev pub alike : Setting → LoweredMethod → Node → ℕ → List ℕ
alike w l n z =
    if nat_lt z (l.slots + l.stack)
    then filter (λ (y : ℕ). same_variable (w.answers.variable_at l n y) (w.answers.variable_at l n z)) (range_with_len 0 (l.slots + l.stack))
    else z ∷ []
