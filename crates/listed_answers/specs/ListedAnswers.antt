-- Public contracts rest on this module.
-- The answers about a program that a list of facts of the points-to analysis gives.
use Rattle.std.specs.Prelude.{nat_eq, Bool, true, false, not, ◌&&◌, List}
use Rattle.std.specs.List.{list_any}
use Rattle.jvm_model.specs.declared.number.FieldNo.{FieldNo}
use Rattle.jvm_model.specs.declared.number.MethodNo.{MethodNo}
use Rattle.jvm_model.specs.declared.site.Site.{Site}
use Rattle.points_to_rules.specs.Facts.{Holder, variable, field_of, elements_of, static_field, kept_objects, returned_by, thrown_by, Fact, may_hold, may_run, may_call, may_write}
use Rattle.stage_transfer.specs.Settings.{Answers, same_field, same_site, same_variable}
use Rattle.listed_answers.specs.NodeVariables.{variable_of}

-- ---- tests

-- The holders are one.
abbrev pub same_holder : Holder → Holder → Bool
same_holder (variable v) (variable u) = same_variable v u
same_holder (field_of s f) (field_of r g) = same_site s r && same_field f g
same_holder (elements_of s) (elements_of r) = same_site s r
same_holder (static_field f) (static_field g) = same_field f g
same_holder kept_objects kept_objects = true
same_holder (returned_by m) (returned_by n) = nat_eq m.0 n.0
same_holder (thrown_by m) (thrown_by n) = nat_eq m.0 n.0
same_holder h g = false

-- The fact says that the holder may hold objects of the site.
abbrev pub is_hold : Holder → Site → Fact → Bool
is_hold h s (may_hold g r) = same_holder h g && same_site s r
is_hold h s (may_run m) = false
is_hold h s (may_call c m) = false
is_hold h s (may_write m f) = false

-- The fact says that the holder may hold objects of another site.
abbrev pub is_other_hold : Holder → Site → Fact → Bool
is_other_hold h s (may_hold g r) = same_holder h g && not (same_site s r)
is_other_hold h s (may_run m) = false
is_other_hold h s (may_call c m) = false
is_other_hold h s (may_write m f) = false

-- The fact says that the method may write the field.
abbrev pub is_write : MethodNo → FieldNo → Fact → Bool
is_write m f (may_hold h s) = false
is_write m f (may_run n) = false
is_write m f (may_call c n) = false
is_write m f (may_write n g) = nat_eq m.0 n.0 && same_field f g

-- ---- the answers

abbrev pub answers_by : List Fact → Answers
answers_by facts = record {
  variable_at = variable_of;
  may_hold_site = λ h s. list_any (is_hold h s) facts;
  holds_no_other = λ h s. not (list_any (is_other_hold h s) facts);
  may_write_field = λ m f. list_any (is_write m f) facts;
}
