-- Public contracts rest on this module.
-- What a linked program shows of classes and members, and what linking has to know of classes to make one.
use Rattle.std.specs.Prelude.{◌≢◌, ℕ, List, All, AllPairs, Contains, IsSorted}
use Rattle.std.specs.Cmp.Lexicographic.{slice_cmp}
use Rattle.std.specs.Ordering.{nat_cmp}
use Rattle.jvm_model.specs.declared.program.Origin.{Origin}
use Rattle.jvm_model.specs.LinkedPrograms.{HasSupers, HasMentioned, HoldsPresent}
use Rattle.jvm_model.specs.Linking.{names, program_from}
use Rattle.jvm_model.specs.Programs.{Class, Method, Field, Program}
use Rattle.jvm_model.specs.Subtypes.{IsSubtype}
use Rattle.program_model.specs.Declarations.{IsMemberView, method_declaration, field_declaration}
use Rattle.program_model.specs.Numbers.{name_at}
use Rattle.program_model.specs.declared.member_view.MemberView.{MemberView}

-- The class of the number n is a supertype of a class through one of its superinterfaces.
pub record IsThroughInterface (p : Program) (c : Class) (n : ℕ) : Type 0 where
  pub interface : List ℕ
  pub among : Contains c.interfaces interface
  pub above : IsSubtype p (name_at p n) interface

-- A method, or a field, as it is shown.
abbrev pub IsMethodView : Program → Method → MemberView → Type 0
IsMethodView p m v = IsMemberView p (method_declaration m) v

abbrev pub IsFieldView : Program → Field → MemberView → Type 0
IsFieldView p f v = IsMemberView p (field_declaration f) v

-- The classes stand in byte order of their names, which differ; their supertypes, and the classes that stubs mention, are there,
-- and of the right kind.
pub record IsLinkable (order : List Origin) : Type 0 where
  pub sorted : IsSorted (slice_cmp nat_cmp) (names order)
  pub differ : AllPairs (λ x y. x ≢ y) (names order)
  pub supers : All (HasSupers (program_from order)) (program_from order).classes
  pub mentioned : All (HasMentioned (program_from order)) (program_from order).methods
  pub holds : All (HoldsPresent (program_from order)) (program_from order).fields
