-- A reference resolves to one member, or has one reason why to none.
use Rattle.std.proofs.Common.{◌≡◌, ◌≢◌, ℕ, Bool, List, Some, None, Result, Ok, sym, ap, ◌∙◌, subst}
use Rattle.std.specs.List.{slice_get}
use Rattle.std.proofs.lemmas.Option.{none-some, same_Some}
use Rattle.jvm_model.specs.declared.access.AccessFlag.TheVariants.{Static}
use Rattle.jvm_model.specs.declared.reason.Reason.{Reason}
use Rattle.jvm_model.specs.Access.{has_flag}
use Rattle.jvm_model.specs.Lookups.{MemberReference, Signature}
use Rattle.jvm_model.specs.Programs.{Class, Field, Program}
use Rattle.jvm_model.specs.Resolution.{HasSignature, IsFoundIn, ResolvesFrom, Resolves, MethodResolution, FindsField, FieldResolution, found, other_kind, not_found}
use Rattle.jvm_model.specs.LinkedPrograms.{IsProgram}
use Rattle.program_laws.proofs.Chains.{one_class}
use Rattle.program_laws.proofs.Defaults.{one_resolved}
use Rattle.program_laws.proofs.FieldSearch.{one_search}
use Rattle.program_laws.proofs.Members.{alone_with, one_found_in}

-- a member that is found
abbrev pub given : ℕ → Result ℕ Reason
given number = Ok number

-- ---- fields

one_number : (p : Program) (s : Signature) (class : List ℕ) (i j : ℕ) → IsProgram p → FindsField p s class (Some i) → FindsField p s class (Some j) → i ≡ j
one_number p s class i j program x y = same_Some i j (one_search p s class (Some i) (Some j) program x y)

not_both : (p : Program) (s : Signature) (class : List ℕ) (i : ℕ) → IsProgram p → FindsField p s class (Some i) → FindsField p s class None → ⊥
not_both p s class i program x y = none-some i (one_search p s class None (Some i) program y x)

-- one field is of one kind
one_kind : (p : Program) (i j : ℕ) (f g : Field) (wants_static : Bool) → i ≡ j → slice_get p.fields i ≡ Some f → slice_get p.fields j ≡ Some g
    → has_flag f.flags Static ≡ wants_static → has_flag g.flags Static ≢ wants_static → ⊥
one_kind p i j f g wants_static e stands stands2 kind other =
    let same : f ≡ g = same_Some f g (sym stands ∙ ap (slice_get p.fields) e ∙ stands2) in
    other (sym (ap (λ (x : Field). has_flag x.flags Static) same) ∙ kind)

pub one_field_outcome : (p : Program) (c : Class) (s : Signature) (wants_static : Bool) (a b : Result ℕ Reason) → IsProgram p
    → FieldResolution p c s wants_static a → FieldResolution p c s wants_static b → a ≡ b
one_field_outcome p c s wants_static a b program (found i f x stands kind is) (found j g y stands2 kind2 is2) = is ∙ ap given (one_number p s c.name i j program x y) ∙ sym is2
one_field_outcome p c s wants_static a b program (found i f x stands kind is) (other_kind j g y stands2 kind2 is2) =
    absurd (one_kind p i j f g wants_static (one_number p s c.name i j program x y) stands stands2 kind kind2)
one_field_outcome p c s wants_static a b program (found i f x stands kind is) (not_found y is2) = absurd (not_both p s c.name i program x y)
one_field_outcome p c s wants_static a b program (other_kind i f x stands kind is) (found j g y stands2 kind2 is2) =
    absurd (one_kind p j i g f wants_static (one_number p s c.name j i program y x) stands2 stands kind2 kind)
one_field_outcome p c s wants_static a b program (other_kind i f x stands kind is) (other_kind j g y stands2 kind2 is2) = is ∙ sym is2
one_field_outcome p c s wants_static a b program (other_kind i f x stands kind is) (not_found y is2) = absurd (not_both p s c.name i program x y)
one_field_outcome p c s wants_static a b program (not_found x is) (found j g y stands2 kind2 is2) = absurd (not_both p s c.name j program y x)
one_field_outcome p c s wants_static a b program (not_found x is) (other_kind j g y stands2 kind2 is2) = absurd (not_both p s c.name j program y x)
one_field_outcome p c s wants_static a b program (not_found x is) (not_found y is2) = is ∙ sym is2

-- ---- methods

one_resolution : (p : Program) (m : MemberReference) (i j : ℕ) → IsProgram p → Resolves p m i → Resolves p m j → i ≡ j
one_resolution p m i j program x y =
    let class : y.class ≡ x.class = one_class p m.class y.class x.class y.named x.named in
    let other : ResolvesFrom p m.class m.signature (IsFoundIn p (HasSignature m.signature) m.signature x.class) j =
    subst (λ (c : Class). ResolvesFrom p m.class m.signature (IsFoundIn p (HasSignature m.signature) m.signature c) j) class y.search in
    one_resolved p m.class m.signature (IsFoundIn p (HasSignature m.signature) m.signature x.class) i j
    (record { one = λ k l. one_found_in p (HasSignature m.signature) m.signature x.class k l program (alone_with p m.signature program) }) x.search other

pub one_method_outcome : (p : Program) (c : Class) (by_interface : Bool) (s : Signature) (a b : Result ℕ Reason) → IsProgram p
    → MethodResolution p c by_interface s a → MethodResolution p c by_interface s b → a ≡ b
one_method_outcome p c by_interface s a b program (found i x kind is) (found j y kind2 is2) =
    is ∙ ap given (one_resolution p (record { class = c.name; signature = s }) i j program x y) ∙ sym is2
one_method_outcome p c by_interface s a b program (found i x kind is) (other_kind j y kind2 is2) = absurd (kind2 kind)
one_method_outcome p c by_interface s a b program (found i x kind is) (not_found none is2) = absurd (none i x)
one_method_outcome p c by_interface s a b program (other_kind i x kind is) (found j y kind2 is2) = absurd (kind kind2)
one_method_outcome p c by_interface s a b program (other_kind i x kind is) (other_kind j y kind2 is2) = is ∙ sym is2
one_method_outcome p c by_interface s a b program (other_kind i x kind is) (not_found none is2) = absurd (none i x)
one_method_outcome p c by_interface s a b program (not_found none is) (found j y kind2 is2) = absurd (none j y)
one_method_outcome p c by_interface s a b program (not_found none is) (other_kind j y kind2 is2) = absurd (none j y)
one_method_outcome p c by_interface s a b program (not_found none is) (not_found none2 is2) = is ∙ sym is2
