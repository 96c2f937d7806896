-- A special call goes to one target, or has one reason why to none.
use Rattle.std.proofs.Common.{◌≡◌, ℕ, List, Result, sym, ap, ◌∙◌, subst}
use Rattle.std.proofs.lemmas.Option.{same_Some}
use Rattle.jvm_model.specs.declared.reason.Reason.{Reason}
use Rattle.jvm_model.specs.Lookups.{MemberReference}
use Rattle.jvm_model.specs.Programs.{Class, Program}
use Rattle.jvm_model.specs.Resolution.{IsInstanceWith, IsFoundIn}
use Rattle.jvm_model.specs.Selection.{SelectsFrom, StartsSearch, at_super, at_named, SelectsSpecial, SpecialSelection, selected, no_code, nothing}
use Rattle.jvm_model.specs.Subtypes.{class_named}
use Rattle.jvm_model.specs.LinkedPrograms.{IsProgram}
use Rattle.program_laws.proofs.Calls.{one_kind}
use Rattle.program_laws.proofs.Chains.{one_class}
use Rattle.program_laws.proofs.Defaults.{one_selected}
use Rattle.program_laws.proofs.Members.{alone_instance, one_found_in}
use Rattle.program_laws.proofs.Outcomes.{given}

-- the search begins at one class
pub one_start : (p : Program) (current : List ℕ) (m : MemberReference) (x y : List ℕ) → StartsSearch p current m x → StartsSearch p current m y → x ≡ y
one_start p current m x y (at_super c call named super) (at_super d call2 named2 super2) =
    let same : c ≡ d = one_class p current c d named named2 in
    same_Some x y (sym super ∙ ap (λ (e : Class). e.super_class) same ∙ super2)
one_start p current m x y (at_super c call named super) (at_named none e) = absurd (none call)
one_start p current m x y (at_named none e) (at_super c call named super) = absurd (none call)
one_start p current m x y (at_named none e) (at_named none2 e2) = e ∙ sym e2

-- how the target is searched for from a class of a name
abbrev Searched : Program → MemberReference → ℕ → List ℕ → Class → Type 0
Searched p m target start class = SelectsFrom p start m.signature (IsFoundIn p (IsInstanceWith m.signature) m.signature class) target

-- so it finds one target
pub one_special : (p : Program) (current : List ℕ) (m : MemberReference) (i j : ℕ) → IsProgram p → SelectsSpecial p current m i → SelectsSpecial p current m j → i ≡ j
one_special p current m i j program x y =
    let start : y.start ≡ x.start = one_start p current m y.start x.start y.begins x.begins in
    let class : y.class ≡ x.class = same_Some y.class x.class (sym y.named ∙ ap (class_named p) start ∙ x.named) in
    let other : Searched p m j x.start x.class =
    subst (λ (c : Class). Searched p m j x.start c) class (subst (λ (name : List ℕ). Searched p m j name y.class) start y.chosen) in
    one_selected p x.start m.signature (IsFoundIn p (IsInstanceWith m.signature) m.signature x.class) i j
    (record { one = λ k l. one_found_in p (IsInstanceWith m.signature) m.signature x.class k l program (alone_instance p m.signature program) }) x.chosen other

pub one_special_outcome : (p : Program) (current : List ℕ) (m : MemberReference) (a b : Result ℕ Reason) → IsProgram p
    → SpecialSelection p current m a → SpecialSelection p current m b → a ≡ b
one_special_outcome p current r a b program (selected i m x at kind is) (selected j n y at2 kind2 is2) = is ∙ ap given (one_special p current r i j program x y) ∙ sym is2
one_special_outcome p current r a b program (selected i m x at kind is) (no_code j n y at2 kind2 is2) = absurd (one_kind p i j m n (one_special p current r i j program x y) at at2 kind kind2)
one_special_outcome p current r a b program (selected i m x at kind is) (nothing none is2) = absurd (none i x)
one_special_outcome p current r a b program (no_code i m x at kind is) (selected j n y at2 kind2 is2) = absurd (one_kind p j i n m (one_special p current r j i program y x) at2 at kind2 kind)
one_special_outcome p current r a b program (no_code i m x at kind is) (no_code j n y at2 kind2 is2) = is ∙ sym is2
one_special_outcome p current r a b program (no_code i m x at kind is) (nothing none is2) = absurd (none i x)
one_special_outcome p current r a b program (nothing none is) (selected j n y at2 kind2 is2) = absurd (none j y)
one_special_outcome p current r a b program (nothing none is) (no_code j n y at2 kind2 is2) = absurd (none j y)
one_special_outcome p current r a b program (nothing none is) (nothing none2 is2) = is ∙ sym is2
