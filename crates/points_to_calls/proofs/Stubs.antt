-- What described methods keep, give and throw.
use Rattle.std.proofs.Common.{◌≡◌, ◌≢◌, ℕ, zero, suc, false, List, Option, Some, None, refl, sym, ap, ◌∙◌, subst, arith, Result, Ok, Err}
use Rattle.std.specs.List.{slice_get}
use Rattle.std.specs.Option.{is_some}
use Rattle.std.specs.Result.{OnOk, IfOk}
use Rattle.std.proofs.lemmas.Bool.{false≢true}
use Rattle.std.proofs.lemmas.Option.{same_Some}
use Rattle.jvm_model.specs.declared.number.SiteNo.{SiteNo}
use Rattle.jvm_model.specs.declared.site.Site.{Site}
use Rattle.jvm_model.specs.declared.stub.StubArgument.{StubArgument}
use Rattle.jvm_model.specs.declared.stub.StubMethod.{StubMethod}
use Rattle.jvm_model.specs.declared.stub.StubResult.TheVariants.{Kept}
use Rattle.jvm_model.specs.Programs.{Program}
use Rattle.jvm_model.specs.Stubs.{result_class}
use Rattle.points_to_rules.specs.Calls.{IsUnitOf}
use Rattle.points_to_constraints.specs.Items.{CallSite, Item as RuleItem}
use Rattle.points_to_numbers.specs.declared.item.Item.{Item}
use Rattle.points_to_numbers.specs.declared.keys.ClassNameNo.{ClassNameNo}
use Rattle.points_to_numbers.specs.Numbered.{Numbered, Grows}
use Rattle.points_to_calls.specs.declared.origin.Origin.{Origin}
use Rattle.points_to_calls.specs.declared.origin.Origin.TheVariants as origins
use Rattle.points_to_calls.specs.Describing.{origin_of_unit, IsReceiverAt, IsOriginFor}
use Rattle.points_to_calls.specs.Parts.{RuleOrigin, unit, made, fitting, ArgumentGives, ResultGives}
use Rattle.points_to_numbers.specs.Steps.{Makes}
use Rattle.stub_arguments.specs.Units.{IsArgumentUnit}
use Rattle.points_to_numbers.proofs.Making.{makes_none, makes_same}

-- what the clauses of a call give together of its answer
pub if_ok_three : {T E A B : Type 0} (r : Result T E) (P Q : T → Type 0) → OnOk r A → OnOk r B → IfOk r P → ((x : T) → A → B → P x → Q x) → IfOk r Q
if_ok_three (Ok x) P Q a b p give = give x a b p
if_ok_three (Err e) P Q a b p give = tt

-- ---- the object that selects

pub receiver_on : (n m : Numbered) (receiver : Option SiteNo) (r : Option Site) → Grows n m → IsReceiverAt n receiver r → IsReceiverAt m receiver r
receiver_on n m None None grows is = is
receiver_on n m None (Some s) grows is = is
receiver_on n m (Some site) None grows is = is
receiver_on n m (Some site) (Some s) grows is = grows.sites site.0 s is

-- ---- what an argument gives

pub no_unit_origin : (n : Numbered) (stub : StubMethod) (argument : StubArgument) (r : Option Site) → ((u : ℕ) → IsUnitOf stub argument u → ⊥) → IsOriginFor n (ArgumentGives stub r argument) None
no_unit_origin n stub argument None none = λ g (u, is, e). none u is
no_unit_origin n stub argument (Some s) none = λ g (is, e). none 0 is

pub unit_origin : (n : Numbered) (stub : StubMethod) (argument : StubArgument) (receiver : Option SiteNo) (r : Option Site) (u : ℕ) → IsReceiverAt n receiver r → IsArgumentUnit stub argument (Some u)
    → IsOriginFor n (ArgumentGives stub r argument) (origin_of_unit receiver u)
unit_origin n stub argument None None u at is = (unit u, refl, (u, is.0, refl), λ k (v, of, e). e ∙ ap unit (is.1 v of))
unit_origin n stub argument None (Some s) u at is = absurd at
unit_origin n stub argument (Some site) None u at is = absurd at
unit_origin n stub argument (Some site) (Some s) zero at is = (made s, (s, at, refl), (is.0, refl), λ k (of, e). e)
unit_origin n stub argument (Some site) (Some s) (suc u) at is = λ g (of, e). let same = is.1 0 of in absurd (omega (arith, same))

pub later_unit : (site : SiteNo) (u : ℕ) → u ≢ 0 → origin_of_unit (Some site) u ≡ None
later_unit site zero positive = absurd (positive refl)
later_unit site (suc u) positive = refl

-- what was kept
pub kept_given : (n m : Numbered) (receiver : Option SiteNo) (r : Option Site) (stub : StubMethod) (site : CallSite) (class : ClassNameNo) (name : List ℕ) → is_some receiver ≡ false
    → IsReceiverAt n receiver r → result_class stub.descriptor ≡ Some name → slice_get m.classes class.0 ≡ Some name → IsOriginFor m (ResultGives Kept stub site r) (Some (origins.Fitting class))
kept_given n m None None stub site class name none at is named = (fitting name, (name, named, refl), (name, refl, is, refl), λ k (other, alone, e, of). of ∙ ap fitting (same_Some other name (sym e ∙ is)))
kept_given n m None (Some s) stub site class name none at is named = absurd at
kept_given n m (Some receiver) r stub site class name none at is named = absurd (false≢true (sym none))

-- ---- what is made of origins

module _ (p : Program) (n m o : Numbered) (site : CallSite) (Q : RuleOrigin → Type 0) (a b : List Item) where
  -- the only origin of which a fact holds
  pub only_origin : (P : RuleOrigin → RuleItem → Type 0) (g : RuleOrigin) → Q g → ((k : RuleOrigin) → Q k → k ≡ g) → Makes m o (P g) a b → Makes m o (λ x. (k : RuleOrigin) × Q k × P k x) a b
  only_origin P g gives only makes =
      makes_same m o (P g) (λ x. (k : RuleOrigin) × Q k × P k x) a b
      (λ x. (λ gets. (g, gives, gets), λ (k, given, gets). subst (λ (h : RuleOrigin). P h x) (only k given) gets))
      makes

  pub no_origin : (P : RuleOrigin → RuleItem → Type 0) → ((g : RuleOrigin) → Q g → ⊥) → Makes n n (λ x. (k : RuleOrigin) × Q k × P k x) a a
  no_origin P none = makes_none n (λ x. (k : RuleOrigin) × Q k × P k x) a (λ x (k, given, gets). none k given)

-- no origin was found
pub none_origin : (n : Numbered) (Q : RuleOrigin → Type 0) (origin : Option Origin) → ((x : Origin) → origin ≡ Some x → ⊥) → IsOriginFor n Q origin → (g : RuleOrigin) → Q g → ⊥
none_origin n Q None none is = is
none_origin n Q (Some x) none is = absurd (none x refl)
