-- `==` tells kinds of sites apart, and methods that may be none.
use Rattle.std.proofs.Common.{◌≡◌, Bool, true, eqb, Option, Some, None, refl}
use Rattle.std.specs.Option.{option_eq}
use Rattle.std.proofs.lemmas.Map.Views.{exact_unsigned_eq}
use Rattle.jvm_model.specs.declared.number.MethodNo.{MethodNo}
use Rattle.jvm_model.specs.declared.site.SiteKind.{SiteKind}
use Rattle.jvm_model.specs.declared.site.SiteKind.TheVariants as kinds
use Rattle.jvm_model.specs.contracts.site.SiteKindPartialEq.TheImpl as kind_equality

pub exact_kinds : (a b : SiteKind) → (kind_equality.ghosts).eq a b ≡ true → a ≡ b
exact_kinds kinds.Boot kinds.Boot e = refl
exact_kinds kinds.New kinds.New e = refl
exact_kinds kinds.Result kinds.Result e = refl
exact_kinds kinds.Thrown kinds.Thrown e = refl
exact_kinds _ _ e = cc

abbrev pub same_maybe : Option MethodNo → Option MethodNo → Bool
same_maybe = option_eq (λ (a b : MethodNo). eqb a.0 b.0)

pub exact_maybe : (a b : Option MethodNo) → same_maybe a b ≡ true → a ≡ b
exact_maybe None None e = refl
exact_maybe (Some a) (Some b) e = let methods = exact_unsigned_eq a.0 b.0 e in (λ i. Some (record { 0 = methods i }))
exact_maybe _ _ e = cc
