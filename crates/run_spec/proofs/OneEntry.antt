-- A program begins with one method of a class and a name.
use Rattle.std.proofs.Common.{◌≡◌, ◌∙◌, ℕ, List, sym}
use Rattle.jvm_model.specs.declared.number.MethodNo.{MethodNo}
use Rattle.jvm_model.specs.LinkedPrograms.{MembersDiffer}
use Rattle.jvm_model.specs.Programs.{Program}
use Rattle.entry_points.specs.Entries.{IsEntry, IsStarting, with_strings, plain}

module _ (p : Program) (members : MembersDiffer p) (class method : List ℕ) where
  starting_same : (descriptor : List ℕ) (m n : ℕ) → IsStarting p class method descriptor m → IsStarting p class method descriptor n → m ≡ n
  starting_same descriptor m n x y = members.methods m n x.found y.found x.stands y.stands (x.of_class ∙ sym y.of_class) (x.named ∙ sym y.named)

  number_same : (m n : ℕ) → IsEntry p class method m → IsEntry p class method n → m ≡ n
  number_same m n (with_strings x) (with_strings y) = starting_same _ m n x y
  number_same m n (with_strings x) (plain none y) = absurd (none m x)
  number_same m n (plain none x) (with_strings y) = absurd (none n y)
  number_same m n (plain none x) (plain none2 y) = starting_same _ m n x y

  pub entry_same : (a b : MethodNo) → IsEntry p class method a.0 → IsEntry p class method b.0 → a ≡ b
  entry_same a b x y = let numbers = number_same a.0 b.0 x y in (λ i. record { 0 = numbers i })
