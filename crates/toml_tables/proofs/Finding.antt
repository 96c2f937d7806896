-- Answers of which it is known what they are.
use Rattle.std.proofs.Common.{◌≡◌, Option, Some, None}
use Rattle.toml_tables.specs.Tables.{Finds}

pub Finds-none : {X : Type 0} (P : X → Type 0) (o : Option X) → o ≡ None → Finds P o → (x : X) → P x → ⊥
Finds-none P o e finds = let none : Finds P None = rw e at finds in none

pub Finds-some : {X : Type 0} (P : X → Type 0) (o : Option X) (x : X) → o ≡ Some x → Finds P o → P x
Finds-some P o x e finds = let some : Finds P (Some x) = rw e at finds in some
