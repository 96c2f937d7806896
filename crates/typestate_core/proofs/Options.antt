-- What is known of an option, or of the answer of a call: into it and out of it.
use Rattle.std.proofs.Common.{◌≡◌, Option, Some, None, Result, Ok, Err, IfSome, IfOk, refl, subst}

-- What holds of each value that an option may have, holds of the option.
pub if_some : {X : Type 0} (o : Option X) (P : X → Type 0) → ((x : X) → o ≡ Some x → P x) → IfSome o P
if_some None P h = tt
if_some (Some x) P h = h x refl

pub at_some : {X : Type 0} (o : Option X) (P : X → Type 0) (x : X) → o ≡ Some x → IfSome o P → P x
at_some o P x e h = let Q : Option _ → Type 0 = λ q. IfSome q P in subst Q e h

pub if_ok : {A E : Type 0} (r : Result A E) (P Q : A → Type 0) → IfOk r P → ((a : A) → P a → Q a) → IfOk r Q
if_ok (Ok a) P Q p h = h a p
if_ok (Err e) P Q p h = tt
