-- Answers of which it is known what they are.
use Rattle.std.proofs.Common.{◌≡◌, Option, Some, None, IfSome, IfNone, Result, Ok, Err, IfOk, subst}

pub found_is : {X : Type 0} (P : X → Type 0) (r : Option X) (x : X) → r ≡ Some x → IfSome r P → P x
found_is {X} P r x e h = subst (λ (o : Option X). IfSome o P) e h

pub none_is : {X : Type 0} (P : Type 0) (r : Option X) → r ≡ None → IfNone r P → P
none_is {X} P r e h = subst (λ (o : Option X). IfNone o P) e h

-- what follows of an answer that is no error
pub if_ok : {X E : Type 0} (P Q : X → Type 0) (r : Result X E) → ((x : X) → P x → Q x) → IfOk r P → IfOk r Q
if_ok P Q (Ok x) of p = of x p
if_ok P Q (Err e) of p = tt
