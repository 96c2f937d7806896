-- An instruction has one first reason, or none.
use Rattle.std.proofs.Common.{◌≡◌, inl, inr, List, [], ◌∷◌, Option, sym, ◌∙◌}
use Rattle.jvm_model.specs.declared.reason.Reason.{Reason}
use Rattle.lowering_reasons.specs.Reasons.{Judged, IsFirstOf, IsFirstReason, reason_order}

one_of : (j : Judged) (reasons : List Reason) (a b : Option Reason) → IsFirstOf j reasons a → IsFirstOf j reasons b → a ≡ b
one_of j [] a b x y = x ∙ sym y
one_of j (r ∷ rs) a b (inl x) (inl y) = x.1 ∙ sym y.1
one_of j (r ∷ rs) a b (inl x) (inr y) = absurd (y.0 x.0)
one_of j (r ∷ rs) a b (inr x) (inl y) = absurd (x.0 y.0)
one_of j (r ∷ rs) a b (inr x) (inr y) = one_of j rs a b x.1 y.1

pub one_reason : (j : Judged) (a b : Option Reason) → IsFirstReason j a → IsFirstReason j b → a ≡ b
one_reason j a b x y = one_of j reason_order a b x y
