-- The method that a search by a name and descriptor finds has them.
use Rattle.std.proofs.Common.{◌≡◌, ℕ, Bool, true, false, List, [], ◌∷◌, Some, inl, inr}
use Rattle.std.specs.Bool.{MatchBool}
use Rattle.std.specs.List.{slice_get}
use Rattle.jvm_model.specs.Lookups.{Signature}
use Rattle.jvm_model.specs.Programs.{Class, Method, Program}
use Rattle.jvm_model.specs.Resolution.{HasSignature, IsFirst, IsFound, IsFoundIn, IsFoundInInterface, ResolvesFrom, by_default, by_name, declared_there, itself, of_object}

-- The method of the number has the signature.
pub record IsSigned (p : Program) (s : Signature) (number : ℕ) : Type 0 where
  pub method : Method
  pub stands : slice_get p.methods number ≡ Some method
  pub is : method.signature ≡ s

signed_first : (p : Program) (s : Signature) (chain : List Class) (n : ℕ) → IsFirst p (HasSignature s) chain n → IsSigned p s n
signed_first p s [] n first = absurd first
signed_first p s (c ∷ chain) n (inl d) = record { method = d.method; stands = d.stands; is = d.is }
signed_first p s (c ∷ chain) n (inr later) = signed_first p s chain n later.1

signed_interface : (p : Program) (s : Signature) (name : List ℕ) (n : ℕ) → IsFoundInInterface p (HasSignature s) s name n → IsSigned p s n
signed_interface p s name n (declared_there d) = record { method = d.method; stands = d.stands; is = d.is }
signed_interface p s name n (of_object none d) = record { method = d.method; stands = d.stands; is = d.is.0 }

signed_by_kind : (p : Program) (s : Signature) (name : List ℕ) (n : ℕ) (is_interface : Bool)
    → MatchBool is_interface (IsFoundInInterface p (HasSignature s) s name n) (IsFound p name (HasSignature s) n) → IsSigned p s n
signed_by_kind p s name n true h = signed_interface p s name n h
signed_by_kind p s name n false h = signed_first p s h.chain n h.first

-- the resolved method
pub resolved_signed : (p : Program) (name : List ℕ) (s : Signature) (c : Class) (n : ℕ) → ResolvesFrom p name s (IsFoundIn p (HasSignature s) s c) n → IsSigned p s n
resolved_signed p name s c n (itself own) = signed_by_kind p s c.name n c.is_interface own
resolved_signed p name s c n (by_default none only) =
    let i = only.default.specific.inherited in
    record { method = i.method; stands = i.stands; is = i.same_call }
resolved_signed p name s c n (by_name none no_default least) =
    let i = least.inherited in
    record { method = i.method; stands = i.stands; is = i.same_call }
