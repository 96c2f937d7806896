-- The search for a field finds one field, or none.
use Rattle.std.proofs.Common.{◌≡◌, ℕ, List, ◌++◌, Option, Some, None, refl, sym, ap, subst}
use Rattle.std.specs.Option.{option_to_list}
use Rattle.std.proofs.lemmas.Option.{none-some}
use Rattle.jvm_model.specs.Lookups.{Signature}
use Rattle.jvm_model.specs.Programs.{Class, Program}
use Rattle.jvm_model.specs.Resolution.{FindsField, FindsAmong, itself, above, nowhere, first, later}
use Rattle.jvm_model.specs.LinkedPrograms.{IsProgram}
use Rattle.program_laws.proofs.Chains.{one_class}
use Rattle.program_laws.proofs.Members.{one_field}

-- the supertypes of a class, in the order of the search
abbrev upward_of : Class → List (List ℕ)
upward_of c = c.interfaces ++ option_to_list c.super_class

mutual
  pub one_search : (p : Program) (s : Signature) (class : List ℕ) (a b : Option ℕ) → IsProgram p → FindsField p s class a → FindsField p s class b → a ≡ b
  one_search p s class a b program (itself _ i x) (itself _ j y) = ap Some (one_field p s class i j program x y)
  one_search p s class a b program (itself _ i x) (above _ _ c named none among) = absurd (none i x)
  one_search p s class a b program (above _ _ c named none among) (itself _ j y) = absurd (none j y)
  one_search p s class a b program (above _ _ c named none among) (above _ _ d named2 none2 among2) =
      one_among p s (upward_of c) a b program among (subst (λ (e : Class). FindsAmong p s (upward_of e) b) (one_class p class d c named2 named) among2)

  one_among : (p : Program) (s : Signature) (classes : List (List ℕ)) (a b : Option ℕ) → IsProgram p → FindsAmong p s classes a → FindsAmong p s classes b → a ≡ b
  one_among p s classes a b program nowhere nowhere = refl
  one_among p s classes a b program (first class others i x) (first _ _ j y) = one_search p s class (Some i) (Some j) program x y
  one_among p s classes a b program (first class others i x) (later _ _ _ none y) = absurd (none-some i (sym (one_search p s class (Some i) None program x none)))
  one_among p s classes a b program (later class others _ none x) (first _ _ j y) = absurd (none-some j (one_search p s class None (Some j) program none y))
  one_among p s classes a b program (later class others _ none x) (later _ _ _ none2 y) = one_among p s others a b program x y
