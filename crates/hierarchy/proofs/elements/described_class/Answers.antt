use Rattle.std.proofs.Common.{◌≡◌, Bor, ℕ, List, [], ◌∷◌, ◌++◌, Option, Some, None, ◌∙◌, ap}
use Rattle.std.specs.Prelude.{◌≢◌, MatchOption, IfSome}
use Rattle.std.proofs.lemmas.Bool.Decides.{Decides-eqb}
use Rattle.std.proofs.lemmas.Slice.Eq.{strip_prefix_is, strip_suffix_is}
use Rattle.hierarchy.proofs.elements.described_class.Goals as goal

between : (text rest : List ℕ) (r : Option (Bor (List ℕ))) → text ≡ 76 ∷ rest
    → MatchOption r ((front : List ℕ) → rest ≢ front ++ 59 ∷ []) (λ (x : Bor (List ℕ)). rest ≡ x.now ++ 59 ∷ []) → IfSome r (λ (x : Bor (List ℕ)). text ≡ 76 ∷ (x.now ++ 59 ∷ []))
between text rest None begins ends = tt
between text rest (Some x) begins ends = begins ∙ ap (λ (xs : List ℕ). 76 ∷ xs) ends

pub returns-clause-of : goal.returns-clause-of
returns-clause-of c =
    let text = c.args.text.now in
    let rest = c.in_ok-strip_prefix.field-0 in
    between text rest.now c.strip_suffix.result (strip_prefix_is Decides-eqb text (76 ∷ []) (Some rest) c.in_ok-strip_prefix.ensures.cases)
    (strip_suffix_is Decides-eqb rest.now (59 ∷ []) c.strip_suffix.result c.strip_suffix.ensures.cases)
