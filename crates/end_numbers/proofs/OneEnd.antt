-- Keys differ where their ends do, and the ends of keys stay while rows are added.
use Rattle.std.proofs.Common.{◌≡◌, ℕ, suc, List, [], ◌∷◌, Some, refl, sym, ◌∙◌, ap, subst}
use Rattle.list_laws.proofs.Places.{map_at}
use Rattle.least_sets.specs.Rules.{IsWithoutDoubles}
use Rattle.fact_pool.specs.Rows.{AreDistinct}
use Rattle.stage_facts.specs.Facts.{SiteFact}
use Rattle.fact_rows.specs.FactRows.{IsFactRow}
use Rattle.fact_rows.specs.PathRows.{KeepsRows}
use Rattle.fact_rows.proofs.OneRow.{fact_stays, row_of_fact}
use Rattle.end_numbers.specs.declared.key.EndKey.{EndKey}
use Rattle.end_numbers.specs.Ends.{end, End}
use Rattle.end_numbers.specs.Keys.{ends_from, HasFact, HaveFacts, key_end}
use Rattle.end_numbers.proofs.ReadRows.{row_fact_is}

-- the end of a key has the fact of its row
pub end_is : (rows : List (List ℕ)) (key : EndKey) (fact : SiteFact) → IsFactRow rows key.fact fact
    → key_end rows key ≡ end key.method key.spot fact
end_is rows key fact is = ap (λ (f : SiteFact). end key.method key.spot f) (row_fact_is rows key.fact fact is)

-- ---- an end has one key

pub one_key : (rows : List (List ℕ)) → AreDistinct rows → (a b : EndKey) → HasFact rows a.fact → HasFact rows b.fact
    → key_end rows a ≡ key_end rows b → a ≡ b
one_key rows distinct a b (some, first) (other, second) same =
    let method = ap (λ (e : End). e.method) same in
    let spot = ap (λ (e : End). e.spot) same in
    let facts : some ≡ other = sym (row_fact_is rows a.fact some first) ∙ ap (λ (e : End). e.fact) same ∙ row_fact_is rows b.fact other second in
    let row = row_of_fact rows distinct a.fact b.fact other (subst (IsFactRow rows a.fact) facts first) second in
    (λ i. record { method = method i; spot = spot i; fact = row i })

pub ends_apart : (rows : List (List ℕ)) (keys : List EndKey) → AreDistinct rows → HaveFacts rows keys → IsWithoutDoubles keys
    → IsWithoutDoubles (ends_from rows keys)
unfolding ends_from
ends_apart rows keys distinct have apart e i j at_i at_j =
    let (a, a_at, a_is) = map_at (key_end rows) keys i e at_i in
    let (b, b_at, b_is) = map_at (key_end rows) keys j e at_j in
    apart a i j a_at (b_at ∙ ap Some (one_key rows distinct b a (have j b b_at) (have i a a_at) (b_is ∙ sym a_is)))

-- ---- ends stay

pub facts_stay : (old new : List (List ℕ)) (keys : List EndKey) → KeepsRows old new → HaveFacts old keys → HaveFacts new keys
facts_stay old new keys kept have number key at =
    let (fact, is) = have number key at in
    (fact, fact_stays old new kept key.fact fact is)

end_stays : (old new : List (List ℕ)) (key : EndKey) → KeepsRows old new → HasFact old key.fact → key_end new key ≡ key_end old key
end_stays old new key kept (fact, is) = end_is new key fact (fact_stays old new kept key.fact fact is) ∙ sym (end_is old key fact is)

pub ends_stay : (old new : List (List ℕ)) (keys : List EndKey) → KeepsRows old new → HaveFacts old keys → ends_from new keys ≡ ends_from old keys
unfolding ends_from
ends_stay old new [] kept have = refl
ends_stay old new (key ∷ keys) kept have =
    let head = end_stays old new key kept (have 0 key refl) in
    let tail = ends_stay old new keys kept (λ number k at. have (suc number) k at) in
    (λ i. head i ∷ tail i)
