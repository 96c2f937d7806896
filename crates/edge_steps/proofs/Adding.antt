-- What is added for one fact, and for each of some facts.
use Rattle.std.proofs.Common.{◌≡◌, ◌⊎◌, inl, inr, ℕ, List, [], ◌∷◌, ◌++◌, ◌==◌, Bool, true, length, refl, sym, ap, ◌∙◌, subst, arith}
use Rattle.std.proofs.lemmas.Bool.{eqb-true}
use Rattle.list_laws.proofs.Members.{contains_cases, contains_first, contains_later, contains_none, contains_only}
use Rattle.op_model.specs.declared.node.Spot.{Spot}
use Rattle.ground.specs.Added.{AreAdded, OfOne}
use Rattle.ground.proofs.Adding.{added_as, added_both, added_none, pushed_adds}
use Rattle.node_ways.specs.declared.ways.EnteredMethod.{EnteredMethod}
use Rattle.stage_facts.specs.declared.plain.PlainFact.{PlainFact}
use Rattle.stage_facts.specs.Facts.{SiteFact}
use Rattle.stage_facts.specs.Plain.{fact_of}
use Rattle.stage_views.specs.declared.facts.Facts.{Facts}
use Rattle.stage_views.specs.declared.facts.Facts.TheVariants as some
use Rattle.stage_views.specs.Views.{facts_of}
use Rattle.edge_steps.specs.declared.conclusions.Conclusion.{Conclusion}
use Rattle.edge_steps.specs.declared.conclusions.EnteredWith.{EnteredWith}
use Rattle.edge_steps.specs.Parts.{IsAt, IsBegun, OneAt, OneAtEach}
use Rattle.edge_steps.proofs.Facts.{one_fact}

-- ---- one thing

pub fact_added : (spot : Spot) (fact : PlainFact) (g : SiteFact) → fact_of fact ≡ g → (old : List Conclusion)
    → AreAdded (IsAt spot g) old (old ++ record { spot = spot; fact = fact } ∷ [])
fact_added spot fact g is old =
    let y : Conclusion = record { spot = spot; fact = fact } in
    added_as (λ (c : Conclusion). y ≡ c) (IsAt spot g) old (old ++ y ∷ [])
    (λ c same. subst (IsAt spot g) same (record { at = refl; is = is }))
    (λ c at. λ i. record { spot = sym at.at i; fact = one_fact fact c.fact (is ∙ sym at.is) i })
    (pushed_adds old y)

pub begun_added : (e : EnteredMethod) (fact : PlainFact) (g : SiteFact) → fact_of fact ≡ g → (old : List EnteredWith)
    → AreAdded (IsBegun g e) old (old ++ record { method = e.method; fact = fact } ∷ [])
begun_added e fact g is old =
    let y : EnteredWith = record { method = e.method; fact = fact } in
    added_as (λ (b : EnteredWith). y ≡ b) (IsBegun g e) old (old ++ y ∷ [])
    (λ b same. subst (IsBegun g e) same (record { method = refl; is = is }))
    (λ b begun. λ i. record { method = sym begun.method i; fact = one_fact fact b.fact (is ∙ sym begun.is) i })
    (pushed_adds old y)

-- ---- for each of none, one or two

module _ {X Y : Type 0} (R : X → Y → Type 0) where
  pub of_none : (a : List Y) → AreAdded (OfOne R []) a a
  of_none a = added_none (OfOne R []) a (λ y some. contains_none some.0 some.1)

  pub of_one : (x : X) (a b : List Y) → AreAdded (R x) a b → AreAdded (OfOne R (x ∷ [])) a b
  of_one x a b added =
      added_as (R x) (OfOne R (x ∷ [])) a b
      (λ y r. (x, contains_first x [], r))
      (λ y some. subst (λ (z : X). R z y) (sym (contains_only x some.0 some.1)) some.2)
      added

  pub of_two : (x z : X) (a b c : List Y) → AreAdded (R x) a b → AreAdded (R z) b c → AreAdded (OfOne R (x ∷ z ∷ [])) a c
  of_two x z a b c first second =
      added_as (λ (y : Y). R x y ⊎ R z y) (OfOne R (x ∷ z ∷ [])) a c
      (λ y either. elim either [
        | inl r ↦ (x, contains_first x (z ∷ []), r)
        | inr r ↦ (z, contains_later x z (z ∷ []) (contains_first z []), r)
      ])
      (λ y some. elim (contains_cases x some.0 (z ∷ []) some.1) [
        | inl e ↦ inl (subst (λ (v : X). R v y) (sym e) some.2)
        | inr later ↦ inr (subst (λ (v : X). R v y) (sym (contains_only z some.0 later)) some.2)
      ])
      (added_both (R x) (R z) a b c first second)

-- ---- the same said otherwise

pub placed : (spot place : Spot) (facts others : List SiteFact) (a b : List Conclusion) → spot ≡ place → facts ≡ others → AreAdded (OneAt spot facts) a b
    → AreAdded (OneAt place others) a b
placed spot place facts others a b same alike added =
    subst (λ (gs : List SiteFact). AreAdded (OneAt place gs) a b) alike (subst (λ (where_it_is : Spot). AreAdded (OneAt where_it_is facts) a b) same added)

pub placed_each : (offsets : List ℕ) (facts others : List SiteFact) (a b : List Conclusion) → facts ≡ others → AreAdded (OneAtEach offsets facts) a b
    → AreAdded (OneAtEach offsets others) a b
placed_each offsets facts others a b alike added = subst (λ (gs : List SiteFact). AreAdded (OneAtEach offsets gs) a b) alike added

pub begun_as : (methods : List EnteredMethod) (g h : SiteFact) (a b : List EnteredWith) → g ≡ h → AreAdded (OfOne (IsBegun g) methods) a b → AreAdded (OfOne (IsBegun h) methods) a b
begun_as methods g h a b same added = subst (λ (f : SiteFact). AreAdded (OfOne (IsBegun f) methods) a b) same added

-- where there are no methods nothing is added
pub none_begin : (R : EnteredMethod → EnteredWith → Type 0) (methods : List EnteredMethod) (is_empty : Bool) → is_empty ≡ (length methods == 0) → is_empty ≡ true → (a : List EnteredWith)
    → AreAdded (OfOne R methods) a a
none_begin R [] is_empty is none a = of_none R a
none_begin R (e ∷ methods) is_empty is none a = let no : length (e ∷ methods) ≡ 0 = eqb-true (length (e ∷ methods)) 0 (sym is ∙ none) in absurd (omega (arith, no))

-- ---- by what the transfer gives

module _ {X : Type 0} (R : SiteFact → X → Type 0) (facts : Facts) where
  pub one_of : (f : PlainFact) → facts ≡ some.One f → (a b : List X) → AreAdded (R (fact_of f)) a b → AreAdded (OfOne R (facts_of facts)) a b
  one_of f is a b added = subst (λ (fs : List SiteFact). AreAdded (OfOne R fs) a b) (sym (ap facts_of is)) (of_one R (fact_of f) a b added)

  pub two_of : (f g : PlainFact) → facts ≡ some.Two f g → (a b c : List X) → AreAdded (R (fact_of f)) a b → AreAdded (R (fact_of g)) b c
      → AreAdded (OfOne R (facts_of facts)) a c
  two_of f g is a b c first second =
      subst (λ (fs : List SiteFact). AreAdded (OfOne R fs) a c) (sym (ap facts_of is)) (of_two R (fact_of f) (fact_of g) a b c first second)

-- ---- under a condition

module _ {X : Type 0} (Q : Type 0) (P : X → Type 0) where
  pub added_not : (Q → ⊥) → (a : List X) → AreAdded (λ (x : X). Q × P x) a a
  added_not not a = added_none (λ (x : X). Q × P x) a (λ x both. not both.0)

  pub added_where : Q → (a b : List X) → AreAdded P a b → AreAdded (λ (x : X). Q × P x) a b
  added_where q a b added = added_as P (λ (x : X). Q × P x) a b (λ x p. (q, p)) (λ x both. both.1) added
