-- Objects that are put away, and objects beside a new one.
use Rattle.std.proofs.Common.{◌≡◌, inl, inr, ℕ, Bool, false, List, Option, Some, None, refl, sym, ◌∙◌, subst}
use Rattle.std.specs.List.{list_any}
use Rattle.std.proofs.lemmas.Bool.{false≢true, or_parts}
use Rattle.access_paths.specs.declared.root.Root.{Root}
use Rattle.access_paths.specs.declared.root.Root.TheVariants.{Slot}
use Rattle.access_paths.specs.Paths.{Path, bare, has_path}
use Rattle.stage_facts.specs.Facts.{Tuple}
use Rattle.stage_transfer.specs.Operations.{beside_new, puts_away}
use Rattle.stage_relations.specs.Relations.{PutsAway, Reroots}
use Rattle.stage_transfer_laws.proofs.Members.{none_passes}
use Rattle.stage_transfer_laws.proofs.Paths.{it_has, of_with_path}

-- ---- objects that are put away

-- the test whether one of the slots holds the object
abbrev held : List ℕ → Tuple → Bool
held values t = list_any (λ (z : ℕ). has_path t.must (bare (Slot z))) values

pub away_reroots : (values : List ℕ) (t : Tuple) {Goes Doubled : Root → Root → Type 0} {Known : Path → Type 0} {u : Tuple}
    → Reroots Goes Doubled Known (puts_away values t) u → Reroots Goes Doubled Known t u
away_reroots values t r = record {
  unique = r.unique;
  state = r.state;
  must = r.must;
  must_not = r.must_not;
  may = λ e. (or_parts t.may (held values t) (r.may e)).0;
  roots = r.roots;
  fields = r.fields;
}

pub away_puts : (values : List ℕ) (t : Tuple) {Goes Doubled : Root → Root → Type 0} {Known : Path → Type 0} {u : Tuple}
    → Reroots Goes Doubled Known (puts_away values t) u → PutsAway values t u
away_puts values t r = λ e z there listed.
    false≢true (sym (none_passes (λ (y : ℕ). has_path t.must (bare (Slot y))) values z (or_parts t.may (held values t) (r.may e)).1 there)
    ∙ it_has t.must (bare (Slot z)) listed)

-- ---- beside a new object

pub beside_reroots : (target : Option ℕ) {Goes Doubled : Root → Root → Type 0} {Known : Path → Type 0} {t u : Tuple}
    → ((z : ℕ) → target ≡ Some z → Known (bare (Slot z))) → Reroots Goes Doubled Known t u → Reroots Goes Doubled Known t (beside_new target u)
beside_reroots None made r = record {
  unique = λ e. absurd (false≢true e);
  state = r.state;
  must = r.must;
  must_not = r.must_not;
  may = r.may;
  roots = r.roots;
  fields = r.fields;
}
beside_reroots (Some z) {Known = Known} {u = u} made r = record {
  unique = λ e. absurd (false≢true e);
  state = r.state;
  must = r.must;
  must_not = λ y there. elim (of_with_path (bare (Slot z)) u.must_not y there) [
    | inl same ↦ inr (subst (λ (p : Path). Known p) same (made z refl))
    | inr old ↦ r.must_not y old
  ];
  may = r.may;
  roots = r.roots;
  fields = r.fields;
}

-- the object is not the only one any more
pub beside_unique : (target : Option ℕ) (u : Tuple) → (beside_new target u).unique ≡ false
beside_unique None u = refl
beside_unique (Some z) u = refl
