-- A set of the offsets that were met, kept beside their list.
use Rattle.std.proofs.Common.{◌≡◌, ℕ, ◌+◌, ◌<◌, Bool, true, false, not, ◌||◌, eqb, List, [], ◌∷◌, ◌++◌, length, drop, get_or, refl, sym, ap, ◌∙◌, arith}
use Rattle.std.specs.BTreeMap.{is_at}
use Rattle.std.specs.BTreeSet.{BTreeSet, contains, Updates}
use Rattle.std.specs.List.{list_any}
use Rattle.std.specs.Ordering.{nat_cmp}
use Rattle.std.proofs.lemmas.Grind.{common_steps}
use Rattle.std.proofs.lemmas.List.{at_drop_more}
use Rattle.std.proofs.lemmas.List.Folds.{list_any-append}
use Rattle.flow_graph.specs.Walking.{AreAmong}

abbrev is_among : ℕ → List ℕ → Bool
is_among x met = list_any (λ (m : ℕ). eqb m x) met

inserted : (old new : BTreeSet ℕ) (x q : ℕ) → Updates nat_cmp old new x true → contains nat_cmp new q ≡ (contains nat_cmp old q || eqb x q)
inserted old new x q h = grind (arith, common_steps, h.0 q, h.1, h.2 q)

or_assoc : (a b c : Bool) → ((a || b) || c) ≡ (a || (b || c))
or_assoc true b c = refl
or_assoc false b c = refl

or_false : (a : Bool) → (a || false) ≡ a
or_false true = refl
or_false false = refl

pub set_more : (old new : BTreeSet ℕ) (offsets : List ℕ) (i : ℕ) → i < length offsets → Updates nat_cmp old new (get_or offsets i 0) true → (q : ℕ)
    → (contains nat_cmp new q || is_among q (drop (i + 1) offsets)) ≡ (contains nat_cmp old q || is_among q (drop i offsets))
set_more old new offsets i lt h q =
    ap (λ (b : Bool). b || is_among q (drop (i + 1) offsets)) (inserted old new (get_or offsets i 0) q h)
    ∙ or_assoc (contains nat_cmp old q) (eqb (get_or offsets i 0) q) (is_among q (drop (i + 1) offsets))
    ∙ sym (at_drop_more (λ (rest : List ℕ). contains nat_cmp old q || is_among q rest) offsets i 0 lt)

pub grown : (old new : BTreeSet ℕ) (met : List ℕ) (x : ℕ) → AreAmong old met → Updates nat_cmp old new x true → AreAmong new (met ++ x ∷ [])
grown old new met x are h = record {
  each = λ q. inserted old new x q h ∙ ap (λ (b : Bool). b || eqb x q) (are.each q) ∙ ap (λ (b : Bool). is_among q met || b) (sym (or_false (eqb x q))) ∙ sym (list_any-append (λ (m : ℕ). eqb m q) met (x ∷ []));
}

pub kept : (old new : BTreeSet ℕ) (met : List ℕ) → AreAmong old met → new.keys ≡ old.keys → AreAmong new met
kept old new met are same = record { each = λ q. ap (λ (keys : List ℕ). list_any (λ (k : ℕ). is_at (nat_cmp q) k) keys) same ∙ are.each q }

pub was_absent : (b added : Bool) → added ≡ true → added ≡ not b → b ≡ false
was_absent true added is e = absurd cc
was_absent false added is e = refl

pub was_there : (b added : Bool) → added ≡ false → added ≡ not b → b ≡ true
was_there true added is e = refl
was_there false added is e = absurd cc
