-- The map from texts to their numbers, when a text is added last or the last one is taken out.
use Rattle.std.proofs.Common.{◌≡◌, ℕ, ◌<◌, ◌+◌, ◌^◌, Bool, true, false, List, [], ◌∷◌, ◌++◌, length, Some, None, refl, sym, ◌∙◌, ap, subst, arith, inl, inr, ◌⊎◌}
use Rattle.std.specs.List.{slice_get}
use Rattle.std.specs.Str.{bytes_eq}
use Rattle.std.specs.Global.{Vec}
use Rattle.std.specs.HashMap.{HashMap, get_by, UpdatesBy}
use Rattle.std.specs.Map.{IsKeyTest, AreApart, KeepsOthers}
use Rattle.std.proofs.lemmas.Bool.{false≢true}
use Rattle.std.proofs.lemmas.List.{length-append}
use Rattle.std.proofs.lemmas.Option.{slice_get_within, same_Some, none-some}
use Rattle.std.proofs.lemmas.Slice.Eq.{bytes_eq-Decides}
use Rattle.list_laws.proofs.Places.{in_longer, push_cases, pushed_at}
use Rattle.program_index.specs.FirstPlaces.{StandsNowhere}
use Rattle.program_index.specs.OwnedTexts.{owns, AreIndexed}
use Rattle.program_index.proofs.ListPlaces.{nowhere_in_longer}
use Rattle.program_index.proofs.TextPlaces.{numbered_push}

-- `==` on the vectors
abbrev pub eq : Vec ℕ → Vec ℕ → Bool
eq a b = bytes_eq a.items b.items

true_or_false : (b : Bool) → (b ≡ true) ⊎ (b ≡ false)
true_or_false true = inl refl
true_or_false false = inr refl

same_text : (a b : List ℕ) → bytes_eq a b ≡ true → a ≡ b
same_text a b h = (bytes_eq-Decides a b).0 h

-- which vector owns a text goes by its items
tests_keys : (text : List ℕ) → IsKeyTest eq (owns text)
tests_keys text = λ x y h. ap (λ (t : List ℕ). bytes_eq t y.items) (same_text text x.items h)

-- no vector owns two texts
are_apart : (text other : List ℕ) → bytes_eq other text ≡ false → AreApart (owns text) (owns other)
are_apart text other differ = λ k h. ap (bytes_eq other) (sym (same_text text k.items h)) ∙ differ

module _ {S : Type 0} (old new : HashMap (Vec ℕ) ℕ S) (text : List ℕ) where
  -- what the map has of other texts stays
  pub other_stays : KeepsOthers eq (owns text) old.entries new.entries → (other : List ℕ) → bytes_eq other text ≡ false
      → get_by (owns other) new ≡ get_by (owns other) old
  unfolding KeepsOthers
  other_stays keeps other differ = keeps (owns other) (tests_keys other) (are_apart text other differ)

  -- a text that is not there goes last
  pub indexed_push : (texts : List (List ℕ)) → AreIndexed texts old → StandsNowhere texts text → length texts + 1 < 2 ^ 32
      → UpdatesBy eq (owns text) old new (Some (length texts)) → AreIndexed (texts ++ text ∷ []) new
  indexed_push texts are fresh room updates = record {
    numbered = numbered_push texts text are.numbered fresh room;
    found = λ q n e. elim (true_or_false (bytes_eq q text)) [
      | inl t ↦
          let is : q ≡ text = same_text q text t in
          let at : Some (length texts) ≡ Some n = sym updates.1 ∙ ap (λ (x : List ℕ). get_by (owns x) new) (sym is) ∙ e in
          subst (λ (m : ℕ). slice_get (texts ++ text ∷ []) m ≡ Some q) (same_Some _ _ at) (pushed_at texts text ∙ ap Some (sym is))
      | inr f ↦ in_longer texts (text ∷ []) n q (are.found q n (sym (other_stays updates.3 q f) ∙ e))
    ];
    none = λ q e. elim (true_or_false (bytes_eq q text)) [
      | inl t ↦
          let is : q ≡ text = same_text q text t in
          absurd (none-some (length texts) (sym e ∙ ap (λ (x : List ℕ). get_by (owns x) new) is ∙ updates.1))
      | inr f ↦
          nowhere_in_longer texts text q (are.none q (sym (other_stays updates.3 q f) ∙ e))
          (λ same. false≢true (sym f ∙ (bytes_eq-Decides q text).1 same))
    ];
  }

  -- the last text is taken out
  pub indexed_pop : (front : List (List ℕ)) → AreIndexed (front ++ text ∷ []) old → UpdatesBy eq (owns text) old new None → AreIndexed front new
  indexed_pop front are updates = record {
    numbered = record {
      distinct = record { one_place = λ i j x at_i at_j. are.numbered.distinct.one_place i j x (in_longer front (text ∷ []) i x at_i) (in_longer front (text ∷ []) j x at_j) };
      small = let long = length-append front (text ∷ []) in omega (arith, long, are.numbered.small);
    };
    found = λ q k e. elim (true_or_false (bytes_eq q text)) [
      | inl t ↦ absurd (none-some k (sym updates.1 ∙ ap (λ (x : List ℕ). get_by (owns x) new) (sym (same_text q text t)) ∙ e))
      | inr f ↦
          elim (push_cases front text k q (are.found q k (sym (other_stays updates.3 q f) ∙ e))) [
            | inl there ↦ there
            | inr last ↦ absurd (false≢true (sym f ∙ (bytes_eq-Decides q text).1 last.1))
          ]
    ];
    none = λ q e. elim (true_or_false (bytes_eq q text)) [
      | inl t ↦ record {
        nowhere = λ i at.
            let there = in_longer front (text ∷ []) i q at ∙ ap Some (same_text q text t) in
            let same : i ≡ length front = are.numbered.distinct.one_place i (length front) text there (pushed_at front text) in
            absurd (omega (arith, same, slice_get_within front i q at));
      }
      | inr f ↦
          let none = are.none q (sym (other_stays updates.3 q f) ∙ e) in
          record { nowhere = λ i at. none.nowhere i (in_longer front (text ∷ []) i q at) }
    ];
  }
