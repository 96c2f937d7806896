-- Where a text stands among texts that are distinct, and when more texts are added.
use Rattle.std.proofs.Common.{◌≡◌, ℕ, zero, suc, ◌<◌, ◌+◌, Bool, true, false, cond, ◌||◌, List, [], ◌∷◌, ◌++◌, length, Some, ◌^◌, refl, sym, ◌∙◌, ap, arith, append_assoc, inl, inr}
use Rattle.std.specs.List.{slice_get, list_any}
use Rattle.std.specs.Str.{bytes_eq}
use Rattle.std.proofs.lemmas.List.{append-nil, length-append}
use Rattle.std.proofs.lemmas.Option.{same_Some, none-some}
use Rattle.std.proofs.lemmas.Slice.Eq.{bytes_eq-Decides}
use Rattle.list_laws.proofs.Places.{in_longer, push_cases}
use Rattle.program_index.specs.FirstPlaces.{StandsNowhere}
use Rattle.program_index.specs.Limits.{AreTooMany}
use Rattle.program_index.specs.TextNumbers.{AreDistinct, with_text, with_texts, Extends}
use Rattle.program_index.specs.OwnedTexts.{AreNumbered}

-- whether a text is among texts
pub among : (texts : List (List ℕ)) (text : List ℕ) (k : ℕ) → slice_get texts k ≡ Some text → list_any (bytes_eq text) texts ≡ true
among [] text k e = absurd (none-some text e)
among (x ∷ xs) text zero e = ap (λ (b : Bool). b || list_any (bytes_eq text) xs) ((bytes_eq-Decides text x).1 (sym (same_Some _ _ e)))
among (x ∷ xs) text (suc k) e = or_right (bytes_eq text x) _ (among xs text k e)
  where
    or_right : (a b : Bool) → b ≡ true → (a || b) ≡ true
    or_right true b h = refl
    or_right false b h = h

pub not_among : (texts : List (List ℕ)) (text : List ℕ) → StandsNowhere texts text → list_any (bytes_eq text) texts ≡ false
not_among [] text none = refl
not_among (x ∷ xs) text none = by (bytes_eq text x) refl (not_among xs text (record { nowhere = λ i e. none.nowhere (suc i) e }))
  where
    by : (b : Bool) → bytes_eq text x ≡ b → list_any (bytes_eq text) xs ≡ false → (b || list_any (bytes_eq text) xs) ≡ false
    by true h rest = absurd (none.nowhere 0 (ap Some (sym ((bytes_eq-Decides text x).0 h))))
    by false h rest = rest

-- texts stay distinct when one that is not among them goes last
pub distinct_push : (texts : List (List ℕ)) (text : List ℕ) → AreDistinct texts → StandsNowhere texts text → AreDistinct (texts ++ text ∷ [])
distinct_push texts text distinct none = record {
  one_place = λ i j x at_i at_j. elim (push_cases texts text i x at_i) [
    | inl old_i ↦ elim (push_cases texts text j x at_j) [
      | inl old_j ↦ distinct.one_place i j x old_i old_j
      | inr last_j ↦ absurd (none.nowhere i (old_i ∙ ap Some last_j.1))
    ]
    | inr last_i ↦ elim (push_cases texts text j x at_j) [
      | inl old_j ↦ absurd (none.nowhere j (old_j ∙ ap Some last_i.1))
      | inr last_j ↦ last_i.0 ∙ sym last_j.0
    ]
  ];
}

pub with_text-old : (texts : List (List ℕ)) (text : List ℕ) (k : ℕ) → slice_get texts k ≡ Some text → texts ≡ with_text texts text
unfolding with_text
with_text-old texts text k e = sym (ap (λ (b : Bool). cond b texts (texts ++ text ∷ [])) (among texts text k e))

pub with_text-new : (texts : List (List ℕ)) (text : List ℕ) → StandsNowhere texts text → texts ++ text ∷ [] ≡ with_text texts text
unfolding with_text
with_text-new texts text none = sym (ap (λ (b : Bool). cond b texts (texts ++ text ∷ [])) (not_among texts text none))

-- ---- longer texts

pub Extends-trans : (a b c : List (List ℕ)) → Extends a b → Extends b c → Extends a c
Extends-trans a b c first second = record {
  added = first.added ++ second.added;
  is = second.is ∙ ap (λ (xs : List (List ℕ)). xs ++ second.added) first.is ∙ append_assoc a first.added second.added;
}

pub stands_longer : (old new : List (List ℕ)) → Extends old new → (n : ℕ) (text : List ℕ) → slice_get old n ≡ Some text → slice_get new n ≡ Some text
stands_longer old new longer n text e = ap (λ (xs : List (List ℕ)). slice_get xs n) longer.is ∙ in_longer old longer.added n text e

-- one text more extends the list, and so do several
with_text_extends : (texts : List (List ℕ)) (text : List ℕ) → Extends texts (with_text texts text)
unfolding with_text
with_text_extends texts text = by (list_any (bytes_eq text) texts)
  where
    by : (b : Bool) → Extends texts (cond b texts (texts ++ text ∷ []))
    by true = record { added = []; is = sym (append-nil texts) }
    by false = record { added = text ∷ []; is = refl }

pub with_texts_extends : (texts more : List (List ℕ)) → Extends texts (with_texts texts more)
with_texts_extends texts [] = record { added = []; is = sym (append-nil texts) }
with_texts_extends texts (text ∷ more) = Extends-trans texts (with_text texts text) (with_texts texts (text ∷ more)) (with_text_extends texts text) (with_texts_extends (with_text texts text) more)

pub with_texts-append : (texts more others : List (List ℕ)) → with_texts texts (more ++ others) ≡ with_texts (with_texts texts more) others
with_texts-append texts [] others = refl
with_texts-append texts (text ∷ more) others = with_texts-append (with_text texts text) more others

-- a longer list is too long if its front is
pub too_many_longer : (old new : List (List ℕ)) → Extends old new → AreTooMany old → AreTooMany new
too_many_longer old new longer many = omega (arith, ap (length {A = List ℕ}) longer.is, length-append old longer.added, many)

-- ---- texts that vectors own

-- numbered texts stay so when one that is not among them goes last
pub numbered_push : (texts : List (List ℕ)) (text : List ℕ) → AreNumbered texts → StandsNowhere texts text → length texts + 1 < 2 ^ 32 → AreNumbered (texts ++ text ∷ [])
numbered_push texts text numbered none room = record {
  distinct = distinct_push texts text numbered.distinct none;
  small = simp length-append (omega arith);
}
