-- Patches in lists, one for each name of a class that has patches.
use Rattle.std.proofs.Common.{◌≡◌, ℕ, ◌<◌, Bool, true, false, cond, ◌&&◌, List, [], ◌∷◌, ◌++◌, length, length-set, set, Some, refl, sym, ◌∙◌, ap, arith, ◌⊎◌, inl, inr}
use Rattle.std.specs.List.{slice_get, list_any}
use Rattle.std.specs.Str.{bytes_eq}
use Rattle.std.proofs.lemmas.Bool.{cases_eq, false≢true}
use Rattle.std.proofs.lemmas.List.{append-nil, length-append}
use Rattle.std.proofs.lemmas.Option.{slice_get_within, same_Some}
use Rattle.std.proofs.lemmas.Slice.Eq.{bytes_eq-Decides}
use Rattle.jvm_model.specs.declared.stub.StubClass.{StubClass}
use Rattle.program_index.specs.FirstPlaces.{StandsNowhere}
use Rattle.program_index.specs.TextNumbers.{with_text}
use Rattle.program_index.proofs.ListPlaces.{in_longer, pushed_at, push_cases}
use Rattle.program_index.proofs.OrderPlaces.{at_set, past_set}
use Rattle.program_index.proofs.TextPlaces.{among, distinct_push}
use Rattle.program_linking.specs.Patching.{patches_for, patch_for}
use Rattle.program_linking.specs.PatchLists.{AreListed}
use Rattle.program_linking.proofs.Building.{patches_split}

-- ---- the patches of a name when one stub more is there

pub patches_more : (name : List ℕ) (stubs : List StubClass) (s : StubClass) → patches_for name (stubs ++ s ∷ []) ≡ patches_for name stubs ++ patch_for name s
patches_more name [] s = patches_split name s [] ∙ append-nil (patch_for name s)
patches_more name (x ∷ stubs) s = by (patches_more name stubs s) (x.is_patch && bytes_eq x.name name)
  where
    by : patches_for name (stubs ++ s ∷ []) ≡ patches_for name stubs ++ patch_for name s → (b : Bool) → cond b (x ∷ patches_for name (stubs ++ s ∷ [])) (patches_for name (stubs ++ s ∷ [])) ≡ cond b (x ∷ patches_for name stubs) (patches_for name stubs) ++ patch_for name s
    by e true = ap (λ (ps : List StubClass). x ∷ ps) e
    by e false = e

no_patch : (name : List ℕ) (s : StubClass) → s.is_patch && bytes_eq s.name name ≡ false → patch_for name s ≡ []
no_patch name s e = ap (λ (b : Bool). cond b (s ∷ []) []) e

pub patches_same : (name : List ℕ) (stubs : List StubClass) (s : StubClass) → s.is_patch && bytes_eq s.name name ≡ false → patches_for name (stubs ++ s ∷ []) ≡ patches_for name stubs
patches_same name stubs s e = patches_more name stubs s ∙ ap (λ (ps : List StubClass). patches_for name stubs ++ ps) (no_patch name s e) ∙ append-nil (patches_for name stubs)

pub patches_one : (name : List ℕ) (stubs : List StubClass) (s : StubClass) → s.is_patch ≡ true → s.name ≡ name → patches_for name (stubs ++ s ∷ []) ≡ patches_for name stubs ++ s ∷ []
patches_one name stubs s is same =
    let both : s.is_patch && bytes_eq s.name name ≡ true = ap (λ (b : Bool). b && bytes_eq s.name name) is ∙ (bytes_eq-Decides s.name name).1 same in
    patches_more name stubs s ∙ ap (λ (b : Bool). patches_for name stubs ++ cond b (s ∷ []) []) both

-- a stub of another name
other_name : (name : List ℕ) (s : StubClass) → (s.name ≡ name → ⊥) → s.is_patch && bytes_eq s.name name ≡ false
other_name name s differ = by s.is_patch (bytes_eq s.name name) refl
  where
    by : (a b : Bool) → bytes_eq s.name name ≡ b → a && b ≡ false
    by false b e = refl
    by true false e = refl
    by true true e = absurd (differ ((bytes_eq-Decides s.name name).0 e))

-- ---- lists with one stub more

pub listed_patch : (stubs : List StubClass) (s : StubClass) (names : List (List ℕ)) (lists : List (List StubClass)) (place : ℕ) (list : List StubClass)
    → s.is_patch ≡ true → slice_get names place ≡ Some s.name → slice_get lists place ≡ Some list → AreListed stubs names lists
    → AreListed (stubs ++ s ∷ []) names (set lists place (list ++ s ∷ []))
listed_patch stubs s names lists place list patch stands at_place are = record {
  distinct = are.distinct;
  count = simp length-set are.count;
  listed = λ k name at_name. elim (cases_eq k place) [
    | inl here ↦
        let same : s.name ≡ name = same_Some _ _ (sym stands ∙ ap (slice_get names) (sym here) ∙ at_name) in
        let was : list ≡ patches_for name stubs = same_Some _ _ (sym at_place ∙ are.listed place name (ap (slice_get names) (sym here) ∙ at_name)) in
        ap (slice_get (set lists place (list ++ s ∷ []))) here
        ∙ at_set lists place (list ++ s ∷ []) (slice_get_within lists place list at_place)
        ∙ ap Some (ap (λ (ps : List StubClass). ps ++ s ∷ []) was ∙ sym (patches_one name stubs s patch same))
    | inr elsewhere ↦
        let differ : s.name ≡ name → ⊥ = λ same. elsewhere (are.distinct.one_place k place s.name (at_name ∙ ap Some (sym same)) stands) in
        past_set lists place k (list ++ s ∷ []) elsewhere ∙ are.listed k name at_name ∙ ap Some (sym (patches_same name stubs s (other_name name s differ)))
  ];
  others = λ name none.
      let differ : s.name ≡ name → ⊥ = λ same. none.nowhere place (stands ∙ ap Some same) in
      patches_same name stubs s (other_name name s differ) ∙ are.others name none;
}

-- ---- lists with one name more, or with none

nowhere_else : (texts : List (List ℕ)) (text : List ℕ) → list_any (bytes_eq text) texts ≡ false → StandsNowhere texts text
nowhere_else texts text e = record { nowhere = λ k at_k. false≢true (sym e ∙ among texts text k at_k) }

pub listed_new : (stubs : List StubClass) (names : List (List ℕ)) (lists : List (List StubClass)) (name : List ℕ) → StandsNowhere names name → AreListed stubs names lists
    → AreListed stubs (names ++ name ∷ []) (lists ++ [] ∷ [])
listed_new stubs names lists name none are = record {
  distinct = distinct_push names name are.distinct none;
  count = let e = are.count in simp length-append (omega (arith, e));
  listed = λ place x at_x. elim (push_cases names name place x at_x) [
    | inl old ↦ in_longer lists ([] ∷ []) place (patches_for x stubs) (are.listed place x old)
    | inr last ↦
        let at_last : place ≡ length lists = last.0 ∙ sym are.count in
        ap (slice_get (lists ++ [] ∷ [])) at_last ∙ pushed_at lists [] ∙ ap Some (sym (ap (λ (t : List ℕ). patches_for t stubs) last.1 ∙ are.others name none))
  ];
  others = λ x nowhere. are.others x (record { nowhere = λ k at_k. nowhere.nowhere k (in_longer names (name ∷ []) k x at_k) });
}

-- a text went last exactly where its place is past the texts that were there
module _ (old new : List (List ℕ)) (text : List ℕ) (place : ℕ) (is : new ≡ with_text old text) (stands : slice_get new place ≡ Some text) where
  both : (b : Bool) → list_any (bytes_eq text) old ≡ b → ((new ≡ old) × (place < length old)) ⊎ ((new ≡ old ++ text ∷ []) × (StandsNowhere old text) × (place ≡ length old))
  unfolding with_text
  both true e =
      let same : new ≡ old = is ∙ ap (λ (b : Bool). cond b old (old ++ text ∷ [])) e in
      inl (same, slice_get_within old place text (ap (λ (xs : List (List ℕ)). slice_get xs place) (sym same) ∙ stands))
  both false e =
      let more : new ≡ old ++ text ∷ [] = is ∙ ap (λ (b : Bool). cond b old (old ++ text ∷ [])) e in
      let none = nowhere_else old text e in
      elim (push_cases old text place text (ap (λ (xs : List (List ℕ)). slice_get xs place) (sym more) ∙ stands)) [
        | inl was ↦ absurd (none.nowhere place was)
        | inr last ↦ inr (more, none, last.0)
      ]

  pub known_name : (length old ≡ place → ⊥) → new ≡ old
  known_name known = elim (both (list_any (bytes_eq text) old) refl) [
    | inl was ↦ was.0
    | inr last ↦ absurd (known (sym last.2))
  ]

  pub new_name : place ≡ length old → (new ≡ old ++ text ∷ []) × (StandsNowhere old text)
  new_name past = elim (both (list_any (bytes_eq text) old) refl) [
    | inl was ↦ absurd (omega (arith, was.1, past))
    | inr last ↦ (last.0, last.1)
  ]

  pub within_old : (length old ≡ place → ⊥) → place < length old
  within_old known = elim (both (list_any (bytes_eq text) old) refl) [
    | inl was ↦ was.1
    | inr last ↦ absurd (known (sym last.2))
  ]
