-- Keys with numbers for their texts, against the keys that they stand for.
use Rattle.std.proofs.Common.{◌≡◌, ℕ, suc, ◌<◌, ◌+◌, List, [], ◌∷◌, ◌++◌, length, map, get_or, All, Option, Some, None, IfNone, Result, Ok, Err, OnErr, refl, sym, ◌∙◌, ap, subst, arith}
use Rattle.std.specs.List.{slice_get}
use Rattle.std.proofs.lemmas.Grind.{flat_map-append}
use Rattle.std.proofs.lemmas.List.{append-nil, length-append, length-map, map-append, get_or_append_left}
use Rattle.std.proofs.lemmas.List.Elements.{All-push}
use Rattle.std.proofs.lemmas.Option.{slice_get_within, slice_get-get_or, get_or_from_slice_get, same_Some}
use Rattle.list_laws.proofs.Places.{at_map, map_at}
use Rattle.jvm_model.specs.Lookups.{Signature}
use Rattle.program_index.specs.declared.numbered_key.NumberedKey.{NumberedKey}
use Rattle.program_index.specs.FirstPlaces.{IsFirstPlace, StandsNowhere}
use Rattle.program_index.specs.KeyPlaces.{spelled, HasTexts, AreSpelled, IsSpelledLast}
use Rattle.program_index.specs.Limits.{AreTooMany}
use Rattle.program_index.specs.MemberKeys.{Key, key_texts, signature_texts}
use Rattle.program_index.specs.TextNumbers.{different, with_texts, Extends}
use Rattle.program_index.proofs.TextPlaces.{with_texts-append}

-- ---- either outcome

pub if_none_more : {X : Type 0} (o : Option X) (P Q : Type 0) → (P → Q) → IfNone o P → IfNone o Q
if_none_more None P Q more h = more h
if_none_more (Some x) P Q more h = tt

pub if_none : {X : Type 0} (o : Option X) (P : Type 0) → P → IfNone o P
if_none None P h = h
if_none (Some x) P h = tt

pub on_err : {T E : Type 0} (r : Result T E) (P : Type 0) → P → OnErr r P
on_err (Ok x) P h = tt
on_err (Err e) P h = h

-- an error that is passed on is still the same
pub kept_error : {T E : Type 0} (r : Result T E) (d e k : E) → r ≡ Err d → d ≡ e → r ≡ Err k → e ≡ k
kept_error {T} {E} r d e k is same told =
    let both : ◌≡◌ {A = Result T E} (Err d) (Err k) = sym is ∙ told in
    let kind : d ≡ k = cc in
    sym same ∙ kind

-- ---- longer texts

text_longer : (old new : List (List ℕ)) → Extends old new → (n : ℕ) → n < length old → get_or new n [] ≡ get_or old n []
text_longer old new longer n lt = ap (λ (xs : List (List ℕ)). get_or xs n []) longer.is ∙ get_or_append_left old longer.added [] n lt

pub spelled_longer : (old new : List (List ℕ)) → Extends old new → (keys : List NumberedKey) → All (HasTexts old) keys → map (spelled new) keys ≡ map (spelled old) keys
spelled_longer old new longer [] all = refl
spelled_longer old new longer (k ∷ keys) all =
    let head : HasTexts old k = all 0 k (omega arith) in
    let name = text_longer old new longer k.name head.name in
    let descriptor = text_longer old new longer k.descriptor head.descriptor in
    let rest = spelled_longer old new longer keys (λ i d lt. all (suc i) d (omega arith)) in
    (λ i. record { class = k.class.0; signature = record { name = name i; descriptor = descriptor i } } ∷ rest i)

pub has_longer : (old new : List (List ℕ)) → Extends old new → (k : NumberedKey) → HasTexts old k → HasTexts new k
has_longer old new longer k has =
    let long : length new ≡ length old + length longer.added = ap length longer.is ∙ length-append old longer.added in
    record { name = omega (arith, has.name); descriptor = omega (arith, has.descriptor) }

pub all_longer : (old new : List (List ℕ)) → Extends old new → (keys : List NumberedKey) → All (HasTexts old) keys → All (HasTexts new) keys
all_longer old new longer keys all = λ i d lt. has_longer old new longer (get_or keys i d) (all i d lt)

-- ---- one key more

different_push : (keys : List Key) (key : Key) → with_texts (different (key_texts keys)) (key.signature.name ∷ key.signature.descriptor ∷ []) ≡ different (key_texts (keys ++ key ∷ []))
different_push keys key =
    let texts_of : Signature → List (List ℕ) = λ s. s.name ∷ s.descriptor ∷ [] in
    let one_more = ap signature_texts (map-append (λ (k : Key). k.signature) keys (key ∷ [])) in
    let last = flat_map-append texts_of (map (λ (k : Key). k.signature) keys) (key.signature ∷ []) in
    sym (with_texts-append [] (key_texts keys) (texts_of key.signature))
    ∙ ap different (sym (one_more ∙ last ∙ ap (λ (ts : List (List ℕ)). key_texts keys ++ ts) (append-nil (texts_of key.signature))))

-- the texts that are there when a key is added
abbrev pub with_key : List (List ℕ) → Key → List (List ℕ)
with_key texts key = with_texts texts (key.signature.name ∷ key.signature.descriptor ∷ [])

module _ (texts new : List (List ℕ)) (old places : List NumberedKey) (key : Key) (spelled_old : AreSpelled texts old) (longer : Extends texts new) (last : IsSpelledLast new old places key) where
  pub keys_push : map (spelled new) places ≡ map (spelled texts) old ++ key ∷ []
  keys_push =
      let before = spelled_longer texts new longer old spelled_old.has in
      let after = last.spells in
      ap (map (spelled new)) last.is ∙ map-append (spelled new) old (last.last ∷ []) ∙ (λ i. before i ++ after i ∷ [])

  pub spelled_push : new ≡ with_key texts key → AreSpelled new places
  spelled_push is = record {
    has = subst (All (HasTexts new)) (sym last.is) (All-push (HasTexts new) old last.last (all_longer texts new longer old spelled_old.has) last.has);
    each = is ∙ ap (λ (ts : List (List ℕ)). with_key ts key) spelled_old.each ∙ different_push (map (spelled texts) old) key ∙ ap (λ (ks : List Key). different (key_texts ks)) (sym keys_push);
  }

-- where the texts are too many with those of the key, they are too many
pub many_texts : (texts : List (List ℕ)) (keys : List NumberedKey) (view : List Key) (key : Key) → AreSpelled texts keys → map (spelled texts) keys ≡ view → AreTooMany (with_key texts key)
    → AreTooMany (different (key_texts (view ++ key ∷ [])))
many_texts texts keys view key are is many =
    let all : with_key texts key ≡ different (key_texts (view ++ key ∷ [])) =
    ap (λ (ts : List (List ℕ)). with_key ts key) are.each ∙ different_push (map (spelled texts) keys) key ∙ ap (λ (ks : List Key). different (key_texts (ks ++ key ∷ []))) is in
    subst (λ (ts : List (List ℕ)). AreTooMany ts) all many

pub many_keys : (texts : List (List ℕ)) (keys : List NumberedKey) (view : List Key) → map (spelled texts) keys ≡ view → AreTooMany keys → AreTooMany view
many_keys texts keys view is many = omega (arith, length-map keys (spelled texts), ap (length {A = Key}) is, many)

-- ---- the key that a key with numbers stands for

module _ (texts : List (List ℕ)) (keys : List NumberedKey) (all : All (HasTexts texts) keys) where
  has_at : (i : ℕ) (k : NumberedKey) → slice_get keys i ≡ Some k → HasTexts texts k
  has_at i k e = subst (HasTexts texts) (get_or_from_slice_get keys i k k e) (all i k (slice_get_within keys i k e))

  module _ (key : Key) where
    -- a key has a text that is not there
    pub no_name : StandsNowhere texts key.signature.name → StandsNowhere (map (spelled texts) keys) key
    no_name none = record {
      nowhere = λ i e.
          let found = map_at (spelled texts) keys i key e in
          let has = has_at i found.0 found.1 in
          none.nowhere found.0.name (slice_get-get_or texts found.0.name [] has.name ∙ ap (λ (k : Key). Some k.signature.name) found.2);
    }

    pub no_descriptor : StandsNowhere texts key.signature.descriptor → StandsNowhere (map (spelled texts) keys) key
    no_descriptor none = record {
      nowhere = λ i e.
          let found = map_at (spelled texts) keys i key e in
          let has = has_at i found.0 found.1 in
          none.nowhere found.0.descriptor (slice_get-get_or texts found.0.descriptor [] has.descriptor ∙ ap (λ (k : Key). Some k.signature.descriptor) found.2);
    }

  -- both of its texts are there, at one number each
  module _ (key : Key) (name descriptor : ℕ) (at_name : slice_get texts name ≡ Some key.signature.name) (at_descriptor : slice_get texts descriptor ≡ Some key.signature.descriptor)
      (only_name : (n : ℕ) → slice_get texts n ≡ Some key.signature.name → Some name ≡ Some n) (only_descriptor : (n : ℕ) → slice_get texts n ≡ Some key.signature.descriptor → Some descriptor ≡ Some n) where
    abbrev numbered : NumberedKey
    numbered = record { class = record { 0 = key.class }; name = name; descriptor = descriptor }

    stands_for : spelled texts numbered ≡ key
    stands_for =
        let n = get_or_from_slice_get texts name key.signature.name [] at_name in
        let d = get_or_from_slice_get texts descriptor key.signature.descriptor [] at_descriptor in
        (λ i. record { class = key.class; signature = record { name = n i; descriptor = d i } })

    only_numbered : (k : NumberedKey) → HasTexts texts k → spelled texts k ≡ key → k ≡ numbered
    only_numbered k has is =
        let class = ap (λ (x : Key). x.class) is in
        let n = sym (same_Some _ _ (only_name k.name (slice_get-get_or texts k.name [] has.name ∙ ap (λ (x : Key). Some x.signature.name) is))) in
        let d = sym (same_Some _ _ (only_descriptor k.descriptor (slice_get-get_or texts k.descriptor [] has.descriptor ∙ ap (λ (x : Key). Some x.signature.descriptor) is))) in
        (λ i. record { class = record { 0 = class i }; name = n i; descriptor = d i })

    back : (i : ℕ) → slice_get (map (spelled texts) keys) i ≡ Some key → slice_get keys i ≡ Some numbered
    back i e =
        let found = map_at (spelled texts) keys i key e in
        found.1 ∙ ap (λ (k : NumberedKey). Some k) (only_numbered found.0 (has_at i found.0 found.1) found.2)

    pub first_spelled : (place : ℕ) → IsFirstPlace keys numbered place → IsFirstPlace (map (spelled texts) keys) key place
    first_spelled place is = record {
      stands = at_map (spelled texts) keys place numbered is.stands ∙ ap (λ (k : Key). Some k) stands_for;
      before = λ i lt e. is.before i lt (back i e);
    }

    pub nowhere_spelled : StandsNowhere keys numbered → StandsNowhere (map (spelled texts) keys) key
    nowhere_spelled none = record { nowhere = λ i e. none.nowhere i (back i e) }
