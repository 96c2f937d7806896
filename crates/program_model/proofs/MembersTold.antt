-- The keys and the places of the members of all classes: one class more, the first member of a key, and what is shown.
use Rattle.std.proofs.Common.{◌≡◌, ◌≢◌, inl, inr, ℕ, suc, ◌+◌, ◌<◌, ◌≤◌, ◌^◌, List, [], ◌∷◌, ◌++◌, length, map, take, drop, get_or, All, AllPairs, Contains, Some, option_map, unwrap_or, refl, sym, ap, ◌∙◌, subst, arith, append_assoc, length-append}
use Rattle.std.specs.List.{flat_map, slice_get}
use Rattle.std.proofs.lemmas.Bool.{cases_lt}
use Rattle.std.proofs.lemmas.Grind.{flat_map-append}
use Rattle.std.proofs.lemmas.List.{length-map, length-take-le, map-append, take-append-drop}
use Rattle.std.proofs.lemmas.List.Elements.{All-contains}
use Rattle.std.proofs.lemmas.List.FromFn.{map-range_with_len_more}
use Rattle.std.proofs.lemmas.Option.{slice_get_within, slice_get-get_or, get_or_from_slice_get}
use Rattle.jvm_model.specs.declared.program.Origin.{Origin}
use Rattle.jvm_model.specs.LinkedPrograms.{class_names}
use Rattle.jvm_model.specs.Linking.{class_from, program_from}
use Rattle.jvm_model.specs.Lookups.{Signature, lent_signature}
use Rattle.jvm_model.specs.Programs.{Class}
use Rattle.program_index.specs.FirstPlaces.{StandsNowhere}
use Rattle.program_index.specs.Limits.{AreTooMany}
use Rattle.program_index.specs.MemberKeys.{Key, signature_texts}
use Rattle.program_index.specs.TextNumbers.{different, with_texts}
use Rattle.program_index.proofs.OrderPlaces.{stands_below}
use Rattle.program_index.proofs.ListPlaces.{in_longer, pushed_at, at_map}
use Rattle.program_index.proofs.TextPlaces.{too_many_longer, with_texts_extends, with_texts-append}
use Rattle.program_model.specs.declared.member_table.MemberPlace.{MemberPlace}
use Rattle.program_model.specs.declared.member_view.MemberView.{MemberView}
use Rattle.program_model.specs.Declarations.{Declaration, IsDeclared, IsShownAs}
use Rattle.program_model.specs.MemberLists.{AreTooManyKeys, AreTooManyMembers, key_in, places_in, IsPlaceOf, IsKeyOf, TellEach}
use Rattle.program_model.specs.Numbers.{name_at}
use Rattle.program_model.proofs.Pieces.{among_at, take_one_more, map_one_more, one_more_piece, tell_both, tell_each, tell_places, tell_more}

-- ---- the members of one class are added one by one

abbrev pub key_shown : MemberView → Key
key_shown v = record { class = v.class.0; signature = lent_signature v.signature }

shown_is : (class : ℕ) (d : Declaration) (v : MemberView) → IsShownAs class d v → key_shown v ≡ key_in class d
shown_is class d v shown =
    let number = shown.class_number in
    let same = sym shown.same_signature in
    (λ i. record { class = number i; signature = same i })

pushed : {X : Type 0} (start old added more new : List X) (x : X) → old ≡ start ++ added → new ≡ old ++ x ∷ [] → more ≡ added ++ x ∷ [] → new ≡ start ++ more
pushed start old added more new x is_old is_new is_more = is_new ∙ ap (λ xs. xs ++ x ∷ []) is_old ∙ append_assoc start added (x ∷ []) ∙ ap (λ xs. start ++ xs) (sym is_more)

pub keys_added : (class : ℕ) (ds : List Declaration) (place : ℕ) (d : Declaration) (v : MemberView) (start old new : List Key)
    → slice_get ds place ≡ Some d → IsShownAs class d v → old ≡ start ++ map (key_in class) (take place ds) → new ≡ old ++ key_shown v ∷ []
    → new ≡ start ++ map (key_in class) (take (place + 1) ds)
keys_added class ds place d v start old new there shown is_old is_new =
    let last = is_new ∙ ap (λ (k : Key). old ++ k ∷ []) (shown_is class d v shown) in
    pushed start old (map (key_in class) (take place ds)) (map (key_in class) (take (place + 1) ds)) new (key_in class d) is_old last (map_one_more (key_in class) ds place d there)

pub places_added : (class : ℕ) (d : Declaration) (v : MemberView) (place : ℕ) (start old new : List MemberPlace)
    → IsShownAs class d v → old ≡ start ++ places_in class place → new ≡ old ++ record { class = v.class; place = place } ∷ [] → new ≡ start ++ places_in class (place + 1)
places_added class d v place start old new shown is_old is_new =
    let at : ℕ → MemberPlace = λ n. record { class = record { 0 = class }; place = n } in
    let last = is_new ∙ ap (λ (c : ℕ). old ++ record { class = record { 0 = c }; place = place } ∷ []) shown.class_number in
    let count : 0 + place ≡ place = omega arith in
    pushed start old (places_in class place) (places_in class (place + 1)) new (at place) is_old last (map-range_with_len_more at 0 place place count)

-- ---- too many of them

texts_more : (ss ts : List Signature) → AreTooMany (different (signature_texts ss)) → AreTooMany (different (signature_texts (ss ++ ts)))
texts_more ss ts many =
    let parts = flat_map-append (λ (s : Signature). s.name ∷ s.descriptor ∷ []) ss ts in
    let whole : different (signature_texts (ss ++ ts)) ≡ with_texts (different (signature_texts ss)) (signature_texts ts) =
    ap different parts ∙ with_texts-append [] (signature_texts ss) (signature_texts ts) in
    subst (λ (xs : List (List ℕ)). AreTooMany xs) (sym whole) (too_many_longer _ _ (with_texts_extends (different (signature_texts ss)) (signature_texts ts)) many)

pub many_keys_more : (keys others : List Key) → AreTooManyKeys keys → AreTooManyKeys (keys ++ others)
many_keys_more keys others (inl many) = inl (omega (arith, length-append keys others, many))
many_keys_more keys others (inr many) =
    let of : Key → Signature = λ k. k.signature in
    inr (subst (λ (ss : List Signature). AreTooMany (different (signature_texts ss))) (sym (map-append of keys others)) (texts_more (map of keys) (map of others) many))

pub many_members_more : (ds others : List Declaration) → AreTooManyMembers ds → AreTooManyMembers (ds ++ others)
many_members_more ds others (inl many) = inl (omega (arith, length-append ds others, many))
many_members_more ds others (inr many) =
    let of : Declaration → Signature = λ d. d.signature in
    inr (subst (λ (ss : List Signature). AreTooMany (different (signature_texts ss))) (sym (map-append of ds others)) (texts_more (map of ds) (map of others) many))

same_signatures : (ds : List Declaration) (keys : List Key) → length keys ≡ length ds
    → ((n : ℕ) (d : Declaration) (k : Key) → slice_get ds n ≡ Some d → slice_get keys n ≡ Some k → k.signature ≡ d.signature)
    → map (λ (k : Key). k.signature) keys ≡ map (λ (d : Declaration). d.signature) ds
same_signatures [] [] long each = refl
same_signatures [] (k ∷ keys) long each = absurd (omega arith)
same_signatures (d ∷ ds) [] long each = absurd (omega arith)
same_signatures (d ∷ ds) (k ∷ keys) long each =
    let first = each 0 d k refl refl in
    let rest = same_signatures ds keys (omega arith) (λ n. each (suc n)) in
    (λ i. first i ∷ rest i)

-- with the first members of a class there are too many, and so with all
pub many_added : (class : ℕ) (ds : List Declaration) (n : ℕ) (start keys : List Key) → keys ≡ start ++ map (key_in class) (take n ds) → AreTooManyKeys keys → AreTooManyKeys (start ++ map (key_in class) ds)
many_added class ds n start keys is many =
    let first = map (key_in class) (take n ds) in
    let rest = map (key_in class) (drop n ds) in
    let parts = ap (map (key_in class)) (sym (take-append-drop n ds)) ∙ map-append (key_in class) (take n ds) (drop n ds) in
    let whole : start ++ map (key_in class) ds ≡ keys ++ rest = ap (λ (ks : List Key). start ++ ks) parts ∙ sym (append_assoc start first rest) ∙ ap (λ (ks : List Key). ks ++ rest) (sym is) in
    subst AreTooManyKeys (sym whole) (many_keys_more keys rest many)

-- so many members of one class
pub many_places : (class : ℕ) (ds : List Declaration) (place : ℕ) (start : List Key) → place < length ds → 2 ^ 32 ≤ place + 1 → AreTooManyKeys (start ++ map (key_in class) ds)
many_places class ds place start within many = inl (omega (arith, length-append start (map (key_in class) ds), length-map ds (key_in class), within, many))

module _ (members : Origin → List Declaration) (order : List Origin) where
  -- of a front of the classes, and so of all
  pub many_members : (k : ℕ) (keys : List Key) → TellEach (IsKeyOf members (take k order)) (flat_map members (take k order)) keys → AreTooManyKeys keys → AreTooManyMembers (flat_map members order)
  many_members k keys told many =
      let front = flat_map members (take k order) in
      let rest = flat_map members (drop k order) in
      let whole : flat_map members order ≡ front ++ rest = ap (flat_map members) (sym (take-append-drop k order)) ∙ flat_map-append members (take k order) (drop k order) in
      let same = same_signatures front keys told.as_many (λ n d key at_d at_key. ap (λ (x : Key). x.signature) (told.each n d key at_d at_key).is) in
      let of_front : AreTooManyMembers front = elim many [
        | inl long ↦ inl (omega (arith, told.as_many, long))
        | inr texts ↦ inr (subst (λ (ss : List Signature). AreTooMany (different (signature_texts ss))) same texts)
      ] in
      subst AreTooManyMembers (sym whole) (many_members_more front rest of_front)

-- ---- one class more

module _ (members : Origin → List Declaration) (order : List Origin) (k : ℕ) (o : Origin) (there : slice_get order k ≡ Some o) where
  front_more : take (k + 1) order ≡ take k order ++ o ∷ []
  front_more = take_one_more order k o there

  last_there : slice_get (take k order ++ o ∷ []) k ≡ Some o
  last_there =
      let within : k ≤ length order = omega (arith, slice_get_within order k o there) in
      ap (slice_get (take k order ++ o ∷ [])) (sym (length-take-le k order within)) ∙ pushed_at (take k order) o

  pub keys_more : (keys : List Key) → TellEach (IsKeyOf members (take k order)) (flat_map members (take k order)) keys
      → TellEach (IsKeyOf members (take (k + 1) order)) (flat_map members (take (k + 1) order)) (keys ++ map (key_in k) (members o))
  keys_more keys told =
      let front = take k order in
      let longer = front ++ o ∷ [] in
      let Tells : Declaration → Key → Type 0 = IsKeyOf members longer in
      let old = tell_more (IsKeyOf members front) Tells (flat_map members front) keys
      (λ d key t. record {
        of_class = record { origin = t.of_class.origin; stands = in_longer front (o ∷ []) key.class t.of_class.origin t.of_class.stands; among = t.of_class.among };
        is = t.is;
      }) told in
      let own = tell_each Tells (key_in k) (members o)
      (λ n d e. record { of_class = record { origin = o; stands = last_there; among = among_at (members o) n d e }; is = refl }) in
      let both = tell_both Tells (flat_map members front) (members o) keys (map (key_in k) (members o)) old own in
      let whole = subst (λ (ds : List Declaration). TellEach Tells ds (keys ++ map (key_in k) (members o))) (sym (one_more_piece members front o)) both in
      subst (λ (os : List Origin). TellEach (IsKeyOf members os) (flat_map members os) (keys ++ map (key_in k) (members o))) (sym front_more) whole

  pub places_more : (places : List MemberPlace) → TellEach (IsPlaceOf members (take k order)) (flat_map members (take k order)) places
      → TellEach (IsPlaceOf members (take (k + 1) order)) (flat_map members (take (k + 1) order)) (places ++ places_in k (length (members o)))
  places_more places told =
      let front = take k order in
      let longer = front ++ o ∷ [] in
      let Tells : Declaration → MemberPlace → Type 0 = IsPlaceOf members longer in
      let old = tell_more (IsPlaceOf members front) Tells (flat_map members front) places
      (λ d p t. record { origin = t.origin; class = in_longer front (o ∷ []) p.class.0 t.origin t.class; stands = t.stands }) told in
      let own = tell_places Tells (λ n. record { class = record { 0 = k }; place = n }) (members o) (λ n d e. record { origin = o; class = last_there; stands = e }) in
      let both = tell_both Tells (flat_map members front) (members o) places (places_in k (length (members o))) old own in
      let whole = subst (λ (ds : List Declaration). TellEach Tells ds (places ++ places_in k (length (members o)))) (sym (one_more_piece members front o)) both in
      subst (λ (os : List Origin). TellEach (IsPlaceOf members os) (flat_map members os) (places ++ places_in k (length (members o)))) (sym front_more) whole

-- ---- the class of a number

pub named_at : (order : List Origin) (k : ℕ) (o : Origin) → slice_get order k ≡ Some o → slice_get (class_names (program_from order)) k ≡ Some (class_from o).name
named_at order k o e = at_map (λ (c : Class). c.name) (map class_from order) k (class_from o) (at_map class_from order k o e)

pub name_is : (order : List Origin) (k : ℕ) (o : Origin) → slice_get order k ≡ Some o → name_at (program_from order) k ≡ (class_from o).name
name_is order k o e = ap (λ c. unwrap_or (option_map (λ (c : Class). c.name) c) []) (at_map class_from order k o e)

-- different names stand at different places
pub one_place : (xs : List (List ℕ)) → AllPairs (λ x y. x ≢ y) xs → (i j : ℕ) (x y : List ℕ) → slice_get xs i ≡ Some x → slice_get xs j ≡ Some y → x ≡ y → i ≡ j
one_place xs differ i j x y at_i at_j same =
    let is_i = get_or_from_slice_get xs i x [] at_i in
    let is_j = get_or_from_slice_get xs j y [] at_j in
    elim (cases_lt i j) [
      | inl lt ↦ absurd (differ i j [] lt (slice_get_within xs j y at_j) (is_i ∙ same ∙ sym is_j))
      | inr ge ↦ elim (cases_lt j i) [
        | inl lt ↦ absurd (differ j i [] lt (slice_get_within xs i x at_i) (is_j ∙ sym same ∙ sym is_i))
        | inr le ↦ omega arith
      ]
    ]

-- ---- the first member of a key

module _ (members : Origin → List Declaration) (of_class : (o : Origin) → All (λ (d : Declaration). d.class ≡ (class_from o).name) (members o))
    (order : List Origin) (keys : List Key) (told : TellEach (IsKeyOf members order) (flat_map members order) keys) where
  of_named : (o : Origin) (d : Declaration) → Contains (members o) d → d.class ≡ (class_from o).name
  of_named o d among = All-contains (λ (x : Declaration). x.class ≡ (class_from o).name) (members o) d (of_class o) among

  pub declared_at : (class : ℕ) (s : Signature) (n : ℕ) → slice_get keys n ≡ Some (record { class = class; signature = s })
      → IsDeclared (flat_map members order) (name_at (program_from order) class) s n
  declared_at class s n e =
      let key : Key = record { class = class; signature = s } in
      let within : n < length (flat_map members order) = omega (arith, told.as_many, slice_get_within keys n key e) in
      let d = stands_below (flat_map members order) n within in
      let t = told.each n d.0 key d.1 e in
      let o = t.of_class.origin in
      record {
        declaration = d.0;
        stands = d.1;
        of_class = of_named o d.0 t.of_class.among ∙ sym (name_is order class o t.of_class.stands);
        is = sym (ap (λ (x : Key). x.signature) t.is);
      }

  pub declared_nowhere : (class : ℕ) (s : Signature) → AllPairs (λ x y. x ≢ y) (class_names (program_from order)) → class < length order → StandsNowhere keys (record { class = class; signature = s })
      → (n : ℕ) → IsDeclared (flat_map members order) (name_at (program_from order) class) s n → ⊥
  declared_nowhere class s differ within none n declared =
      let d = declared.declaration in
      let long : n < length keys = omega (arith, told.as_many, slice_get_within (flat_map members order) n d declared.stands) in
      let key = stands_below keys n long in
      let t = told.each n d key.0 declared.stands key.1 in
      let o = t.of_class.origin in
      let there = stands_below order class within in
      let same = sym (of_named o d t.of_class.among) ∙ declared.of_class ∙ name_is order class there.0 there.1 in
      let number = one_place (class_names (program_from order)) differ key.0.class class (class_from o).name (class_from there.0).name
      (named_at order key.0.class o t.of_class.stands) (named_at order class there.0 there.1) same in
      let signature = declared.is in
      let is_key : key.0 ≡ record { class = class; signature = s } = t.is ∙ (λ i. record { class = number i; signature = signature i }) in
      none.nowhere n (key.1 ∙ ap (λ (k : Key). Some k) is_key)

-- ---- what stands at a number

place_of_number : (members : Origin → List Declaration) (order : List Origin) (places : List MemberPlace) → TellEach (IsPlaceOf members order) (flat_map members order) places
    → (n : ℕ) (d : Declaration) (default : MemberPlace) → slice_get (flat_map members order) n ≡ Some d → IsPlaceOf members order d (get_or places n default)
place_of_number members order places told n d default e =
    let within : n < length places = omega (arith, told.as_many, slice_get_within (flat_map members order) n d e) in
    told.each n d (get_or places n default) e (slice_get-get_or places n default within)

pub place_read : (members : Origin → List Declaration) (order : List Origin) (places : List MemberPlace) → TellEach (IsPlaceOf members order) (flat_map members order) places
    → (n : ℕ) (d : Declaration) (place : MemberPlace) → slice_get (flat_map members order) n ≡ Some d → place ≡ get_or places n place → IsPlaceOf members order d place
place_read members order places told n d place e is = subst (IsPlaceOf members order d) (sym is) (place_of_number members order places told n d place e)

pub view_below : (order : List Origin) (class : ℕ) (d : Declaration) (v : MemberView) (o : Origin) → slice_get order class ≡ Some o → IsShownAs class d v → v.class.0 < length (map class_from order)
view_below order class d v o there shown = omega (arith, length-map order class_from, slice_get_within order class o there, shown.class_number)
