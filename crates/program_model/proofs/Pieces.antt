-- Lists of lists, end to end; and lists that tell of what stands in another, item by item.
use Rattle.std.proofs.Common.{◌≡◌, inl, inr, ℕ, zero, suc, ◌+◌, ◌-◌, ◌<◌, List, [], ◌∷◌, ◌++◌, length, map, take, get_or, All, Contains, Some, refl, sym, ap, ◌∙◌, subst, arith, length-append, add-zero}
use Rattle.std.specs.List.{enumerate_from, flat_map, range_with_len, slice_get}
use Rattle.std.proofs.lemmas.Bool.{cases_lt}
use Rattle.std.proofs.lemmas.Grind.{flat_map-append}
use Rattle.std.proofs.lemmas.List.{append-nil, length-map, take_more, map_more}
use Rattle.std.proofs.lemmas.List.FromFn.{length-map-range_with_len, get_or-map-range_with_len}
use Rattle.std.proofs.lemmas.Option.{slice_get_within, slice_get_read, slice_get-get_or, get_or_from_slice_get, same_Some, none-some}
use Rattle.program_model.specs.MemberLists.{TellEach}
use Rattle.program_index.proofs.ListPlaces.{at_map}
use Rattle.program_index.proofs.OrderPlaces.{all_at}

-- ---- what stands at a place

pub among_at : {X : Type 0} (xs : List X) (k : ℕ) (x : X) → slice_get xs k ≡ Some x → Contains xs x
among_at xs k x e = (k, slice_get_within xs k x e, get_or_from_slice_get xs k x x e)

pub place_among : {X : Type 0} (xs : List X) (x : X) → Contains xs x → (k : ℕ) × (slice_get xs k ≡ Some x)
place_among xs x (k, lt, is) = (k, slice_get_read xs (length xs) k x refl lt (sym is))

pub take_one_more : {X : Type 0} (xs : List X) (k : ℕ) (x : X) → slice_get xs k ≡ Some x → take (k + 1) xs ≡ take k xs ++ x ∷ []
take_one_more xs k x e = take_more xs k x (slice_get_within xs k x e) ∙ ap (λ y. take k xs ++ y ∷ []) (get_or_from_slice_get xs k x x e)

pub map_one_more : {X Y : Type 0} (f : X → Y) (xs : List X) (k : ℕ) (x : X) → slice_get xs k ≡ Some x → map f (take (k + 1) xs) ≡ map f (take k xs) ++ f x ∷ []
map_one_more f xs k x e = map_more f xs k x (slice_get_within xs k x e) ∙ ap (λ y. map f (take k xs) ++ f y ∷ []) (get_or_from_slice_get xs k x x e)

at_left : {X : Type 0} (xs ys : List X) (k : ℕ) → k < length xs → slice_get (xs ++ ys) k ≡ slice_get xs k
at_left [] ys k lt = absurd (omega arith)
at_left (x ∷ xs) ys zero lt = refl
at_left (x ∷ xs) ys (suc k) lt = at_left xs ys k (omega arith)

at_right : {X : Type 0} (xs ys : List X) (n k : ℕ) → n ≡ length xs + k → slice_get (xs ++ ys) n ≡ slice_get ys k
at_right [] ys n k e = let same : n ≡ k = omega arith in ap (slice_get ys) same
at_right (x ∷ xs) ys zero k e = absurd (omega arith)
at_right (x ∷ xs) ys (suc n) k e = at_right xs ys n k (omega arith)

-- what stands at a place of a list with its places
pub enumerated_at : {X : Type 0} (n : ℕ) (xs : List X) (k : ℕ) (p : ℕ × X) → slice_get (enumerate_from n xs) k ≡ Some p → (p.0 ≡ n + k) × (slice_get xs k ≡ Some p.1)
enumerated_at n [] k p e = absurd (none-some p e)
enumerated_at {X} n (x ∷ xs) zero p e =
    let same = same_Some (n, x) p e in
    (sym (ap (λ (q : ℕ × X). q.0) same) ∙ sym (add-zero n), ap (λ (q : ℕ × X). Some q.1) same)
enumerated_at n (x ∷ xs) (suc k) p e =
    let rest = enumerated_at (n + 1) xs k p e in
    (omega (arith, rest.0), rest.1)

-- ---- the piece in which an item stands

pub record InPiece {X M : Type 0} (f : X → List M) (xs : List X) (n : ℕ) (m : M) : Type 0 where
  pub piece : ℕ
  pub place : ℕ
  pub of : X
  pub there : slice_get xs piece ≡ Some of
  pub stands : slice_get (f of) place ≡ Some m
  pub number : n ≡ length (flat_map f (take piece xs)) + place

pub in_piece : {X M : Type 0} (f : X → List M) (xs : List X) (n : ℕ) (m : M) → slice_get (flat_map f xs) n ≡ Some m → InPiece f xs n m
in_piece f [] n m e = absurd (none-some m e)
in_piece f (x ∷ xs) n m e = elim (cases_lt n (length (f x))) [
  | inl lt ↦ record {
    piece = zero;
    place = n;
    of = x;
    there = refl;
    stands = sym (at_left (f x) (flat_map f xs) n lt) ∙ e;
    number = omega arith;
  }
  | inr ge ↦
      let k = n - length (f x) in
      let is : n ≡ length (f x) + k = omega arith in
      let rest = in_piece f xs k m (sym (at_right (f x) (flat_map f xs) n k is) ∙ e) in
      record {
        piece = suc rest.piece;
        place = rest.place;
        of = rest.of;
        there = rest.there;
        stands = rest.stands;
        number = omega (arith, length-append (f x) (flat_map f (take rest.piece xs)), rest.number);
      }
]

pub one_more_piece : {X M : Type 0} (f : X → List M) (xs : List X) (x : X) → flat_map f (xs ++ x ∷ []) ≡ flat_map f xs ++ f x
one_more_piece f xs x = flat_map-append f xs (x ∷ []) ∙ ap (λ ms. flat_map f xs ++ ms) (append-nil (f x))

-- an item of a piece stands after those of the earlier pieces
pub from_piece : {X M : Type 0} (f : X → List M) (xs : List X) (k j : ℕ) (x : X) (m : M) → slice_get xs k ≡ Some x → slice_get (f x) j ≡ Some m
    → slice_get (flat_map f xs) (length (flat_map f (take k xs)) + j) ≡ Some m
from_piece f [] k j x m e stands = absurd (none-some x e)
from_piece {X} {M} f (y ∷ xs) zero j x m e stands =
    let here : slice_get (f y) j ≡ Some m = ap (λ (z : X). slice_get (f z) j) (same_Some y x e) ∙ stands in
    let first : 0 + j ≡ j = omega arith in
    ap (slice_get (f y ++ flat_map f xs)) first ∙ at_left (f y) (flat_map f xs) j (slice_get_within (f y) j m here) ∙ here
from_piece f (y ∷ xs) (suc k) j x m e stands =
    let long = length-append (f y) (flat_map f (take k xs)) in
    at_right (f y) (flat_map f xs) (length (f y ++ flat_map f (take k xs)) + j) (length (flat_map f (take k xs)) + j) (omega (arith, long))
    ∙ from_piece f xs k j x m e stands

-- what holds of the items of each piece holds of all
pub each_piece : {X M : Type 0} (P : M → Type 0) (f : X → List M) (xs : List X) → All (λ x. All P (f x)) xs → All P (flat_map f xs)
each_piece P f xs each = λ k d lt.
    let all = flat_map f xs in
    let at = in_piece f xs k (get_or all k d) (slice_get-get_or all k d lt) in
    all_at P (f at.of) at.place (get_or all k d) (all_at (λ x. All P (f x)) xs at.piece at.of each at.there) at.stands

-- ---- items that tell

module _ {M X : Type 0} (Tells : M → X → Type 0) where
  pub tell_both : (ms ns : List M) (xs ys : List X) → TellEach Tells ms xs → TellEach Tells ns ys → TellEach Tells (ms ++ ns) (xs ++ ys)
  tell_both ms ns xs ys first second = record {
    as_many = omega (arith, length-append ms ns, length-append xs ys, first.as_many, second.as_many);
    each = λ n m x em ex. elim (cases_lt n (length ms)) [
      | inl lt ↦
          let within : n < length xs = omega (arith, first.as_many) in
          first.each n m x (sym (at_left ms ns n lt) ∙ em) (sym (at_left xs ys n within) ∙ ex)
      | inr ge ↦
          let k = n - length ms in
          let of_ms : n ≡ length ms + k = omega arith in
          let of_xs : n ≡ length xs + k = omega (arith, first.as_many) in
          second.each k m x (sym (at_right ms ns n k of_ms) ∙ em) (sym (at_right xs ys n k of_xs) ∙ ex)
    ];
  }

  pub tell_each : (f : M → X) (ms : List M) → ((k : ℕ) (m : M) → slice_get ms k ≡ Some m → Tells m (f m)) → TellEach Tells ms (map f ms)
  tell_each f ms tells = record {
    as_many = length-map ms f;
    each = λ n m x em ex. subst (Tells m) (same_Some _ _ (sym (at_map f ms n m em) ∙ ex)) (tells n m em);
  }

  pub tell_places : (f : ℕ → X) (ms : List M) → ((k : ℕ) (m : M) → slice_get ms k ≡ Some m → Tells m (f k)) → TellEach Tells ms (map f (range_with_len 0 (length ms)))
  tell_places f ms tells = record {
    as_many = length-map-range_with_len f 0 (length ms);
    each = λ n m x em ex.
        let within : n < length ms = slice_get_within ms n m em in
        let at : 0 + n ≡ n = omega arith in
        let all = map f (range_with_len 0 (length ms)) in
        subst (Tells m) (sym (get_or-map-range_with_len f 0 (length ms) n n x within at) ∙ get_or_from_slice_get all n x x ex) (tells n m em);
  }

pub tell_more : {M X : Type 0} (P Q : M → X → Type 0) (ms : List M) (xs : List X) → ((m : M) (x : X) → P m x → Q m x) → TellEach P ms xs → TellEach Q ms xs
tell_more P Q ms xs more told = record {
  as_many = told.as_many;
  each = λ n m x em ex. more m x (told.each n m x em ex);
}
