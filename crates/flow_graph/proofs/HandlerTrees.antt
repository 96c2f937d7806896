-- The latest ends of the spans by halves: how they are added, and what is left out by them.
use Rattle.std.proofs.Common.{◌≡◌, ℕ, suc, eqb, ◌+◌, ◌/◌, ◌<◌, ◌≤◌, cond, Bool, true, false, ◌&&◌, ltb, leb, List, [], ◌∷◌, ◌++◌, length, take, drop, get_or, map, Some, slice_get, All, refl, sym, ap, ◌∙◌, subst, append_assoc, arith}
use Rattle.std.specs.List.{filter}
use Rattle.std.specs.List.Sorted.{IsNonDecreasingBy}
use Rattle.std.proofs.lemmas.Bool.{le-ltb, lt-leb}
use Rattle.std.proofs.lemmas.Bool.Decides.{nat_tests}
use Rattle.std.proofs.lemmas.List.{length-append, length-take, length-drop, take_at, drop_at, get_or_at, drop_more, get_or-drop, map-append, take-append-drop, append-nil, get_or_default, take_all}
use Rattle.std.proofs.lemmas.List.Elements.{filter-append, All-more}
use Rattle.std.proofs.lemmas.Option.{slice_get_read}
use Rattle.flow_graph.specs.declared.handlers.Span.{Span}
use Rattle.flow_graph.specs.HandlerSpans.{span_covers, places_over, middle_of, IsTree, AddsTree}
use Rattle.flow_graph.specs.HandlerSpans.IsTree.{empty, halves}

pub none_there : (n : ℕ) (t : Bool) → t ≡ eqb n 0 → t ≡ true → n ≡ 0
none_there n t is e = grind (arith, nat_tests, is, e)

pub some_there : (n : ℕ) (t : Bool) → t ≡ eqb n 0 → t ≡ false → 0 < n
some_there n t is e = grind (arith, nat_tests, is, e)

pub half_below : (n : ℕ) → 0 < n → n / 2 < n
half_below n some = omega arith

pub adds_none : (spans : List Span) (latest : List ℕ) → length spans ≡ 0 → AddsTree spans latest latest
adds_none spans latest none = record { added = []; all = sym none; tree = empty spans [] none; new_is = sym (append-nil latest) }

-- the latest ends of the two halves, and in the middle that of all
pub adds_halves : (spans : List Span) (old front mid new : List ℕ) (most : ℕ) → middle_of spans < length spans → All (λ (s : Span). s.finish ≤ most) spans
    → AddsTree (take (middle_of spans) spans) old front → mid ≡ front ++ most ∷ [] → AddsTree (drop (middle_of spans + 1) spans) mid new → AddsTree spans old new
adds_halves spans old front mid new most lt all left mid_is right =
    let h : ℕ = middle_of spans in
    let long : length left.added ≡ h = let a = left.all in let b = length-take h spans in omega (arith, a, b, lt) in
    let added : List ℕ = left.added ++ most ∷ right.added in
    let before : take h added ≡ left.added = take_at left.added (most ∷ right.added) h long in
    let after : drop (h + 1) added ≡ right.added =
    ap (drop (h + 1)) (sym (append_assoc left.added (most ∷ []) right.added)) ∙ drop_at (left.added ++ most ∷ []) right.added (h + 1) (let e = length-append left.added (most ∷ []) in omega (arith, e, long)) in
    let size : length added ≡ length spans =
    let e = length-append left.added (most ∷ right.added) in let f = right.all in let g = length-drop (h + 1) spans in omega (arith, e, f, g, long, lt) in
    let there : slice_get added h ≡ Some most = slice_get_read added (length added) h most refl (omega (arith, size, lt)) (sym (get_or_at left.added most right.added most h long)) in
    record {
      added = added;
      all = size;
      tree = halves spans added most lt there all (subst (IsTree (take h spans)) (sym before) left.tree) (subst (IsTree (drop (h + 1) spans)) (sym after) right.tree);
      new_is = right.new_is ∙ ap (λ (xs : List ℕ). xs ++ right.added) (mid_is ∙ ap (λ (xs : List ℕ). xs ++ most ∷ []) left.new_is ∙ append_assoc old left.added (most ∷ []))
          ∙ append_assoc old (left.added ++ most ∷ []) right.added ∙ ap (λ (xs : List ℕ). old ++ xs) (append_assoc left.added (most ∷ []) right.added);
    }

-- ---- what a tree of some spans says

pub record IsHalved (spans : List Span) (latest : List ℕ) : Type 0 where
  pub most : ℕ
  pub there : slice_get latest (middle_of spans) ≡ Some most
  pub all : All (λ (s : Span). s.finish ≤ most) spans
  pub left : IsTree (take (middle_of spans) spans) (take (middle_of spans) latest)
  pub right : IsTree (drop (middle_of spans + 1) spans) (drop (middle_of spans + 1) latest)

pub halved : (spans : List Span) (latest : List ℕ) → 0 < length spans → IsTree spans latest → IsHalved spans latest
halved spans latest some (empty _ _ none) = absurd (omega (arith, some, none))
halved spans latest some (halves _ _ most lt there all left right) = record { most = most; there = there; all = all; left = left; right = right }

-- ---- the latest end

pub ends_more : (spans : List Span) (i old new : ℕ) (d : Span) → i < length spans → All (λ (s : Span). s.finish ≤ old) (take i spans) → old ≤ new → (get_or spans i d).finish ≤ new
    → All (λ (s : Span). s.finish ≤ new) (take (i + 1) spans)
ends_more spans i old new d lt all le here = All-more (λ (s : Span). s.finish ≤ new) spans i d lt (λ k e k_lt. let before = all k e k_lt in omega (arith, before, le)) here

pub ends_all : (spans : List Span) (i most : ℕ) → length spans ≤ i → All (λ (s : Span). s.finish ≤ most) (take i spans) → All (λ (s : Span). s.finish ≤ most) spans
ends_all spans i most le all = subst (λ (xs : List Span). All (λ (s : Span). s.finish ≤ most) xs) (take_all i spans le) all

-- ---- what is found

pub none_found : (offset : ℕ) (spans : List Span) → ((s : Span) → (k : ℕ) → k < length spans → span_covers offset (get_or spans k s) ≡ false) → places_over offset spans ≡ []
none_found offset [] none = refl
none_found offset (s ∷ spans) none =
    ap (λ (b : Bool). map (λ (t : Span). t.place) (cond b (s ∷ filter (span_covers offset) spans) (filter (span_covers offset) spans))) (none s 0 (omega arith))
    ∙ none_found offset spans (λ d k lt. none d (suc k) (omega (arith, lt)))

and_false : (a : Bool) → (a && false) ≡ false
and_false true = refl
and_false false = refl

-- no span covers the offset, if none ends after it
pub all_before : (offset most : ℕ) (spans : List Span) → All (λ (s : Span). s.finish ≤ most) spans → most ≤ offset → places_over offset spans ≡ []
all_before offset most spans all le =
    none_found offset spans (λ d k lt.
    let x : Span = get_or spans k d in
    let past : x.finish ≤ most = all k d lt in
    ap (λ (b : Bool). leb x.start offset && b) (le-ltb offset x.finish (omega (arith, past, le))) ∙ and_false (leb x.start offset))

parts : (offset : ℕ) (xs ys : List Span) → places_over offset (xs ++ ys) ≡ places_over offset xs ++ places_over offset ys
parts offset xs ys = ap (map (λ (t : Span). t.place)) (filter-append (span_covers offset) xs ys) ∙ map-append (λ (t : Span). t.place) (filter (span_covers offset) xs) (filter (span_covers offset) ys)

from_middle : (offset : ℕ) (spans : List Span) (h : ℕ) (d : Span) → h < length spans
    → places_over offset (drop h spans) ≡ places_over offset (get_or spans h d ∷ []) ++ places_over offset (drop (h + 1) spans)
from_middle offset spans h d lt = ap (places_over offset) (drop_more spans h d lt) ∙ parts offset (get_or spans h d ∷ []) (drop (h + 1) spans)

-- what is found in a stretch is what is found before its middle and from there on
in_halves : (offset : ℕ) (spans : List Span) (h : ℕ) → places_over offset spans ≡ places_over offset (take h spans) ++ places_over offset (drop h spans)
in_halves offset spans h = ap (places_over offset) (sym (take-append-drop h spans)) ∙ parts offset (take h spans) (drop h spans)

-- what was found in both halves and in the middle
pub found_halves : (offset : ℕ) (spans : List Span) (h : ℕ) (d : Span) (old front mid new : List ℕ) → h < length spans → front ≡ old ++ places_over offset (take h spans)
    → mid ≡ front ++ places_over offset (get_or spans h d ∷ []) → new ≡ mid ++ places_over offset (drop (h + 1) spans) → new ≡ old ++ places_over offset spans
found_halves offset spans h d old front mid new lt left here right =
    let a : List ℕ = places_over offset (take h spans) in
    let b : List ℕ = places_over offset (get_or spans h d ∷ []) in
    let e : List ℕ = places_over offset (drop (h + 1) spans) in
    right ∙ ap (λ (xs : List ℕ). xs ++ e) (here ∙ ap (λ (xs : List ℕ). xs ++ b) left) ∙ append_assoc (old ++ a) b e ∙ append_assoc old a (b ++ e)
    ∙ ap (λ (xs : List ℕ). old ++ xs) (ap (λ (xs : List ℕ). a ++ xs) (sym (from_middle offset spans h d lt)) ∙ sym (in_halves offset spans h))

-- no span covers the offset from the first one on that starts after it
pub found_before : (offset : ℕ) (spans : List Span) (h : ℕ) (d : Span) (old new : List ℕ) → IsNonDecreasingBy (λ (s : Span). s.start) spans → h < length spans → offset < (get_or spans h d).start
    → new ≡ old ++ places_over offset (take h spans) → new ≡ old ++ places_over offset spans
found_before offset spans h d old new up lt less left =
    left ∙ ap (λ (xs : List ℕ). old ++ xs) (sym (in_halves offset spans h ∙ ap (λ (rest : List ℕ). places_over offset (take h spans) ++ rest) past ∙ append-nil (places_over offset (take h spans))))
  where
    later : (k : ℕ) (e : Span) → k < length (drop h spans) → offset < (get_or (drop h spans) k e).start
    later k e k_lt =
        let size = length-drop h spans in
        let first : (get_or spans h e).start ≤ (get_or spans (h + k) e).start = up h (h + k) e (omega arith) (omega (arith, k_lt, size)) in
        let here : (get_or spans h d).start ≡ (get_or spans h e).start = ap (λ (s : Span). s.start) (get_or_default spans h d e lt) in
        let there : (get_or (drop h spans) k e).start ≡ (get_or spans (h + k) e).start = ap (λ (s : Span). s.start) (get_or-drop h spans k e) in
        omega (arith, first, here, there, less)

    past : places_over offset (drop h spans) ≡ []
    past = none_found offset (drop h spans) (λ e k k_lt. ap (λ (b : Bool). b && ltb offset (get_or (drop h spans) k e).finish) (lt-leb (get_or (drop h spans) k e).start offset (later k e k_lt)))
