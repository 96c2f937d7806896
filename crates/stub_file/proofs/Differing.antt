-- Lists whose items differ, by a set of those that were seen.
use Rattle.std.proofs.Common.{◌≡◌, ℕ, ◌+◌, ◌<◌, ◌≤◌, Bool, true, false, not, cond, ◌&&◌, ◌||◌, List, [], ◌∷◌, ◌++◌, length, take, drop, get_or, map, refl, sym, ap, ◌∙◌}
use Rattle.std.specs.declared.cmp.Ordering.{Ordering}
use Rattle.std.specs.declared.cmp.Ordering.TheVariants.{Less, Equal, Greater}
use Rattle.std.specs.BTreeSet.{BTreeSet, contains}
use Rattle.std.specs.Cmp.Lexicographic.{slice_cmp}
use Rattle.std.specs.List.{list_any}
use Rattle.std.specs.Ordering.{is_eq, nat_cmp, ordering_then}
use Rattle.std.proofs.lemmas.Bool.{and_parts, and_from, false≢true, not-true}
use Rattle.std.proofs.lemmas.List.{take_all, take_more, take-append-drop, drop_more}
use Rattle.std.proofs.lemmas.Map.Text.{is_eq-slice_cmp}
use Rattle.jvm_model.specs.Automata.{all_differ}
use Rattle.toml_tables.proofs.Lists.{list_any-map}
use Rattle.stub_file.specs.declared.signature.Signature.{Signature}
use Rattle.stub_file.specs.Signatures.{is_same_texts, signature_cmp, signature_texts, Texts}

is_eq-then : (o p : Ordering) → is_eq (ordering_then o p) ≡ (is_eq o && is_eq p)
is_eq-then Less p = refl
is_eq-then Equal p = refl
is_eq-then Greater p = refl

is_eq-signature : (s t : Signature) → is_eq (signature_cmp s t) ≡ is_same_texts (signature_texts s) (signature_texts t)
is_eq-signature s t =
    is_eq-then (slice_cmp nat_cmp s.name.now t.name.now) (slice_cmp nat_cmp s.descriptor.now t.descriptor.now)
    ∙ (λ i. is_eq-slice_cmp s.name.now t.name.now i && is_eq-slice_cmp s.descriptor.now t.descriptor.now i)

or_either : (a c : Bool) → cond a true c ≡ (c || a)
or_either true true = refl
or_either true false = refl
or_either false true = refl
or_either false false = refl

-- what a set has after one is added
pub added_to : (k t : Signature) (now before : Bool) → now ≡ cond (is_eq (signature_cmp k t)) true before → now ≡ (before || is_same_texts (signature_texts k) (signature_texts t))
added_to k t now before e = e ∙ ap (λ (b : Bool). cond b true before) (is_eq-signature k t) ∙ or_either (is_same_texts (signature_texts k) (signature_texts t)) before

-- these are seen, and differ
pub record AreSeen (seen : BTreeSet Signature) (signatures : List Signature) : Type 0 where
  pub all : (t : Signature) → contains signature_cmp seen t ≡ list_any (λ s. is_same_texts (signature_texts s) (signature_texts t)) signatures
  pub differ : all_differ is_same_texts (map signature_texts signatures) ≡ true

any_push : {X : Type 0} (p : X → Bool) (xs : List X) (y : X) → list_any p (xs ++ y ∷ []) ≡ (list_any p xs || p y)
any_push p [] y = or_nothing (p y)
  where
    or_nothing : (b : Bool) → (b || false) ≡ b
    or_nothing true = refl
    or_nothing false = refl
any_push p (x ∷ xs) y = ap (λ b. p x || b) (any_push p xs y) ∙ or_again (p x) (list_any p xs) (p y)
  where
    or_again : (a b c : Bool) → (a || (b || c)) ≡ ((a || b) || c)
    or_again true b c = refl
    or_again false b c = refl

any_among : {X : Type 0} (p : X → Bool) (xs : List X) (y : X) (zs : List X) → p y ≡ true → list_any p (xs ++ y ∷ zs) ≡ true
any_among p [] y zs h = ap (λ b. b || list_any p zs) h
any_among p (x ∷ xs) y zs h = ap (λ b. p x || b) (any_among p xs y zs h) ∙ or_true (p x)
  where
    or_true : (b : Bool) → (b || true) ≡ true
    or_true true = refl
    or_true false = refl

nothing_and : (b : Bool) → (b && false) ≡ false
nothing_and true = refl
nothing_and false = refl

-- one that is like an earlier one
again : {X : Type 0} (same : X → X → Bool) (xs : List X) (y : X) (zs : List X) → list_any (λ x. same x y) xs ≡ true → all_differ same (xs ++ y ∷ zs) ≡ false
again same [] y zs h = absurd (false≢true h)
again {X} same (x ∷ xs) y zs h = by (same x y) refl (again same xs y zs)
  where
    by : (b : Bool) → same x y ≡ b → (list_any (λ w. same w y) xs ≡ true → all_differ same (xs ++ y ∷ zs) ≡ false) → all_differ same (x ∷ (xs ++ y ∷ zs)) ≡ false
    by true e more = ap (λ b. not b && all_differ same (xs ++ y ∷ zs)) (any_among (same x) xs y zs e)
    by false e more =
        let later : list_any (λ w. same w y) xs ≡ true = sym (ap (λ b. b || list_any (λ w. same w y) xs) e) ∙ h in
        ap (λ b. not (list_any (same x) (xs ++ y ∷ zs)) && b) (more later) ∙ nothing_and (not (list_any (same x) (xs ++ y ∷ zs)))

-- one that is like no earlier one
fresh : {X : Type 0} (same : X → X → Bool) (xs : List X) (y : X) → all_differ same xs ≡ true → list_any (λ x. same x y) xs ≡ false → all_differ same (xs ++ y ∷ []) ≡ true
fresh same [] y differ h = refl
fresh same (x ∷ xs) y differ h =
    let parts = and_parts (not (list_any (same x) xs)) (all_differ same xs) differ in
    let none = or_none (same x y) (list_any (λ w. same w y) xs) h in
    let first : list_any (same x) xs ≡ false = not-true (list_any (same x) xs) parts.0 in
    let apart : list_any (same x) (xs ++ y ∷ []) ≡ false = any_push (same x) xs y ∙ (λ i. first i || none.0 i) in
    and_from (not (list_any (same x) (xs ++ y ∷ []))) (all_differ same (xs ++ y ∷ [])) (ap not apart) (fresh same xs y parts.1 none.1)
  where
    or_none : (a b : Bool) → (a || b) ≡ false → (a ≡ false) × (b ≡ false)
    or_none true b e = cc
    or_none false b e = (refl, e)

map-append : {X Y : Type 0} (f : X → Y) (xs ys : List X) → map f (xs ++ ys) ≡ map f xs ++ map f ys
map-append f [] ys = refl
map-append f (x ∷ xs) ys = ap (λ l. f x ∷ l) (map-append f xs ys)

-- the one at a place is seen
pub seen_again : (seen : BTreeSet Signature) (ss : List Signature) (i : ℕ) (s : Signature) (was : Bool) → i < length ss → s ≡ get_or ss i s → AreSeen seen (take i ss) → was ≡ contains signature_cmp seen s → was ≡ true → all_differ is_same_texts (map signature_texts ss) ≡ false
seen_again seen ss i s was h at known is repeated =
    let f = signature_texts in
    let found : list_any (λ (x : Texts). is_same_texts x (f s)) (map f (take i ss)) ≡ true =
    sym (list_any-map (λ (x : Texts). is_same_texts x (f s)) f (take i ss)) ∙ sym (known.all s) ∙ sym is ∙ repeated in
    let split : ss ≡ take i ss ++ s ∷ drop (i + 1) ss =
    sym (take-append-drop i ss) ∙ ap (λ w. take i ss ++ w) (drop_more ss i s h ∙ ap (λ w. w ∷ drop (i + 1) ss) (sym at)) in
    ap (λ (l : List Signature). all_differ is_same_texts (map f l)) split
    ∙ ap (all_differ is_same_texts) (map-append f (take i ss) (s ∷ drop (i + 1) ss))
    ∙ again is_same_texts (map f (take i ss)) (f s) (map f (drop (i + 1) ss)) found

-- the one at a place is not seen
pub seen_more : (seen more : BTreeSet Signature) (ss : List Signature) (i : ℕ) (s : Signature) (was : Bool) → i < length ss → s ≡ get_or ss i s → AreSeen seen (take i ss) → was ≡ contains signature_cmp seen s → was ≡ false
    → ((t : Signature) → contains signature_cmp more t ≡ (contains signature_cmp seen t || is_same_texts (signature_texts s) (signature_texts t))) → AreSeen more (take (i + 1) ss)
seen_more seen more ss i s was h at known is no_more after =
    let f = signature_texts in
    let front = take i ss in
    let longer : take (i + 1) ss ≡ front ++ s ∷ [] = take_more ss i s h ∙ ap (λ w. front ++ w ∷ []) (sym at) in
    let none : list_any (λ (x : Texts). is_same_texts x (f s)) (map f front) ≡ false =
    sym (list_any-map (λ (x : Texts). is_same_texts x (f s)) f front) ∙ sym (known.all s) ∙ sym is ∙ no_more in
    record {
      all = λ t. after t ∙ ap (λ b. b || is_same_texts (f s) (f t)) (known.all t) ∙ sym (any_push (λ (x : Signature). is_same_texts (f x) (f t)) front s)
          ∙ ap (list_any (λ (x : Signature). is_same_texts (f x) (f t))) (sym longer);
      differ = ap (λ (l : List Signature). all_differ is_same_texts (map f l)) longer ∙ ap (all_differ is_same_texts) (map-append f front (s ∷ []))
          ∙ fresh is_same_texts (map f front) (f s) known.differ none;
    }

-- all are seen
pub seen_all : (seen : BTreeSet Signature) (ss : List Signature) (i : ℕ) → length ss ≤ i → AreSeen seen (take i ss) → all_differ is_same_texts (map signature_texts ss) ≡ true
seen_all seen ss i h known = ap (λ (l : List Signature). all_differ is_same_texts (map signature_texts l)) (sym (take_all i ss h)) ∙ known.differ

-- items differ where their images do
all_differ-map : {X Y : Type 0} (f : X → Y) (same : Y → Y → Bool) (xs : List X) → all_differ (λ x y. same (f x) (f y)) xs ≡ all_differ same (map f xs)
all_differ-map f same [] = refl
all_differ-map f same (x ∷ xs) = λ i. not (list_any-map (same (f x)) f xs i) && all_differ-map f same xs i

-- what is known of the answer `differ`, for the items and for their images
pub differ_told : {X Y : Type 0} (f : X → Y) (same : Y → Y → Bool) (xs : List X) (differ : Bool) → differ ≡ all_differ same (map f xs) → differ ≡ all_differ (λ x y. same (f x) (f y)) xs
differ_told f same xs differ e = e ∙ sym (all_differ-map f same xs)
