-- The first of several failures: of two, of one more place, and of a list.
use Rattle.std.proofs.Common.{◌≡◌, ◌⊎◌, inl, inr, ℕ, ◌+◌, ◌<◌, ◌≤◌, List, length, Option, Some, None, refl, sym, ap, subst, ◌∙◌, get_or, arith}
use Rattle.std.specs.List.{slice_get, Contains}
use Rattle.std.proofs.lemmas.Bool.{cases_lt}
use Rattle.std.proofs.lemmas.Option.{slice_get_within, same_Some, slice_get_read}
use Rattle.list_laws.proofs.Places.{contains_at, place_of}
use Rattle.machine_bytecode.specs.Objects.{Subject}
use Rattle.stage_transfer.specs.Settings.{Setting}
use Rattle.ground_views.specs.declared.question.Question.{Question}
use Rattle.edge_checker.specs.declared.rejected.Rejected.{Rejected}
use Rattle.edge_checker.specs.Conditions.{IsFirst, IsUpTo, number_of}
use Rattle.edge_checker.specs.Failures.{IsLeastFor, IsLeastOf, IsLesser, IsLesserOf, both, neither, one, other}

-- the same said otherwise
pub least_same : (Met Met' : Type 0) (F F' : ℕ → ℕ → Type 0) (o : Option Rejected) → (Met → Met') → ((k l : ℕ) → F k l → F' k l) → ((k l : ℕ) → F' k l → F k l)
    → IsLeastOf Met F o → IsLeastOf Met' F' o
least_same Met Met' F F' None met to back h = record { met = met h.met; none = λ k l f. h.none k l (back k l f) }
least_same Met Met' F F' (Some r) met to back h =
    record { fails = to (number_of r.condition) r.line h.fails; first = λ k l f. h.first k l (back k l f) }

-- ---- of two

up_to : (a b c d k l : ℕ) → IsUpTo a b c d → IsUpTo c d k l → IsUpTo a b k l
up_to a b c d k l (inl u) (inl v) = inl (omega (arith, u, v))
up_to a b c d k l (inl u) (inr v) = let e = v.0 in inl (omega (arith, u, e))
up_to a b c d k l (inr u) (inl v) = let e = u.0 in inl (omega (arith, e, v))
up_to a b c d k l (inr u) (inr v) =
    let e = u.1 in
    let g = v.1 in
    inr (u.0 ∙ v.0, omega (arith, e, g))

module _ (M N : Type 0) (F G : ℕ → ℕ → Type 0) where
  abbrev Either : ℕ → ℕ → Type 0
  Either k l = F k l ⊎ G k l

  lesser_fails : (r s q : Rejected) → IsFirst F (number_of r.condition) r.line → IsFirst G (number_of s.condition) s.line → (q ≡ r) ⊎ (q ≡ s)
      → Either (number_of q.condition) q.line
  lesser_fails r s q f g (inl is) = subst (λ (p : Rejected). Either (number_of p.condition) p.line) (sym is) (inl f.fails)
  lesser_fails r s q f g (inr is) = subst (λ (p : Rejected). Either (number_of p.condition) p.line) (sym is) (inr g.fails)

  lesser_first : (r s q : Rejected) → IsFirst F (number_of r.condition) r.line → IsFirst G (number_of s.condition) s.line → IsLesser r s q → (k l : ℕ)
      → Either k l → IsUpTo (number_of q.condition) q.line k l
  lesser_first r s q f g lesser k l (inl h) = up_to (number_of q.condition) q.line (number_of r.condition) r.line k l lesser.first (f.first k l h)
  lesser_first r s q f g lesser k l (inr h) = up_to (number_of q.condition) q.line (number_of s.condition) s.line k l lesser.second (g.first k l h)

  pub joined : (o p q : Option Rejected) → IsLesserOf o p q → IsLeastOf M F o → IsLeastOf N G p → IsLeastOf (M × N) Either q
  joined o p q neither h i = record { met = (h.met, i.met); none = λ k l f. elim f [ inl g ↦ h.none k l g | inr g ↦ i.none k l g ] }
  joined o p q (one r) h i = record { fails = inl h.fails; first = λ k l f. elim f [ inl g ↦ h.first k l g | inr g ↦ absurd (i.none k l g) ] }
  joined o p q (other s) h i = record { fails = inr i.fails; first = λ k l f. elim f [ inl g ↦ absurd (h.none k l g) | inr g ↦ i.first k l g ] }
  joined o p q (both r s least lesser) h i =
      record { fails = lesser_fails r s least h i lesser.one_of; first = λ k l f. lesser_first r s least h i lesser k l f }

-- ---- places

-- It holds at each place from the one up to the other.
pub record MetFrom (P : ℕ → Type 0) (from to : ℕ) : Type 0 where
  pub each : (n : ℕ) → from ≤ n → n < to → P n

-- It fails at one of them.
pub record SomeFrom (F : ℕ → ℕ → ℕ → Type 0) (from to k l : ℕ) : Type 0 where
  pub n : ℕ
  pub low : from ≤ n
  pub high : n < to
  pub fails : F n k l

pub split : (n to : ℕ) → n < to + 1 → (n < to) ⊎ (to ≡ n)
split n to l = elim (cases_lt n to) [ inl below ↦ inl below | inr from ↦ inr (omega (arith, l, from)) ]

module _ (P : ℕ → Type 0) (F : ℕ → ℕ → ℕ → Type 0) (from : ℕ) where
  pub nowhere : IsLeastOf (MetFrom P from from) (SomeFrom F from from) None
  nowhere = record { met = record { each = λ n l m. absurd (omega (arith, l, m)) }; none = λ k l f. absurd (let a = f.low in let b = f.high in omega (arith, a, b)) }

  some_cases : (to k l : ℕ) → SomeFrom F from (to + 1) k l → SomeFrom F from to k l ⊎ F to k l
  some_cases to k l f = elim (split f.n to f.high) [
    | inl below ↦ inl (record { n = f.n; low = f.low; high = below; fails = f.fails })
    | inr is ↦ inr (subst (λ (n : ℕ). F n k l) (sym is) f.fails)
  ]

  -- one place more
  pub one_more : (to : ℕ) (o r q : Option Rejected) → from ≤ to → IsLesserOf o r q → IsLeastOf (MetFrom P from to) (SomeFrom F from to) o → IsLeastOf (P to) (F to) r
      → IsLeastOf (MetFrom P from (to + 1)) (SomeFrom F from (to + 1)) q
  one_more to o r q low lesser h i =
      least_same (MetFrom P from to × P to) (MetFrom P from (to + 1)) (λ k l. SomeFrom F from to k l ⊎ F to k l) (SomeFrom F from (to + 1)) q
      (λ met. record { each = λ n l m. elim (split n to m) [ inl below ↦ met.0.each n l below | inr is ↦ subst P is met.1 ] })
      (λ k l f. elim f [
        | inl g ↦ (let high = g.high in record { n = g.n; low = g.low; high = omega (arith, high); fails = g.fails })
        | inr g ↦ record { n = to; low = low; high = omega arith; fails = g }
      ])
      (λ k l f. some_cases to k l f)
      (joined (MetFrom P from to) (P to) (SomeFrom F from to) (F to) o r q lesser h i)

-- ---- lists

-- It holds of each of the items from one place up to another.
abbrev pub AllOf : {X : Type 0} → (X → Type 0) → List X → (from to : ℕ) → Type 0
AllOf {X} P xs from to = MetFrom (λ n. (x : X) → slice_get xs n ≡ Some x → P x) from to

abbrev pub SomeOf : {X : Type 0} → (X → ℕ → ℕ → Type 0) → List X → (from to k l : ℕ) → Type 0
SomeOf {X} F xs from to k l = SomeFrom (λ n i j. (x : X) × (slice_get xs n ≡ Some x) × F x i j) from to k l

module _ {X : Type 0} (P : X → Type 0) (F : X → ℕ → ℕ → Type 0) (xs : List X) (from : ℕ) where
  pub none_of : IsLeastOf (AllOf P xs from from) (SomeOf F xs from from) None
  none_of = nowhere (λ n. (x : X) → slice_get xs n ≡ Some x → P x) (λ n k l. (x : X) × (slice_get xs n ≡ Some x) × F x k l) from

  -- one more
  pub list_more : (i : ℕ) (x : X) (o r q : Option Rejected) → from ≤ i → i < length xs → x ≡ get_or xs i x → IsLesserOf o r q
      → IsLeastOf (AllOf P xs from i) (SomeOf F xs from i) o → IsLeastOf (P x) (F x) r → IsLeastOf (AllOf P xs from (i + 1)) (SomeOf F xs from (i + 1)) q
  list_more i x o r q low short is lesser h here =
      let stands : slice_get xs i ≡ Some x = slice_get_read xs (length xs) i x refl short is in
      one_more (λ n. (x : X) → slice_get xs n ≡ Some x → P x) (λ n k l. (x : X) × (slice_get xs n ≡ Some x) × F x k l) from i o r q low lesser h
      (least_same (P x) ((y : X) → slice_get xs i ≡ Some y → P y) (F x) (λ k l. (y : X) × (slice_get xs i ≡ Some y) × F y k l) r
      (λ p y s. subst P (same_Some x y (sym stands ∙ s)) p)
      (λ k l f. (x, stands, f))
      (λ k l f. subst (λ (y : X). F y k l) (same_Some f.0 x (sym f.1 ∙ stands)) f.2) here)

-- ---- lists that are met

pub all_none : {X : Type 0} (P : X → Type 0) (xs : List X) → AllOf P xs 0 0
all_none P xs = record { each = λ n low high. absurd (omega (arith, high)) }

pub all_more : {X : Type 0} (P : X → Type 0) (xs : List X) (i : ℕ) (x : X) → i < length xs → x ≡ get_or xs i x → P x → AllOf P xs 0 i → AllOf P xs 0 (i + 1)
all_more P xs i x short is here all =
    let stands : slice_get xs i ≡ Some x = slice_get_read xs (length xs) i x refl short is in
    record {
      each = λ n low high y at. elim (split n i high) [
        | inl below ↦ all.each n low below y at
        | inr same ↦ subst P (same_Some x y (sym stands ∙ ap (slice_get xs) same ∙ at)) here
      ];
    }

pub all_whole : {X : Type 0} (P : X → Type 0) (xs : List X) (i : ℕ) → length xs ≤ i → AllOf P xs 0 i → (x : X) → Contains xs x → P x
all_whole P xs i past all x there =
    let at = place_of xs x there in
    let short = slice_get_within xs at.0 x at.1 in
    all.each at.0 (omega arith) (omega (arith, past, short)) x at.1

-- what stands at a place that is read is in the list
pub read_there : {X : Type 0} (xs : List X) (i : ℕ) (x : X) → i < length xs → x ≡ get_or xs i x → Contains xs x
read_there xs i x short is = contains_at xs i x (slice_get_read xs (length xs) i x refl short is)

-- a whole list
pub list_whole : {X : Type 0} (P : X → Type 0) (F : X → ℕ → ℕ → Type 0) (xs : List X) (i : ℕ) (Met : Type 0) (Fails : ℕ → ℕ → Type 0) (o : Option Rejected) → length xs ≤ i
    → (((x : X) → Contains xs x → P x) → Met) → ((k l : ℕ) (x : X) → Contains xs x → F x k l → Fails k l)
    → ((k l : ℕ) → Fails k l → (x : X) × Contains xs x × F x k l) → IsLeastOf (AllOf P xs 0 i) (SomeOf F xs 0 i) o → IsLeastOf Met Fails o
list_whole {X} P F xs i Met Fails o past met to back h =
    least_same (AllOf P xs 0 i) Met (SomeOf F xs 0 i) Fails o
    (λ all. met (λ x c.
    let at = place_of xs x c in
    let short = slice_get_within xs at.0 x at.1 in
    all.each at.0 (omega arith) (omega (arith, past, short)) x at.1))
    (λ k l f. to k l f.fails.0 (contains_at xs f.n f.fails.0 f.fails.1) f.fails.2)
    (λ k l f.
    let b = back k l f in
    let at = place_of xs b.0 b.1 in
    let short = slice_get_within xs at.0 b.0 at.1 in
    record { n = at.0; low = omega arith; high = omega (arith, past, short); fails = (b.0, at.1, b.2) })
    h

-- ---- lists, for each subject and setting of which it is asked

abbrev pub AllFor : {X : Type 0} → (X → Subject → Setting → Type 0) → List X → (from to : ℕ) → Subject → Setting → Type 0
AllFor {X} P xs from to x w = AllOf (λ (a : X). P a x w) xs from to

abbrev pub SomeFor : {X : Type 0} → (X → Subject → Setting → ℕ → ℕ → Type 0) → List X → (from to : ℕ) → Subject → Setting → ℕ → ℕ → Type 0
SomeFor {X} F xs from to x w = SomeOf (λ (a : X). F a x w) xs from to

module _ {X : Type 0} (q : Question) (P : X → Subject → Setting → Type 0) (F : X → Subject → Setting → ℕ → ℕ → Type 0) (xs : List X) where
  pub for_none : (from : ℕ) → IsLeastFor q (AllFor P xs from from) (SomeFor F xs from from) None
  for_none from = record { each = λ x w asked. none_of (λ (a : X). P a x w) (λ (a : X). F a x w) xs from }

  pub for_more : (from i : ℕ) (a : X) (o r s : Option Rejected) → from ≤ i → i < length xs → a ≡ get_or xs i a → IsLesserOf o r s
      → IsLeastFor q (AllFor P xs from i) (SomeFor F xs from i) o → IsLeastFor q (P a) (F a) r → IsLeastFor q (AllFor P xs from (i + 1)) (SomeFor F xs from (i + 1)) s
  for_more from i a o r s low short is lesser h here = record {
    each = λ x w asked.
        list_more (λ (b : X). P b x w) (λ (b : X). F b x w) xs from i a o r s low short is lesser (h.each x w asked) (here.each x w asked);
  }

  pub for_whole : (i : ℕ) (Met : Subject → Setting → Type 0) (Fails : Subject → Setting → ℕ → ℕ → Type 0) (o : Option Rejected) → length xs ≤ i
      → ((x : Subject) (w : Setting) → ((a : X) → Contains xs a → P a x w) → Met x w)
      → ((x : Subject) (w : Setting) (k l : ℕ) (a : X) → Contains xs a → F a x w k l → Fails x w k l)
      → ((x : Subject) (w : Setting) (k l : ℕ) → Fails x w k l → (a : X) × Contains xs a × F a x w k l)
      → IsLeastFor q (AllFor P xs 0 i) (SomeFor F xs 0 i) o → IsLeastFor q Met Fails o
  for_whole i Met Fails o past met to back h = record {
    each = λ x w asked.
        list_whole (λ (b : X). P b x w) (λ (b : X). F b x w) xs i (Met x w) (Fails x w) o past (met x w) (to x w) (back x w) (h.each x w asked);
  }
