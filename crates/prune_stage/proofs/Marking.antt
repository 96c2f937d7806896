-- What is marked: nothing, one event at one place, one after the other, for each in a list, and for each number below a limit.
use Rattle.std.proofs.Common.{◌≡◌, ◌⊎◌, ℕ, ◌+◌, ◌<◌, ◌≤◌, Bool, true, eqb, List, [], ◌∷◌, ◌++◌, length, take, Some, sym, ◌∙◌, ap, subst, inl, inr, arith}
use Rattle.std.specs.Prelude.{slice_set}
use Rattle.std.specs.List.{slice_get}
use Rattle.std.proofs.lemmas.Bool.{cases_Bool, cases_lt, eqb-false, eqb-true}
use Rattle.std.proofs.lemmas.List.{take_all}
use Rattle.std.proofs.lemmas.Option.{none-some, same_Some}
use Rattle.least_sets.proofs.Places.{nothing_in, push_cases}
use Rattle.prune_stage.proofs.Reach.{get_set_cases, get_set_keeps, get_set_same}
use Rattle.slot_names.proofs.ListPlaces.{set_at, set_cases, set_other}
use Rattle.prune_stage.specs.declared.event_set.EventSet.{EventSet}
use Rattle.prune_stage.specs.Marks.{AreMarked, IsMarked, OfOne, OfOneBelow}
use Rattle.ground.proofs.Fronts.{last_or_before, last_there, before_there}

module _ (P : ℕ → ℕ → Type 0) where
  -- nothing has the property
  pub marked_none : (sets : List EventSet) → ((place event : ℕ) → P place event → ⊥) → AreMarked P sets sets
  marked_none sets none = record {
    each = λ place event. (λ there. inl there, λ either. elim either [ inl there ↦ there | inr p ↦ absurd (none place event p) ]);
  }

  -- the same, said otherwise
  pub marked_as : (Q : ℕ → ℕ → Type 0) (old new : List EventSet) → ((place event : ℕ) → P place event → Q place event)
      → ((place event : ℕ) → Q place event → P place event)
      → AreMarked P old new → AreMarked Q old new
  marked_as Q old new to from marked = record {
    each = λ place event. (
      λ there. elim ((marked.each place event).0 there) [ inl before ↦ inl before | inr p ↦ inr (to place event p) ],
      λ either. elim either [ inl before ↦ (marked.each place event).1 (inl before) | inr q ↦ (marked.each place event).1 (inr (from place event q)) ],
    );
  }

  -- one after the other
  pub marked_both : (Q : ℕ → ℕ → Type 0) (a b c : List EventSet) → AreMarked P a b → AreMarked Q b c
      → AreMarked (λ place event. P place event ⊎ Q place event) a c
  marked_both Q a b c first second = record {
    each = λ place event. (
      λ there. elim ((second.each place event).0 there) [
        | inl before ↦ elim ((first.each place event).0 before) [ inl old ↦ inl old | inr p ↦ inr (inl p) ]
        | inr q ↦ inr (inr q)
      ],
      λ either. elim either [
        | inl old ↦ (second.each place event).1 (inl ((first.each place event).1 (inl old)))
        | inr some ↦ elim some [
          | inl p ↦ (second.each place event).1 (inl ((first.each place event).1 (inr p)))
          | inr q ↦ (second.each place event).1 (inr q)
        ]
      ],
    );
  }

-- for each in no list
pub marked_start : {X : Type 0} (R : X → ℕ → ℕ → Type 0) (sets : List EventSet) → AreMarked (OfOne R []) sets sets
marked_start R sets = marked_none (OfOne R []) sets (λ place event (x, there, r). nothing_in x there)

-- one more set without an event
pub none_more : (sets : List EventSet) (set : EventSet) → ((place event : ℕ) → IsMarked sets place event → ⊥)
    → ((event : ℕ) → slice_get set.occurs event ≡ Some true → ⊥)
    → (place event : ℕ) → IsMarked (sets ++ set ∷ []) place event → ⊥
none_more sets set none empty place event mark = elim (push_cases sets set place mark.set mark.stands) [
  | inl before ↦ none place event (record { set = mark.set; stands = before; occurs = mark.occurs })
  | inr last ↦ empty event (subst (λ (x : EventSet). slice_get x.occurs event ≡ Some true) last.1 mark.occurs)
]

-- a set without an event alone
pub none_alone : (set : EventSet) → ((event : ℕ) → slice_get set.occurs event ≡ Some true → ⊥) → (place event : ℕ) → IsMarked (set ∷ []) place event → ⊥
none_alone set empty place event mark = none_more [] set (λ i e m. none-some m.set m.stands) empty place event mark

-- for each in a list
module _ {X : Type 0} (R : X → ℕ → ℕ → Type 0) (xs : List X) where
  -- one more
  pub marked_more : (i : ℕ) (x : X) → slice_get xs i ≡ Some x → (a b c : List EventSet) → AreMarked (OfOne R (take i xs)) a b → AreMarked (R x) b c
      → AreMarked (OfOne R (take (i + 1) xs)) a c
  marked_more i x at a b c before one =
      marked_as (λ place event. OfOne R (take i xs) place event ⊎ R x place event) (OfOne R (take (i + 1) xs)) a c
      (λ place event either. elim either [
        | inl (z, there, r) ↦ (z, before_there xs i x at z there, r)
        | inr r ↦ (x, last_there xs i x at, r)
      ])
      (λ place event some. elim (last_or_before xs i x at some.0 some.1) [
        | inl there ↦ inl (some.0, there, some.2)
        | inr same ↦ inr (subst (λ (z : X). R z place event) (sym same) some.2)
      ])
      (marked_both (OfOne R (take i xs)) (R x) a b c before one)

  -- all of them
  pub marked_all : (i : ℕ) → length xs ≤ i → (a b : List EventSet) → AreMarked (OfOne R (take i xs)) a b → AreMarked (OfOne R xs) a b
  marked_all i past a b marked = subst (λ (front : List X). AreMarked (OfOne R front) a b) (take_all i xs past) marked

-- for each number below a limit
module _ (R : ℕ → ℕ → ℕ → Type 0) where
  pub marked_below_start : (sets : List EventSet) → AreMarked (OfOneBelow R 0) sets sets
  marked_below_start sets = marked_none (OfOneBelow R 0) sets (λ place event (k, below, r). omega (arith, below))

  pub marked_below_more : (i : ℕ) (a b c : List EventSet) → AreMarked (OfOneBelow R i) a b → AreMarked (R i) b c → AreMarked (OfOneBelow R (i + 1)) a c
  marked_below_more i a b c before one =
      marked_as (λ place event. OfOneBelow R i place event ⊎ R i place event) (OfOneBelow R (i + 1)) a c
      (λ place event either. elim either [
        | inl (k, below, r) ↦ (k, omega (arith, below), r)
        | inr r ↦ (i, omega arith, r)
      ])
      (λ place event (k, below, r). elim (cases_lt k i) [
        | inl less ↦ inl (k, less, r)
        | inr not_less ↦ (let last : k ≡ i = omega (arith, below, not_less) in inr (subst (λ (j : ℕ). R j place event) last r))
      ])
      (marked_both (OfOneBelow R i) (R i) a b c before one)

-- ---- one event at one place

module _ (old new : List EventSet) (place event : ℕ) (before after : EventSet) (at : slice_get old place ≡ Some before) (is : new ≡ slice_set old place after)
    (written : after.occurs ≡ slice_set before.occurs event true) (within : place < length old) (fits : event < length before.occurs) where
  -- an event of what is written
  of_after : (e : ℕ) → slice_get after.occurs e ≡ Some true → (e ≡ event) ⊎ (slice_get before.occurs e ≡ Some true)
  of_after e occurs = get_set_cases before.occurs event e (subst (λ (list : List Bool). slice_get list e ≡ Some true) written occurs)

  marked_there : (i e : ℕ) → IsMarked new i e → IsMarked old i e ⊎ ((i ≡ place) × (e ≡ event))
  marked_there i e mark = elim (set_cases old place i after mark.set (subst (λ (list : List EventSet). slice_get list i ≡ Some mark.set) is mark.stands)) [
    | inl (here, same) ↦ elim (of_after e (subst (λ (x : EventSet). slice_get x.occurs e ≡ Some true) same mark.occurs)) [
      | inl one ↦ inr (here, one)
      | inr stood ↦ inl (record { set = before; stands = ap (λ (k : ℕ). slice_get old k) here ∙ at; occurs = stood })
    ]
    | inr stood ↦ inl (record { set = mark.set; stands = stood; occurs = mark.occurs })
  ]

  written_at : slice_get new place ≡ Some after
  written_at = ap (λ (list : List EventSet). slice_get list place) is ∙ set_at old place after within

  still_marked : (i e : ℕ) → IsMarked old i e → IsMarked new i e
  still_marked i e mark = elim (cases_Bool (eqb i place)) [
    | inl same ↦ (
        let here : i ≡ place = eqb-true i place same in
        let sets : mark.set ≡ before = same_Some mark.set before (sym mark.stands ∙ ap (λ (k : ℕ). slice_get old k) here ∙ at) in
        let stood = subst (λ (x : EventSet). slice_get x.occurs e ≡ Some true) sets mark.occurs in
        record {
          set = after;
          stands = ap (λ (k : ℕ). slice_get new k) here ∙ written_at;
          occurs = subst (λ (list : List Bool). slice_get list e ≡ Some true) (sym written) (get_set_keeps before.occurs event e stood);
        })
    | inr other ↦ record {
      set = mark.set;
      stands = ap (λ (list : List EventSet). slice_get list i) is ∙ set_other old place i after (eqb-false i place other) ∙ mark.stands;
      occurs = mark.occurs;
    }
  ]

  now_marked : (i e : ℕ) → i ≡ place → e ≡ event → IsMarked new i e
  now_marked i e here one = record {
    set = after;
    stands = ap (λ (k : ℕ). slice_get new k) here ∙ written_at;
    occurs = ap (λ (k : ℕ). slice_get after.occurs k) one ∙ subst (λ (list : List Bool). slice_get list event ≡ Some true) (sym written)
        (get_set_same before.occurs event true fits);
  }

  pub marked_one : AreMarked (λ i e. (i ≡ place) × (e ≡ event)) old new
  marked_one = record {
    each = λ i e. (marked_there i e, λ either. elim either [ inl mark ↦ still_marked i e mark | inr (here, one) ↦ now_marked i e here one ]);
  }
