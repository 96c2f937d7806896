-- What a work list takes in, step by step.
use Rattle.std.proofs.Common.{◌≡◌, ℕ, ◌+◌, ◌<◌, ◌≤◌, ◌⊎◌, inl, inr, Bool, true, false, cond, List, [], ◌∷◌, ◌++◌, length, get_or, take, refl, sym, ◌∙◌, ap, subst, arith, length-append}
use Rattle.std.specs.List.{All, Contains, list_any}
use Rattle.std.proofs.lemmas.List.{take-append-le}
use Rattle.std.proofs.lemmas.List.Elements.{All-more, All-weaker, Contains-append_left, Contains-get_or, Contains-push_cases}
use Rattle.failure.specs.declared.Failure.{Failure}
use Rattle.failure.specs.declared.Failure.TheVariants.{Cause, OutOfMemory}
use Rattle.points_to_rules.specs.declared.solve_fault.SolveFault.{SolveFault}
use Rattle.points_to_rules.specs.declared.solve_fault.SolveFault.TheVariants.{PairLimit, Refused, TooMany}
use Rattle.indexmap.specs.IndexSet.{insert_key}
use Rattle.bit_rows.proofs.Sets.{in_or_not}
use Rattle.least_sets.proofs.Places.{first, first_or_later, nothing_in}
use Rattle.points_to_numbers.specs.declared.item.Item.{Item}
use Rattle.points_to_numbers.specs.declared.item.Item.TheVariants.{Holds, Runs, Calls, Constrains}
use Rattle.site_rows.specs.declared.row.SiteRow.{SiteRow}
use Rattle.site_rows.specs.Rows.{Gains, held_at}
use Rattle.points_to.specs.Queues.{HasPassed, IsDone, IsHeld, IsOther, IsQueueEnd, State, Takes, pair_item}
use Rattle.points_to.proofs.ExactItems.{same_items}

pub takes_none : (s : State) (steps : List Item) → Takes s steps s
takes_none s steps = record { kept = λ i h. h; only = λ i h. inl h; done = λ i. ((λ d. d), (λ d. d)) }

-- one step more
pub takes_more : (old mid new : State) (steps : List Item) (k : ℕ) (d : Item) → k < length steps → Takes old steps mid → Takes mid (get_or steps k d ∷ []) new → Takes old steps new
takes_more old mid new steps k d l before one = record {
  kept = λ i h. one.kept i (before.kept i h);
  only = λ i h. elim (one.only i h) [
    | inl was ↦ before.only i was
    | inr step ↦ elim (first_or_later (get_or steps k d) [] i step) [
      | inl e ↦ inr (subst (λ (j : Item). Contains steps j) e (Contains-get_or steps k d l))
      | inr none ↦ absurd (nothing_in i none)
    ]
  ];
  done = λ i. ((λ h. (before.done i).0 ((one.done i).0 h)), (λ h. (one.done i).1 ((before.done i).1 h)));
}

-- where one step more is the last
pub end_more : (old mid new : State) (steps : List Item) (k : ℕ) (d : Item) → k < length steps → Takes old steps mid → (limit : ℕ) (failure : Failure SolveFault) → IsQueueEnd mid (get_or steps k d ∷ []) new limit failure
    → IsQueueEnd old steps new limit failure
end_more old mid new steps k d l before limit (Cause (PairLimit n)) end = (end.0, end.1, takes_more old mid new steps k d l before end.2)
end_more old mid new steps k d l before limit (Cause (Refused r)) end = absurd end
end_more old mid new steps k d l before limit (Cause TooMany) end = end
end_more old mid new steps k d l before limit OutOfMemory end = tt

-- the first steps are there, and one more
pub held_more : (mid new : State) (steps : List Item) (k : ℕ) (d : Item) → k < length steps → All (IsHeld mid) (take k steps) → Takes mid (get_or steps k d ∷ []) new → IsHeld new (get_or steps k d)
    → All (IsHeld new) (take (k + 1) steps)
held_more mid new steps k d l held one there = All-more (IsHeld new) steps k d l (All-weaker (IsHeld mid) (IsHeld new) one.kept (take k steps) held) there

-- ---- a pair

module _ (old new : List SiteRow) (others : List Item) (done place site : ℕ) (gains : Gains old new (λ q n. (q ≡ place) × (n ≡ site))) where
  abbrev before : State
  before = record { rows = old; others = others; done = done }

  abbrev after : State
  after = record { rows = new; others = others; done = done }

  pair_kept : (i : Item) → IsHeld before i → IsHeld after i
  pair_kept (Holds p s) h = record { there = (gains.held p.0).at_most.kept s.0 h.there }
  pair_kept (Runs m) h = record { there = h.there }
  pair_kept (Calls call target) h = record { there = h.there }
  pair_kept (Constrains p c) h = record { there = h.there }

  pair_only : (i : Item) → IsHeld after i → IsHeld before i ⊎ Contains (pair_item place site ∷ []) i
  pair_only (Holds p s) h = elim ((gains.held p.0).at_most.only s.0 h.there) [
    | inl was ↦ inl (record { there = was })
    | inr (e, f) ↦
        (let same : pair_item place site ≡ Holds p s = (λ i. Holds (record { 0 = sym e i }) (record { 0 = sym f i })) in
        inr (subst (λ (j : Item). Contains (pair_item place site ∷ []) j) same (first (pair_item place site) [])))
  ]
  pair_only (Runs m) h = inl (record { there = h.there })
  pair_only (Calls call target) h = inl (record { there = h.there })
  pair_only (Constrains p c) h = inl (record { there = h.there })

  -- what is passed on is as it was
  passed_before : (p s : ℕ) → HasPassed new p s → HasPassed old p s
  passed_before p s h = record {
    held = elim (in_or_not (held_at old p) s) [
      | inl was ↦ was
      | inr absent ↦ elim ((gains.held p).at_most.only s h.held) [
        | inl was ↦ was
        | inr is ↦ absurd (h.passed ((gains.fresh p).added s (record { offered = is; absent = absent })))
      ]
    ];
    passed = λ fresh. h.passed ((gains.fresh p).at_most.kept s fresh);
  }

  passed_after : (p s : ℕ) → HasPassed old p s → HasPassed new p s
  passed_after p s h = record {
    held = (gains.held p).at_most.kept s h.held;
    passed = λ fresh. elim ((gains.fresh p).at_most.only s fresh) [ inl was ↦ h.passed was | inr is ↦ is.absent h.held ];
  }

  pair_before : (i : Item) → IsDone after i → IsDone before i
  pair_before (Holds p s) d = record { there = passed_before p.0 s.0 d.there }
  pair_before (Runs m) d = record { there = d.there }
  pair_before (Calls call target) d = record { there = d.there }
  pair_before (Constrains p c) d = record { there = d.there }

  pair_after : (i : Item) → IsDone before i → IsDone after i
  pair_after (Holds p s) d = record { there = passed_after p.0 s.0 d.there }
  pair_after (Runs m) d = record { there = d.there }
  pair_after (Calls call target) d = record { there = d.there }
  pair_after (Constrains p c) d = record { there = d.there }

  pub pair_takes : Takes before (pair_item place site ∷ []) after
  pair_takes = record { kept = pair_kept; only = pair_only; done = λ i. (pair_before i, pair_after i) }

  pub pair_there : IsHeld after (pair_item place site)
  pair_there = record { there = (gains.held place).added site (refl, refl) }

-- ---- another item

-- it was there, or comes at the end
pub inserted : (old : List Item) (item : Item) → (insert_key same_items old item ≡ old) ⊎ (insert_key same_items old item ≡ old ++ item ∷ [])
inserted old item = by (list_any (same_items item) old) refl
  where
    by : (b : Bool) → list_any (same_items item) old ≡ b → (insert_key same_items old item ≡ old) ⊎ (insert_key same_items old item ≡ old ++ item ∷ [])
    by true e = inl (ap (λ (b : Bool). cond b old (old ++ item ∷ [])) e)
    by false e = inr (ap (λ (b : Bool). cond b old (old ++ item ∷ [])) e)

module _ (rows : List SiteRow) (old new : List Item) (done : ℕ) (item : Item) (within : done ≤ length old) (longer : (new ≡ old) ⊎ (new ≡ old ++ item ∷ [])) where
  abbrev first_state : State
  first_state = record { rows = rows; others = old; done = done }

  abbrev then_state : State
  then_state = record { rows = rows; others = new; done = done }

  pub other_kept : (i : Item) → Contains old i → Contains new i
  other_kept i there = elim longer [
    | inl e ↦ subst (λ (xs : List Item). Contains xs i) (sym e) there
    | inr e ↦ subst (λ (xs : List Item). Contains xs i) (sym e) (Contains-append_left old (item ∷ []) i there)
  ]

  pub other_only : (i : Item) → Contains new i → Contains old i ⊎ (item ≡ i)
  other_only i there = elim longer [
    | inl e ↦ inl (subst (λ (xs : List Item). Contains xs i) e there)
    | inr e ↦ Contains-push_cases old item i (subst (λ (xs : List Item). Contains xs i) e there)
  ]

  pub other_within : done ≤ length new
  other_within = elim longer [
    | inl e ↦ (let same = ap (λ (xs : List Item). length xs) e in omega arith)
    | inr e ↦ (let same = ap (λ (xs : List Item). length xs) e in omega (arith, length-append old (item ∷ [])))
  ]

  same_front : take done new ≡ take done old
  same_front = elim longer [
    | inl e ↦ ap (λ (xs : List Item). take done xs) e
    | inr e ↦ ap (λ (xs : List Item). take done xs) e ∙ rw take-append-le refl
  ]

  state_kept : (i : Item) → IsHeld first_state i → IsHeld then_state i
  state_kept (Holds p s) h = record { there = h.there }
  state_kept (Runs m) h = record { there = other_kept (Runs m) h.there }
  state_kept (Calls call target) h = record { there = other_kept (Calls call target) h.there }
  state_kept (Constrains p c) h = record { there = other_kept (Constrains p c) h.there }

  only_as : (i : Item) → (Contains old i → IsHeld first_state i) → Contains new i → IsHeld first_state i ⊎ Contains (item ∷ []) i
  only_as i to there = elim (other_only i there) [
    | inl was ↦ inl (to was)
    | inr e ↦ inr (subst (λ (j : Item). Contains (item ∷ []) j) e (first item []))
  ]

  state_only : (i : Item) → IsHeld then_state i → IsHeld first_state i ⊎ Contains (item ∷ []) i
  state_only (Holds p s) h = inl (record { there = h.there })
  state_only (Runs m) h = only_as (Runs m) (λ c. record { there = c }) h.there
  state_only (Calls call target) h = only_as (Calls call target) (λ c. record { there = c }) h.there
  state_only (Constrains p x) h = only_as (Constrains p x) (λ c. record { there = c }) h.there

  front_to : (i : Item) → Contains (take done new) i → Contains (take done old) i
  front_to i c = subst (λ (xs : List Item). Contains xs i) same_front c

  front_from : (i : Item) → Contains (take done old) i → Contains (take done new) i
  front_from i c = subst (λ (xs : List Item). Contains xs i) (sym same_front) c

  state_before : (i : Item) → IsDone then_state i → IsDone first_state i
  state_before (Holds p s) d = record { there = d.there }
  state_before (Runs m) d = record { there = front_to (Runs m) d.there }
  state_before (Calls call target) d = record { there = front_to (Calls call target) d.there }
  state_before (Constrains p c) d = record { there = front_to (Constrains p c) d.there }

  state_after : (i : Item) → IsDone first_state i → IsDone then_state i
  state_after (Holds p s) d = record { there = d.there }
  state_after (Runs m) d = record { there = front_from (Runs m) d.there }
  state_after (Calls call target) d = record { there = front_from (Calls call target) d.there }
  state_after (Constrains p c) d = record { there = front_from (Constrains p c) d.there }

  pub other_takes : Takes first_state (item ∷ []) then_state
  other_takes = record { kept = state_kept; only = state_only; done = λ i. (state_before i, state_after i) }

-- an item that is no pair is there where it is among the others
pub other_there : (s : State) (i : Item) → IsOther i → Contains s.others i → IsHeld s i
other_there s (Holds p q) other there = absurd other
other_there s (Runs m) other there = record { there = there }
other_there s (Calls call target) other there = record { there = there }
other_there s (Constrains p c) other there = record { there = there }
