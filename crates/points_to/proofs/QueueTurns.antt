-- What is done by a turn: one other item, or the fresh sites of a place; and where all is done.
use Rattle.std.proofs.Common.{◌≡◌, ◌↔◌, ℕ, ◌+◌, ◌≤◌, ◌⊎◌, inl, inr, List, Some, length, take, sym, ◌∙◌, ap, subst, arith}
use Rattle.std.specs.List.{slice_get, Contains}
use Rattle.std.proofs.lemmas.Bool.{cases_eq}
use Rattle.std.proofs.lemmas.List.{take_all}
use Rattle.bit_rows.specs.declared.set.NumberSet.{NumberSet}
use Rattle.bit_rows.specs.Sets.{IsIn}
use Rattle.bit_rows.proofs.Numbers.{none_in_empty}
use Rattle.bit_rows.proofs.Sets.{in_or_not}
use Rattle.least_sets.specs.Rules.{IsWithoutDoubles}
use Rattle.least_sets.proofs.Places.{in_front, place_of}
use Rattle.points_to_numbers.specs.declared.item.Item.{Item}
use Rattle.points_to_numbers.specs.declared.item.Item.TheVariants.{Holds, Runs, Calls, Constrains}
use Rattle.site_rows.specs.declared.row.SiteRow.{SiteRow}
use Rattle.site_rows.specs.declared.rows.FreshSites.{FreshSites}
use Rattle.site_rows.specs.Rows.{AreIdle, PassesOn, fresh_at}
use Rattle.site_rows.specs.Sound.{AreWithin}
use Rattle.points_to.specs.declared.queue.Turn.{Turn}
use Rattle.points_to.specs.declared.queue.Turn.TheVariants.{Sites, One}
use Rattle.points_to.specs.Queues.{IsDone, IsHeld, IsOther, State}
use Rattle.points_to.specs.Turns.{IsInTurn}
use Rattle.points_to.proofs.ItemPlaces.{before_there, last_or_before, last_there}

-- What a turn does with a work list, but for how much it is.
pub record IsTurned (old new : State) (turn : Turn) : Type 0 where
  pub held : (i : Item) → IsHeld new i ↔ IsHeld old i
  pub still : (i : Item) → IsDone old i → IsDone new i
  pub split : (i : Item) → IsDone new i → IsDone old i ⊎ IsInTurn turn i
  pub now : (i : Item) → IsInTurn turn i → IsDone new i
  pub fresh : (i : Item) → IsInTurn turn i → IsDone old i → ⊥

-- ---- another item

-- an item does not stand before its place
absent_before : (items : List Item) (at : ℕ) (item : Item) → IsWithoutDoubles items → slice_get items at ≡ Some item → Contains (take at items) item → ⊥
absent_before items at item apart e c =
    let p = place_of (take at items) item c in
    let q = in_front items at p.0 item p.1 in
    let same = apart item p.0 at q.1 e in omega (arith, q.0)

-- the same rows and the same other items have the same items
held_as : (rows : List SiteRow) (others : List Item) (done more : ℕ) (i : Item) → IsHeld (record { rows = rows; others = others; done = done }) i → IsHeld (record { rows = rows; others = others; done = more }) i
held_as rows others done more (Holds p s) h = record { there = h.there }
held_as rows others done more (Runs m) h = record { there = h.there }
held_as rows others done more (Calls call target) h = record { there = h.there }
held_as rows others done more (Constrains p c) h = record { there = h.there }

module _ (rows : List SiteRow) (others : List Item) (done : ℕ) (item : Item) (apart : IsWithoutDoubles others) (other : IsOther item) (at : slice_get others done ≡ Some item) where
  abbrev one_old : State
  one_old = record { rows = rows; others = others; done = done }

  abbrev one_new : State
  one_new = record { rows = rows; others = others; done = done + 1 }

  one_still : (i : Item) → IsDone one_old i → IsDone one_new i
  one_still (Holds p s) d = record { there = d.there }
  one_still (Runs m) d = record { there = before_there others done item at (Runs m) d.there }
  one_still (Calls call target) d = record { there = before_there others done item at (Calls call target) d.there }
  one_still (Constrains p c) d = record { there = before_there others done item at (Constrains p c) d.there }

  split_as : (i : Item) → (Contains (take done others) i → IsDone one_old i) → Contains (take (done + 1) others) i → IsDone one_old i ⊎ (i ≡ item)
  split_as i to c = elim (last_or_before others done item at i c) [ inl was ↦ inl (to was) | inr e ↦ inr (sym e) ]

  one_split : (i : Item) → IsDone one_new i → IsDone one_old i ⊎ IsInTurn (One item) i
  one_split (Holds p s) d = inl (record { there = d.there })
  one_split (Runs m) d = split_as (Runs m) (λ c. record { there = c }) d.there
  one_split (Calls call target) d = split_as (Calls call target) (λ c. record { there = c }) d.there
  one_split (Constrains p x) d = split_as (Constrains p x) (λ c. record { there = c }) d.there

  now_as : (i : Item) → item ≡ i → IsOther i → IsDone one_new i
  now_as (Holds p s) e is = absurd is
  now_as (Runs m) e is = record { there = subst (λ (j : Item). Contains (take (done + 1) others) j) e (last_there others done item at) }
  now_as (Calls call target) e is = record { there = subst (λ (j : Item). Contains (take (done + 1) others) j) e (last_there others done item at) }
  now_as (Constrains p c) e is = record { there = subst (λ (j : Item). Contains (take (done + 1) others) j) e (last_there others done item at) }

  fresh_as : (i : Item) → item ≡ i → IsOther i → IsDone one_old i → ⊥
  fresh_as (Holds p s) e is d = is
  fresh_as (Runs m) e is d = absent_before others done (Runs m) apart (at ∙ ap Some e) d.there
  fresh_as (Calls call target) e is d = absent_before others done (Calls call target) apart (at ∙ ap Some e) d.there
  fresh_as (Constrains p c) e is d = absent_before others done (Constrains p c) apart (at ∙ ap Some e) d.there

  pub one_turned : IsTurned one_old one_new (One item)
  one_turned = record {
    held = λ i. (held_as rows others (done + 1) done i, held_as rows others done (done + 1) i);
    still = one_still;
    split = one_split;
    now = λ i e. now_as i (sym e) (subst IsOther (sym e) other);
    fresh = λ i e. fresh_as i (sym e) (subst IsOther (sym e) other);
  }

-- ---- the fresh sites of a place

module _ (old new : List SiteRow) (others : List Item) (done : ℕ) (fresh : FreshSites) (sites : fresh.sites ≡ fresh_at old fresh.place) (passes : PassesOn old new fresh.place) (within : AreWithin old) where
  abbrev row_old : State
  row_old = record { rows = old; others = others; done = done }

  abbrev row_new : State
  row_new = record { rows = new; others = others; done = done }

  held_to : (i : Item) → IsHeld row_new i → IsHeld row_old i
  held_to (Holds p s) h = record { there = subst (λ (t : NumberSet). IsIn t s.0) (passes.held p.0) h.there }
  held_to (Runs m) h = record { there = h.there }
  held_to (Calls call target) h = record { there = h.there }
  held_to (Constrains p c) h = record { there = h.there }

  held_from : (i : Item) → IsHeld row_old i → IsHeld row_new i
  held_from (Holds p s) h = record { there = subst (λ (t : NumberSet). IsIn t s.0) (sym (passes.held p.0)) h.there }
  held_from (Runs m) h = record { there = h.there }
  held_from (Calls call target) h = record { there = h.there }
  held_from (Constrains p c) h = record { there = h.there }

  -- what is fresh still was fresh, and is not of the place
  fresh_still : (p s : ℕ) → IsIn (fresh_at new p) s → (p ≡ fresh.place → ⊥) × IsIn (fresh_at old p) s
  fresh_still p s is = elim (cases_eq p fresh.place) [
    | inl e ↦ absurd (none_in_empty s (subst (λ (t : NumberSet). IsIn t s) (ap (λ (k : ℕ). fresh_at new k) e ∙ passes.gone) is))
    | inr other ↦ (other, subst (λ (t : NumberSet). IsIn t s) (passes.fresh p other) is)
  ]

  row_still : (i : Item) → IsDone row_old i → IsDone row_new i
  row_still (Holds p s) d = record {
    there = record {
      held = subst (λ (t : NumberSet). IsIn t s.0) (sym (passes.held p.0)) d.there.held;
      passed = λ is. d.there.passed (fresh_still p.0 s.0 is).1;
    };
  }
  row_still (Runs m) d = record { there = d.there }
  row_still (Calls call target) d = record { there = d.there }
  row_still (Constrains p c) d = record { there = d.there }

  row_split : (i : Item) → IsDone row_new i → IsDone row_old i ⊎ IsInTurn (Sites fresh) i
  row_split (Holds p s) d =
      let held = subst (λ (t : NumberSet). IsIn t s.0) (passes.held p.0) d.there.held in
      elim (in_or_not (fresh_at old p.0) s.0) [
        | inr absent ↦ inl (record { there = record { held = held; passed = absent } })
        | inl is ↦ elim (cases_eq p.0 fresh.place) [
          | inr other ↦ absurd (d.there.passed (subst (λ (t : NumberSet). IsIn t s.0) (sym (passes.fresh p.0 other)) is))
          | inl e ↦ inr (e, subst (λ (t : NumberSet). IsIn t s.0) (ap (λ (k : ℕ). fresh_at old k) e ∙ sym sites) is)
        ]
      ]
  row_split (Runs m) d = inl (record { there = d.there })
  row_split (Calls call target) d = inl (record { there = d.there })
  row_split (Constrains p c) d = inl (record { there = d.there })

  was_fresh : (p s : ℕ) → p ≡ fresh.place → IsIn fresh.sites s → IsIn (fresh_at old p) s
  was_fresh p s e is = subst (λ (t : NumberSet). IsIn t s) (sites ∙ sym (ap (λ (k : ℕ). fresh_at old k) e)) is

  row_now : (i : Item) → IsInTurn (Sites fresh) i → IsDone row_new i
  row_now (Holds p s) (e, is) = record {
    there = record {
      held = subst (λ (t : NumberSet). IsIn t s.0) (sym (passes.held p.0)) (within.each p.0 s.0 (was_fresh p.0 s.0 e is));
      passed = λ now. (fresh_still p.0 s.0 now).0 e;
    };
  }
  row_now (Runs m) none = absurd none
  row_now (Calls call target) none = absurd none
  row_now (Constrains p c) none = absurd none

  row_fresh : (i : Item) → IsInTurn (Sites fresh) i → IsDone row_old i → ⊥
  row_fresh (Holds p s) (e, is) d = d.there.passed (was_fresh p.0 s.0 e is)
  row_fresh (Runs m) none d = none
  row_fresh (Calls call target) none d = none
  row_fresh (Constrains p c) none d = none

  pub row_turned : IsTurned row_old row_new (Sites fresh)
  row_turned = record { held = λ i. (held_to i, held_from i); still = row_still; split = row_split; now = row_now; fresh = row_fresh }

-- ---- all is done

pub all_done : (rows : List SiteRow) (others : List Item) (done : ℕ) → AreIdle rows → length others ≤ done
    → (i : Item) → IsHeld (record { rows = rows; others = others; done = done }) i → IsDone (record { rows = rows; others = others; done = done }) i
all_done rows others done idle past (Holds p s) h = record {
  there = record { held = h.there; passed = λ is. none_in_empty s.0 (subst (λ (t : NumberSet). IsIn t s.0) (idle.none p.0) is) };
}
all_done rows others done idle past (Runs m) h = record { there = subst (λ (xs : List Item). Contains xs (Runs m)) (sym (take_all done others past)) h.there }
all_done rows others done idle past (Calls call target) h = record { there = subst (λ (xs : List Item). Contains xs (Calls call target)) (sym (take_all done others past)) h.there }
all_done rows others done idle past (Constrains p c) h = record { there = subst (λ (xs : List Item). Contains xs (Constrains p c)) (sym (take_all done others past)) h.there }
