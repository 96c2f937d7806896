-- Public contracts rest on this module.
-- Values in lists by number, in the order in which they were added; and walks over the list of one number.
use Rattle.std.specs.Prelude.{◌≡◌, ℕ, suc, ◌<◌, ◌≤◌, List, Option, None, Some, slice_get}
use Rattle.chained_lists.specs.declared.place.Place.{Place}

-- A value, and the number of the list that it was added to.
pub record Entry : Type 0 where
  pub number : ℕ
  pub value : ℕ

abbrev pub entry : ℕ → ℕ → Entry
entry n v = record { number = n; value = v }

-- The place is that of a value in the list of the number.
pub record IsPlace (es : List Entry) (number place : ℕ) : Type 0 where
  pub value : ℕ
  pub at : slice_get es place ≡ Some (entry number value)

-- From the first place on there is no value in the list of the number.
pub record HasNoneFrom (es : List Entry) (number first : ℕ) : Type 0 where
  pub none : (k value : ℕ) → first ≤ k → slice_get es k ≡ Some (entry number value) → ⊥

-- From the first place on this is where the next value in the list of the number stands.
pub record IsNext (es : List Entry) (number first place : ℕ) : Type 0 where
  pub from : first ≤ place
  pub there : IsPlace es number place
  pub before : (k value : ℕ) → first ≤ k → k < place → slice_get es k ≡ Some (entry number value) → ⊥

-- ---- walks

-- The first place that a walk has still before it, where the last one that it met is this.
abbrev pub passed : Option Place → ℕ
passed None = 0
passed (Some p) = suc p.0

-- The last place that a walk met is one of the list.
pub record IsOn (es : List Entry) (number : ℕ) (last : Option Place) : Type 0 where
  pub place : (p : Place) → last ≡ Some p → IsPlace es number p.0

-- Of all values that a walk has met this holds.
pub record IsWalked (P : ℕ → Type 0) (es : List Entry) (number : ℕ) (last : Option Place) : Type 0 where
  pub on : IsOn es number last
  pub met : (k value : ℕ) → k < passed last → slice_get es k ≡ Some (entry number value) → P value

-- What stands in the old list stands at its place in the new one.
pub record IsFront (old new : List Entry) : Type 0 where
  pub stays : (k : ℕ) (e : Entry) → slice_get old k ≡ Some e → slice_get new k ≡ Some e
