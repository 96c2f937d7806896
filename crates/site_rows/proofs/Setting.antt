-- What stands at a place of rows when a row was pushed or set there; and how many pairs there are then.
use Rattle.std.proofs.Common.{◌≡◌, inl, inr, ℕ, zero, suc, ◌+◌, ◌<◌, List, [], ◌∷◌, ◌++◌, Some, length, set, refl, sym, ap, ◌∙◌, subst, arith}
use Rattle.std.specs.List.{slice_get, sum_by}
use Rattle.std.proofs.lemmas.Bool.{cases_eq}
use Rattle.std.proofs.lemmas.List.Sums.{sum_by-set, sum_by-cons}
use Rattle.std.proofs.lemmas.Option.{get_or_from_slice_get}
use Rattle.list_laws.proofs.Places.{set_at, set_other}
use Rattle.bit_rows.specs.declared.set.NumberSet.{NumberSet}
use Rattle.bit_rows.specs.declared.set.NumberSet.TheVariants.{Empty}
use Rattle.bit_rows.specs.Sets.{numbers_of}
use Rattle.bit_rows.proofs.Numbers.{none_listed}
use Rattle.site_rows.specs.declared.row.SiteRow.{SiteRow}
use Rattle.site_rows.specs.Rows.{HasSameRows, PassesOn, fresh_at, fresh_count, fresh_in, held_at, held_count, held_in}

-- the sums of a row more
sum_pushed : (f : SiteRow → ℕ) (rows : List SiteRow) (row : SiteRow) → f row ≡ 0 → sum_by f (rows ++ row ∷ []) ≡ sum_by f rows
sum_pushed f [] row none = sum_by-cons f row [] ∙ (let n = none in omega arith)
sum_pushed f (r ∷ rows) row none = sum_by-cons f r (rows ++ row ∷ []) ∙ ap (λ (k : ℕ). f r + k) (sum_pushed f rows row none) ∙ sym (sum_by-cons f r rows)

held_pushed : (rows : List SiteRow) (row : SiteRow) → row.held ≡ Empty → (q : ℕ) → held_at (rows ++ row ∷ []) q ≡ held_at rows q
held_pushed [] row none zero = none
held_pushed [] row none (suc q) = refl
held_pushed (r ∷ rows) row none zero = refl
held_pushed (r ∷ rows) row none (suc q) = held_pushed rows row none q

fresh_pushed : (rows : List SiteRow) (row : SiteRow) → row.fresh ≡ Empty → (q : ℕ) → fresh_at (rows ++ row ∷ []) q ≡ fresh_at rows q
fresh_pushed [] row none zero = none
fresh_pushed [] row none (suc q) = refl
fresh_pushed (r ∷ rows) row none zero = refl
fresh_pushed (r ∷ rows) row none (suc q) = fresh_pushed rows row none q

count_none : (set : NumberSet) → set ≡ Empty → length (numbers_of set) ≡ 0
count_none set none = ap (λ (s : NumberSet). length (numbers_of s)) none ∙ ap (λ (ns : List ℕ). length ns) none_listed

-- a row of nothing more changes nothing
pub same_pushed : (old rows : List SiteRow) (row : SiteRow) → HasSameRows old rows → row.held ≡ Empty → row.fresh ≡ Empty → HasSameRows old (rows ++ row ∷ [])
same_pushed old rows row h held fresh = record {
  held = λ q. held_pushed rows row held q ∙ h.held q;
  fresh = λ q. fresh_pushed rows row fresh q ∙ h.fresh q;
  pairs = sum_pushed held_count rows row (count_none row.held held) ∙ h.pairs;
  fresh_ones = sum_pushed fresh_count rows row (count_none row.fresh fresh) ∙ h.fresh_ones;
}

pub same_rows : (rows : List SiteRow) → HasSameRows rows rows
same_rows rows = record { held = λ q. refl; fresh = λ q. refl; pairs = refl; fresh_ones = refl }

-- ---- a row that is set

module _ (rows : List SiteRow) (place : ℕ) (row new : SiteRow) (within : place < length rows) (stands : slice_get rows place ≡ Some row) where
  pub held_here : held_at (set rows place new) place ≡ new.held
  held_here = ap held_in (set_at rows place new within)

  pub fresh_here : fresh_at (set rows place new) place ≡ new.fresh
  fresh_here = ap fresh_in (set_at rows place new within)

  pub held_else : (q : ℕ) → (q ≡ place → ⊥) → held_at (set rows place new) q ≡ held_at rows q
  held_else q other = ap held_in (set_other rows place q new other)

  pub fresh_else : (q : ℕ) → (q ≡ place → ⊥) → fresh_at (set rows place new) q ≡ fresh_at rows q
  fresh_else q other = ap fresh_in (set_other rows place q new other)

  pub held_before : held_at rows place ≡ row.held
  held_before = ap held_in stands

  pub fresh_before : fresh_at rows place ≡ row.fresh
  fresh_before = ap fresh_in stands

  pub sum_set : (f : SiteRow → ℕ) → sum_by f (set rows place new) + f row ≡ sum_by f rows + f new
  sum_set f = ap (λ (k : ℕ). sum_by f (set rows place new) + k) (sym (ap f (get_or_from_slice_get rows place row row stands))) ∙ sum_by-set f rows place new row within

  -- the fresh sites of the row are taken
  pub passed_here : new.held ≡ row.held → new.fresh ≡ Empty → PassesOn rows (set rows place new) place
  passed_here same none = record {
    held = λ q. elim (cases_eq q place) [
      | inl e ↦ subst (λ (k : ℕ). held_at (set rows place new) k ≡ held_at rows k) (sym e) (held_here ∙ same ∙ sym held_before)
      | inr other ↦ held_else q other
    ];
    gone = fresh_here ∙ none;
    fresh = λ q other. fresh_else q other;
    pairs = (let s = sum_set held_count in let e : held_count new ≡ held_count row = ap (λ (s : NumberSet). length (numbers_of s)) same in omega arith);
    fresh_ones =
        (let s = sum_set fresh_count in
        let zero_new : fresh_count new ≡ 0 = count_none new.fresh none in
        let own : length (numbers_of (fresh_at rows place)) ≡ fresh_count row = ap (λ (s : NumberSet). length (numbers_of s)) fresh_before in
        omega arith);
  }

-- no row is there
pub passed_nowhere : (rows : List SiteRow) (place : ℕ) → fresh_at rows place ≡ Empty → PassesOn rows rows place
passed_nowhere rows place none = record {
  held = λ q. refl;
  gone = none;
  fresh = λ q other. refl;
  pairs = refl;
  fresh_ones = (let own : length (numbers_of (fresh_at rows place)) ≡ 0 = count_none (fresh_at rows place) none in omega arith);
}
