-- A value is placed in a row: its branch is added after those of the row below it.
use Rattle.std.proofs.Common.{◌≡◌, ◌≢◌, ℕ, zero, suc, ◌/◌, ◌%◌, ◌≤◌, Bool, true, false, cond, eqb, List, [], ◌∷◌, ◌++◌, length, refl, sym, ◌∙◌, ap, subst, arith, inl, inr, ◌⊎◌}
use Rattle.std.specs.List.{slice_get}
use Rattle.std.specs.Option.{unwrap_or}
use Rattle.std.proofs.lemmas.Bool.{cases_Bool, cases_eq, eqb-true, eqb-false}
use Rattle.list_laws.proofs.Places.{push_cases, pushed_at}
use Rattle.slot_names.specs.declared.branch.Branch.{Branch}
use Rattle.slot_names.specs.Branches.{branch_at, empty_branch, next_row, with_next, value_of, AreBranches, Extends, IsAdded, IsPlaced}
use Rattle.slot_names.proofs.ListPlaces.{Extends-push, Extends-both, length-extends}
use Rattle.slot_names.proofs.RowValues.{value_of-zero, value_of-suc, value_stays, next_made, odd_made, even_made}

-- ---- a branch is added

AreBranches-push : (branches : List Branch) (b : Branch) (bound : ℕ) → AreBranches branches bound → b.odd ≤ length branches → b.even ≤ length branches
    → b.value ≤ bound → AreBranches (branches ++ b ∷ []) bound
AreBranches-push branches b bound sound odd even value = record {
  odd = λ place x e. elim (push_cases branches b place x e) [
    | inl old ↦ sound.odd place x old
    | inr last ↦ (let is = ap (λ (y : Branch). y.odd) last.1 in omega (arith, is, last.0))
  ];
  even = λ place x e. elim (push_cases branches b place x e) [
    | inl old ↦ sound.even place x old
    | inr last ↦ (let is = ap (λ (y : Branch). y.even) last.1 in omega (arith, is, last.0))
  ];
  value = λ place x e. elim (push_cases branches b place x e) [
    | inl old ↦ sound.value place x old
    | inr last ↦ (let is = ap (λ (y : Branch). y.value) last.1 in omega (arith, is))
  ];
}

-- where there may be no memory for it
pub sound_pushed : (old new : List Branch) (b : Branch) (bound : ℕ) (ok : Bool) → AreBranches old bound → b.odd ≤ length old → b.even ≤ length old → b.value ≤ bound
    → new ≡ cond ok (old ++ b ∷ []) old → AreBranches new bound
sound_pushed old new b bound true sound odd even value is =
    subst (λ (xs : List Branch). AreBranches xs bound) (sym is) (AreBranches-push old b bound sound odd even value)
sound_pushed old new b bound false sound odd even value is = subst (λ (xs : List Branch). AreBranches xs bound) (sym is) sound

pub added : (old new : List Branch) (b : Branch) (row : ℕ) → new ≡ old ++ b ∷ [] → row ≡ length new → IsAdded old new b row
added old new b row is last =
    let count : length new ≡ suc (length old) = ap (length {A = Branch}) is ∙ length-pushed old b in
    record {
      is = ap (λ (xs : List Branch). slice_get xs (length old)) is ∙ pushed_at old b;
      stays = subst (λ (xs : List Branch). Extends old xs) (sym is) (Extends-push old b);
      last = last ∙ count;
      count = count;
    }
  where
    length-pushed : (xs : List Branch) (y : Branch) → length (xs ++ y ∷ []) ≡ suc (length xs)
    length-pushed [] y = refl
    length-pushed (x ∷ xs) y = ap suc (length-pushed xs y)

-- it is the branch of the row
added_branch : (old new : List Branch) (b : Branch) (row : ℕ) → IsAdded old new b row → branch_at new row ≡ b
added_branch old new b row a = ap (branch_at new) a.last ∙ ap (λ o. unwrap_or o empty_branch) a.is

-- ---- the rows below a branch

-- the slots in which the row is another, and the others
next_same : (b : Branch) (slot z row : ℕ) → eqb (slot % 2) 0 ≡ eqb (z % 2) 0 → next_row (with_next b slot row) z ≡ row
next_same b slot z row e = by (eqb (slot % 2) 0) (eqb (z % 2) 0) e
  where
    by : (s t : Bool) → s ≡ t → (let c = cond s (record b { odd = row }) (record b { even = row }) in cond t c.odd c.even ≡ row)
    by true true h = refl
    by false false h = refl
    by true false h = cc
    by false true h = cc

next_other : (b : Branch) (slot z row : ℕ) → (eqb (slot % 2) 0 ≡ eqb (z % 2) 0 → ⊥) → next_row (with_next b slot row) z ≡ next_row b z
next_other b slot z row apart = by (eqb (slot % 2) 0) (eqb (z % 2) 0) apart
  where
    by : (s t : Bool) → (s ≡ t → ⊥) → (let c = cond s (record b { odd = row }) (record b { even = row }) in cond t c.odd c.even ≡ cond t b.odd b.even)
    by true true h = absurd (h refl)
    by false false h = absurd (h refl)
    by true false h = refl
    by false true h = refl

value_same : (b : Branch) (slot row : ℕ) → (with_next b slot row).value ≡ b.value
value_same b slot row = by (eqb (slot % 2) 0)
  where
    by : (s : Bool) → (cond s (record b { odd = row }) (record b { even = row })).value ≡ b.value
    by true = refl
    by false = refl

-- two slots of one half that differ differ there
same_half : (slot z : ℕ) → eqb (slot % 2) 0 ≡ eqb (z % 2) 0 → slot % 2 ≡ z % 2
same_half slot z e = by (cases_Bool (eqb (z % 2) 0))
  where
    by : (eqb (z % 2) 0 ≡ true) ⊎ (eqb (z % 2) 0 ≡ false) → slot % 2 ≡ z % 2
    by (inl t) =
        let a = eqb-true (z % 2) 0 t in
        let b = eqb-true (slot % 2) 0 (e ∙ t) in
        omega (arith, a, b)
    by (inr f) =
        let a = eqb-false (z % 2) 0 f in
        let b = eqb-false (slot % 2) 0 (e ∙ f) in
        omega (arith, a, b)

halves_differ : (slot z : ℕ) → slot % 2 ≡ z % 2 → z ≢ slot → z / 2 ≢ slot / 2
halves_differ slot z e apart same = apart (omega (arith, e, same))

-- ---- the value of the slot 0

pub placed_first : (old new : List Branch) (bound row value placed : ℕ) (b : Branch) → AreBranches old bound → row ≤ length old → b ≡ branch_at old row
    → IsAdded old new (record b { value = value }) placed → IsPlaced old new row 0 value placed
placed_first old new bound row value placed b sound made is a =
    let here = added_branch old new (record b { value = value }) placed a in
    record {
      stays = a.stays;
      made = omega (arith, a.last, a.count);
      here = value_of-zero new placed ∙ ap (λ (x : Branch). x.value) here;
      others = λ z apart. by z apart here;
    }
  where
    by : (z : ℕ) → z ≢ 0 → branch_at new placed ≡ record b { value = value } → value_of new placed z ≡ value_of old row z
    by zero apart here = absurd (apart refl)
    by (suc z) apart here =
        let next : next_row (branch_at new placed) z ≡ next_row (branch_at old row) z = ap (λ (x : Branch). next_row x z) here ∙ ap (λ (x : Branch). next_row x z) is in
        value_of-suc new placed z ∙ ap (λ (r : ℕ). value_of new r (z / 2)) next
        ∙ value_stays old new bound (next_row (branch_at old row) z) (z / 2) a.stays sound (next_made old bound row z sound made) ∙ sym (value_of-suc old row z)

-- ---- the value of a slot after it

-- at the first slot
below_first : (old new : List Branch) (row slot next placed : ℕ) (b : Branch) → b ≡ branch_at old row → branch_at new placed ≡ with_next b slot next
    → value_of new placed 0 ≡ value_of old row 0
below_first old new row slot next placed b is here =
    value_of-zero new placed ∙ ap (λ (x : Branch). x.value) here ∙ value_same b slot next ∙ ap (λ (x : Branch). x.value) is ∙ sym (value_of-zero old row)

-- at a slot of the same half
below_same : (old mid new : List Branch) (bound row slot value next placed z : ℕ) (b : Branch) → AreBranches mid bound → b ≡ branch_at old row
    → IsPlaced old mid (next_row b slot) (slot / 2) value next → Extends mid new → branch_at new placed ≡ with_next b slot next → slot % 2 ≡ z % 2 → z ≢ slot
    → value_of new placed (suc z) ≡ value_of old row (suc z)
below_same old mid new bound row slot value next placed z b mid_sound is below longer here half apart =
    let test : eqb (slot % 2) 0 ≡ eqb (z % 2) 0 = ap (λ (n : ℕ). eqb n 0) half in
    value_of-suc new placed z
    ∙ ap (λ (r : ℕ). value_of new r (z / 2)) (ap (λ (x : Branch). next_row x z) here ∙ next_same b slot z next test)
    ∙ value_stays mid new bound next (z / 2) longer mid_sound below.made
    ∙ below.others (z / 2) (halves_differ slot z half apart)
    ∙ ap (λ (t : Bool). value_of old (cond t b.odd b.even) (z / 2)) test
    ∙ ap (λ (x : Branch). value_of old (next_row x z) (z / 2)) is
    ∙ sym (value_of-suc old row z)

-- at a slot of the other half
below_other : (old new : List Branch) (bound row slot next placed z : ℕ) (b : Branch) → AreBranches old bound → row ≤ length old → b ≡ branch_at old row
    → Extends old new → branch_at new placed ≡ with_next b slot next → (slot % 2 ≡ z % 2 → ⊥) → value_of new placed (suc z) ≡ value_of old row (suc z)
below_other old new bound row slot next placed z b sound made is longer here half =
    value_of-suc new placed z
    ∙ ap (λ (r : ℕ). value_of new r (z / 2))
    (ap (λ (x : Branch). next_row x z) here ∙ next_other b slot z next (λ e. half (same_half slot z e)) ∙ ap (λ (x : Branch). next_row x z) is)
    ∙ value_stays old new bound (next_row (branch_at old row) z) (z / 2) longer sound (next_made old bound row z sound made)
    ∙ sym (value_of-suc old row z)

placed_below : (old mid new : List Branch) (bound more row slot value next placed : ℕ) (b : Branch) → AreBranches old bound → AreBranches mid more → row ≤ length old
    → b ≡ branch_at old row → IsPlaced old mid (next_row b slot) (slot / 2) value next → IsAdded mid new (with_next b slot next) placed
    → IsPlaced old new row (suc slot) value placed
placed_below old mid new bound more row slot value next placed b sound mid_sound made is below a =
    let here = added_branch mid new (with_next b slot next) placed a in
    let longer = Extends-both old mid new below.stays a.stays in
    record {
      stays = longer;
      made = omega (arith, a.last, a.count);
      here = value_of-suc new placed slot
          ∙ ap (λ (r : ℕ). value_of new r (slot / 2)) (ap (λ (x : Branch). next_row x slot) here ∙ next_same b slot slot next refl)
          ∙ value_stays mid new more next (slot / 2) a.stays mid_sound below.made ∙ below.here;
      others = λ z apart. by z apart here longer;
    }
  where
    by : (z : ℕ) → z ≢ suc slot → branch_at new placed ≡ with_next b slot next → Extends old new → value_of new placed z ≡ value_of old row z
    by zero apart here longer = below_first old new row slot next placed b is here
    by (suc z) apart here longer = elim (cases_eq (slot % 2) (z % 2)) [
      | inl half ↦ below_same old mid new more row slot value next placed z b mid_sound is below a.stays here half (λ e. apart (ap suc e))
      | inr half ↦ below_other old new bound row slot next placed z b sound made is longer here half
    ]

-- the same, as the code has it
pub placed_after : (old mid new : List Branch) (bound more row slot before value start next placed : ℕ) (b w : Branch) → AreBranches old bound → AreBranches mid more
    → row ≤ length old → b ≡ branch_at old row → slot ≡ suc before → start ≡ next_row b before → IsPlaced old mid start (before / 2) value next
    → w ≡ with_next b before next → IsAdded mid new w placed → IsPlaced old new row slot value placed
placed_after old mid new bound more row slot before value start next placed b w sound mid_sound made is e starts below with a =
    subst (λ (s : ℕ). IsPlaced old new row s value placed) (sym e)
    (placed_below old mid new bound more row before value next placed b sound mid_sound made is
    (subst (λ (r : ℕ). IsPlaced old mid r (before / 2) value next) starts below) (subst (λ (x : Branch). IsAdded mid new x placed) with a))

-- ---- the rows of the new branch are made

with_next_odd : (b : Branch) (slot row count : ℕ) → b.odd ≤ count → row ≤ count → (with_next b slot row).odd ≤ count
with_next_odd b slot row count l m = by (eqb (slot % 2) 0)
  where
    by : (s : Bool) → (cond s (record b { odd = row }) (record b { even = row })).odd ≤ count
    by true = m
    by false = l

with_next_even : (b : Branch) (slot row count : ℕ) → b.even ≤ count → row ≤ count → (with_next b slot row).even ≤ count
with_next_even b slot row count l m = by (eqb (slot % 2) 0)
  where
    by : (s : Bool) → (cond s (record b { odd = row }) (record b { even = row })).even ≤ count
    by true = l
    by false = m

pub next_odd : (old mid : List Branch) (bound row start slot value next before : ℕ) (b w : Branch) → AreBranches old bound → row ≤ length old → b ≡ branch_at old row
    → IsPlaced old mid start slot value next → w ≡ with_next b before next → w.odd ≤ length mid
next_odd old mid bound row start slot value next before b w sound made is below e =
    let longer = length-extends old mid below.stays in
    let first : b.odd ≤ length mid = (let o = odd_made old bound row sound made in let same = ap (λ (x : Branch). x.odd) is in omega (arith, o, same, longer)) in
    subst (λ (x : Branch). x.odd ≤ length mid) (sym e) (with_next_odd b before next (length mid) first below.made)

pub next_even : (old mid : List Branch) (bound row start slot value next before : ℕ) (b w : Branch) → AreBranches old bound → row ≤ length old → b ≡ branch_at old row
    → IsPlaced old mid start slot value next → w ≡ with_next b before next → w.even ≤ length mid
next_even old mid bound row start slot value next before b w sound made is below e =
    let longer = length-extends old mid below.stays in
    let first : b.even ≤ length mid = (let o = even_made old bound row sound made in let same = ap (λ (x : Branch). x.even) is in omega (arith, o, same, longer)) in
    subst (λ (x : Branch). x.even ≤ length mid) (sym e) (with_next_even b before next (length mid) first below.made)
