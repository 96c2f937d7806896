-- What a binary search finds among instructions in the order of their offsets.
use Rattle.std.proofs.Common.{◌≡◌, ℕ, zero, suc, ◌+◌, ◌-◌, ◌<◌, ◌≤◌, Bool, false, cond, eqb, ltb, List, [], ◌∷◌, length, get_or, Some, None, Result, Ok, Err, refl, sym, ap, ◌∙◌, inl, inr, ◌⊎◌, arith}
use Rattle.std.specs.List.{AllByRecursion, position_or_len}
use Rattle.std.specs.List.Sorted.{IsSearchInRange, IsBinarySearchResult}
use Rattle.std.specs.Ordering.{nat_cmp, ordering_index}
use Rattle.std.specs.declared.cmp.Ordering.TheVariants.{Less, Greater}
use Rattle.std.specs.Result.{result_ok}
use Rattle.std.proofs.lemmas.Bool.{lt-ltb, le-ltb, eq-eqb, cases_lt}
use Rattle.std.proofs.lemmas.Bool.Decides.{nat_tests}
use Rattle.std.proofs.lemmas.Cmp.{ranked}
use Rattle.std.proofs.lemmas.Option.{get_or_from_slice_get, slice_get_read}
use Rattle.std.proofs.lemmas.List.Sums.{position_or_len_is}
use Rattle.jvm_model.specs.declared.code.PlacedInstruction.{PlacedInstruction}
use Rattle.flow_graph.specs.Flows.{number_of}
use Rattle.flow_graph.specs.Reading.{AreInOrder}
use Rattle.flow_graph.proofs.Stepping.{Ascend}

-- ---- instructions that ascend, by their numbers

later_than : (offset : ℕ) (ps : List PlacedInstruction) (j : ℕ) (d : PlacedInstruction) → AllByRecursion (λ (q : PlacedInstruction). offset < q.offset) ps → j < length ps → offset < (get_or ps j d).offset
later_than offset [] j d all lt = absurd (omega (arith, lt))
later_than offset (p ∷ ps) zero d all lt = all.0
later_than offset (p ∷ ps) (suc j) d all lt = later_than offset ps j d all.1 (omega (arith, lt))

ascends_at : (ps : List PlacedInstruction) (i j : ℕ) (d : PlacedInstruction) → Ascend ps → i < j → j < length ps → (get_or ps i d).offset < (get_or ps j d).offset
ascends_at [] i j d all lt in_range = absurd (omega (arith, in_range))
ascends_at (p ∷ ps) i zero d all lt in_range = absurd (omega (arith, lt))
ascends_at (p ∷ ps) zero (suc j) d all lt in_range = later_than p.offset ps j d all.0 (omega (arith, in_range))
ascends_at (p ∷ ps) (suc i) (suc j) d all lt in_range = ascends_at ps i j d all.1 (omega (arith, lt)) (omega (arith, in_range))

pub in_order_of : (ps : List PlacedInstruction) → Ascend ps → AreInOrder ps
in_order_of ps all = record { below = λ i j d lt in_range. ascends_at ps i j d all lt in_range }

-- ---- what is found

abbrev at_offset : ℕ → PlacedInstruction → Bool
at_offset offset p = eqb p.offset offset

not_equal : (a b : ℕ) → (a ≡ b → ⊥) → eqb a b ≡ false
not_equal a b apart = grind (arith, nat_tests, apart)

found : (ps : List PlacedInstruction) (offset i : ℕ) (d : PlacedInstruction) → AreInOrder ps → i < length ps → (get_or ps i d).offset ≡ offset → Some i ≡ number_of ps offset
found ps offset i d ordered lt is =
    let at : position_or_len (at_offset offset) ps ≡ i =
    position_or_len_is (at_offset offset) ps i d (omega arith) (λ k below. not_equal (get_or ps k d).offset offset (λ same. omega (arith, same, is, ordered.below k i d below lt)))
    (λ less. eq-eqb (get_or ps i d).offset offset is) in
    sym (ap (λ (n : ℕ). cond (ltb n (length ps)) (Some n) None) at ∙ ap (λ (b : Bool). cond b (Some i) None) (lt-ltb i (length ps) lt))

missing : (ps : List PlacedInstruction) (offset : ℕ) (d : PlacedInstruction) → ((k : ℕ) → k < length ps → (get_or ps k d).offset ≡ offset → ⊥) → None ≡ number_of ps offset
missing ps offset d apart =
    let n = length ps in
    let at : position_or_len (at_offset offset) ps ≡ n =
    position_or_len_is (at_offset offset) ps n d (omega arith) (λ k below. not_equal (get_or ps k d).offset offset (apart k below)) (λ less. absurd (omega (arith, less))) in
    sym (ap (λ (p : ℕ). cond (ltb p n) (Some p) None) at ∙ ap (λ (b : Bool). cond b (Some n) None) (le-ltb n n (omega arith)))

rises : (a b x : ℕ) → a ≤ b → ordering_index (nat_cmp a x) ≤ ordering_index (nat_cmp b x)
rises a b x le = grind (arith, nat_tests, le)

le_at : (ps : List PlacedInstruction) → AreInOrder ps → (i j : ℕ) (d : PlacedInstruction) → i ≤ j → j < length ps → (get_or ps i d).offset ≤ (get_or ps j d).offset
le_at ps ordered i j d le lt = by (cases_lt i j)
  where
    by : (i < j) ⊎ (j ≤ i) → (get_or ps i d).offset ≤ (get_or ps j d).offset
    by (inl less) = omega (arith, ordered.below i j d less lt)
    by (inr more) =
        let same : i ≡ j = omega (arith, le, more) in
        let e : (get_or ps i d).offset ≡ (get_or ps j d).offset = ap (λ (k : ℕ). (get_or ps k d).offset) same in
        omega (arith, e)

searched_at : (ps : List PlacedInstruction) (offset : ℕ) (d : PlacedInstruction) (r : Result ℕ ℕ) → AreInOrder ps → IsSearchInRange r (length ps)
    → IsBinarySearchResult (λ (p : PlacedInstruction). nat_cmp p.offset offset) ps r → result_ok r ≡ number_of ps offset
searched_at ps offset d (Ok i) ordered bound equal = found ps offset i d ordered bound (ranked (get_or ps i d).offset offset _ (sym (equal d)))
searched_at ps offset d (Err i) ordered bound parted =
    let parts = parted (λ a b e le lt. rises (get_or ps a e).offset (get_or ps b e).offset offset (le_at ps ordered a b e le lt)) in
    missing ps offset d (λ k lt same. by k lt same parts.0 parts.1 (cases_lt k i))
  where
    by : (k : ℕ) → k < length ps → (get_or ps k d).offset ≡ offset
        → ((k : ℕ) (e : PlacedInstruction) → 0 ≤ k → k < i → nat_cmp (get_or ps k e).offset offset ≡ Less) → ((k : ℕ) (e : PlacedInstruction) → i ≤ k → k < length ps → nat_cmp (get_or ps k e).offset offset ≡ Greater)
        → (k < i) ⊎ (i ≤ k) → ⊥
    by k lt same less greater (inl below) =
        let x : (get_or ps k d).offset < offset = ranked (get_or ps k d).offset offset Less (sym (less k d (omega arith) below)) in
        omega (arith, x, same)
    by k lt same less greater (inr above) =
        let x : offset < (get_or ps k d).offset = ranked (get_or ps k d).offset offset Greater (sym (greater k d above lt)) in
        omega (arith, x, same)

pub searched : (ps : List PlacedInstruction) (offset : ℕ) (r : Result ℕ ℕ) → AreInOrder ps → IsSearchInRange r (length ps)
    → IsBinarySearchResult (λ (p : PlacedInstruction). nat_cmp p.offset offset) ps r → result_ok r ≡ number_of ps offset
searched [] offset (Ok i) ordered bound is = absurd (omega (arith, bound))
searched [] offset (Err i) ordered bound is = refl
searched (p ∷ ps) offset r ordered bound is = searched_at (p ∷ ps) offset p r ordered bound is

-- ---- the order, tested from one instruction to the next

-- those below a number stand in order
pub record FrontInOrder (ps : List PlacedInstruction) (n : ℕ) : Type 0 where
  pub below : (i j : ℕ) (d : PlacedInstruction) → i < j → j < n → j < length ps → (get_or ps i d).offset < (get_or ps j d).offset

pub front_none : (ps : List PlacedInstruction) → FrontInOrder ps 1
front_none ps = record { below = λ i j d lt less in_range. absurd (omega (arith, lt, less)) }

pub front_all : (ps : List PlacedInstruction) (n : ℕ) → FrontInOrder ps n → length ps ≤ n → AreInOrder ps
front_all ps n front le = record { below = λ i j d lt in_range. front.below i j d lt (omega (arith, in_range, le)) in_range }

pub front_more : (ps : List PlacedInstruction) (n : ℕ) (x y : PlacedInstruction) → FrontInOrder ps n → 0 < n → n < length ps → x ≡ get_or ps (n - 1) x → y ≡ get_or ps n y → x.offset < y.offset → FrontInOrder ps (n + 1)
front_more ps n x y front some lt is_x is_y less = record { below = λ i j d lt2 below in_range. by i j d lt2 (cases_lt j n) (cases_lt i (n - 1)) below in_range }
  where
    x_at : (d : PlacedInstruction) → get_or ps (n - 1) d ≡ x
    x_at d = get_or_from_slice_get ps (n - 1) x d (slice_get_read ps (length ps) (n - 1) x refl (omega (arith, lt)) is_x)

    y_at : (d : PlacedInstruction) → get_or ps n d ≡ y
    y_at d = get_or_from_slice_get ps n y d (slice_get_read ps (length ps) n y refl lt is_y)

    last : (i : ℕ) (d : PlacedInstruction) → i < n → (i < n - 1) ⊎ (n - 1 ≤ i) → (get_or ps i d).offset < y.offset
    last i d lt2 (inl early) = omega (arith, front.below i (n - 1) d early (omega (arith, some)) (omega (arith, lt)), ap (λ (p : PlacedInstruction). p.offset) (x_at d), less)
    last i d lt2 (inr late) =
        let same : i ≡ n - 1 = omega (arith, lt2, late) in
        let e : (get_or ps i d).offset ≡ x.offset = ap (λ (k : ℕ). (get_or ps k d).offset) same ∙ ap (λ (p : PlacedInstruction). p.offset) (x_at d) in
        omega (arith, e, less)

    by : (i j : ℕ) (d : PlacedInstruction) → i < j → (j < n) ⊎ (n ≤ j) → (i < n - 1) ⊎ (n - 1 ≤ i) → j < n + 1 → j < length ps → (get_or ps i d).offset < (get_or ps j d).offset
    by i j d lt2 (inl early) w below in_range = front.below i j d lt2 early in_range
    by i j d lt2 (inr late) w below in_range =
        let same : n ≡ j = omega (arith, late, below) in
        let e : y.offset ≡ (get_or ps j d).offset = ap (λ (p : PlacedInstruction). p.offset) (sym (y_at d)) ∙ ap (λ (k : ℕ). (get_or ps k d).offset) same in
        let l = last i d (omega (arith, lt2, same)) w in
        omega (arith, e, l)
