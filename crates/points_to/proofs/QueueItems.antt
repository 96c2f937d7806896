-- The items of a work list: which are there and which are done, as a list, and how many pairs are among them.
use Rattle.std.proofs.Common.{◌≡◌, ℕ, ◌+◌, ◌*◌, ◌<◌, inl, inr, List, [], ◌∷◌, length, take, refl, sym, ◌∙◌, ap, subst, arith}
use Rattle.std.specs.List.{Contains}
use Rattle.std.proofs.lemmas.List.Elements.{Contains-append_left, Contains-append_right, Contains-append_cases}
use Rattle.std.proofs.lemmas.List.Sums.{sum_by-append, sum_by-cons}
use Rattle.least_sets.specs.Rules.{IsWithoutDoubles}
use Rattle.least_sets.proofs.Places.{contains_at, first, in_front, later, place_of}
use Rattle.points_to_numbers.specs.declared.item.Item.{Item}
use Rattle.points_to_numbers.specs.declared.item.Item.TheVariants.{Holds, Runs, Calls, Constrains}
use Rattle.points_to_rules.specs.declared.place.PlaceNo.{PlaceNo}
use Rattle.jvm_model.specs.declared.number.SiteNo.{SiteNo}
use Rattle.site_rows.specs.declared.row.SiteRow.{SiteRow}
use Rattle.site_rows.specs.Listed.{listed}
use Rattle.site_rows.proofs.Listing.{AreTold, both_apart, pair_in, pair_there, pairs_apart, pairs_listed}
use Rattle.points_to.specs.declared.queue.Queue.{Queue}
use Rattle.points_to.specs.Queues.{IsDone, IsHeld, IsOther, IsSound, State, items_of, pair_item, pairs_among, state_of, weight_of}

-- what is in front is in the whole
pub in_whole : {X : Type 0} (xs : List X) (k : ℕ) (x : X) → Contains (take k xs) x → Contains xs x
in_whole xs k x c = let at = place_of (take k xs) x c in contains_at xs at.0 x (in_front xs k at.0 x at.1).1

-- what is done is there
pub done_held : (q : State) (i : Item) → IsDone q i → IsHeld q i
done_held q (Holds place site) d = record { there = d.there.held }
done_held q (Runs m) d = record { there = in_whole q.others q.done (Runs m) d.there }
done_held q (Calls call target) d = record { there = in_whole q.others q.done (Calls call target) d.there }
done_held q (Constrains place constraint) d = record { there = in_whole q.others q.done (Constrains place constraint) d.there }

told : AreTold pair_item
told = record {
  places = λ p q a b e. (let same : ◌≡◌ {A = PlaceNo} (record { 0 = p }) (record { 0 = q }) = cc in ap (λ (r : PlaceNo). r.0) same);
  sites = λ p q a b e. (let same : ◌≡◌ {A = SiteNo} (record { 0 = a }) (record { 0 = b }) = cc in ap (λ (r : SiteNo). r.0) same);
}

-- ---- the list

-- a pair that is listed is there
pub pair_held : (q : State) (i : Item) → Contains (listed pair_item q.rows) i → IsHeld q i
pair_held q i there =
    let h = pair_in pair_item 0 q.rows i there in
    let same : 0 + h.place ≡ h.place = omega arith in
    subst (λ (j : Item). IsHeld q j) (sym (h.is ∙ ap (λ (k : ℕ). pair_item k h.site) same)) (record { there = h.held })

pub held_listed : (q : Queue) (i : Item) → IsHeld (state_of q) i → Contains (items_of q) i
held_listed q (Holds place site) h =
    let rows = q.rows.rows.items in
    let same : 0 + place.0 ≡ place.0 = omega arith in
    Contains-append_left (listed pair_item rows) q.others.keys (Holds place site)
    (subst (λ (k : ℕ). Contains (listed pair_item rows) (pair_item k site.0)) same (pair_there pair_item 0 rows place.0 site.0 h.there))
held_listed q (Runs m) h = Contains-append_right (listed pair_item q.rows.rows.items) q.others.keys (Runs m) h.there
held_listed q (Calls call target) h = Contains-append_right (listed pair_item q.rows.rows.items) q.others.keys (Calls call target) h.there
held_listed q (Constrains place constraint) h = Contains-append_right (listed pair_item q.rows.rows.items) q.others.keys (Constrains place constraint) h.there

other_held : (q : Queue) → IsSound q → (i : Item) → Contains q.others.keys i → IsHeld (state_of q) i
other_held q sound (Holds place site) there = absurd (sound.unpaired (Holds place site) there)
other_held q sound (Runs m) there = record { there = there }
other_held q sound (Calls call target) there = record { there = there }
other_held q sound (Constrains place constraint) there = record { there = there }

pub listed_held : (q : Queue) → IsSound q → (i : Item) → Contains (items_of q) i → IsHeld (state_of q) i
listed_held q sound i there = elim (Contains-append_cases (listed pair_item q.rows.rows.items) q.others.keys i there) [
  | inl pair ↦ pair_held (state_of q) i pair
  | inr other ↦ other_held q sound i other
]

-- ---- none twice

pub pair_list_apart : (rows : List SiteRow) → IsWithoutDoubles (listed pair_item rows)
pair_list_apart rows = pairs_apart pair_item told 0 rows

pub no_other : (rows : List SiteRow) (i : Item) → Contains (listed pair_item rows) i → IsOther i → ⊥
no_other rows i there other = let h = pair_in pair_item 0 rows i there in subst IsOther h.is other

pub listed_apart : (q : Queue) → IsSound q → IsWithoutDoubles (items_of q)
listed_apart q sound =
    both_apart (listed pair_item q.rows.rows.items) q.others.keys (pair_list_apart q.rows.rows.items) sound.apart
    (λ i here there. no_other q.rows.rows.items i here (sound.unpaired i there))

-- ---- how many pairs

all_weigh : (k : ℕ) (xs : List Item) → ((i : Item) → Contains xs i → weight_of i ≡ k) → pairs_among xs ≡ k * length xs
all_weigh k [] each = let none : 0 ≡ k * 0 = omega arith in none
all_weigh k (x ∷ xs) each =
    let rest = all_weigh k xs (λ i there. each i (later x xs i there)) in
    let own = each x (first x xs) in
    let sum = sum_by-cons weight_of x xs in
    let e : k * length (x ∷ xs) ≡ k + k * length xs = omega arith in
    omega arith

pub pairs_weigh : (rows : List SiteRow) (xs : List Item) → ((i : Item) → Contains xs i → Contains (listed pair_item rows) i) → pairs_among xs ≡ length xs
pairs_weigh rows xs within =
    let e = all_weigh 1 xs (λ i there. (let h = pair_in pair_item 0 rows i (within i there) in ap weight_of h.is)) in
    omega arith

other_weighs : (i : Item) → IsOther i → weight_of i ≡ 0
other_weighs (Holds place site) other = absurd other
other_weighs (Runs m) other = refl
other_weighs (Calls call target) other = refl
other_weighs (Constrains place constraint) other = refl

pub room_listed : (q : Queue) → IsSound q → (limit : ℕ) → q.rows.pairs < limit → pairs_among (items_of q) < limit
room_listed q sound limit room =
    let rows = q.rows.rows.items in
    let pairs = pairs_weigh rows (listed pair_item rows) (λ i there. there) in
    let count = pairs_listed pair_item 0 rows in
    let others = all_weigh 0 q.others.keys (λ i there. other_weighs i (sound.unpaired i there)) in
    let none : 0 * length q.others.keys ≡ 0 = omega arith in
    let all = sum_by-append weight_of (listed pair_item rows) q.others.keys in
    let counted = sound.rows.counted in
    omega arith

-- ---- so many of them

-- the first ones of a list without doubles
pub front_apart : {X : Type 0} (xs : List X) (n : ℕ) → IsWithoutDoubles xs → IsWithoutDoubles (take n xs)
front_apart xs n apart x i j p q = apart x i j (in_front xs n i x p).1 (in_front xs n j x q).1
