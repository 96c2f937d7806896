-- Pairs that are added to a table: none, one, one after the other, for each in a list; and what a table has.
use Rattle.std.proofs.Common.{◌≡◌, ◌⊎◌, ℕ, ◌+◌, ◌≤◌, Bool, true, false, cond, List, [], ◌∷◌, ◌++◌, length, take, Some, sym, ◌∙◌, ap, subst, inl, inr}
use Rattle.std.specs.List.{slice_get, list_any, Contains, IsDistinct}
use Rattle.std.specs.declared.alloc.Global.{Global}
use Rattle.std.specs.declared.vec.Vec.{Vec}
use Rattle.std.proofs.lemmas.List.{take_all}
use Rattle.std.proofs.lemmas.Option.{same_Some, none-some}
use Rattle.list_laws.proofs.Members.{contains_none}
use Rattle.list_laws.proofs.Places.{before_there, in_longer, last_or_before, last_there, push_cases}
use Rattle.grouped_lists.specs.Groups.{values_at, IsPut}
use Rattle.grouped_lists.proofs.PutValues.{put_there, put_keeps, put_cases}
use Rattle.indexmap.specs.IndexSet.{insert_key}
use Rattle.least_sets.specs.Rules.{IsWithoutDoubles}
use Rattle.ground.proofs.KeySets.{Tells, apart_from_distinct_keys}
use Rattle.certificate_ground.specs.Pairs.{AddsPairs, AreKeyed, ArePairs, HaveValues, IsJust, IsPair, OfSome}

-- ---- a key more

-- The key has the number in the new list, in which all else is as it was.
pub record HasNumber {K : Type 0} (old new : List K) (key : K) (number : ℕ) : Type 0 where
  pub longer : (k : ℕ) (x : K) → slice_get old k ≡ Some x → slice_get new k ≡ Some x
  pub stands : slice_get new number ≡ Some key
  pub others : (k : ℕ) (x : K) → slice_get new k ≡ Some x → (slice_get old k ≡ Some x) ⊎ (x ≡ key)
  pub apart : IsWithoutDoubles new

pub has_number : {K : Type 0} (eq : K → K → Bool) → Tells eq → (old new : List K) (key : K) (number : ℕ) → new ≡ insert_key eq old key
    → (k : K) × (slice_get new number ≡ Some k) × (eq key k ≡ true) → IsDistinct eq new → HasNumber old new key number
has_number {K} eq tells old new key number is (k, at, equal) distinct =
    let parts = by (list_any (eq key) old) in
    record {
      longer = λ place x stands. subst (λ (keys : List K). slice_get keys place ≡ Some x) (sym is) (parts.0 place x stands);
      stands = at ∙ ap Some (sym (tells.exact key k equal));
      others = λ place x stands. parts.1 place x (subst (λ (keys : List K). slice_get keys place ≡ Some x) is stands);
      apart = apart_from_distinct_keys eq tells new distinct;
    }
  where
    by : (b : Bool) → ((place : ℕ) (x : K) → slice_get old place ≡ Some x → slice_get (cond b old (old ++ key ∷ [])) place ≡ Some x)
        × ((place : ℕ) (x : K) → slice_get (cond b old (old ++ key ∷ [])) place ≡ Some x → (slice_get old place ≡ Some x) ⊎ (x ≡ key))
    by true = ((λ place x stands. stands), (λ place x stands. inl stands))
    by false = (
      (λ place x stands. in_longer old (key ∷ []) place x stands),
      (λ place x stands. elim (push_cases old key place x stands) [ inl before ↦ inl before | inr last ↦ inr last.1 ]),
    )

-- ---- a pair more

module _ {K V : Type 0} (old_keys keys : List K) (old_groups groups : List (Vec V Global)) (key : K) (value : V) (number : ℕ) (has : HasNumber old_keys keys key number)
    (put : IsPut old_groups groups number value) where
  pair_stays : (k : K) (v : V) → IsPair old_keys old_groups k v → IsPair keys groups k v
  pair_stays k v (at, stands, there) = (at, has.longer at k stands, put_keeps old_groups groups number value put at v there)

  pair_cases : AreKeyed old_keys old_groups → (k : K) (v : V) → IsPair keys groups k v → IsPair old_keys old_groups k v ⊎ IsJust key value k v
  pair_cases keyed k v (at, stands, there) = elim (put_cases old_groups groups number value put at v there) [
    | inl before ↦
        let (x, stood) = keyed at v before in
        let same : x ≡ k = same_Some x k (sym (has.longer at x stood) ∙ stands) in
        inl (at, stood ∙ ap Some same, before)
    | inr last ↦ inr (same_Some k key (sym stands ∙ ap (λ (i : ℕ). slice_get keys i) (sym last.0) ∙ has.stands), sym last.1)
  ]

  still_keyed : AreKeyed old_keys old_groups → AreKeyed keys groups
  still_keyed keyed at v there = elim (put_cases old_groups groups number value put at v there) [
    | inl before ↦ (let (x, stood) = keyed at v before in (x, has.longer at x stood))
    | inr last ↦ (key, ap (λ (i : ℕ). slice_get keys i) (sym last.0) ∙ has.stands)
  ]

  still_valued : HaveValues old_keys old_groups → HaveValues keys groups
  still_valued valued at k stands = elim (has.others at k stands) [
    | inl before ↦ (let (v, there) = valued at k before in (v, put_keeps old_groups groups number value put at v there))
    | inr same ↦
        let here : number ≡ at = has.apart key number at has.stands (stands ∙ ap Some same) in
        (value, subst (λ (i : ℕ). Contains (values_at groups i) value) here (put_there old_groups groups number value put))
  ]

  new_pair : (k : K) (v : V) → IsJust key value k v → IsPair keys groups k v
  new_pair k v (same_key, same) = (
    number,
    has.stands ∙ ap Some (sym same_key),
    subst (λ (x : V). Contains (values_at groups number) x) (sym same) (put_there old_groups groups number value put),
  )

  pub pair_added : AddsPairs (IsJust key value) old_keys old_groups keys groups
  pair_added = record {
    each = λ keyed k v. (pair_cases keyed k v, λ either. elim either [ inl before ↦ pair_stays k v before | inr last ↦ new_pair k v last ]);
    keyed = still_keyed;
    valued = still_valued;
  }

-- ---- pairs more

module _ {K V : Type 0} (P : K → V → Type 0) where
  -- nothing has the relation
  pub pairs_none : (ks : List K) (gs : List (Vec V Global)) → ((k : K) (v : V) → P k v → ⊥) → AddsPairs P ks gs ks gs
  pairs_none ks gs none = record {
    each = λ keyed k v. ((λ there. inl there), (λ either. elim either [ inl there ↦ there | inr p ↦ absurd (none k v p) ]));
    keyed = λ keyed. keyed;
    valued = λ valued. valued;
  }

  -- the same, said otherwise
  pub pairs_as : (Q : K → V → Type 0) (ka : List K) (ga : List (Vec V Global)) (kb : List K) (gb : List (Vec V Global)) → ((k : K) (v : V) → P k v → Q k v)
      → ((k : K) (v : V) → Q k v → P k v) → AddsPairs P ka ga kb gb → AddsPairs Q ka ga kb gb
  pairs_as Q ka ga kb gb to from added = record {
    each = λ keyed k v. (
      (λ there. elim ((added.each keyed k v).0 there) [ inl before ↦ inl before | inr p ↦ inr (to k v p) ]),
      (λ either. elim either [ inl before ↦ (added.each keyed k v).1 (inl before) | inr q ↦ (added.each keyed k v).1 (inr (from k v q)) ]),
    );
    keyed = added.keyed;
    valued = added.valued;
  }

  -- one after the other
  pub pairs_both : (Q : K → V → Type 0) (ka : List K) (ga : List (Vec V Global)) (kb : List K) (gb : List (Vec V Global)) (kc : List K) (gc : List (Vec V Global))
      → AddsPairs P ka ga kb gb → AddsPairs Q kb gb kc gc → AddsPairs (λ k v. P k v ⊎ Q k v) ka ga kc gc
  pairs_both Q ka ga kb gb kc gc first second = record {
    each = λ keyed k v. (
      (λ there. elim ((second.each (first.keyed keyed) k v).0 there) [
        | inl before ↦ elim ((first.each keyed k v).0 before) [ inl old ↦ inl old | inr p ↦ inr (inl p) ]
        | inr q ↦ inr (inr q)
      ]),
      (λ either. elim either [
        | inl old ↦ (second.each (first.keyed keyed) k v).1 (inl ((first.each keyed k v).1 (inl old)))
        | inr some ↦ elim some [
          | inl p ↦ (second.each (first.keyed keyed) k v).1 (inl ((first.each keyed k v).1 (inr p)))
          | inr q ↦ (second.each (first.keyed keyed) k v).1 (inr q)
        ]
      ]),
    );
    keyed = λ keyed. second.keyed (first.keyed keyed);
    valued = λ valued. second.valued (first.valued valued);
  }

  -- to nothing
  pub pairs_alone : (ks : List K) (gs : List (Vec V Global)) (start : List K) → start ≡ [] → (none : List (Vec V Global)) → ((q : ℕ) → values_at none q ≡ []) → AddsPairs P start none ks gs
      → ArePairs P ks gs
  pairs_alone ks gs start is none empty first =
      let added = subst (λ (keys : List K). AddsPairs P keys none ks gs) is first in
      let nothing = λ (q : ℕ) (v : V) (there : Contains (values_at none q) v). contains_none v (subst (λ (vs : List V). Contains vs v) (empty q) there) in
      let keyed : AreKeyed {K = K} [] none = λ q v there. absurd (nothing q v there) in
      record {
        each = λ k v. (
          (λ there. elim ((added.each keyed k v).0 there) [ inl before ↦ absurd (nothing before.0 v before.2) | inr p ↦ p ]),
          (λ p. (added.each keyed k v).1 (inr p)),
        );
        keyed = added.keyed keyed;
        valued = added.valued (λ q k stands. absurd (none-some k stands));
      }

-- for each in a list
module _ {X K V : Type 0} (R : X → K → V → Type 0) (xs : List X) where
  -- one more
  pub pairs_more : (i : ℕ) (x : X) → slice_get xs i ≡ Some x → (ka : List K) (ga : List (Vec V Global)) (kb : List K) (gb : List (Vec V Global)) (kc : List K) (gc : List (Vec V Global))
      → AddsPairs (OfSome R (take i xs)) ka ga kb gb → AddsPairs (R x) kb gb kc gc → AddsPairs (OfSome R (take (i + 1) xs)) ka ga kc gc
  pairs_more i x at ka ga kb gb kc gc before one =
      pairs_as (λ k v. OfSome R (take i xs) k v ⊎ R x k v) (OfSome R (take (i + 1) xs)) ka ga kc gc
      (λ k v either. elim either [
        | inl (z, there, r) ↦ (z, before_there xs i x at z there, r)
        | inr r ↦ (x, last_there xs i x at, r)
      ])
      (λ k v some. elim (last_or_before xs i x at some.0 some.1) [
        | inl there ↦ inl (some.0, there, some.2)
        | inr same ↦ inr (subst (λ (z : X). R z k v) (sym same) some.2)
      ])
      (pairs_both (OfSome R (take i xs)) (R x) ka ga kb gb kc gc before one)

  -- all of them
  pub pairs_all : (i : ℕ) → length xs ≤ i → (ka : List K) (ga : List (Vec V Global)) (kb : List K) (gb : List (Vec V Global)) → AddsPairs (OfSome R (take i xs)) ka ga kb gb
      → AddsPairs (OfSome R xs) ka ga kb gb
  pairs_all i l ka ga kb gb added = subst (λ (front : List X). AddsPairs (OfSome R front) ka ga kb gb) (take_all i xs l) added

  -- of none yet
  pub pairs_start : (ks : List K) (gs : List (Vec V Global)) → AddsPairs (OfSome R (take 0 xs)) ks gs ks gs
  pairs_start ks gs = pairs_none (OfSome R (take 0 xs)) ks gs (λ k v (x, there, r). contains_none x there)
