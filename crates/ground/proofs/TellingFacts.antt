-- The facts that lists tell are what the lists say.
use Rattle.std.proofs.Common.{◌≡◌, ◌↔◌, ℕ, zero, suc, List, [], ◌∷◌, ◌++◌, map, Option, Some, None, refl, sym, subst, inl, inr}
use Rattle.std.specs.List.{slice_get, Contains}
use Rattle.std.specs.declared.alloc.Global.{Global}
use Rattle.std.specs.declared.vec.Vec.{Vec}
use Rattle.std.proofs.lemmas.List.Elements.{Contains-append_left, Contains-append_right, Contains-append_cases}
use Rattle.std.proofs.lemmas.Option.{none-some, same_Some}
use Rattle.list_laws.proofs.Members.{contains_cases, contains_first, contains_later, contains_none, contains_only}
use Rattle.list_laws.proofs.Places.{at_map, contains_at, map_at, place_of}
use Rattle.jvm_model.specs.declared.site.Site.{Site}
use Rattle.grouped_lists.specs.Groups.{values_at}
use Rattle.points_to_rules.specs.Facts.{Fact, Holder, may_hold, may_run, may_call, may_write}
use Rattle.ground.specs.declared.lists.FieldWrite.{FieldWrite}
use Rattle.ground.specs.declared.lists.Lists.{Lists}
use Rattle.ground.specs.Lists.{HasFacts, IsHeldIn, IsTargetIn, holders_of}
use Rattle.ground.specs.Told.{told_by, told, held_fact, site_facts, call_facts, write_fact, facts_of}

-- ---- what keys and the values of their numbers tell

-- A key and a value of its number tell the fact.
record IsTold {K V : Type 0} (tells : K → V → List Fact) (keys : List K) (groups : List (Vec V Global)) (fact : Fact) : Type 0 where
  number : ℕ
  key : K
  value : V
  at : slice_get keys number ≡ Some key
  listed : Contains (values_at groups number) value
  tell : Contains (tells key value) fact

module _ {K V : Type 0} (tells : K → V → List Fact) where
  by_value : (k : K) (vs : List V) (v : V) (fact : Fact) → Contains vs v → Contains (tells k v) fact → Contains (told_by tells k vs) fact
  by_value k [] v fact there tell = absurd (contains_none v there)
  by_value k (w ∷ vs) v fact there tell = elim (contains_cases w v vs there) [
    | inl same ↦ Contains-append_left (tells k w) (told_by tells k vs) fact (subst (λ (x : V). Contains (tells k x) fact) (sym same) tell)
    | inr more ↦ Contains-append_right (tells k w) (told_by tells k vs) fact (by_value k vs v fact more tell)
  ]

  value_of : (k : K) (vs : List V) (fact : Fact) → Contains (told_by tells k vs) fact → (v : V) × Contains vs v × Contains (tells k v) fact
  value_of k [] fact there = absurd (contains_none fact there)
  value_of k (w ∷ vs) fact there = elim (Contains-append_cases (tells k w) (told_by tells k vs) fact there) [
    | inl here ↦ (w, contains_first w vs, here)
    | inr more ↦ let rest = value_of k vs fact more in (rest.0, contains_later w rest.0 vs rest.1, rest.2)
  ]

  by_key : (keys : List K) (groups : List (Vec V Global)) (number : ℕ) (key : K) (value : V) (fact : Fact) → slice_get keys number ≡ Some key
      → Contains (values_at groups number) value
      → Contains (tells key value) fact → Contains (told tells keys groups) fact
  by_key [] groups number key value fact at listed tell = absurd (none-some key at)
  by_key (k ∷ ks) [] number key value fact at listed tell = absurd (contains_none value listed)
  by_key (k ∷ ks) (group ∷ groups) zero key value fact at listed tell =
      Contains-append_left (told_by tells k group.items) (told tells ks groups) fact
      (by_value k group.items value fact listed (subst (λ (x : K). Contains (tells x value) fact) (sym (same_Some k key at)) tell))
  by_key (k ∷ ks) (group ∷ groups) (suc n) key value fact at listed tell =
      Contains-append_right (told_by tells k group.items) (told tells ks groups) fact (by_key ks groups n key value fact at listed tell)

  key_of : (keys : List K) (groups : List (Vec V Global)) (fact : Fact) → Contains (told tells keys groups) fact → IsTold tells keys groups fact
  key_of [] groups fact there = absurd (contains_none fact there)
  key_of (k ∷ ks) [] fact there = absurd (contains_none fact there)
  key_of (k ∷ ks) (group ∷ groups) fact there = elim (Contains-append_cases (told_by tells k group.items) (told tells ks groups) fact there) [
    | inl here ↦ let one = value_of k group.items fact here in record { number = 0; key = k; value = one.0; at = refl; listed = one.1; tell = one.2 }
    | inr more ↦
        let rest = key_of ks groups fact more in
        record { number = suc rest.number; key = rest.key; value = rest.value; at = rest.at; listed = rest.listed; tell = rest.tell }
  ]

-- ---- the facts of lists

-- What a fact says of the lists.
abbrev pub Says : Lists → Fact → Type 0
Says l (may_hold h s) = IsHeldIn l h s
Says l (may_run m) = Contains l.running.keys m
Says l (may_call call target) = IsTargetIn l call target
Says l (may_write m field) = Contains l.writes.keys (record { method = m; field = field })

held_is : (h : Holder) (o : Option Site) (fact : Fact) → Contains (held_fact h o) fact → (s : Site) × (o ≡ Some s) × (may_hold h s ≡ fact)
held_is h None fact there = absurd (contains_none fact there)
held_is h (Some s) fact there = (s, refl, contains_only (may_hold h s) fact there)

is_held : (h : Holder) (o : Option Site) (s : Site) → o ≡ Some s → Contains (held_fact h o) (may_hold h s)
is_held h o s is = subst (λ (x : Option Site). Contains (held_fact h x) (may_hold h s)) (sym is) (contains_first (may_hold h s) [])

module _ (l : Lists) where
  abbrev held : List Fact
  held = told (site_facts l.sites.items) (holders_of l) l.held.groups.items

  abbrev run : List Fact
  run = map may_run l.running.keys

  abbrev called : List Fact
  called = told call_facts l.calls.keys l.targets.groups.items

  abbrev written : List Fact
  written = map write_fact l.writes.keys

  -- ---- each of them is so

  held_so : (fact : Fact) → Contains held fact → Says l fact
  held_so fact there =
      let tells = key_of (site_facts l.sites.items) (holders_of l) l.held.groups.items fact there in
      let (s, at_site, is) = held_is tells.key (slice_get l.sites.items tells.value.0) fact tells.tell in
      subst (Says l) is (tells.number, tells.value, tells.at, at_site, tells.listed)

  run_so : (fact : Fact) → Contains run fact → Says l fact
  run_so fact there =
      let (k, at) = place_of run fact there in
      let (m, stands, is) = map_at may_run l.running.keys k fact at in
      subst (Says l) is (contains_at l.running.keys k m stands)

  called_so : (fact : Fact) → Contains called fact → Says l fact
  called_so fact there =
      let tells = key_of call_facts l.calls.keys l.targets.groups.items fact there in
      subst (Says l) (contains_only (may_call tells.key tells.value) fact tells.tell)
      (tells.number, tells.at, tells.listed)

  written_so : (fact : Fact) → Contains written fact → Says l fact
  written_so fact there =
      let (k, at) = place_of written fact there in
      let (w, stands, is) = map_at write_fact l.writes.keys k fact at in
      subst (Says l) is (contains_at l.writes.keys k w stands)

  is_so : (fact : Fact) → Contains (facts_of l) fact → Says l fact
  is_so fact there = elim (Contains-append_cases held (run ++ (called ++ written)) fact there) [
    | inl one ↦ held_so fact one
    | inr more ↦ elim (Contains-append_cases run (called ++ written) fact more) [
      | inl one ↦ run_so fact one
      | inr rest ↦ elim (Contains-append_cases called written fact rest) [ inl one ↦ called_so fact one | inr last ↦ written_so fact last ]
    ]
  ]

  -- ---- each that is so is one of them

  is_there : (fact : Fact) → Says l fact → Contains (facts_of l) fact
  is_there (may_hold h s) (place, site, at_place, at_site, listed) =
      Contains-append_left held (run ++ (called ++ written)) (may_hold h s)
      (by_key (site_facts l.sites.items) (holders_of l) l.held.groups.items place h site (may_hold h s) at_place listed
      (is_held h (slice_get l.sites.items site.0) s at_site))
  is_there (may_run m) runs =
      let (k, at) = place_of l.running.keys m runs in
      Contains-append_right held (run ++ (called ++ written)) (may_run m)
      (Contains-append_left run (called ++ written) (may_run m) (contains_at run k (may_run m) (at_map may_run l.running.keys k m at)))
  is_there (may_call call target) (number, at, listed) =
      Contains-append_right held (run ++ (called ++ written)) (may_call call target)
      (Contains-append_right run (called ++ written) (may_call call target)
      (Contains-append_left called written (may_call call target)
      (by_key call_facts l.calls.keys l.targets.groups.items number call target
      (may_call call target) at listed
      (contains_first (may_call call target) []))))
  is_there (may_write m field) writes =
      let w : FieldWrite = record { method = m; field = field } in
      let (k, at) = place_of l.writes.keys w writes in
      Contains-append_right held (run ++ (called ++ written)) (may_write m field)
      (Contains-append_right run (called ++ written) (may_write m field)
      (Contains-append_right called written (may_write m field) (contains_at written k (may_write m field) (at_map write_fact l.writes.keys k w at))))

pub has_facts : (l : Lists) → HasFacts l (facts_of l)
has_facts l = record {
  holds = λ h s. (is_so l (may_hold h s), is_there l (may_hold h s));
  runs = λ m. (is_so l (may_run m), is_there l (may_run m));
  calls = λ call m. (is_so l (may_call call m), is_there l (may_call call m));
  writes = λ m field. (is_so l (may_write m field), is_there l (may_write m field));
}

-- A fact is told where the lists say it.
pub tells_so : (l : Lists) (fact : Fact) → Contains (facts_of l) fact ↔ Says l fact
tells_so l fact = (is_so l fact, is_there l fact)
