-- Heads and links with one more value are chains with one more entry.
use Rattle.std.proofs.Common.{◌≡◌, ◌==◌, ◌∙◌, ◌⊎◌, inl, inr, ℕ, zero, suc, ◌+◌, ◌<◌, ◌≤◌, Bool, true, false, List, [], ◌∷◌, ◌++◌, length, set, Some, refl, sym, ap, subst, arith, eq-eqb}
use Rattle.std.specs.List.{slice_get}
use Rattle.std.specs.Prelude.{if◌then◌else◌}
use Rattle.std.proofs.lemmas.Bool.{cases_eq, cases_lt, eqb-true, false≢true, le-ltb, lt-ltb}
use Rattle.std.proofs.lemmas.Option.{none-some, slice_get_within}
use Rattle.std.proofs.lemmas.List.{get_or-set_other, get_or-set_same, length-append}
use Rattle.list_laws.proofs.Places.{push_cases, stands_below}
use Rattle.chained_lists.specs.declared.links.Head.{Head}
use Rattle.chained_lists.specs.declared.links.Link.{Link}
use Rattle.chained_lists.specs.Entries.{Entry, HasNoneFrom, IsPlace, entry}
use Rattle.chained_lists.specs.Chained.{AreChained, IsLastNamed, IsLed, IsLinked, IsNamed, head_at, later_name, new_link}
use Rattle.chained_lists.proofs.Growing.{is_place, last_new, last_stays, named_last, named_new, named_none, named_stays, one_number}

-- other heads that name the same
pub same_heads : (es : List Entry) (old new : List Head) (links : List Link) → ((q : ℕ) → head_at new q ≡ head_at old q) → AreChained es old links → AreChained es new links
same_heads es old new links same is = record {
  count = is.count;
  linked = is.linked;
  lasts = λ q. subst (λ (h : Head). IsLastNamed es q h.last) (sym (same q)) (is.lasts q);
}

-- no chains at all
pub none_chained : AreChained [] [] []
none_chained = record {
  count = refl;
  linked = λ k link e at. absurd (none-some link at);
  lasts = λ q. record { there = λ place named. absurd (omega (arith, named)); later = record { none = λ k value from at. none-some (entry q value) at } };
}

-- a head that was written
written_head : (heads : List Head) (number q : ℕ) (head : Head) → number < length heads → head_at (set heads number head) q ≡ (if number == q then head else head_at heads q)
written_head heads number q head within = by (number == q) refl
  where
    by : (b : Bool) → (number == q) ≡ b → head_at (set heads number head) q ≡ (if b then head else head_at heads q)
    by true e = subst (λ (j : ℕ). head_at (set heads number head) j ≡ head) (eqb-true number q e) (get_or-set_same heads number head (record { last = 0 }) within)
    by false e = get_or-set_other heads number q head (record { last = 0 }) (λ same. false≢true (sym e ∙ eq-eqb number q (sym same)))

-- the last value of a list stands among the entries
pub last_within : (es : List Entry) (number name : ℕ) → IsLastNamed es number name → name ≤ length es
last_within es number zero is = omega arith
last_within es number (suc p) is = let there = is.there p refl in omega (arith, slice_get_within es p (entry number there.value) there.at)

-- the name of the next value in a list is that of an entry
name_within : (es : List Entry) (number from name : ℕ) → IsNamed es number from name → name ≤ length es
name_within es number from zero is = omega arith
name_within es number from (suc p) is = let there = (is.next p refl).there in omega (arith, slice_get_within es p (entry number there.value) there.at)

-- ---- names behind a place

is_later : (place name : ℕ) → suc place < name → later_name place name ≡ name
is_later place name less = ap (λ (b : Bool). if b then name else 0) (lt-ltb (suc place) name less)

is_no_later : (place name : ℕ) → name ≤ suc place → later_name place name ≡ 0
is_no_later place name back = ap (λ (b : Bool). if b then name else 0) (le-ltb (suc place) name back)

-- ---- the first value of a list

-- the last link of a list names it
pub first_named : (es : List Entry) (heads : List Head) (links : List Link) → AreChained es heads links → (number p : ℕ) (link : Link) → (head_at heads number).last ≡ suc p
    → slice_get links p ≡ Some link → IsNamed es number 0 link.next
first_named es heads links chained number p link ends at = elim (cases_lt (suc p) link.next) [
  | inl less ↦ absurd (more link.next refl less)
  | inr back ↦ linked.round back
]
  where
    there : IsPlace es number p
    there = (chained.lasts number).there p ends

    linked : IsLinked es p link (entry number there.value)
    linked = chained.linked p link (entry number there.value) at there.at

    none : HasNoneFrom es number (suc p)
    none = subst (HasNoneFrom es number) ends (chained.lasts number).later

    more : (name : ℕ) → link.next ≡ name → suc p < name → ⊥
    more zero is less = omega (arith, less)
    more (suc q) is less =
        let next = linked.next.next q (is_later p link.next (omega (arith, is, less)) ∙ is) in
        none.none q next.there.value next.from next.there.at

-- and no link does where there is no list
pub no_first : (es : List Entry) (heads : List Head) (links : List Link) → AreChained es heads links → (number : ℕ) → (head_at heads number).last ≡ 0 → IsNamed es number 0 0
no_first es heads links chained number none = record {
  next = λ place named. absurd (omega (arith, named));
  end = λ zero. subst (HasNoneFrom es number) none (chained.lasts number).later;
}

-- it is the first one once one more value is at the end, or that value is
pub first_with : (es : List Entry) (number value first : ℕ) → (first ≡ 0 → ⊥) → IsNamed es number 0 first → IsNamed (es ++ entry number value ∷ []) number 0 first
first_with es number value first some is = named_stays es (entry number value) number 0 first (λ none same. some none) is

pub first_alone : (es : List Entry) (number value first : ℕ) → first ≡ 0 → IsNamed es number 0 first → IsNamed (es ++ entry number value ∷ []) number 0 (suc (length es))
first_alone es number value first none is = named_new es (entry number value) 0 (omega arith) (is.end none)

module _ (es : List Entry) (heads : List Head) (front links : List Link) (number value first : ℕ) (is : links ≡ front ++ new_link value first ∷ []) (chained : AreChained es heads front)
    (begins : IsNamed (es ++ entry number value ∷ []) number 0 first) where
  abbrev longer : List Entry
  longer = es ++ entry number value ∷ []

  abbrev last : ℕ
  last = (head_at heads number).last

  name_is : length links ≡ suc (length es)
  name_is = let all : length links ≡ length front + 1 = ap (λ (ls : List Link). length ls) is ∙ length-append front (new_link value first ∷ []) in omega (arith, all, chained.count)

  -- ---- links

  module _ (new : List Link) (led : IsLed links new last (length links)) where
    module _ (k : ℕ) (link was : Link) (x : Entry) (at : slice_get new k ≡ Some link) (was_at : slice_get links k ≡ Some was) (x_at : slice_get es k ≡ Some x) (linked : IsLinked es k was x) where
      here : IsPlace es x.number k
      here = is_place es k x x_at

      -- the last link of the list names the new one
      ended : suc k ≡ last → IsLinked longer k link x
      ended ends =
          let there = (chained.lasts number).there k (sym ends) in
          let none : HasNoneFrom es number (suc k) = subst (HasNoneFrom es number) (sym ends) (chained.lasts number).later in
          let within = slice_get_within es k x x_at in
          let next : link.next ≡ suc (length es) = led.led k link ends at ∙ name_is in
          let later : later_name k link.next ≡ suc (length es) = is_later k link.next (omega (arith, next, within)) ∙ next in
          record {
            value = led.values k link was at was_at ∙ linked.value;
            next =
                subst (λ (q : ℕ). IsNamed longer q (suc k) (later_name k link.next)) (sym (one_number es k x number x_at there))
                (subst (IsNamed longer number (suc k)) (sym later) (named_new es (entry number value) (suc k) within none));
            round = λ back. absurd (omega (arith, back, next, within));
          }

      -- the others name what they named
      passed_by : (suc k ≡ last → ⊥) → IsLinked longer k link x
      passed_by other =
          let next = led.others k link was other at was_at in
          record {
            value = led.values k link was at was_at ∙ linked.value;
            next =
                subst (λ (n : ℕ). IsNamed longer x.number (suc k) (later_name k n)) (sym next)
                (named_stays es (entry number value) x.number (suc k) (later_name k was.next)
                (λ none same. other (sym (subst (λ (q : ℕ). (head_at heads q).last ≡ suc k) (sym same)
                (named_last es x.number (head_at heads x.number).last k (chained.lasts x.number) here (linked.next.end none)))))
                linked.next);
            round = λ back.
                let named = linked.round (omega (arith, back, next)) in
                subst (IsNamed longer x.number 0) (sym next)
                (named_stays es (entry number value) x.number 0 was.next (λ none same. (named.end none).none k here.value (omega arith) here.at) named);
          }

    linked_at : (k : ℕ) (link was : Link) (x : Entry) → slice_get new k ≡ Some link → slice_get links k ≡ Some was
        → (slice_get front k ≡ Some was) ⊎ ((k ≡ length front) × (was ≡ new_link value first)) → (slice_get es k ≡ Some x) ⊎ ((k ≡ length es) × (x ≡ entry number value)) → IsLinked longer k link x
    linked_at k link was x at was_at (inl before) (inl stood) = elim (cases_eq (suc k) last) [
      | inl ends ↦ ended k link was x at was_at stood (chained.linked k was x before stood) ends
      | inr other ↦ passed_by k link was x at was_at stood (chained.linked k was x before stood) other
    ]
    linked_at k link was x at was_at (inl before) (inr fresh) = absurd (omega (arith, fresh.0, chained.count, slice_get_within front k was before))
    linked_at k link was x at was_at (inr fresh) (inl stood) = absurd (omega (arith, fresh.0, chained.count, slice_get_within es k x stood))
    linked_at k link was x at was_at (inr fresh) (inr also) =
        let no_end : suc k ≡ last → ⊥ = λ ends. omega (arith, ends, also.0, last_within es number last (chained.lasts number)) in
        let next : link.next ≡ first = led.others k link was no_end at was_at ∙ ap (λ (l : Link). l.next) fresh.1 in
        let own : x.number ≡ number = ap (λ (a : Entry). a.number) also.1 in
        let none : later_name k link.next ≡ 0 = is_no_later k link.next (omega (arith, next, also.0, name_within longer number 0 first begins, length-append es (entry number value ∷ []))) in
        record {
          value = led.values k link was at was_at ∙ ap (λ (l : Link). l.value) fresh.1 ∙ ap (λ (a : Entry). a.value) (sym also.1);
          next =
              subst (λ (j : ℕ). IsNamed longer x.number (suc j) (later_name k link.next)) (sym also.0)
              (subst (IsNamed longer x.number (suc (length es))) (sym none) (named_none es (entry number value) x.number));
          round = λ back. subst (λ (q : ℕ). IsNamed longer q 0 link.next) (sym own) (subst (IsNamed longer number 0) (sym next) begins);
        }

    linked_each : (k : ℕ) (link : Link) (x : Entry) → slice_get new k ≡ Some link → slice_get longer k ≡ Some x → IsLinked longer k link x
    linked_each k link x at x_at =
        let within : k < length links = omega (arith, slice_get_within new k link at, led.count) in
        let was = stands_below links k within in
        linked_at k link was.0 x at was.1 (push_cases front (new_link value first) k was.0 (subst (λ (ls : List Link). slice_get ls k ≡ Some was.0) is was.1)) (push_cases es (entry number value) k x x_at)

  -- ---- heads

  module _ (within : number < length heads) where
    head_is : (q : ℕ) → head_at (set heads number (record { last = length links })) q ≡ (if number == q then record { last = length links } else head_at heads q)
    head_is q = written_head heads number q (record { last = length links }) within

    last_each : (q : ℕ) → IsLastNamed longer q (head_at (set heads number (record { last = length links })) q).last
    last_each q = subst (λ (h : Head). IsLastNamed longer q h.last) (sym (head_is q)) (by (number == q) refl)
      where
        written : Head
        written = record { last = length links }

        by : (b : Bool) → (number == q) ≡ b → IsLastNamed longer q (if b then written else head_at heads q).last
        by true e = subst (λ (j : ℕ). IsLastNamed longer j (length links)) (eqb-true number q e) (subst (IsLastNamed longer number) (sym name_is) (last_new es (entry number value)))
        by false e = last_stays es (entry number value) q (head_at heads q).last (λ same. false≢true (sym e ∙ eq-eqb number q same)) (chained.lasts q)

    pub joined_chained : (new : List Link) → IsLed links new last (length links) → AreChained longer (set heads number (record { last = length links })) new
    joined_chained new led = record {
      count = led.count ∙ name_is ∙ sym (omega (arith, length-append es (entry number value ∷ [])));
      linked = linked_each new led;
      lasts = last_each;
    }
