-- The states that words of events reach, and a set of states that no event leaves.
use Rattle.std.proofs.Common.{◌≡◌, ℕ, zero, suc, ◌+◌, ◌<◌, Bool, true, false, List, [], ◌∷◌, ◌++◌, length, Some, slice_get, slice_index, cond, All, Contains, filter, map, sym, ap, ◌∙◌, subst, refl, arith, ◌⊎◌, inl, inr}
use Rattle.std.specs.Prelude.{IsTrue, not, slice_set}
use Rattle.std.specs.List.{AllByRecursion, list_all}
use Rattle.std.proofs.lemmas.Option.{slice_get_within, slice_get-get_or, get_or_from_slice_get, same_Some, none-some}
use Rattle.std.proofs.lemmas.List.Elements.{All-get_or, All-from_recursion, recursion_from_All}
use Rattle.std.proofs.lemmas.Bool.{false≢true}
use Rattle.jvm_model.specs.declared.automaton.Automaton.{Automaton}
use Rattle.jvm_model.specs.declared.automaton.Event.{Event}
use Rattle.jvm_model.specs.Automata.{IsEvent, IsAutomaton}
use Rattle.prune_stage.specs.StageOne.{state_after, picked, IsSafe}
use Rattle.prune_stage.specs.Reaching.{AddsNothing, FindsState, FindsNothing}

-- a member of a list stands at a place, and the other way round
pub place_of : {X : Type 0} (xs : List X) (x : X) → Contains xs x → (k : ℕ) × (slice_get xs k ≡ Some x)
place_of xs x (k, l, e) = (k, slice_get-get_or xs k x l ∙ ap Some e)

pub contains_at : {X : Type 0} (xs : List X) (k : ℕ) (x : X) → slice_get xs k ≡ Some x → Contains xs x
contains_at xs k x e = (k, slice_get_within xs k x e, get_or_from_slice_get xs k x x e)

contains_head : {X : Type 0} (x : X) (xs : List X) → Contains (x ∷ xs) x
contains_head x xs = contains_at (x ∷ xs) zero x refl

contains_tail : {X : Type 0} (y : X) (xs : List X) (x : X) → Contains xs x → Contains (y ∷ xs) x
contains_tail y xs x c = let p = place_of xs x c in contains_at (y ∷ xs) (suc p.0) x p.1

-- what is picked stands in the list, with a true beside it
pub picked_at : {X : Type 0} (tests : List Bool) (xs : List X) (x : X) (k : ℕ) → slice_get xs k ≡ Some x → slice_get tests k ≡ Some true → Contains (picked tests xs) x
picked_at [] xs x k e t = absurd (none-some true t)
picked_at (b ∷ tests) [] x k e t = absurd (none-some x e)
picked_at {X} (true ∷ tests) (y ∷ xs) x zero e t = subst (λ (z : X). Contains (z ∷ picked tests xs) x) (sym (same_Some _ _ e)) (contains_head x (picked tests xs))
picked_at (false ∷ tests) (y ∷ xs) x zero e t = absurd (false≢true (same_Some _ _ t))
picked_at (true ∷ tests) (y ∷ xs) x (suc k) e t = contains_tail y (picked tests xs) x (picked_at tests xs x k e t)
picked_at (false ∷ tests) (y ∷ xs) x (suc k) e t = picked_at tests xs x k e t

pub place_picked : {X : Type 0} (tests : List Bool) (xs : List X) (x : X) (j : ℕ) → slice_get (picked tests xs) j ≡ Some x → (k : ℕ) × (slice_get xs k ≡ Some x) × (slice_get tests k ≡ Some true)
place_picked [] xs x j e = absurd (none-some x e)
place_picked (b ∷ tests) [] x j e = absurd (none-some x e)
place_picked (true ∷ tests) (y ∷ xs) x zero e = (zero, e, refl)
place_picked (true ∷ tests) (y ∷ xs) x (suc j) e = let p = place_picked tests xs x j e in (suc p.0, p.1, p.2)
place_picked (false ∷ tests) (y ∷ xs) x j e = let p = place_picked tests xs x j e in (suc p.0, p.1, p.2)

-- A state that a word over the events reaches.
pub record IsReached (a : Automaton) (events : List Event) (state : ℕ) : Type 0 where
  pub word : List Event
  pub occur : AllByRecursion (Contains events) word
  pub leads : state_after a.initial word ≡ state

pub reached_none : (a : Automaton) (events : List Event) → IsReached a events a.initial
reached_none a events = record { word = []; occur = tt; leads = refl }

state_after-push : (q : ℕ) (word : List Event) (e : Event) → state_after q (word ++ e ∷ []) ≡ slice_index e.next (state_after q word)
state_after-push q [] e = refl
state_after-push q (f ∷ word) e = state_after-push (slice_index f.next q) word e

all_push : {X : Type 0} (P : X → Type 0) (xs : List X) (x : X) → AllByRecursion P xs → P x → AllByRecursion P (xs ++ x ∷ [])
all_push P [] x all p = (p, tt)
all_push P (y ∷ xs) x all p = (all.0, all_push P xs x all.1 p)

pub reached_more : (a : Automaton) (events : List Event) (from state : ℕ) (e : Event) → IsReached a events from → Contains events e → slice_get e.next from ≡ Some state → IsReached a events state
reached_more a events from state e r c leads = record {
  word = r.word ++ e ∷ [];
  occur = all_push (Contains events) r.word e r.occur c;
  leads = state_after-push a.initial r.word e ∙ (ap (slice_index e.next) r.leads ∙ get_or_from_slice_get e.next from state 0 leads);
}

-- No event leads from these states to others, so no word does.
pub stays_along : (n : ℕ) (events : List Event) (reached : List Bool) → ((e : Event) → Contains events e → length e.next ≡ n)
    → ((e : Event) → Contains events e → All (λ q. q < n) e.next)
    → ((e : Event) → Contains events e → AddsNothing reached e)
    → (q : ℕ) (word : List Event) → q < n → AllByRecursion (Contains events) word → slice_get reached q ≡ Some true → slice_get reached (state_after q word) ≡ Some true
stays_along n events reached total inside nothing q [] below all r = r
stays_along n events reached total inside nothing q (e ∷ word) below all r =
    let fits : q < length e.next = omega (arith, total e all.0) in
    let leads = slice_get-get_or e.next q 0 fits in
    let next : slice_index e.next q < n = All-get_or (λ s. s < n) e.next q 0 fits (inside e all.0) in
    stays_along n events reached total inside nothing (slice_index e.next q) word next all.1
    ((nothing e all.0).stays q (slice_index e.next q) r leads)

-- a write into a list of answers
pub get_set_same : (xs : List Bool) (i : ℕ) (b : Bool) → i < length xs → slice_get (slice_set xs i b) i ≡ Some b
get_set_same [] i b l = absurd (omega arith)
get_set_same (x ∷ xs) zero b l = refl
get_set_same (x ∷ xs) (suc i) b l = get_set_same xs i b (omega arith)

pub get_set_cases : (xs : List Bool) (i q : ℕ) → slice_get (slice_set xs i true) q ≡ Some true → (q ≡ i) ⊎ (slice_get xs q ≡ Some true)
get_set_cases [] i q e = absurd (none-some true e)
get_set_cases (x ∷ xs) zero zero e = inl refl
get_set_cases (x ∷ xs) zero (suc q) e = inr e
get_set_cases (x ∷ xs) (suc i) zero e = inr e
get_set_cases (x ∷ xs) (suc i) (suc q) e = elim (get_set_cases xs i q e) [ inl h ↦ inl (ap suc h) | inr h ↦ inr h ]

pub get_set_keeps : (xs : List Bool) (i q : ℕ) → slice_get xs q ≡ Some true → slice_get (slice_set xs i true) q ≡ Some true
get_set_keeps [] i q e = absurd (none-some true e)
get_set_keeps (x ∷ xs) zero zero e = refl
get_set_keeps (x ∷ xs) zero (suc q) e = e
get_set_keeps (x ∷ xs) (suc i) zero e = e
get_set_keeps (x ∷ xs) (suc i) (suc q) e = get_set_keeps xs i q e

-- how many answers are false
abbrev pub unreached : List Bool → ℕ
unreached [] = 0
unreached (true ∷ xs) = unreached xs
unreached (false ∷ xs) = 1 + unreached xs

pub unreached-set : (xs : List Bool) (i : ℕ) → slice_get xs i ≡ Some false → unreached (slice_set xs i true) < unreached xs
unreached-set [] i e = absurd (none-some false e)
unreached-set (true ∷ xs) zero e = absurd (false≢true (same_Some _ _ (sym e)))
unreached-set (false ∷ xs) zero e = omega arith
unreached-set (true ∷ xs) (suc i) e = unreached-set xs i e
unreached-set (false ∷ xs) (suc i) e = let h = unreached-set xs i e in omega arith

pub none_true : (xs : List Bool) (q : ℕ) → list_all not xs ≡ true → slice_get xs q ≡ Some true → ⊥
none_true [] q h e = none-some true e
none_true (true ∷ xs) q h e = false≢true h
none_true (false ∷ xs) zero h e = false≢true (same_Some _ _ e)
none_true (false ∷ xs) (suc q) h e = none_true xs q h e

-- The search ends: nothing is added, so the answer is what the error state's place says.
pub safe_by_search : (a : Automaton) (occurs reached : List Bool) → IsAutomaton a → length occurs ≡ length a.events → length reached ≡ 32
    → slice_get reached a.initial ≡ Some true
    → ((q : ℕ) → slice_get reached q ≡ Some true → IsReached a (picked occurs a.events) q)
    → FindsNothing occurs a.events reached
    → (b : Bool) → slice_get reached a.error ≡ Some b
    → (IsTrue (not b) → IsSafe a (picked occurs a.events)) × (IsSafe a (picked occurs a.events) → IsTrue (not b))
safe_by_search a occurs reached sound answers size initial found nothing true at =
    let r = found a.error at in
    (λ h. absurd (false≢true h), λ s. absurd (s.no_word r.word (record { occur = All-from_recursion (Contains (picked occurs a.events)) r.word r.occur; leads = r.leads })))
safe_by_search a occurs reached sound answers size initial found nothing false at = (
  λ h. record {
    no_word = λ word w.
        let member : (e : Event) → Contains (picked occurs a.events) e → (k : ℕ) × (slice_get a.events k ≡ Some e) × (slice_get occurs k ≡ Some true) =
        (λ e c. let p = place_of (picked occurs a.events) e c in place_picked occurs a.events e p.0 p.1) in
        let event : (e : Event) → Contains (picked occurs a.events) e → IsEvent (length a.states) a.error e =
        (λ e c. let p = member e c in subst (λ (x : Event). IsEvent (length a.states) a.error x) (get_or_from_slice_get a.events p.0 e e p.1)
        (All-get_or (IsEvent (length a.states) a.error) a.events p.0 e (slice_get_within a.events p.0 e p.1) sound.events)) in
        let r = stays_along (length a.states) (picked occurs a.events) reached
        (λ e c. (event e c).total)
        (λ e c. (event e c).inside)
        (λ e c. let p = member e c in nothing.none e (record { place = p.0; stands = p.1; is_true = p.2 }))
        a.initial word sound.initial (recursion_from_All (Contains (picked occurs a.events)) word w.occur) initial in
        false≢true (same_Some _ _ (sym at ∙ (ap (slice_get reached) (sym w.leads) ∙ r)));
  },
  λ s. refl,
)

-- at the start the initial state alone is reached
pub found_first : (a : Automaton) (occurs falses : List Bool) (i : ℕ) → list_all not falses ≡ true → i ≡ a.initial
    → (q : ℕ) → slice_get (slice_set falses i true) q ≡ Some true → IsReached a (picked occurs a.events) q
found_first a occurs falses i none is q e =
    elim (get_set_cases falses i q e) [
      | inl h ↦ subst (IsReached a (picked occurs a.events)) (sym (h ∙ is)) (reached_none a (picked occurs a.events))
      | inr h ↦ absurd (none_true falses q none h)
    ]

-- a state that the search finds is reached
pub found_next : (a : Automaton) (events : List Event) (occurs reached : List Bool) (i state : ℕ) → events ≡ a.events → i ≡ state
    → ((q : ℕ) → slice_get reached q ≡ Some true → IsReached a (picked occurs a.events) q)
    → FindsState occurs events reached state
    → (q : ℕ) → slice_get (slice_set reached i true) q ≡ Some true → IsReached a (picked occurs a.events) q
found_next a events occurs reached i state same is found f q e =
    elim (get_set_cases reached i q e) [
      | inl h ↦ subst (IsReached a (picked occurs a.events)) (sym (h ∙ is))
          (reached_more a (picked occurs a.events) f.adds.from state f.event (found f.adds.from f.adds.before)
          (picked_at occurs a.events f.event f.picked.place (ap (λ (es : List Event). slice_get es f.picked.place) (sym same) ∙ f.picked.stands) f.picked.is_true)
          f.adds.leads)
      | inr h ↦ found q h
    ]

pub fresh_below : (occurs : List Bool) (events : List Event) (reached : List Bool) (state : ℕ) → FindsState occurs events reached state → state < length reached
fresh_below occurs events reached state f = slice_get_within reached state false f.adds.fresh

picked_head : {X : Type 0} (b : Bool) (x : X) (tests : List Bool) (xs ys : List X) → picked tests xs ≡ ys → picked (b ∷ tests) (x ∷ xs) ≡ cond b (x ∷ ys) ys
picked_head {X} true x tests xs ys is = ap (λ (l : List X). x ∷ l) is
picked_head false x tests xs ys is = is

-- picked by a test's answers: those that pass the test
pub picked-map : {X : Type 0} (p : X → Bool) (xs : List X) → picked (map p xs) xs ≡ filter p xs
picked-map p [] = refl
picked-map p (x ∷ xs) = picked_head (p x) x (map p xs) xs (filter p xs) (picked-map p xs)
