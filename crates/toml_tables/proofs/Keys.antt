-- The keys of a table beside some: the first of them in the table's order is the least, and there is one least.
use Rattle.std.proofs.Common.{◌≡◌, ℕ, zero, arith, Bool, true, false, not, List, [], ◌∷◌, All, Contains, cond, find, Option, Some, None, String, Global, Ordering, Less, Equal, Greater, string_bytes, nat_cmp, refl, sym, ap, ◌∙◌, subst, IsTrue}
use Rattle.std.specs.List.{list_any, AllByRecursion}
use Rattle.std.specs.List.Sorted.{IsStrictlySortedBy}
use Rattle.std.specs.Map.{keys_of}
use Rattle.std.specs.Ordering.{is_le, is_eq, ordering_reverse}
use Rattle.std.specs.String.{string_cmp}
use Rattle.std.specs.Cmp.{tied_itself}
use Rattle.std.specs.Cmp.Lexicographic.{slice_cmp}
use Rattle.std.specs.Str.{bytes_eq}
use Rattle.std.proofs.lemmas.Cmp.{nat_list_cmp_total}
use Rattle.std.proofs.lemmas.Bool.{false≢true}
use Rattle.std.proofs.lemmas.Map.Text.{is_eq-slice_cmp}
use Rattle.std.proofs.lemmas.Option.{same_Some, none-some}
use Rattle.std.proofs.lemmas.Slice.Eq.{bytes_eq-Decides}
use Rattle.std.proofs.lemmas.List.Elements.{All-cons, All-nil}
use Rattle.toml.specs.declared.value.Value.{Value}
use Rattle.toml.specs.View.{members_view}
use Rattle.toml_tables.specs.Tables.{other_keys, IsLeast}

abbrev Entry : Type 0
Entry = String Global × Value

-- the key is none of these
abbrev pub is_other : List (List ℕ) → String Global → Bool
is_other keys k = not (list_any (bytes_eq (string_bytes k)) keys)

abbrev IsBelow : List ℕ → List ℕ → Type 0
IsBelow key other = IsTrue (is_le (slice_cmp nat_cmp key other))

-- one test of a key
abbrev kept : Bool → List ℕ → List (List ℕ) → List (List ℕ)
kept among k others = cond among others (k ∷ others)

none_kept : (among : Bool) (k : String Global) (rest : Option (String Global)) (others : List (List ℕ)) → cond (not among) (Some k) rest ≡ None → (rest ≡ None → others ≡ []) → kept among (string_bytes k) others ≡ []
none_kept true k rest others e h = h e
none_kept false k rest others e h = absurd (none-some k (sym e))

-- no key is found, so that there is none
pub other_keys-none : (keys : List (List ℕ)) (es : List Entry) → find (is_other keys) (keys_of es) ≡ None → other_keys keys (members_view es) ≡ []
other_keys-none keys [] e = refl
other_keys-none keys (x ∷ es) e =
    none_kept (list_any (bytes_eq (string_bytes x.0)) keys) x.0 (find (is_other keys) (keys_of es)) _ e (other_keys-none keys es)

-- a key is below those after it that are kept
all_kept : (key : List ℕ) (among : Bool) (k : List ℕ) (others : List (List ℕ)) → IsBelow key k → All (IsBelow key) others → All (IsBelow key) (kept among k others)
all_kept key true k others below all = all
all_kept key false k others below all = All-cons (IsBelow key) k others below all

below_others : (keys : List (List ℕ)) (first : String Global) (es : List Entry) → AllByRecursion (λ y. string_cmp first y ≡ Less) (keys_of es) → All (IsBelow (string_bytes first)) (other_keys keys (members_view es))
below_others keys first [] h = All-nil (IsBelow (string_bytes first))
below_others keys first (e ∷ es) h =
    all_kept (string_bytes first) (list_any (bytes_eq (string_bytes e.0)) keys) (string_bytes e.0) _ (ap is_le h.0) (below_others keys first es h.1)

itself : (k : List ℕ) → IsBelow k k
itself k = ap is_le (tied_itself nat_list_cmp_total k)

least_kept : (among : Bool) (k found : String Global) (rest : Option (String Global)) (others : List (List ℕ)) → cond (not among) (Some k) rest ≡ Some found
    → All (IsBelow (string_bytes k)) others → (rest ≡ Some found → IsLeast others (string_bytes found)) → IsLeast (kept among (string_bytes k) others) (string_bytes found)
least_kept true k found rest others e below h = h e
least_kept false k found rest others e below h =
    rw (← same_Some k found e)
    record { among = (zero, omega arith, refl); least = All-cons (IsBelow (string_bytes k)) (string_bytes k) others (itself (string_bytes k)) below }

-- the first key that is found is the least
pub other_keys-least : (keys : List (List ℕ)) (es : List Entry) (found : String Global) → IsStrictlySortedBy string_cmp (keys_of es) → find (is_other keys) (keys_of es) ≡ Some found
    → IsLeast (other_keys keys (members_view es)) (string_bytes found)
unfolding IsStrictlySortedBy
other_keys-least keys [] found sorted e = absurd (none-some found e)
other_keys-least keys (x ∷ es) found sorted e =
    least_kept (list_any (bytes_eq (string_bytes x.0)) keys) x.0 found (find (is_other keys) (keys_of es)) _ e (below_others keys x.0 es sorted.0)
    (other_keys-least keys es found sorted.1)

-- the least of some keys is one
both_le : (o : Ordering) → is_le o ≡ true → is_le (ordering_reverse o) ≡ true → is_eq o ≡ true
both_le Less a b = absurd (false≢true b)
both_le Equal a b = refl
both_le Greater a b = absurd (false≢true a)

at_contained : {X : Type 0} (P : X → Type 0) (xs : List X) (x : X) → Contains xs x → All P xs → P x
at_contained P xs x c all = subst P c.2 (all c.0 x c.1)

pub IsLeast-same : (keys : List (List ℕ)) (k l : List ℕ) → IsLeast keys k → IsLeast keys l → k ≡ l
IsLeast-same keys k l a b =
    let k_l : is_le (slice_cmp nat_cmp k l) ≡ true = at_contained (λ x. IsTrue (is_le (slice_cmp nat_cmp k x))) keys l b.among a.least in
    let l_k : is_le (slice_cmp nat_cmp l k) ≡ true = at_contained (λ x. IsTrue (is_le (slice_cmp nat_cmp l x))) keys k a.among b.least in
    let back : is_le (ordering_reverse (slice_cmp nat_cmp k l)) ≡ true = ap is_le (sym (nat_list_cmp_total.antisymm l k)) ∙ l_k in
    (bytes_eq-Decides k l).0 (sym (is_eq-slice_cmp k l) ∙ both_le (slice_cmp nat_cmp k l) k_l back)
