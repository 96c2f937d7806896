-- New arrays, of which each holds those of the next site.
use Rattle.std.proofs.Common.{◌≡◌, ◌⊎◌, inl, inr, ℕ, zero, suc, ◌+◌, ◌-◌, ◌*◌, ◌<◌, ◌≤◌, Bool, true, false, cond, List, [], ◌∷◌, length, replicate, map, drop, Some, Contains, refl, sym, ap, subst, arith}
use Rattle.std.specs.Prelude.{slice_get}
use Rattle.std.proofs.Math.Nat.{suc-mul}
use Rattle.std.proofs.lemmas.Option.{same_Some, none-some}
use Rattle.list_laws.proofs.Members.{contains_cases, contains_first, contains_later, contains_none}
use Rattle.list_laws.proofs.Places.{in_longer}
use Rattle.jvm_model.specs.declared.site.Site.{Site}
use Rattle.machine_bytecode.specs.States.{Value, primitive_value, null_value, reference_to, elements, Object, default_value, is_reference_type, default_element, new_array, Dimension, references_from, arrays_of_arrays, arrays_from}
use Rattle.coverage.specs.References.{LeadsTo, IsCovered}
use Rattle.coverage.proofs.Lists.{behind, IsBehind, where_joined}

-- ---- values that are no references

pub default_covered : (Among : Site → Type 0) (heap : List Object) (descriptor : List ℕ) → IsCovered Among heap (default_value descriptor)
default_covered Among heap descriptor = chosen (is_reference_type descriptor)
  where
    chosen : (b : Bool) → IsCovered Among heap (cond b null_value primitive_value)
    chosen true = tt
    chosen false = tt

-- ---- lists of one element

replicated : {X : Type 0} (n : ℕ) (x y : X) (k : ℕ) → slice_get (replicate n x) k ≡ Some y → y ≡ x
replicated zero x y k e = absurd (none-some y e)
replicated (suc n) x y zero e = sym (same_Some x y e)
replicated (suc n) x y (suc k) e = replicated n x y k e

contains_replicated : {X : Type 0} (n : ℕ) (x y : X) → Contains (replicate n x) y → y ≡ x
contains_replicated zero x y there = absurd (contains_none y there)
contains_replicated {X = X} (suc n) x y there = by (contains_replicated n x y) (contains_cases x y (replicate n x) there)
  where
    by : (Contains (replicate n x) y → y ≡ x) → (x ≡ y) ⊎ Contains (replicate n x) y → y ≡ x
    by rest (inl e) = sym e
    by rest (inr later) = rest later

replicate_at : {X : Type 0} (n : ℕ) (x : X) (k : ℕ) → k < n → slice_get (replicate n x) k ≡ Some x
replicate_at zero x k lt = absurd (omega arith)
replicate_at (suc n) x zero lt = refl
replicate_at (suc n) x (suc k) lt = replicate_at n x k (omega arith)

-- ---- the arrays of one dimension

rows_long : (d : Dimension) (state first count : ℕ) → length (arrays_of_arrays d state first count) ≡ count
rows_long d state first zero = refl
rows_long d state first (suc count) = ap suc (rows_long d state (first + d.long) count)

-- one of them, whose elements are references to places from the first one on
record IsRow (d : Dimension) (state first count : ℕ) (o : Object) : Type 0 where
  from : ℕ
  low : first ≤ from
  high : from + d.long ≤ first + count * d.long
  is : o ≡ new_array d.site (references_from from d.long) state

row_at : (d : Dimension) (state first count k : ℕ) (o : Object) → slice_get (arrays_of_arrays d state first count) k ≡ Some o → IsRow d state first count o
row_at d state first zero k o e = absurd (none-some o e)
row_at d state first (suc count) zero o e =
    let more = suc-mul count d.long in
    record { from = first; low = omega arith; high = omega (arith, more); is = sym (same_Some _ o e) }
row_at d state first (suc count) (suc k) o e =
    let more = suc-mul count d.long in
    let r = row_at d state (first + d.long) count k o e in
    let low = r.low in
    let high = r.high in
    record { from = r.from; low = omega (arith, low); high = omega (arith, more, high); is = r.is }

-- an object of a site stands there
pub record HasSite (objects : List Object) (k : ℕ) (s : Site) : Type 0 where
  pub object : Object
  pub held : slice_get objects k ≡ Some object
  pub of_site : object.site ≡ s

some_row : (d : Dimension) (state first count k : ℕ) → k < count → HasSite (arrays_of_arrays d state first count) k d.site
some_row d state first zero k lt = absurd (omega arith)
some_row d state first (suc count) zero lt = record { object = _; held = refl; of_site = refl }
some_row d state first (suc count) (suc k) lt =
    let r = some_row d state (first + d.long) count k (omega arith) in
    record { object = r.object; held = r.held; of_site = r.of_site }

pub first_at : (state place count : ℕ) (d : Dimension) (deeper : List Dimension) (k : ℕ) → k < count → HasSite (arrays_from state place count (d ∷ deeper)) k d.site
first_at state place count d [] k lt = record { object = _; held = replicate_at count _ k lt; of_site = refl }
first_at state place count d (e ∷ deeper) k lt =
    let r = some_row d state (place + count) count k lt in
    record { object = r.object; held = in_longer (arrays_of_arrays d state (place + count) count) (arrays_from state (place + count) (count * d.long) (e ∷ deeper)) k r.object r.held; of_site = r.of_site }

-- a reference to a place in a range
record IsReferenceIn (first long : ℕ) (v : Value) : Type 0 where
  place : ℕ
  low : first ≤ place
  high : place < first + long
  is : v ≡ reference_to place

reference_in : (first long : ℕ) (v : Value) → Contains (references_from first long) v → IsReferenceIn first long v
reference_in first zero v there = absurd (contains_none v there)
reference_in first (suc long) v there = by (reference_in (first + 1) long v) (contains_cases (reference_to first) v (references_from (first + 1) long) there)
  where
    by : (Contains (references_from (first + 1) long) v → IsReferenceIn (first + 1) long v) → (reference_to first ≡ v) ⊎ Contains (references_from (first + 1) long) v → IsReferenceIn first (suc long) v
    by rest (inl e) = record { place = first; low = omega arith; high = omega arith; is = sym e }
    by rest (inr later) =
        let r = rest later in
        let low = r.low in
        let high = r.high in
        record { place = r.place; low = omega (arith, low); high = omega (arith, high); is = r.is }

-- ---- all dimensions

-- the sites of one after another
abbrev pub AreNested : (Site → Site → Type 0) → List Site → Type 0
AreNested Inner [] = Unit {0}
AreNested Inner (outer ∷ []) = Unit {0}
AreNested Inner (outer ∷ inner ∷ deeper) = Inner outer inner × AreNested Inner (inner ∷ deeper)

-- an array of one of the sites, whose elements are covered
pub record IsArrayOf (Inner : Site → Site → Type 0) (sites : List Site) (heap : List Object) (o : Object) : Type 0 where
  pub among : Contains sites o.site
  pub of_class : o.class ≡ o.site.class
  pub values : List Value
  pub holds : o.contents ≡ elements values
  pub covered : (v : Value) → Contains values v → IsCovered (Inner o.site) heap v

abbrev site_of : Dimension → Site
site_of d = d.site

module _ (Inner : Site → Site → Type 0) (state : ℕ) (heap : List Object) where
  -- the objects stand in the heap from a place on
  pub record AreAt (place : ℕ) (objects : List Object) : Type 0 where
    pub at : (k : ℕ) (o : Object) → slice_get objects k ≡ Some o → slice_get heap (place + k) ≡ Some o

  pub same_array : (sites : List Site) (o p : Object) → o ≡ p → IsArrayOf Inner sites heap p → IsArrayOf Inner sites heap o
  same_array sites o p e a = subst (λ (q : Object). IsArrayOf Inner sites heap q) (sym e) a

  inner_at : (d e : Dimension) (deeper : List Dimension) (place count : ℕ) → AreAt place (arrays_from state place count (d ∷ e ∷ deeper))
      → AreAt (place + count) (arrays_from state (place + count) (count * d.long) (e ∷ deeper))
  inner_at d e deeper place count stand = record {
    at = λ k o held.
        let rows = arrays_of_arrays d state (place + count) count in
        let rest = arrays_from state (place + count) (count * d.long) (e ∷ deeper) in
        let long : length rows ≡ count = rows_long d state (place + count) count in
        let same : place + (length rows + k) ≡ place + count + k = omega (arith, long) in
        subst (λ (i : ℕ). slice_get heap i ≡ Some o) same (stand.at (length rows + k) o (behind rows rest k o held));
  }

  -- an element of an outer array
  element_covered : (d e : Dimension) (deeper : List Dimension) (place count : ℕ) → Inner d.site e.site → AreAt place (arrays_from state place count (d ∷ e ∷ deeper))
      → (from : ℕ) → place + count ≤ from → from + d.long ≤ place + count + count * d.long → (v : Value) → IsReferenceIn from d.long v → IsCovered (Inner d.site) heap v
  element_covered d e deeper place count nested stand from low high v r =
      let near = r.low in
      let far = r.high in
      let there = first_at state (place + count) (count * d.long) e deeper (r.place - (place + count)) (omega (arith, low, high, near, far)) in
      let same : place + count + (r.place - (place + count)) ≡ r.place = omega (arith, low, near) in
      let stands = (inner_at d e deeper place count stand).at (r.place - (place + count)) there.object there.held in
      let leads : LeadsTo (Inner d.site) heap r.place = record {
        object = there.object;
        held = subst (λ (i : ℕ). slice_get heap i ≡ Some there.object) same stands;
        among = subst (λ (s : Site). Inner d.site s) (sym there.of_site) nested;
      } in
      subst (λ (w : Value). IsCovered (Inner d.site) heap w) (sym r.is) leads

  outer_or_inner : (d e : Dimension) (deeper : List Dimension) (place count : ℕ) → Inner d.site e.site → AreAt place (arrays_from state place count (d ∷ e ∷ deeper))
      → (k : ℕ) (o : Object)
      → ((j : ℕ) (p : Object) → slice_get (arrays_from state (place + count) (count * d.long) (e ∷ deeper)) j ≡ Some p → IsArrayOf Inner (e.site ∷ map site_of deeper) heap p)
      → (slice_get (arrays_of_arrays d state (place + count) count) k ≡ Some o) ⊎ IsBehind (arrays_of_arrays d state (place + count) count) (arrays_from state (place + count) (count * d.long) (e ∷ deeper)) k o
      → IsArrayOf Inner (d.site ∷ e.site ∷ map site_of deeper) heap o
  outer_or_inner d e deeper place count nested stand k o inner (inl held) =
      let r = row_at d state (place + count) count k o held in
      same_array (d.site ∷ e.site ∷ map site_of deeper) o _ r.is (record {
        among = contains_first d.site (e.site ∷ map site_of deeper);
        of_class = refl;
        values = references_from r.from d.long;
        holds = refl;
        covered = λ v there. element_covered d e deeper place count nested stand r.from r.low r.high v (reference_in r.from d.long v there);
      })
  outer_or_inner d e deeper place count nested stand k o inner (inr late) =
      let a = inner late.after o late.held in
      record { among = contains_later d.site o.site (e.site ∷ map site_of deeper) a.among; of_class = a.of_class; values = a.values; holds = a.holds; covered = a.covered }

  pub arrays_at : (dimensions : List Dimension) (place count : ℕ) → AreNested Inner (map site_of dimensions) → AreAt place (arrays_from state place count dimensions)
      → (k : ℕ) (o : Object) → slice_get (arrays_from state place count dimensions) k ≡ Some o → IsArrayOf Inner (map site_of dimensions) heap o
  arrays_at [] place count nested stand k o e = absurd (none-some o e)
  arrays_at (d ∷ []) place count nested stand k o e =
      same_array (d.site ∷ []) o _ (replicated count _ o k e) (record {
        among = contains_first d.site [];
        of_class = refl;
        values = replicate d.long (default_element d.site.class);
        holds = refl;
        covered = λ v there. subst (λ (w : Value). IsCovered (Inner d.site) heap w) (sym (contains_replicated d.long (default_element d.site.class) v there)) (default_covered (Inner d.site) heap (drop 1 d.site.class));
      })
  arrays_at (d ∷ e ∷ deeper) place count nested stand k o held =
      outer_or_inner d e deeper place count nested.0 stand k o
      (λ j p there. arrays_at (e ∷ deeper) (place + count) (count * d.long) nested.1 (inner_at d e deeper place count stand) j p there)
      (where_joined (arrays_of_arrays d state (place + count) count) (arrays_from state (place + count) (count * d.long) (e ∷ deeper)) k o held)
