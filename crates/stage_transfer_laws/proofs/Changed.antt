-- Where roots get other values: what a change gives of a set, and when a tuple is rerooted by it.
use Rattle.std.proofs.Common.{Bool, ◌≡◌, ◌⊎◌, inl, inr, true, false, not, ◌&&◌, List, [], ◌∷◌, ◌++◌, map, refl, sym, ◌∙◌, ap, subst}
use Rattle.std.specs.List.{Contains, filter, list_any}
use Rattle.std.proofs.lemmas.Bool.{and_cases, false≢true, not-false, not-true, not_from_false, or_parts}
use Rattle.std.proofs.lemmas.List.Elements.{Contains-append_cases, Contains-append_left, Contains-append_right}
use Rattle.list_laws.proofs.Members.{contained_in_map, contains_map}
use Rattle.jvm_model.specs.declared.number.FieldNo.{FieldNo}
use Rattle.access_paths.specs.declared.root.Root.{Root}
use Rattle.access_paths.specs.Paths.{Path, bare, has_path}
use Rattle.stage_facts.specs.Facts.{Tuple}
use Rattle.stage_transfer.specs.Changes.{Change, Copy, begins_at, changed, changed_set, copied, has_fields, is_doubled, is_lost, with_root}
use Rattle.stage_relations.specs.Relations.{HasFields, Reroots, Source, Target}
use Rattle.stage_transfer_laws.proofs.Members.{in_filter, in_flat_map, none_passes, of_filter, of_flat_map, one_passes}
use Rattle.stage_transfer_laws.proofs.Paths.{has_it, in_set, is_root, of_set, root_is}

-- ---- copies

abbrev pub root_copy : Root → Root → Copy
root_copy from to = record { from = from; to = to }

pub record IsCopied (copies : List Copy) (set : List Path) (y : Path) : Type 0 where
  pub copy : Copy
  pub made : Contains copies copy
  pub path : Path
  pub listed : Contains set path
  pub from : copy.from ≡ path.root
  pub is : with_root copy.to path ≡ y

pub of_copied : (copies : List Copy) (set : List Path) (y : Path) → Contains (copied copies set) y → IsCopied copies set y
of_copied copies set y there =
    let found = of_flat_map (λ (c : Copy). map (with_root c.to) (filter (begins_at c.from) set)) copies y there in
    let old = contained_in_map (with_root found.0.to) (filter (begins_at found.0.from) set) y found.2 in
    let listed = of_filter (begins_at found.0.from) set old.0 old.1 in
    record { copy = found.0; made = found.1; path = old.0; listed = listed.0; from = root_is found.0.from old.0.root listed.1; is = old.2 }

pub in_copied : (copies : List Copy) (set : List Path) (c : Copy) (x : Path) → Contains copies c → Contains set x → c.from ≡ x.root
    → Contains (copied copies set) (with_root c.to x)
in_copied copies set c x made listed from =
    in_flat_map (λ (k : Copy). map (with_root k.to) (filter (begins_at k.from) set)) copies c (with_root c.to x) made
    (contains_map (with_root c.to) (filter (begins_at c.from) set) x (in_filter (begins_at c.from) set x listed (is_root c.from x.root from)))

-- ---- sets

-- The paths whose root does not go.
abbrev left_of : Change → List Path → List Path
left_of c set = filter (λ (x : Path). not (c.goes x.root)) set

pub of_changed : (c : Change) (set : List Path) (y : Path) → Contains (changed_set c set) y
    → (Contains set y × (c.goes y.root ≡ false)) ⊎ Contains (c.adds set) y
of_changed c set y there = elim (Contains-append_cases (left_of c set) (c.adds set) y (of_set (left_of c set ++ c.adds set) y there)) [
  | inl stays ↦
      let found = of_filter (λ (x : Path). not (c.goes x.root)) set y stays in
      inl (found.0, not-true (c.goes y.root) found.1)
  | inr new ↦ inr new
]

pub staying : (c : Change) (set : List Path) (y : Path) → Contains set y → c.goes y.root ≡ false → Contains (changed_set c set) y
staying c set y there stays =
    in_set (left_of c set ++ c.adds set) y
    (Contains-append_left (left_of c set) (c.adds set) y
    (in_filter (λ (x : Path). not (c.goes x.root)) set y there (not_from_false (c.goes y.root) stays)))

pub added : (c : Change) (set : List Path) (y : Path) → Contains (c.adds set) y → Contains (changed_set c set) y
added c set y there = in_set (left_of c set ++ c.adds set) y (Contains-append_right (left_of c set) (c.adds set) y there)

-- ---- paths that are not lost

pub has_some : (fields : List FieldNo) → HasFields fields → has_fields fields ≡ true
has_some [] has = absurd has
has_some (f ∷ rest) has = refl

pub record IsDoubled (doubles : Root → List Root) (after : List Path) (x : Path) : Type 0 where
  pub root : Root
  pub listed : Contains (doubles x.root) root
  pub has : Contains after (with_root root x)

pub doubled_by : (doubles : Root → List Root) (after : List Path) (x : Path) → is_doubled doubles after x ≡ true → IsDoubled doubles after x
doubled_by doubles after x is =
    let found = one_passes (λ (r : Root). has_path after (with_root r x)) (doubles x.root) is in
    record { root = found.0; listed = found.1; has = has_it after (with_root found.0 x) found.2 }

pub not_lost : (c : Change) (after : List Path) (set : List Path) (x : Path) → list_any (is_lost c after) set ≡ false → Contains set x → HasFields x.fields
    → (c.goes x.root ≡ false) ⊎ IsDoubled c.doubles after x
not_lost c after set x none there has =
    elim (and_cases (has_fields x.fields) (c.goes x.root && not (is_doubled c.doubles after x)) (none_passes (is_lost c after) set x none there)) [
      | inl without ↦ absurd (false≢true (sym without ∙ has_some x.fields has))
      | inr not_both ↦ elim (and_cases (c.goes x.root) (not (is_doubled c.doubles after x)) not_both) [
        | inl stays ↦ inl stays
        | inr doubled ↦ inr (doubled_by c.doubles after x (not-false (is_doubled c.doubles after x) doubled))
      ]
    ]

-- ---- tuples

-- The change moves the values of roots as one relation says, and doubles them as another does.
pub record Moves (Goes Doubled : Root → Root → Type 0) (copies : List Copy) (c : Change) : Type 0 where
  pub adds : (set : List Path) → c.adds set ≡ copied copies set
  pub stays : (r : Root) → c.goes r ≡ false → Goes r r
  pub copy : (k : Copy) → Contains copies k → Goes k.from k.to
  pub each : (r q : Root) → Goes r q → ((r ≡ q) × (c.goes r ≡ false)) ⊎ Contains copies (record { from = r; to = q })
  pub own : (r q : Root) → Goes r q → Doubled r q
  pub doubles : (r q : Root) → Contains (c.doubles r) q → Doubled r q

pub source_of : {Goes Doubled : Root → Root → Type 0} {copies : List Copy} {c : Change} → Moves Goes Doubled copies c → (set : List Path) (y : Path)
    → Contains (changed_set c set) y → Source Goes set y
source_of {Goes} {Doubled} {copies} {c} moves set y there = elim (of_changed c set y there) [
  | inl old ↦ record { path = y; listed = old.0; goes = moves.stays y.root old.1; fields = refl }
  | inr new ↦
      let found = of_copied copies set y (subst (λ (ps : List Path). Contains ps y) (moves.adds set) new) in
      let goes = moves.copy found.copy found.made in
      record {
        path = found.path;
        listed = found.listed;
        goes = subst (λ (r : Root). Goes r y.root) found.from (subst (λ (p : Path). Goes found.copy.from p.root) found.is goes);
        fields = ap (λ (p : Path). p.fields) (sym found.is);
      }
]

pub root_moved : {Goes Doubled : Root → Root → Type 0} {copies : List Copy} {c : Change} → Moves Goes Doubled copies c → (set : List Path) (r q : Root)
    → Goes r q → Contains set (bare r) → Contains (changed_set c set) (bare q)
root_moved {copies = copies} {c = c} moves set r q goes there = elim (moves.each r q goes) [
  | inl stays ↦ subst (λ (s : Root). Contains (changed_set c set) (bare s)) stays.0 (staying c set (bare r) there stays.1)
  | inr made ↦
      added c set (bare q)
      (subst (λ (ps : List Path). Contains ps (bare q)) (sym (moves.adds set)) (in_copied copies set (root_copy r q) (bare r) made there refl))
]

pub target_of_path : {Goes Doubled : Root → Root → Type 0} {copies : List Copy} {c : Change} → Moves Goes Doubled copies c → (set : List Path) (x : Path)
    → list_any (is_lost c (changed_set c set)) set ≡ false → Contains set x → HasFields x.fields → Target Doubled x (changed_set c set)
target_of_path {c = c} moves set x none there has = elim (not_lost c (changed_set c set) set x none there has) [
  | inl stays ↦ record { path = x; listed = staying c set x there stays; goes = moves.own x.root x.root (moves.stays x.root stays); fields = refl }
  | inr doubled ↦
      record { path = with_root doubled.root x; listed = doubled.has; goes = moves.doubles x.root doubled.root doubled.listed; fields = refl }
]

pub changed_reroots : {Goes Doubled : Root → Root → Type 0} {copies : List Copy} {c : Change} → Moves Goes Doubled copies c
    → (Known : Path → Type 0) (t : Tuple)
    → Reroots Goes Doubled Known t (changed c t)
changed_reroots {c = c} moves Known t =
    let lost : Bool = list_any (is_lost c (changed_set c t.must)) t.must in
    record {
      unique = λ e. e;
      state = refl;
      must = source_of moves t.must;
      must_not = λ y there. inl (source_of moves t.must_not y there);
      may = λ e. (or_parts t.may lost e).0;
      roots = λ e r q goes there. root_moved moves t.must r q goes there;
      fields = λ e x there has. target_of_path moves t.must x (or_parts t.may lost e).1 there has;
    }
