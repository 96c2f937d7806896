-- A path that is lost is doubled by a path of the caller that joins, or by none.
use Rattle.std.proofs.Common.{◌≡◌, inl, inr, ℕ, Bool, true, false, not, ◌&&◌, List, ◌++◌, refl, sym, ◌∙◌, ap, subst}
use Rattle.std.specs.List.{Contains, filter, list_any}
use Rattle.std.proofs.lemmas.Bool.{and_from, and_parts, false≢true}
use Rattle.std.proofs.lemmas.List.Elements.{Contains-append_cases, Contains-append_right}
use Rattle.list_laws.proofs.Members.{contained_in_map, contains_map}
use Rattle.jvm_model.specs.declared.number.MethodNo.{MethodNo}
use Rattle.op_model.specs.declared.lowered.LoweredMethod.{LoweredMethod}
use Rattle.op_model.specs.declared.node.Node.{Node}
use Rattle.access_paths.specs.declared.root.Root.{Root}
use Rattle.access_paths.specs.declared.root.Root.TheVariants.{Slot, Static, Returned, Thrown}
use Rattle.access_paths.specs.Paths.{Path, has_path, same_path}
use Rattle.stage_transfer.specs.Settings.{Setting, alike, among}
use Rattle.stage_transfer.specs.Changes.{has_fields, unwritten, with_root}
use Rattle.stage_transfer.specs.Calls.{Entering, is_handed_on, is_slot, joins, left_set, written_on}
use Rattle.stage_transfer_laws.proofs.Members.{among_those, any_passes, in_filter, is_among, of_filter, one_passes}
use Rattle.access_paths.proofs.KeyOrders.{same_is_one}
use Rattle.stage_transfer_laws.proofs.Paths.{has_it, in_set, is_path, it_has, of_set}
use Rattle.stage_views.proofs.Gathered.{one_test}
use Rattle.stage_calls.specs.Testing.{doubles, holds_afterwards, is_doubled_slot, is_left_out_of}

abbrev roots_of : Setting → LoweredMethod → Node → Entering → (slot : ℕ) → List Root
roots_of w l n by slot = unwritten w l n (among (written_on by)) (Slot slot)

abbrev unmoved : Entering → ℕ → Bool
unmoved by y = not (among (written_on by) y)

root_there : (w : Setting) (l : LoweredMethod) (n : Node) (by : Entering) (slot : ℕ) (r : Root) → holds_afterwards w l n by slot r ≡ true → Contains (roots_of w l n by slot) r
root_there w l n by slot (Slot z) holds =
    let parts = and_parts (among (alike w l n slot) z) (unmoved by z) holds in
    contains_map Slot (filter (unmoved by) (alike w l n slot)) z
    (in_filter (unmoved by) (alike w l n slot) z (is_among (alike w l n slot) z parts.0) parts.1)
root_there w l n by slot (Static f) holds = absurd (false≢true holds)
root_there w l n by slot Returned holds = absurd (false≢true holds)
root_there w l n by slot Thrown holds = absurd (false≢true holds)

abbrev handed : Entering → Path → Bool
handed by x = is_handed_on by x.root

abbrev set_of : Setting → Entering → (target : MethodNo) → (caller exit : List Path) → List Path
set_of w by target caller exit = filter (handed by) exit ++ filter (joins w by target) caller

to_doubled : (w : Setting) (l : LoweredMethod) (n : Node) (by : Entering) (target : MethodNo) (caller exit : List Path) (x : Path) (slot : ℕ)
    → list_any (doubles w l n by target x slot) caller ≡ true → is_doubled_slot w l n by target caller exit x slot ≡ true
to_doubled w l n by target caller exit x slot any =
    let found = one_passes (doubles w l n by target x slot) caller any in
    let q = found.0 in
    let parts = and_parts (holds_afterwards w l n by slot q.root) _ found.2 in
    let more = and_parts _ (joins w by target q) parts.1 in
    let same : with_root q.root x ≡ q = same_is_one (with_root q.root x) q more.0 in
    let joined : Contains (set_of w by target caller exit) q =
    Contains-append_right (filter (handed by) exit) (filter (joins w by target) caller) q (in_filter (joins w by target) caller q found.1 more.1) in
    let has : has_path (left_set w by target caller exit) (with_root q.root x) ≡ true =
    subst (λ (y : Path). has_path (left_set w by target caller exit) y ≡ true) (sym same)
    (it_has (left_set w by target caller exit) q (in_set (set_of w by target caller exit) q joined)) in
    any_passes (λ (r : Root). has_path (left_set w by target caller exit) (with_root r x)) (roots_of w l n by slot) q.root
    (root_there w l n by slot q.root parts.0) has

-- the path of a slot that the set has
joined_path : (w : Setting) (by : Entering) (target : MethodNo) (caller exit : List Path) (z : ℕ) (x : Path)
    → has_path (left_set w by target caller exit) (with_root (Slot z) x) ≡ true
    → Contains caller (with_root (Slot z) x) × (joins w by target (with_root (Slot z) x) ≡ true)
joined_path w by target caller exit z x has =
    let p = with_root (Slot z) x in
    elim (Contains-append_cases (filter (handed by) exit) (filter (joins w by target) caller) p
    (of_set (set_of w by target caller exit) p (has_it (left_set w by target caller exit) p has))) [
      | inl out ↦ absurd (false≢true (of_filter (handed by) exit p out).1)
      | inr old ↦ of_filter (joins w by target) caller p old
    ]

from_doubled : (w : Setting) (l : LoweredMethod) (n : Node) (by : Entering) (target : MethodNo) (caller exit : List Path) (x : Path) (slot : ℕ)
    → is_doubled_slot w l n by target caller exit x slot ≡ true → list_any (doubles w l n by target x slot) caller ≡ true
from_doubled w l n by target caller exit x slot doubled =
    let found = one_passes (λ (r : Root). has_path (left_set w by target caller exit) (with_root r x)) (roots_of w l n by slot) doubled in
    let rooted = contained_in_map Slot (filter (unmoved by) (alike w l n slot)) found.0 found.1 in
    let z = rooted.0 in
    let kept = of_filter (unmoved by) (alike w l n slot) z rooted.1 in
    let has : has_path (left_set w by target caller exit) (with_root (Slot z) x) ≡ true =
    subst (λ (r : Root). has_path (left_set w by target caller exit) (with_root r x) ≡ true) (sym rooted.2) found.2 in
    let path = joined_path w by target caller exit z x has in
    any_passes (doubles w l n by target x slot) caller (with_root (Slot z) x) path.0
    (and_from _ _ (and_from _ _ (among_those (alike w l n slot) z kept.0) kept.1)
    (and_from _ _ (is_path (with_root (Slot z) x) (with_root (Slot z) x) refl) path.1))

doubled_by : (w : Setting) (l : LoweredMethod) (n : Node) (by : Entering) (target : MethodNo) (caller exit : List Path) (x : Path) (slot : ℕ)
    → list_any (doubles w l n by target x slot) caller ≡ is_doubled_slot w l n by target caller exit x slot
doubled_by w l n by target caller exit x slot =
    one_test (list_any (doubles w l n by target x slot) caller) (is_doubled_slot w l n by target caller exit x slot)
    (to_doubled w l n by target caller exit x slot) (from_doubled w l n by target caller exit x slot)

-- ---- whether it is left out

pub not_left_out_joined : (w : Setting) (l : LoweredMethod) (n : Node) (by : Entering) (target : MethodNo) (caller exit : List Path) (x : Path)
    → joins w by target x ≡ true → false ≡ is_left_out_of w l n by target caller exit x
not_left_out_joined w l n by target caller exit x joined =
    by_tests (has_fields x.fields) (is_slot x.root) (joins w by target x) _ joined
  where
    by_tests : (a b c d : Bool) → c ≡ true → false ≡ (a && (b && (not c && d)))
    by_tests a b false d joined = absurd (false≢true joined)
    by_tests true true true d joined = refl
    by_tests true false true d joined = refl
    by_tests false b true d joined = refl

left_out_unless_doubled : (w : Setting) (l : LoweredMethod) (n : Node) (by : Entering) (target : MethodNo) (caller exit : List Path) (x : Path) (slot : ℕ)
    → x.root ≡ Slot slot → has_fields x.fields ≡ true → joins w by target x ≡ false
    → not (list_any (doubles w l n by target x slot) caller) ≡ is_left_out_of w l n by target caller exit x
left_out_unless_doubled w l n by target caller exit x slot root fields apart =
    let one : with_root (Slot slot) x ≡ x = λ i. record { root = sym root i; fields = x.fields } in
    let out = is_left_out_of w l n by target caller exit in
    (λ i. sym fields i && (is_slot (Slot slot) && (not (sym apart i) && not (doubled_by w l n by target caller exit x slot i))))
    ∙ ap (λ (b : Bool). has_fields x.fields && (true && (not b && not (is_doubled_slot w l n by target caller exit x slot)))) (ap (joins w by target) (sym one))
    ∙ ap out one

pub unless_doubled : (w : Setting) (l : LoweredMethod) (n : Node) (by : Entering) (target : MethodNo) (caller exit : List Path) (x : Path) (slot : ℕ) (b : Bool) (paths : List Path)
    → x.root ≡ Slot slot → true ≡ has_fields x.fields → false ≡ joins w by target x → b ≡ list_any (doubles w l n by target x slot) paths → paths ≡ caller
    → not b ≡ is_left_out_of w l n by target caller exit x
unless_doubled w l n by target caller exit x slot b paths root fields apart doubled same =
    ap not (doubled ∙ ap (list_any (doubles w l n by target x slot)) same)
    ∙ left_out_unless_doubled w l n by target caller exit x slot root (sym fields) (sym apart)

-- ---- one path of the caller

pub doubles_from : (w : Setting) (l : LoweredMethod) (n : Node) (by : Entering) (target : MethodNo) (x : Path) (slot : ℕ) (other : Path) (r : Root) (y : Path) (b : Bool)
    → r ≡ other.root → true ≡ holds_afterwards w l n by slot r → y ≡ with_root r x → true ≡ same_path y other → b ≡ joins w by target other
    → b ≡ doubles w l n by target x slot other
doubles_from w l n by target x slot other r y b root holds path same joined =
    let first : true ≡ holds_afterwards w l n by slot other.root = holds ∙ ap (holds_afterwards w l n by slot) root in
    let second : true ≡ same_path (with_root other.root x) other =
    same ∙ ap (λ (z : Path). same_path z other) (path ∙ ap (λ (q : Root). with_root q x) root) in
    joined ∙ (λ i. first i && (second i && joins w by target other))
