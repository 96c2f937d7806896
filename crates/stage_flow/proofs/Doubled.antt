-- The code's tests whether a path is doubled are those of the definitions.
use Rattle.std.proofs.Common.{◌≡◌, inl, inr, ℕ, nat_eq, Bool, true, false, cond, not, ◌&&◌, ◌||◌, List, [], ◌∷◌, map, Option, Some, None, refl, sym, ◌∙◌, ap, subst}
use Rattle.std.specs.List.{Contains, filter, flat_map, list_any}
use Rattle.std.proofs.Math.Bool.{or-false}
use Rattle.std.proofs.lemmas.Bool.{and_from, and_parts, both_ways, eq-eqb, eqb-true, false≢true, not-true, or_left}
use Rattle.std.proofs.lemmas.List.Folds.{list_any-append}
use Rattle.list_laws.proofs.Members.{contained_in_map, contains_first, contains_map, contains_none, contains_only}
use Rattle.jvm_model.specs.declared.number.FieldNo.{FieldNo}
use Rattle.op_model.specs.declared.lowered.LoweredMethod.{LoweredMethod}
use Rattle.op_model.specs.declared.node.Node.{Node}
use Rattle.op_model.specs.declared.op.Move.{Move}
use Rattle.op_model.specs.declared.op.Source.{Source}
use Rattle.op_model.specs.declared.op.Source.TheVariants as sources
use Rattle.access_paths.specs.declared.root.Root.{Root}
use Rattle.access_paths.specs.declared.root.Root.TheVariants.{Slot, Static, Returned, Thrown}
use Rattle.access_paths.specs.Paths.{Path, has_path, same_path, same_root}
use Rattle.stage_transfer.specs.Settings.{Setting, alike, among, same_field}
use Rattle.stage_transfer.specs.Changes.{Copy as CopyOf, begins_at, changed_set, copied, is_doubled, unwritten, with_root}
use Rattle.stage_transfer.specs.Operations.{copies_of, loaded_fields, moved_by}
use Rattle.stage_transfer_laws.proofs.Changed.{added, in_copied, of_changed, of_copied, staying}
use Rattle.stage_transfer_laws.proofs.Members.{among_those, any_passes, in_filter, is_among, of_filter, of_flat_map, one_passes}
use Rattle.access_paths.proofs.KeyOrders.{same_is_one}
use Rattle.stage_transfer_laws.proofs.Paths.{has_it, is_path, is_root, it_has, root_is}
use Rattle.stage_views.proofs.Gathered.{one_test}
use Rattle.stage_flow.specs.declared.change.PathChange.{PathChange}
use Rattle.stage_flow.specs.declared.gain.Gain.{Gain}
use Rattle.stage_flow.specs.declared.gain.Gain.TheVariants.{Nothing, Copy, Hand, Moves, Load}
use Rattle.stage_flow.specs.declared.written.Written.{Written}
use Rattle.stage_flow.specs.Shapes.{adds_of, brings, change_of, goes_of, handed_to, is_double, is_handed, is_like, may_double, more_doubles, moves_on, reaches, root_copy, targets_of, written_of, IsProper}
use Rattle.stage_flow.proofs.OneVariable.{like_is}
use Rattle.stage_flow.proofs.Lists.{any_alike, any_flat_map}

-- ---- lists

any_among : {X : Type 0} (p q : X → Bool) (xs : List X) → ((x : X) → Contains xs x → p x ≡ q x) → list_any p xs ≡ list_any q xs
any_among p q xs each =
    one_test (list_any p xs) (list_any q xs)
    (λ is. let found = one_passes p xs is in any_passes q xs found.0 found.1 (sym (each found.0 found.1) ∙ found.2))
    (λ is. let found = one_passes q xs is in any_passes p xs found.0 found.1 (each found.0 found.1 ∙ found.2))

any_one : {X : Type 0} (b : Bool) (f : X → Bool) (x : X) → list_any f (cond b (x ∷ []) []) ≡ (b && f x)
any_one true f x = or-false (f x)
any_one false f x = refl

-- ---- copies

-- A set of copies has a path where one of the copies leads from another one to it.
pub copied_has : (copies : List CopyOf) (set : List Path) (r : Root) (x : Path)
    → has_path (copied copies set) (with_root r x) ≡ list_any (λ (c : CopyOf). same_root c.to r && has_path set (with_root c.from x)) copies
copied_has copies set r x =
    one_test (has_path (copied copies set) (with_root r x)) (list_any test copies)
    (λ is.
    let found = of_copied copies set (with_root r x) (has_it (copied copies set) (with_root r x) is) in
    any_passes test copies found.copy found.made
    (and_from (same_root found.copy.to r) (has_path set (with_root found.copy.from x))
    (is_root found.copy.to r (ap (λ (p : Path). p.root) found.is))
    (it_has set (with_root found.copy.from x)
    (subst (λ (p : Path). Contains set p) (from_path found.copy.from found.copy.to found.path found.from found.is) found.listed))))
    (λ is.
    let found = one_passes test copies is in
    let parts = and_parts (same_root found.0.to r) (has_path set (with_root found.0.from x)) found.2 in
    it_has (copied copies set) (with_root r x)
    (subst (λ (q : Root). Contains (copied copies set) (with_root q x)) (root_is found.0.to r parts.0)
    (in_copied copies set found.0 (with_root found.0.from x) found.1 (has_it set (with_root found.0.from x) parts.1) refl)))
  where
    test : CopyOf → Bool
    test c = same_root c.to r && has_path set (with_root c.from x)

    from_path : (from to : Root) (p : Path) → from ≡ p.root → with_root to p ≡ with_root r x → p ≡ with_root from x
    from_path from to p same is = λ i. record { root = sym same i; fields = (is i).fields }

-- ---- a change

-- What the set is after the change, and the test whether it has the path by a root.
abbrev after_of : Setting → LoweredMethod → Node → PathChange → List Path → List Path
after_of w l n code set = changed_set (change_of w l n code) set

abbrev has_by : Setting → LoweredMethod → Node → PathChange → List Path → Path → Root → Bool
has_by w l n code set x r = has_path (after_of w l n code set) (with_root r x)

slot_goes : (written : Written) (leaving : Option Root) (z : ℕ) → written_of written z ≡ true → goes_of written leaving (Slot z) ≡ true
slot_goes written None z is = is
slot_goes written (Some q) z is = or_left (written_of written z) (same_root q (Slot z)) is

-- copies lead to their targets
of_copies : (copies : List CopyOf) (targets : List Root) (set : List Path) (y : Path) → ((k : CopyOf) → Contains copies k → Contains targets k.to)
    → Contains (copied copies set) y → Contains targets y.root
of_copies copies targets set y each there =
    let found = of_copied copies set y there in
    subst (λ (p : Path). Contains targets p.root) found.is (each found.copy found.made)

only_target : (from to : Root) (k : CopyOf) → Contains (root_copy from to ∷ []) k → Contains (to ∷ []) k.to
only_target from to k made = subst (λ (d : CopyOf). Contains (to ∷ []) d.to) (contains_only (root_copy from to) k made) (contains_first to [])

move_target : (moves : List Move) (m : Move) → Contains moves m → (s : Source) (k : CopyOf) → Contains (copies_of s m.target) k
    → Contains (map (λ (j : Move). Slot j.target) moves) k.to
move_target moves m listed (sources.Slot y) k made =
    subst (λ (d : CopyOf). Contains (map (λ (j : Move). Slot j.target) moves) d.to) (contains_only (root_copy (Slot y) (Slot m.target)) k made)
    (contains_map (λ (j : Move). Slot j.target) moves m listed)
move_target moves m listed sources.Null k made = absurd (contains_none k made)
move_target moves m listed sources.Primitive k made = absurd (contains_none k made)

of_loaded : (field : FieldNo) (target : ℕ) (fields : List FieldNo) (y : Path) → Contains (loaded_fields field target fields) y → Contains (Slot target ∷ []) y.root
of_loaded field target [] y there = absurd (contains_none y there)
of_loaded field target (f ∷ rest) y there = by (same_field field f) there
  where
    by : (b : Bool) → Contains (cond b (record { root = Slot target; fields = rest } ∷ []) []) y → Contains (Slot target ∷ []) y.root
    by true there = subst (λ (p : Path). Contains (Slot target ∷ []) p.root) (contains_only (record { root = Slot target; fields = rest }) y there) (contains_first (Slot target) [])
    by false there = absurd (contains_none y there)

-- each path that is added is one of a target
target_of_added : (gain : Gain) (set : List Path) (y : Path) → Contains (adds_of gain set) y → Contains (targets_of gain) y.root
target_of_added Nothing set y there = absurd (contains_none y there)
target_of_added (Copy from to) set y there = of_copies (root_copy from to ∷ []) (to ∷ []) set y (only_target from to) there
target_of_added (Hand from target) set y there = of_copies (root_copy from (Slot target) ∷ []) (Slot target ∷ []) set y (only_target from (Slot target)) there
target_of_added (Moves moves) set y there =
    of_copies (flat_map (λ (m : Move). copies_of m.source m.target) moves.now) (map (λ (m : Move). Slot m.target) moves.now) set y
    (λ k made.
    let found = of_flat_map (λ (m : Move). copies_of m.source m.target) moves.now k made in
    move_target moves.now found.0 found.1 found.0.source k found.2)
    there
target_of_added (Load object field target) set y there =
    let found = of_flat_map (λ (p : Path). loaded_fields field target p.fields) (filter (begins_at (Slot object)) set) y there in
    of_loaded field target found.0.fields y found.2

added_written : (code : PathChange) → IsProper code → (set : List Path) (y : Path) (z : ℕ) → Contains (adds_of code.gain set) y → y.root ≡ Slot z
    → written_of code.written z ≡ true
added_written code proper set y z there is =
    proper.writes z (subst (λ (q : Root). Contains (targets_of code.gain) q) is (target_of_added code.gain set y there))

-- ---- slots that are not written

-- the test of the definition is true only where that of the code is
stands_by : (w : Setting) (l : LoweredMethod) (n : Node) (code : PathChange) → IsProper code → (set : List Path) (x : Path) (q : Root)
    → list_any (has_by w l n code set x) (unwritten w l n (written_of code.written) q) ≡ true
    → list_any (λ (p : Path). may_double w l n (written_of code.written) q p.root && same_path p (with_root p.root x)) set ≡ true
stands_by w l n code proper set x (Slot z) any =
    let written = written_of code.written in
    let free = filter (λ (y : ℕ). not (written y)) (alike w l n z) in
    let found = one_passes (has_by w l n code set x) (map Slot free) any in
    let slot = contained_in_map Slot free found.0 found.1 in
    let kept = of_filter (λ (y : ℕ). not (written y)) (alike w l n z) slot.0 slot.1 in
    let path : Path = with_root (Slot slot.0) x in
    let there : Contains (after_of w l n code set) path =
    subst (λ (r : Root). Contains (after_of w l n code set) (with_root r x)) (sym slot.2) (has_it (after_of w l n code set) (with_root found.0 x) found.2) in
    let test : Path → Bool = λ p. may_double w l n written (Slot z) p.root && same_path p (with_root p.root x) in
    elim (of_changed (change_of w l n code) set path there) [
      | inl old ↦
          any_passes test set path old.0
          (and_from (not (written slot.0) && is_like w l n z slot.0) (same_path path path)
          (and_from (not (written slot.0)) (is_like w l n z slot.0) kept.1 (sym (like_is w l n z slot.0) ∙ among_those (alike w l n z) slot.0 kept.0))
          (is_path path path refl))
      | inr new ↦ absurd (both_ways (written slot.0) (not-true (written slot.0) kept.1) (added_written code proper set path slot.0 new refl))
    ]
stands_by w l n code proper set x (Static f) any = absurd (false≢true any)
stands_by w l n code proper set x Returned any = absurd (false≢true any)
stands_by w l n code proper set x Thrown any = absurd (false≢true any)

-- the one path that passes the code's test
double_stands : (w : Setting) (l : LoweredMethod) (n : Node) (code : PathChange) → IsProper code → (set : List Path) (x : Path) (q : Root) (p : Path) (s : Root)
    → p.root ≡ s → Contains set p → may_double w l n (written_of code.written) q s ≡ true → same_path p (with_root s x) ≡ true
    → list_any (has_by w l n code set x) (unwritten w l n (written_of code.written) q) ≡ true
double_stands w l n code proper set x (Slot z) p (Slot y) is there may same =
    let written = written_of code.written in
    let parts = and_parts (not (written y)) (is_like w l n z y) may in
    let like = is_among (alike w l n z) y (like_is w l n z y ∙ parts.1) in
    let stays : goes_of code.written code.leaving p.root ≡ false =
    subst (λ (r : Root). goes_of code.written code.leaving r ≡ false) (sym is) (proper.stays y (not-true (written y) parts.0)) in
    any_passes (has_by w l n code set x) (map Slot (filter (λ (k : ℕ). not (written k)) (alike w l n z))) (Slot y)
    (contains_map Slot (filter (λ (k : ℕ). not (written k)) (alike w l n z)) y (in_filter (λ (k : ℕ). not (written k)) (alike w l n z) y like parts.0))
    (it_has (after_of w l n code set) (with_root (Slot y) x)
    (subst (λ (r : Path). Contains (after_of w l n code set) r) (same_is_one p (with_root (Slot y) x) same) (staying (change_of w l n code) set p there stays)))
double_stands w l n code proper set x (Slot z) p (Static f) is there may same = absurd (false≢true may)
double_stands w l n code proper set x (Slot z) p Returned is there may same = absurd (false≢true may)
double_stands w l n code proper set x (Slot z) p Thrown is there may same = absurd (false≢true may)
double_stands w l n code proper set x (Static f) p s is there may same = absurd (false≢true may)
double_stands w l n code proper set x Returned p s is there may same = absurd (false≢true may)
double_stands w l n code proper set x Thrown p s is there may same = absurd (false≢true may)

stands_test : (w : Setting) (l : LoweredMethod) (n : Node) (code : PathChange) → IsProper code → (set : List Path) (x : Path)
    → list_any (has_by w l n code set x) (unwritten w l n (written_of code.written) x.root) ≡ list_any (is_double w l n (written_of code.written) x) set
stands_test w l n code proper set x =
    let test : Path → Bool = is_double w l n (written_of code.written) x in
    one_test (list_any (has_by w l n code set x) (unwritten w l n (written_of code.written) x.root)) (list_any test set)
    (stands_by w l n code proper set x x.root)
    (λ any.
    let found = one_passes test set any in
    let parts = and_parts (may_double w l n (written_of code.written) x.root found.0.root) (same_path found.0 (with_root found.0.root x)) found.2 in
    double_stands w l n code proper set x x.root found.0 found.0.root refl found.1 parts.0 parts.1)

-- ---- slots that get values

-- a slot that paths are added for has afterwards those that are added
has_added : (w : Setting) (l : LoweredMethod) (n : Node) (code : PathChange) → IsProper code → (set : List Path) (x : Path) (target : ℕ)
    → Contains (targets_of code.gain) (Slot target)
    → has_by w l n code set x (Slot target) ≡ has_path (adds_of code.gain set) (with_root (Slot target) x)
has_added w l n code proper set x target listed =
    let path : Path = with_root (Slot target) x in
    let goes = slot_goes code.written code.leaving target (proper.writes target listed) in
    one_test (has_path (after_of w l n code set) path) (has_path (adds_of code.gain set) path)
    (λ is. elim (of_changed (change_of w l n code) set path (has_it (after_of w l n code set) path is)) [
      | inl old ↦ absurd (both_ways (goes_of code.written code.leaving (Slot target)) old.1 goes)
      | inr new ↦ it_has (adds_of code.gain set) path new
    ])
    (λ is. it_has (after_of w l n code set) path (added (change_of w l n code) set path (has_it (adds_of code.gain set) path is)))

handed_any : (w : Setting) (l : LoweredMethod) (n : Node) (from to q : Root) (f : Root → Bool)
    → list_any f (handed_to w l n from to q) ≡ (reaches w l n from q && f to)
handed_any w l n (Slot y) to (Slot z) f = any_one (among (alike w l n z) y) f to ∙ ap (λ (b : Bool). b && f to) (like_is w l n z y)
handed_any w l n (Slot y) to (Static g) f = refl
handed_any w l n (Slot y) to Returned f = refl
handed_any w l n (Slot y) to Thrown f = refl
handed_any w l n (Static g) to q f = any_one (same_root (Static g) q) f to
handed_any w l n Returned to q f = any_one (same_root Returned q) f to
handed_any w l n Thrown to q f = any_one (same_root Thrown q) f to

brought_by : (set : List Path) (x : Path) (to : ℕ) (s : Source) (target : ℕ)
    → list_any (λ (k : CopyOf). same_root k.to (Slot to) && has_path set (with_root k.from x)) (copies_of s target) ≡ brings set x to s target
brought_by set x to (sources.Slot y) target =
    or-false (same_root (Slot target) (Slot to) && has_path set (with_root (Slot y) x))
    ∙ ap (λ (b : Bool). b && has_path set (with_root (Slot y) x)) (slots_same target to)
  where
    slots_same : (a b : ℕ) → same_root (Slot a) (Slot b) ≡ nat_eq b a
    slots_same a b =
        one_test (same_root (Slot a) (Slot b)) (nat_eq b a)
        (λ is. eq-eqb b a (sym (slot_is a b (root_is (Slot a) (Slot b) is))))
        (λ is. is_root (Slot a) (Slot b) (ap Slot (sym (eqb-true b a is))))
      where
        slot_is : (a b : ℕ) → Slot a ≡ Slot b → a ≡ b
        slot_is a b e = cc
brought_by set x to sources.Null target = refl
brought_by set x to sources.Primitive target = refl

moved_has : (set : List Path) (moves : List Move) (x : Path) (to : ℕ)
    → has_path (copied (flat_map (λ (m : Move). copies_of m.source m.target) moves) set) (with_root (Slot to) x)
    ≡ list_any (λ (m : Move). brings set x to m.source m.target) moves
moved_has set moves x to =
    let test : CopyOf → Bool = λ k. same_root k.to (Slot to) && has_path set (with_root k.from x) in
    copied_has (flat_map (λ (m : Move). copies_of m.source m.target) moves) set (Slot to) x
    ∙ any_flat_map test (λ (m : Move). copies_of m.source m.target) moves
    ∙ any_alike (λ (m : Move). list_any test (copies_of m.source m.target)) (λ (m : Move). brings set x to m.source m.target) moves
    (λ m. brought_by set x to m.source m.target)

hand_has : (set : List Path) (from : Root) (target : ℕ) (x : Path)
    → has_path (copied (root_copy from (Slot target) ∷ []) set) (with_root (Slot target) x) ≡ has_path set (with_root from x)
hand_has set from target x =
    copied_has (root_copy from (Slot target) ∷ []) set (Slot target) x
    ∙ or-false (same_root (Slot target) (Slot target) && has_path set (with_root from x))
    ∙ ap (λ (b : Bool). b && has_path set (with_root from x)) (is_root (Slot target) (Slot target) refl)

move_by : (w : Setting) (l : LoweredMethod) (n : Node) (moves : List Move) (set : List Path) (x : Path) (f : Root → Bool) (s : Source) (target : ℕ)
    → f (Slot target) ≡ list_any (λ (m : Move). brings set x target m.source m.target) moves
    → list_any f (moved_by w l n x.root s target) ≡ moves_on w l n moves set x s target
move_by w l n moves set x f (sources.Slot y) target is =
    handed_any w l n (Slot y) (Slot target) x.root f ∙ ap (λ (b : Bool). reaches w l n (Slot y) x.root && b) is
move_by w l n moves set x f sources.Null target is = refl
move_by w l n moves set x f sources.Primitive target is = refl

handed_by : (w : Setting) (l : LoweredMethod) (n : Node) (gain : Gain) (set : List Path) (x : Path) (f : Root → Bool)
    → ((target : ℕ) → Contains (targets_of gain) (Slot target) → f (Slot target) ≡ has_path (adds_of gain set) (with_root (Slot target) x))
    → list_any f (more_doubles w l n gain x.root) ≡ is_handed w l n gain set x
handed_by w l n Nothing set x f has = refl
handed_by w l n (Copy from to) set x f has = refl
handed_by w l n (Hand from target) set x f has =
    handed_any w l n from (Slot target) x.root f
    ∙ ap (λ (b : Bool). reaches w l n from x.root && b) (has target (contains_first (Slot target) []) ∙ hand_has set from target x)
handed_by w l n (Moves moves) set x f has =
    any_flat_map f (λ (m : Move). moved_by w l n x.root m.source m.target) moves.now
    ∙ any_among (λ (m : Move). list_any f (moved_by w l n x.root m.source m.target)) (λ (m : Move). moves_on w l n moves.now set x m.source m.target) moves.now
    (λ m listed.
    move_by w l n moves.now set x f m.source m.target
    (has m.target (contains_map (λ (j : Move). Slot j.target) moves.now m listed) ∙ moved_has set moves.now x m.target))
handed_by w l n (Load object field target) set x f has = refl

-- ---- both

pub doubled_test : (w : Setting) (l : LoweredMethod) (n : Node) (code : PathChange) → IsProper code → (set : List Path) (x : Path)
    → is_doubled (change_of w l n code).doubles (changed_set (change_of w l n code) set) x
    ≡ (list_any (is_double w l n (written_of code.written) x) set || is_handed w l n code.gain set x)
doubled_test w l n code proper set x =
    list_any-append (has_by w l n code set x) (unwritten w l n (written_of code.written) x.root) (more_doubles w l n code.gain x.root)
    ∙ (λ i. stands_test w l n code proper set x i
    || handed_by w l n code.gain set x (has_by w l n code set x) (has_added w l n code proper set x) i)
