-- The first of some uses or places of which one does not hold: along lists, and along items that stand one after the
-- other in a file.
use Rattle.std.proofs.Common.{◌≡◌, inl, inr, ℕ, Bool, ◌||◌, ◌+◌, ◌<◌, ◌≤◌, List, [], ◌∷◌, ◌++◌, length, take, drop, get_or, IfOk, Option, Some, None, Result, Ok, Err, option_map, slice_get, refl, sym, ap, ◌∙◌, subst, append_assoc, arith, length-append}
use Rattle.std.specs.List.{flat_map, list_any, AllByRecursion}
use Rattle.std.proofs.lemmas.List.{take_all, take_more, take-append-drop, append-nil}
use Rattle.std.proofs.lemmas.List.Elements.{All-from_recursion, recursion_from_All}
use Rattle.std.proofs.lemmas.List.Folds.{list_any_more}
use Rattle.jvm_model.specs.declared.class_file.Member.{Member}
use Rattle.jvm_model.specs.declared.pool.PoolEntry.{PoolEntry}
use Rattle.std.proofs.lemmas.Option.{slice_get-get_or}
use Rattle.jvm_model.specs.declared.reason.Reason.{Reason}
use Rattle.jvm_model.specs.declared.class_file.ClassFile.{ClassFile}
use Rattle.jvm_model.specs.Soundness.{Use, PlacedUse, UseHolds, at_offset, each_place, places_of, IsSoundClass}
use Rattle.jvm_model.proofs.Lengths.{one_more}
use Rattle.classfile_reader.specs.FirstPlace.{FirstUse, IsFirstUse, FirstBreach, IsFirstBreach}
use Rattle.classfile_reader.specs.Repeats.{IsRepeat, AreRepeats}

-- ---- uses at an offset

placed : (pool : List PoolEntry) (offset : ℕ) (uses : List Use) (reason : Option Reason) → FirstUse pool uses reason → FirstBreach pool (at_offset offset uses) (option_map (λ r. (offset, r)) reason)
placed pool offset [] reason e = ap (option_map (λ r. (offset, r))) e
placed pool offset (u ∷ uses) reason (inl (holds, first)) = inl (holds, placed pool offset uses reason first)
placed pool offset (u ∷ uses) reason (inr (breaks, e)) = inr (breaks, ap (option_map (λ r. (offset, r))) e)

pub placed_uses : (pool : List PoolEntry) (offset : ℕ) (uses : List Use) (reason : Option Reason) → IsFirstUse pool uses reason → IsFirstBreach pool (at_offset offset uses) (option_map (λ r. (offset, r)) reason)
placed_uses pool offset uses reason first = record { is = placed pool offset uses reason first.is }

-- ---- one list of places after another

after_all : (pool : List PoolEntry) (xs ys : List PlacedUse) (answer : Option (ℕ × Reason)) → FirstBreach pool xs None → FirstBreach pool ys answer → FirstBreach pool (xs ++ ys) answer
after_all pool [] ys answer none first = first
after_all pool (p ∷ xs) ys answer (inl (holds, none)) first = inl (holds, after_all pool xs ys answer none first)
after_all pool (p ∷ xs) ys answer (inr (breaks, e)) first = absurd cc

in_front : (pool : List PoolEntry) (xs ys : List PlacedUse) (fault : ℕ × Reason) → FirstBreach pool xs (Some fault) → FirstBreach pool (xs ++ ys) (Some fault)
in_front pool [] ys fault e = absurd cc
in_front pool (p ∷ xs) ys fault (inl (holds, first)) = inl (holds, in_front pool xs ys fault first)
in_front pool (p ∷ xs) ys fault (inr breaks) = inr breaks

pub goes_on : (pool : List PoolEntry) (xs ys : List PlacedUse) (answer : Option (ℕ × Reason)) → IsFirstBreach pool xs None → IsFirstBreach pool ys answer → IsFirstBreach pool (xs ++ ys) answer
goes_on pool xs ys answer none first = record { is = after_all pool xs ys answer none.is first.is }

pub stops : (pool : List PoolEntry) (xs ys : List PlacedUse) (fault : ℕ × Reason) → IsFirstBreach pool xs (Some fault) → IsFirstBreach pool (xs ++ ys) (Some fault)
stops pool xs ys fault first = record { is = in_front pool xs ys fault first.is }

-- the same of uses
uses_after : (pool : List PoolEntry) (xs ys : List Use) (answer : Option Reason) → FirstUse pool xs None → FirstUse pool ys answer → FirstUse pool (xs ++ ys) answer
uses_after pool [] ys answer none first = first
uses_after pool (u ∷ xs) ys answer (inl (holds, none)) first = inl (holds, uses_after pool xs ys answer none first)
uses_after pool (u ∷ xs) ys answer (inr (breaks, e)) first = absurd cc

uses_front : (pool : List PoolEntry) (xs ys : List Use) (reason : Reason) → FirstUse pool xs (Some reason) → FirstUse pool (xs ++ ys) (Some reason)
uses_front pool [] ys reason e = absurd cc
uses_front pool (u ∷ xs) ys reason (inl (holds, first)) = inl (holds, uses_front pool xs ys reason first)
uses_front pool (u ∷ xs) ys reason (inr breaks) = inr breaks

pub uses_go_on : (pool : List PoolEntry) (xs ys : List Use) (answer : Option Reason) → IsFirstUse pool xs None → IsFirstUse pool ys answer → IsFirstUse pool (xs ++ ys) answer
uses_go_on pool xs ys answer none first = record { is = uses_after pool xs ys answer none.is first.is }

pub uses_stop : (pool : List PoolEntry) (xs ys : List Use) (reason : Reason) → IsFirstUse pool xs (Some reason) → IsFirstUse pool (xs ++ ys) (Some reason)
uses_stop pool xs ys reason first = record { is = uses_front pool xs ys reason first.is }

-- ---- items one after the other

module _ {X : Type 0} (pool : List PoolEntry) (places : ℕ → List X → X → List PlacedUse) (text : X → List ℕ) where
  parts : (offset : ℕ) (earlier xs ys : List X) → each_place places (λ x. length (text x)) offset earlier (xs ++ ys)
      ≡ each_place places (λ x. length (text x)) offset earlier xs ++ each_place places (λ x. length (text x)) (offset + length (flat_map text xs)) (earlier ++ xs) ys
  parts offset earlier [] ys =
      let there : offset ≡ offset + 0 = omega arith in
      ap (λ (o : ℕ). each_place places (λ x. length (text x)) o earlier ys) there ∙ ap (λ (e : List X). each_place places (λ x. length (text x)) (offset + 0) e ys) (sym (append-nil earlier))
  parts offset earlier (x ∷ xs) ys =
      let at_x = places offset earlier x in
      let others = each_place places (λ x. length (text x)) (offset + length (text x)) (earlier ++ x ∷ []) xs in
      let there : offset + length (text x) + length (flat_map text xs) ≡ offset + length (text x ++ flat_map text xs) = omega (arith, length-append (text x) (flat_map text xs)) in
      let regrouped : (earlier ++ x ∷ []) ++ xs ≡ earlier ++ x ∷ xs = append_assoc earlier (x ∷ []) xs in
      ap (λ (ps : List PlacedUse). at_x ++ ps) (parts (offset + length (text x)) (earlier ++ x ∷ []) xs ys)
      ∙ sym (append_assoc at_x others _)
      ∙ ap (λ (o : ℕ). (at_x ++ others) ++ each_place places (λ x. length (text x)) o ((earlier ++ x ∷ []) ++ xs) ys) there
      ∙ ap (λ (e : List X). (at_x ++ others) ++ each_place places (λ x. length (text x)) (offset + length (text x ++ flat_map text xs)) e ys) regrouped

  -- up to an item, the item, and what follows
  split_at : (xs : List X) (i : ℕ) (x : X) → i < length xs → x ≡ get_or xs i x → (take (i + 1) xs ≡ take i xs ++ x ∷ []) × (xs ≡ take i xs ++ x ∷ drop (i + 1) xs)
  split_at xs i x lt is =
      let more : take (i + 1) xs ≡ take i xs ++ x ∷ [] = subst (λ (y : X). take (i + 1) xs ≡ take i xs ++ y ∷ []) (sym is) (take_more xs i x lt) in
      (more, sym (take-append-drop (i + 1) xs) ∙ ap (λ (ys : List X). ys ++ drop (i + 1) xs) more ∙ append_assoc (take i xs) (x ∷ []) (drop (i + 1) xs))

  -- after some items, of which each place holds
  pub record Walked (start : ℕ) (xs : List X) (i offset : ℕ) : Type 0 where
    pub at : offset ≡ start + length (flat_map text (take i xs))
    pub none : IsFirstBreach pool (each_place places (λ x. length (text x)) start [] (take i xs)) None

  pub Walked-init : (start : ℕ) (xs : List X) → Walked start xs 0 start
  Walked-init start xs = record { at = omega arith; none = record { is = refl } }

  pub Walked-more : (start : ℕ) (xs : List X) (i offset : ℕ) (x : X) → i < length xs → x ≡ get_or xs i x → Walked start xs i offset → IsFirstBreach pool (places offset (take i xs) x) None
      → Walked start xs (i + 1) (offset + length (text x))
  Walked-more start xs i offset x lt is w none =
      let there = start + length (flat_map text (take i xs)) in
      let at_x = subst (λ (o : ℕ). IsFirstBreach pool (places o (take i xs) x) None) w.at none in
      let last = goes_on pool (places there (take i xs) x) [] None at_x (record { is = refl }) in
      let both = goes_on pool (each_place places (λ x. length (text x)) start [] (take i xs)) (places there (take i xs) x ++ []) None w.none last in
      let whole = ap (each_place places (λ x. length (text x)) start []) (split_at xs i x lt is).0 ∙ parts start [] (take i xs) (x ∷ []) in
      record {
        at = omega (arith, w.at, one_more text xs i x lt is);
        none = subst (λ (ps : List PlacedUse). IsFirstBreach pool ps None) (sym whole) both;
      }

  pub Walked-stops : (start : ℕ) (xs : List X) (i offset : ℕ) (x : X) (fault : ℕ × Reason) → i < length xs → x ≡ get_or xs i x → Walked start xs i offset → IsFirstBreach pool (places offset (take i xs) x) (Some fault)
      → IsFirstBreach pool (each_place places (λ x. length (text x)) start [] xs) (Some fault)
  Walked-stops start xs i offset x fault lt is w first =
      let there = start + length (flat_map text (take i xs)) in
      let rest = drop (i + 1) xs in
      let after = each_place places (λ x. length (text x)) (there + length (text x)) (take i xs ++ x ∷ []) rest in
      let at_x = subst (λ (o : ℕ). IsFirstBreach pool (places o (take i xs) x) (Some fault)) w.at first in
      let both = goes_on pool (each_place places (λ x. length (text x)) start [] (take i xs)) (places there (take i xs) x ++ after) (Some fault) w.none (stops pool (places there (take i xs) x) after fault at_x) in
      let whole = ap (each_place places (λ x. length (text x)) start []) (split_at xs i x lt is).1 ∙ parts start [] (take i xs) (x ∷ rest) in
      subst (λ (ps : List PlacedUse). IsFirstBreach pool ps (Some fault)) (sym whole) both

  pub Walked-all : (start : ℕ) (xs : List X) (i offset : ℕ) → length xs ≤ i → Walked start xs i offset → IsFirstBreach pool (each_place places (λ x. length (text x)) start [] xs) None
  Walked-all start xs i offset le w = subst (λ (ys : List X). IsFirstBreach pool (each_place places (λ x. length (text x)) start [] ys) None) (take_all i xs le) w.none

-- a test of some items, and of one more
pub any_more : {X : Type 0} (test : X → Bool) (xs : List X) (i : ℕ) (x : X) → i < length xs → x ≡ get_or xs i x → list_any test (take (i + 1) xs) ≡ (list_any test (take i xs) || test x)
any_more {X} test xs i x lt is = list_any_more test xs i x lt ∙ ap (λ (y : X). list_any test (take i xs) || test y) (sym is)

-- an item that was read of a list which is this one
pub item_read : {X : Type 0} (xs items : List X) (i : ℕ) (x : X) → items ≡ xs → i < length items → x ≡ get_or items i x → (i < length xs) × (x ≡ get_or xs i x)
item_read {X} xs items i x same lt is = subst (λ (ys : List X). (i < length ys) × (x ≡ get_or ys i x)) same (lt, is)

-- ---- the same at equal places

pub moved_uses : (pool other : List PoolEntry) (offset there : ℕ) (uses : List Use) (answer : Option (ℕ × Reason)) → pool ≡ other → offset ≡ there
    → IsFirstBreach pool (at_offset offset uses) answer → IsFirstBreach other (at_offset there uses) answer
moved_uses pool other offset there uses answer e f first =
    subst (λ (o : ℕ). IsFirstBreach other (at_offset o uses) answer) f (subst (λ (p : List PoolEntry). IsFirstBreach p (at_offset offset uses) answer) e first)

pub moved_items : {X : Type 0} (places : ℕ → List X → X → List PlacedUse) (size : X → ℕ) (pool other : List PoolEntry) (start there : ℕ) (xs ys : List X) (answer : Option (ℕ × Reason)) → pool ≡ other → start ≡ there → xs ≡ ys
    → IsFirstBreach pool (each_place places size start [] xs) answer → IsFirstBreach other (each_place places size there [] ys) answer
moved_items {X} places size pool other start there xs ys answer e f g first =
    let in_pool = subst (λ (p : List PoolEntry). IsFirstBreach p (each_place places size start [] xs) answer) e first in
    let from_there = subst (λ (o : ℕ). IsFirstBreach other (each_place places size o [] xs) answer) f in_pool in
    subst (λ (zs : List X). IsFirstBreach other (each_place places size there [] zs) answer) g from_there

-- ---- repeated members

-- what is told of the member at a place
pub repeat_at : (pool : List PoolEntry) (members : List Member) (answers : List Bool) (k : ℕ) (m : Member) (answer : Bool) → k < length members → m ≡ get_or members k m → answer ≡ get_or answers k answer → AreRepeats pool members answers
    → IsRepeat pool (take k members) m answer
repeat_at pool members answers k m answer lt is said are =
    are.each k m answer (slice_get-get_or members k m lt ∙ ap (λ (x : Member). Some x) (sym is))
    (slice_get-get_or answers k answer (omega (arith, lt, are.long)) ∙ ap (λ (b : Bool). Some b) (sym said))

-- ---- all places

pub goes_on_ok : {E : Type 0} (pool : List PoolEntry) (xs ys : List PlacedUse) (r : Result (Option (ℕ × Reason)) E) → IsFirstBreach pool xs None → IfOk r (IsFirstBreach pool ys) → IfOk r (IsFirstBreach pool (xs ++ ys))
goes_on_ok pool xs ys (Ok answer) none first = goes_on pool xs ys answer none first
goes_on_ok pool xs ys (Err e) none first = tt

-- where no place is told, each use holds
all_hold : (pool : List PoolEntry) (places : List PlacedUse) → FirstBreach pool places None → AllByRecursion (λ (p : PlacedUse). UseHolds pool p.use_) places
all_hold pool [] none = tt
all_hold pool (p ∷ places) (inl (holds, none)) = (holds, all_hold pool places none)
all_hold pool (p ∷ places) (inr (breaks, e)) = absurd cc

pub none_told : (c : ClassFile) → IsFirstBreach c.pool (places_of c) None → IsSoundClass c
none_told c first = All-from_recursion (λ (p : PlacedUse). UseHolds c.pool p.use_) (places_of c) (all_hold c.pool (places_of c) first.is)

-- where one is told, some use does not hold
some_breaks : (pool : List PoolEntry) (places : List PlacedUse) (fault : ℕ × Reason) → FirstBreach pool places (Some fault) → AllByRecursion (λ (p : PlacedUse). UseHolds pool p.use_) places → ⊥
some_breaks pool [] fault e all = cc
some_breaks pool (p ∷ places) fault (inl (holds, first)) all = some_breaks pool places fault first all.1
some_breaks pool (p ∷ places) fault (inr (breaks, e)) all = breaks all.0

pub one_told : (c : ClassFile) (fault : ℕ × Reason) → IsFirstBreach c.pool (places_of c) (Some fault) → IsSoundClass c → ⊥
one_told c fault first sound = some_breaks c.pool (places_of c) fault first.is (recursion_from_All (λ (p : PlacedUse). UseHolds c.pool p.use_) (places_of c) sound)

-- one place is told
same_breach : (pool : List PoolEntry) (places : List PlacedUse) (a b : Option (ℕ × Reason)) → FirstBreach pool places a → FirstBreach pool places b → a ≡ b
same_breach pool [] a b e f = e ∙ sym f
same_breach pool (p ∷ places) a b (inl (holds, first)) (inl (holds2, second)) = same_breach pool places a b first second
same_breach pool (p ∷ places) a b (inl (holds, first)) (inr (breaks, f)) = absurd (breaks holds)
same_breach pool (p ∷ places) a b (inr (breaks, e)) (inl (holds, second)) = absurd (breaks holds)
same_breach pool (p ∷ places) a b (inr (breaks, e)) (inr (breaks2, f)) = e ∙ sym f

pub one_breach : (pool : List PoolEntry) (places : List PlacedUse) (a b : Option (ℕ × Reason)) → IsFirstBreach pool places a → IsFirstBreach pool places b → a ≡ b
one_breach pool places a b first second = same_breach pool places a b first.is second.is
