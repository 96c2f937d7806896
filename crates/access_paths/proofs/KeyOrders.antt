-- Paths by their keys: what an order of two says, and that no two paths have one key.
use Rattle.std.proofs.Common.{◌≡◌, ℕ, Bool, true, false, cond, List, [], ◌∷◌, ◌++◌, map, refl, sym, ap, subst, arith, get_or}
use Rattle.std.specs.Str.{bytes_eq}
use Rattle.std.specs.Ordering.{is_eq}
use Rattle.std.specs.declared.cmp.Ordering.TheVariants.{Less, Equal, Greater}
use Rattle.std.proofs.lemmas.Slice.Eq.{bytes_eq-Decides}
use Rattle.jvm_model.specs.declared.number.FieldNo.{FieldNo}
use Rattle.access_paths.specs.declared.root.Root.{Root}
use Rattle.access_paths.specs.declared.root.Root.TheVariants.{Slot, Static, Returned, Thrown}
use Rattle.access_paths.specs.Paths.{Path, comes_before, number_of, path_key, root_key, same_path}
use Rattle.access_paths.specs.Orders.{key_order}
use Rattle.access_paths.proofs.Order.{not_before_itself}

-- ---- keys

one_field : (f g : FieldNo) → f.0 ≡ g.0 → f ≡ g
one_field f g e = λ i. record { 0 = e i }

one_list : (fs gs : List FieldNo) → map number_of fs ≡ map number_of gs → fs ≡ gs
one_list [] [] e = refl
one_list [] (g ∷ gs) e = absurd cc
one_list (f ∷ fs) [] e = absurd cc
one_list (f ∷ fs) (g ∷ gs) e =
    let first : f ≡ g = one_field f g cc in
    let rest : fs ≡ gs = one_list fs gs cc in
    λ i. first i ∷ rest i

abbrev keyed : Root → List FieldNo → List ℕ
keyed r fs = root_key r ++ map number_of fs

-- the first number tells the kinds of roots apart
abbrev kind : List ℕ → ℕ
kind ns = get_or ns 0 9

one_path : (r s : Root) (fs gs : List FieldNo) → keyed r fs ≡ keyed s gs → (r ≡ s) × (fs ≡ gs)
one_path (Slot y) (Slot z) fs gs e = let n : y ≡ z = cc in let rest : map number_of fs ≡ map number_of gs = cc in (ap Slot n, one_list fs gs rest)
one_path (Slot y) (Static g) fs gs e = let n = ap kind e in absurd (omega arith)
one_path (Slot y) Returned fs gs e = let n = ap kind e in absurd (omega arith)
one_path (Slot y) Thrown fs gs e = let n = ap kind e in absurd (omega arith)
one_path (Static f) (Slot z) fs gs e = let n = ap kind e in absurd (omega arith)
one_path (Static f) (Static g) fs gs e = let n : f.0 ≡ g.0 = cc in let rest : map number_of fs ≡ map number_of gs = cc in (ap Static (one_field f g n), one_list fs gs rest)
one_path (Static f) Returned fs gs e = let n = ap kind e in absurd (omega arith)
one_path (Static f) Thrown fs gs e = let n = ap kind e in absurd (omega arith)
one_path Returned (Slot z) fs gs e = let n = ap kind e in absurd (omega arith)
one_path Returned (Static g) fs gs e = let n = ap kind e in absurd (omega arith)
one_path Returned Returned fs gs e = let rest : map number_of fs ≡ map number_of gs = cc in (refl, one_list fs gs rest)
one_path Returned Thrown fs gs e = let n = ap kind e in absurd (omega arith)
one_path Thrown (Slot z) fs gs e = let n = ap kind e in absurd (omega arith)
one_path Thrown (Static g) fs gs e = let n = ap kind e in absurd (omega arith)
one_path Thrown Returned fs gs e = let n = ap kind e in absurd (omega arith)
one_path Thrown Thrown fs gs e = let rest : map number_of fs ≡ map number_of gs = cc in (refl, one_list fs gs rest)

-- paths that are the same are one
pub same_is_one : (x y : Path) → same_path x y ≡ true → x ≡ y
same_is_one x y same =
    let e = one_path x.root y.root x.fields y.fields ((bytes_eq-Decides (path_key x) (path_key y)).0 same) in
    λ i. record { root = e.0 i; fields = e.1 i }

-- ---- orders

-- lists of which the first comes before the second differ
pub before_differs : (ms ns : List ℕ) → comes_before ms ns ≡ true → bytes_eq ms ns ≡ true → ⊥
before_differs ms ns before same =
    let P : List ℕ → Type 0 = λ ks. comes_before ms ks ≡ true in
    not_before_itself ms (subst P (sym ((bytes_eq-Decides ms ns).0 same)) before)

-- an order tells whether two are the same
pub is_eq-key_order : (ms ns : List ℕ) → is_eq (key_order ms ns) ≡ bytes_eq ms ns
is_eq-key_order ms ns = by (comes_before ms ns) (bytes_eq ms ns) (before_differs ms ns)
  where
    by : (a b : Bool) → (a ≡ true → b ≡ true → ⊥) → is_eq (cond a Less (cond b Equal Greater)) ≡ b
    by true true not_both = absurd (not_both refl refl)
    by true false not_both = refl
    by false true not_both = refl
    by false false not_both = refl
