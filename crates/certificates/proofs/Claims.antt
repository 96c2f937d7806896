-- Claims among lines, and fronts of bytes.
use Rattle.std.proofs.Common.{◌≡◌, ℕ, zero, suc, ◌+◌, ◌<◌, ◌≤◌, eqb, true, false, List, [], ◌∷◌, ◌++◌, length, take, drop, get_or, Some, refl, sym, ap, subst, ◌∙◌, arith, inl, inr}
use mathlib.Core.Bool.{true≢false}
use lib.Pointwise.{pointwise, bytes_decides}
use Rattle.std.specs.List.{slice_get, Contains}
use Rattle.std.specs.Ordering.{is_eq}
use Rattle.std.specs.declared.cmp.Ordering.{Ordering}
use Rattle.std.specs.declared.cmp.Ordering.TheVariants.{Less, Equal, Greater}
use Rattle.std.proofs.lemmas.Bool.{cases_lt}
use Rattle.std.proofs.lemmas.Cmp.{tied_itself}
use Rattle.std.proofs.lemmas.Option.{slice_get-get_or, slice_get_read, same_Some}
use Rattle.jvm_model.specs.declared.site.Site.{Site}
use Rattle.certificate_lines.specs.declared.line.Line.{Line}
use Rattle.certificate_lines.specs.declared.line.Line.TheVariants as lines
use Rattle.certificate_lines.specs.LineOrder.{site_cmp}
use Rattle.certificate_lines.proofs.LineOrders.{site_exact, site_total}

-- ---- sites

equal_from : (o : Ordering) → true ≡ is_eq o → o ≡ Equal
equal_from Less e = absurd (true≢false e)
equal_from Equal e = refl
equal_from Greater e = absurd (true≢false e)

pub site_from : (s t : Site) (o : Ordering) → o ≡ site_cmp s t → true ≡ is_eq o → s ≡ t
site_from s t o is e = site_exact s t (sym is ∙ equal_from o e)

pub site_back : (s t : Site) (o : Ordering) → o ≡ site_cmp s t → s ≡ t → is_eq o ≡ true
site_back s t o is e = ap is_eq (is ∙ ap (λ (u : Site). site_cmp s u) (sym e) ∙ tied_itself site_total s)

abbrev stage_in : Line → ℕ
stage_in lines.Version = 0
stage_in (lines.Class name) = 0
stage_in (lines.State name) = 0
stage_in (lines.Initial q) = 0
stage_in (lines.Error q) = 0
stage_in (lines.Event e) = 0
stage_in (lines.Entry m) = 0
stage_in (lines.Depth k) = 0
stage_in (lines.Reached m) = 0
stage_in (lines.PointsTo h s) = 0
stage_in (lines.Modifies m f) = 0
stage_in (lines.Claim stage s) = stage
stage_in (lines.PathEdge e) = 0
stage_in lines.End = 0

abbrev site_in : Site → Line → Site
site_in d lines.Version = d
site_in d (lines.Class name) = d
site_in d (lines.State name) = d
site_in d (lines.Initial q) = d
site_in d (lines.Error q) = d
site_in d (lines.Event e) = d
site_in d (lines.Entry m) = d
site_in d (lines.Depth k) = d
site_in d (lines.Reached m) = d
site_in d (lines.PointsTo h s) = d
site_in d (lines.Modifies m f) = d
site_in d (lines.Claim stage s) = s
site_in d (lines.PathEdge e) = d
site_in d lines.End = d

pub one_stage : (j k : ℕ) (s t : Site) → lines.Claim j s ≡ lines.Claim k t → j ≡ k
one_stage j k s t e = ap stage_in e

pub one_site : (j k : ℕ) (s t : Site) → lines.Claim j s ≡ lines.Claim k t → s ≡ t
one_site j k s t e = ap (site_in s) e

pub one_claim : (j k : ℕ) (s t : Site) → j ≡ k → s ≡ t → lines.Claim j s ≡ lines.Claim k t
one_claim j k s t e f = λ i. lines.Claim (e i) (f i)

-- ---- lists

pub none_more : (all : List Line) (target item : Line) (i : ℕ) → i < length all → item ≡ get_or all i item → (item ≡ target → ⊥)
    → ((k : ℕ) (x : Line) → k < i → slice_get all k ≡ Some x → x ≡ target → ⊥) → (k : ℕ) (x : Line) → k < i + 1 → slice_get all k ≡ Some x → x ≡ target → ⊥
none_more all target item i l e other old k x m s is = elim (cases_lt k i) [
  | inl below ↦ old k x below s is
  | inr from ↦ (
      let here : k ≡ i = omega (arith, m, from) in
      let same : Some x ≡ Some item = sym s ∙ ap (λ (j : ℕ). slice_get all j) here ∙ slice_get_read all (length all) i item refl l e in
      other (sym (same_Some x item same) ∙ is)
      )
]

pub has_here : (all : List Line) (target item : Line) (i : ℕ) → i < length all → item ≡ get_or all i item → item ≡ target → Contains all target
has_here all target item i l e is = subst (λ (x : Line). Contains all x) is (i, l, sym e)

pub has_none : (all : List Line) (target : Line) (i : ℕ) → length all ≤ i → ((k : ℕ) (x : Line) → k < i → slice_get all k ≡ Some x → x ≡ target → ⊥) → Contains all target → ⊥
has_none all target i past none c = none c.0 target (omega (arith, past, c.1)) (slice_get-get_or all c.0 target c.1 ∙ ap Some c.2) refl

-- ---- fronts

front_rest : (n : ℕ) (xs : List ℕ) → take n xs ++ drop n xs ≡ xs
front_rest zero xs = refl
front_rest (suc n) [] = refl
front_rest (suc n) (x ∷ xs) = ap (λ (ys : List ℕ). x ∷ ys) (front_rest n xs)

take_front : (front more : List ℕ) → take (length front) (front ++ more) ≡ front
take_front [] more = refl
take_front (x ∷ xs) more = ap (λ (ys : List ℕ). x ∷ ys) (take_front xs more)

pub is_front : (front bytes begin rest : List ℕ) → begin ≡ take (length front) bytes → rest ≡ drop (length front) bytes → true ≡ pointwise eqb begin front → bytes ≡ front ++ rest
is_front front bytes begin rest b r e =
    let same : begin ≡ front = (bytes_decides begin front).0 (sym e) in
    sym (front_rest (length front) bytes) ∙ (λ i. sym b i ++ sym r i) ∙ ap (λ (x : List ℕ). x ++ rest) same

pub is_no_front : (front bytes begin : List ℕ) → begin ≡ take (length front) bytes → false ≡ pointwise eqb begin front → (more : List ℕ) → bytes ≡ front ++ more → ⊥
is_no_front front bytes begin b e more is =
    let same : begin ≡ front = b ∙ ap (λ (x : List ℕ). take (length front) x) is ∙ take_front front more in
    true≢false (sym ((bytes_decides begin front).1 same) ∙ sym e)
