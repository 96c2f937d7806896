-- Choices between two cases: whether two sites, or two fields, are one, and whether a slot is a target; and values with another one at a number.
use Rattle.std.proofs.Common.{◌≡◌, ◌≢◌, ◌⊎◌, inl, inr, ℕ, List, [], ◌∷◌, Option, Some, None, Bool, true, false, cond, eqb, refl, sym, ◌∙◌, ap}
use Rattle.std.proofs.lemmas.Bool.{cases_eq, eqb-true, eq-eqb}
use Rattle.std.proofs.lemmas.Option.{same_Some, none-some}
use Rattle.jvm_model.specs.declared.number.FieldNo.{FieldNo}
use Rattle.jvm_model.specs.declared.number.MethodNo.{MethodNo}
use Rattle.jvm_model.specs.declared.site.Site.{Site}
use Rattle.jvm_model.specs.declared.site.SiteKind.{SiteKind}
use Rattle.jvm_model.specs.declared.site.SiteKind.TheVariants.{Boot, New, Result, Thrown}
use Rattle.machine_bytecode.specs.States.{Value, updated}

-- ---- slots and fields

pub some_or_not : (target : Option ℕ) (z : ℕ) → (target ≡ Some z) ⊎ (target ≢ Some z)
some_or_not None z = inr (λ e. none-some z e)
some_or_not (Some y) z = elim (cases_eq y z) [ inl e ↦ inl (ap Some e) | inr ne ↦ inr (λ e. ne (same_Some y z e)) ]

pub same_field : (f g : FieldNo) → f.0 ≡ g.0 → f ≡ g
same_field f g e = ap (λ (number : ℕ). record { 0 = number }) e

pub field_or_not : (f g : FieldNo) → (f ≡ g) ⊎ (f ≢ g)
field_or_not f g = elim (cases_eq f.0 g.0) [ inl e ↦ inl (same_field f g e) | inr ne ↦ inr (λ e. ne (ap (λ (h : FieldNo). h.0) e)) ]

-- the values, with another one at a number
pub updated_other : (values : ℕ → Value) (i j : ℕ) (v : Value) → j ≢ i → updated values i v j ≡ values j
updated_other values i j v ne = by (eqb j i) refl
  where
    by : (b : Bool) → eqb j i ≡ b → cond b v (values j) ≡ values j
    by true e = absurd (ne (eqb-true j i e))
    by false e = refl

pub updated_here : (values : ℕ → Value) (i j : ℕ) (v : Value) → j ≡ i → updated values i v j ≡ v
updated_here values i j v e = ap (λ (b : Bool). cond b v (values j)) (eq-eqb j i e)

-- ---- sites

kind_or_not : (a b : SiteKind) → (a ≡ b) ⊎ (a ≢ b)
kind_or_not Boot Boot = inl refl
kind_or_not New New = inl refl
kind_or_not Result Result = inl refl
kind_or_not Thrown Thrown = inl refl
kind_or_not Boot New = inr (λ e. cc e)
kind_or_not Boot Result = inr (λ e. cc e)
kind_or_not Boot Thrown = inr (λ e. cc e)
kind_or_not New Boot = inr (λ e. cc e)
kind_or_not New Result = inr (λ e. cc e)
kind_or_not New Thrown = inr (λ e. cc e)
kind_or_not Result Boot = inr (λ e. cc e)
kind_or_not Result New = inr (λ e. cc e)
kind_or_not Result Thrown = inr (λ e. cc e)
kind_or_not Thrown Boot = inr (λ e. cc e)
kind_or_not Thrown New = inr (λ e. cc e)
kind_or_not Thrown Result = inr (λ e. cc e)

name_or_not : (a b : List ℕ) → (a ≡ b) ⊎ (a ≢ b)
name_or_not [] [] = inl refl
name_or_not [] (y ∷ b) = inr (λ e. cc e)
name_or_not (x ∷ a) [] = inr (λ e. cc e)
name_or_not (x ∷ a) (y ∷ b) = by (cases_eq x y) (name_or_not a b)
  where
    by : (x ≡ y) ⊎ (x ≢ y) → (a ≡ b) ⊎ (a ≢ b) → (x ∷ a ≡ y ∷ b) ⊎ (x ∷ a ≢ y ∷ b)
    by (inl e) (inl d) = inl (ap (λ (h : ℕ). h ∷ a) e ∙ ap (λ (t : List ℕ). y ∷ t) d)
    by (inr ne) d = inr (λ e. ne (cc e))
    by (inl e) (inr ne) = inr (λ e. ne (cc e))

method_or_not : (a b : Option MethodNo) → (a ≡ b) ⊎ (a ≢ b)
method_or_not None None = inl refl
method_or_not None (Some n) = inr (λ e. none-some n e)
method_or_not (Some m) None = inr (λ e. none-some m (sym e))
method_or_not (Some m) (Some n) = elim (cases_eq m.0 n.0) [
  | inl e ↦ inl (ap (λ (number : ℕ). Some (record { 0 = number })) e)
  | inr ne ↦ inr (λ e. ne (ap (λ (k : MethodNo). k.0) (same_Some m n e)))
]

pub site_or_not : (a b : Site) → (a ≡ b) ⊎ (a ≢ b)
site_or_not a b = by (kind_or_not a.kind b.kind) (method_or_not a.method b.method) (cases_eq a.offset b.offset) (name_or_not a.class b.class)
  where
    by : (a.kind ≡ b.kind) ⊎ (a.kind ≢ b.kind) → (a.method ≡ b.method) ⊎ (a.method ≢ b.method) → (a.offset ≡ b.offset) ⊎ (a.offset ≢ b.offset)
        → (a.class ≡ b.class) ⊎ (a.class ≢ b.class) → (a ≡ b) ⊎ (a ≢ b)
    by (inl k) (inl m) (inl o) (inl c) = inl (λ i. record { kind = k i; method = m i; offset = o i; class = c i })
    by (inr ne) m o c = inr (λ e. ne (ap (λ (x : Site). x.kind) e))
    by (inl k) (inr ne) o c = inr (λ e. ne (ap (λ (x : Site). x.method) e))
    by (inl k) (inl m) (inr ne) c = inr (λ e. ne (ap (λ (x : Site). x.offset) e))
    by (inl k) (inl m) (inl o) (inr ne) = inr (λ e. ne (ap (λ (x : Site). x.class) e))
