-- What stays of each object where the world changes.
use Rattle.std.proofs.Common.{◌≡◌, ◌⊎◌, inl, inr, ℕ, zero, suc, ◌<◌, List, [], ◌∷◌, ◌++◌, length, set, Some, refl, sym, ap, ◌∙◌, subst, arith}
use Rattle.std.specs.List.{slice_get}
use Rattle.std.proofs.lemmas.Option.{slice_get_within, same_Some, none-some}
use Rattle.machine_bytecode.specs.Objects.{Subject, MakesObject, MakesArrays, WritesField, WritesElement}
use Rattle.machine_bytecode.specs.States.{Value, Object, World, with_heap, with_kept, with_static, with_started}

-- the object is at its place still, as it was but for what it holds
pub record Stays (w : World) (place : ℕ) (o : Object) : Type 0 where
  pub later : Object
  pub held : slice_get w.heap place ≡ Some later
  pub site : later.site ≡ o.site
  pub class : later.class ≡ o.class
  pub automaton : later.automaton ≡ o.automaton

-- each object of a world stays in another one
pub record Keeps (before after : World) : Type 0 where
  pub each : (place : ℕ) (o : Object) → slice_get before.heap place ≡ Some o → Stays after place o

pub keeps_all : (w : World) → Keeps w w
keeps_all w = record { each = λ place o held. record { later = o; held = held; site = refl; class = refl; automaton = refl } }

pub keeps_same : (before after : World) → after ≡ before → Keeps before after
keeps_same before after e = subst (λ (w : World). Keeps before w) (sym e) (keeps_all before)

pub keeps_on : (a b c : World) → Keeps a b → Keeps b c → Keeps a c
keeps_on a b c first second = record {
  each = λ place o held.
      let s = first.each place o held in
      let t = second.each place s.later s.held in
      record { later = t.later; held = t.held; site = t.site ∙ s.site; class = t.class ∙ s.class; automaton = t.automaton ∙ s.automaton };
}

pub front_of : {X : Type 0} (xs ys : List X) (k : ℕ) (v : X) → slice_get xs k ≡ Some v → slice_get (xs ++ ys) k ≡ Some v
front_of [] ys k v e = absurd (none-some v e)
front_of (x ∷ xs) ys zero v e = e
front_of (x ∷ xs) ys (suc k) v e = front_of xs ys k v e

at_set : {X : Type 0} (xs : List X) (i : ℕ) (y : X) → i < length xs → slice_get (set xs i y) i ≡ Some y
at_set [] i y l = absurd (omega arith)
at_set (x ∷ xs) zero y l = refl
at_set (x ∷ xs) (suc i) y l = at_set xs i y (omega arith)

past_set : {X : Type 0} (xs : List X) (i j : ℕ) (y : X) → (j ≡ i → ⊥) → slice_get (set xs i y) j ≡ slice_get xs j
past_set [] i j y ne = refl
past_set (x ∷ xs) zero zero y ne = absurd (ne refl)
past_set (x ∷ xs) zero (suc j) y ne = refl
past_set (x ∷ xs) (suc i) zero y ne = refl
past_set (x ∷ xs) (suc i) (suc j) y ne = past_set xs i j y (λ e. ne (ap suc e))

-- a place is another one, or the same
pub same_or_not : (i j : ℕ) → (i ≡ j) ⊎ (i ≡ j → ⊥)
same_or_not zero zero = inl refl
same_or_not zero (suc j) = inr (λ e. absurd cc)
same_or_not (suc i) zero = inr (λ e. absurd cc)
same_or_not (suc i) (suc j) = by (same_or_not i j) where
  by : (i ≡ j) ⊎ (i ≡ j → ⊥) → (suc i ≡ suc j) ⊎ (suc i ≡ suc j → ⊥)
  by (inl e) = inl (ap suc e)
  by (inr ne) = inr (λ e. ne cc)

-- what is written at a place, and what stands at another one
pub written_there : {X : Type 0} (xs : List X) (i : ℕ) (v y : X) → slice_get xs i ≡ Some v → slice_get (set xs i y) i ≡ Some y
written_there xs i v y e = at_set xs i y (slice_get_within xs i v e)

pub not_written : {X : Type 0} (xs : List X) (i j : ℕ) (v y : X) → (j ≡ i → ⊥) → slice_get xs j ≡ Some v → slice_get (set xs i y) j ≡ Some v
not_written xs i j v y ne e = past_set xs i j y ne ∙ e

-- another object is written, which differs in what it holds alone
pub keeps_written : (w : World) (at : ℕ) (o n : Object) → slice_get w.heap at ≡ Some o → n.site ≡ o.site → n.class ≡ o.class → n.automaton ≡ o.automaton
    → Keeps w (with_heap w (set w.heap at n))
keeps_written w at o n held site class automaton = record { each = λ place p stands. by place p stands (same_or_not place at) }
  where
    by : (place : ℕ) (p : Object) → slice_get w.heap place ≡ Some p → (place ≡ at) ⊎ (place ≡ at → ⊥) → Stays (with_heap w (set w.heap at n)) place p
    by place p stands (inl e) =
        let same : o ≡ p = same_Some o p (sym held ∙ subst (λ (i : ℕ). slice_get w.heap i ≡ Some p) e stands) in
        record {
          later = n;
          held = ap (slice_get (set w.heap at n)) e ∙ written_there w.heap at o n held;
          site = site ∙ ap (λ (q : Object). q.site) same;
          class = class ∙ ap (λ (q : Object). q.class) same;
          automaton = automaton ∙ ap (λ (q : Object). q.automaton) same;
        }
    by place p stands (inr ne) = record { later = p; held = not_written w.heap at place p n ne stands; site = refl; class = refl; automaton = refl }

pub keeps_more : (w : World) (objects : List Object) → Keeps w (with_heap w (w.heap ++ objects))
keeps_more w objects = record { each = λ place o held. record { later = o; held = front_of w.heap objects place o held; site = refl; class = refl; automaton = refl } }

-- ---- the ways in which worlds change

pub keeps_made : (x : Subject) (site : _) (before : World) (made : Value) (after : World) → MakesObject x site before made after → Keeps before after
keeps_made x site before made after m = subst (λ (w : World). Keeps before w) (sym m.after_is) (keeps_more before _)

pub keeps_arrays : (x : Subject) (sites : _) (before : World) (made : Value) (after : World) → MakesArrays x sites before made after → Keeps before after
keeps_arrays x sites before made after m = subst (λ (w : World). Keeps before w) (sym m.after_is) (keeps_more before _)

pub keeps_field : (before : World) (object : Value) (number : ℕ) (v : Value) (after : World) → WritesField before object number v after → Keeps before after
keeps_field before object number v after w = subst (λ (w : World). Keeps before w) (sym w.is) (keeps_written before w.to.place w.to.object _ w.to.held refl refl refl)

pub keeps_element : (p : _) (before : World) (array v : Value) (after : World) → WritesElement p before array v after → Keeps before after
keeps_element p before array v after w =
    subst (λ (w : World). Keeps before w) (sym w.is) (keeps_written before w.of.array.to.place w.of.array.to.object _ w.of.array.to.held refl refl refl)

pub keeps_static : (w : World) (number : ℕ) (v : Value) → Keeps w (with_static w number v)
keeps_static w number v = record { each = λ place o held. record { later = o; held = held; site = refl; class = refl; automaton = refl } }

pub keeps_kept : (w : World) (places : List ℕ) → Keeps w (with_kept w places)
keeps_kept w places = record { each = λ place o held. record { later = o; held = held; site = refl; class = refl; automaton = refl } }

pub keeps_started : (w : World) (number : ℕ) → Keeps w (with_started w number)
keeps_started w number = record { each = λ place o held. record { later = o; held = held; site = refl; class = refl; automaton = refl } }
