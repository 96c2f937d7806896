-- What was noted of refused calls and methods: nothing, one, and what the turns of a loop note.
use Rattle.std.proofs.Common.{◌≡◌, ◌↔◌, ℕ, ◌+◌, ◌<◌, ◌≤◌, ◌⊎◌, inl, inr, List, [], ◌∷◌, ◌++◌, Option, length, take, get_or, sym, ◌∙◌, ap, subst, append_assoc, arith}
use Rattle.std.specs.List.{Contains}
use Rattle.std.proofs.lemmas.List.{append-nil, take_more, take_all}
use Rattle.std.proofs.lemmas.List.Elements.{All-nil, All-push, All-append, All-weaker, Contains-push, Contains-push_cases, Contains-append_left, Contains-append_right}
use Rattle.points_to.specs.declared.refusals.RefusedCall.{RefusedCall}
use Rattle.points_to.specs.declared.refusals.RefusedMethod.{RefusedMethod}
use Rattle.points_to.specs.Firsts.{IsFirstCall, IsFirstMethod}
use Rattle.points_to.specs.Passing.{AreThose, NotesCalls, NotesMethods}

-- ---- those that have a property

module _ {X : Type 0} where
  pub those_none : (R : X → Type 0) → ((x : X) → R x → ⊥) → AreThose R []
  those_none R none = record { sound = All-nil R; complete = λ x r. absurd (none x r) }

  those_one : (R : X → Type 0) (x : X) → R x → ((y : X) → R y → x ≡ y) → AreThose R (x ∷ [])
  those_one R x r only = record {
    sound = All-push R [] x (All-nil R) r;
    complete = λ y s. subst (λ (z : X). Contains (x ∷ []) z) (only y s) (Contains-push [] x);
  }

  pub those_same : (R S : X → Type 0) (xs : List X) → ((x : X) → R x ↔ S x) → AreThose R xs → AreThose S xs
  those_same R S xs same h = record { sound = All-weaker R S (λ x. (same x).0) xs h.sound; complete = λ x s. h.complete x ((same x).1 s) }

  pub those_both : (R S : X → Type 0) (xs ys : List X) → AreThose R xs → AreThose S ys → AreThose (λ x. R x ⊎ S x) (xs ++ ys)
  those_both R S xs ys first second =
      let Either : X → Type 0 = λ x. R x ⊎ S x in
      record {
        sound = All-append Either xs ys (All-weaker R Either (λ x r. inl r) xs first.sound) (All-weaker S Either (λ x s. inr s) ys second.sound);
        complete = λ x e. elim e [
          | inl r ↦ Contains-append_left xs ys x (first.complete x r)
          | inr s ↦ Contains-append_right xs ys x (second.complete x s)
        ];
      }

-- ---- calls

pub calls_none : (R : RefusedCall → Type 0) (old : Option RefusedCall) → ((c : RefusedCall) → R c → ⊥) → NotesCalls R old old
calls_none R old none = record {
  noted = [];
  those = those_none R none;
  first = λ before h. subst (λ (xs : List RefusedCall). IsFirstCall xs old) (sym (append-nil before)) h;
}

pub calls_one : (R : RefusedCall → Type 0) (old new : Option RefusedCall) (call : RefusedCall) → R call → ((c : RefusedCall) → R c → call ≡ c)
    → ((calls : List RefusedCall) → IsFirstCall calls old → IsFirstCall (calls ++ call ∷ []) new) → NotesCalls R old new
calls_one R old new call r only first = record { noted = call ∷ []; those = those_one R call r only; first = first }

pub calls_same : (R S : RefusedCall → Type 0) (old new : Option RefusedCall) → ((c : RefusedCall) → R c ↔ S c) → NotesCalls R old new → NotesCalls S old new
calls_same R S old new same h = record { noted = h.noted; those = those_same R S h.noted same h.those; first = h.first }

calls_both : (R S : RefusedCall → Type 0) (old mid new : Option RefusedCall) → NotesCalls R old mid → NotesCalls S mid new → NotesCalls (λ c. R c ⊎ S c) old new
calls_both R S old mid new one two = record {
  noted = one.noted ++ two.noted;
  those = those_both R S one.noted two.noted one.those two.those;
  first = λ before h.
      subst (λ (xs : List RefusedCall). IsFirstCall xs new) (append_assoc before one.noted two.noted) (two.first (before ++ one.noted) (one.first before h));
}

-- ---- loops over a list, of which each element notes what has a property

-- It has the property of one of the elements.
abbrev pub OfSome : {E : Type 0} → (E → RefusedCall → Type 0) → List E → RefusedCall → Type 0
OfSome {E} P es c = (e : E) × Contains es e × P e c

module _ {E : Type 0} (P : E → RefusedCall → Type 0) where
  pub calls_start : (es : List E) (old : Option RefusedCall) → NotesCalls (OfSome P (take 0 es)) old old
  calls_start es old = calls_none (OfSome P (take 0 es)) old (λ c (e, (k, within, at), p). absurd (omega (arith, within)))

  pub calls_next : (es : List E) (i : ℕ) (e : E) (old mid new : Option RefusedCall) → i < length es → e ≡ get_or es i e
      → NotesCalls (OfSome P (take i es)) old mid → NotesCalls (P e) mid new → NotesCalls (OfSome P (take (i + 1) es)) old new
  calls_next es i e old mid new within is first second =
      let longer = take_more es i e within ∙ ap (λ (last : E). take i es ++ last ∷ []) (sym is) in
      let same : (c : RefusedCall) → (OfSome P (take i es) c ⊎ P e c) ↔ OfSome P (take i es ++ e ∷ []) c = λ c. (
        (λ h. elim h [
          | inl (f, there, p) ↦ (f, Contains-append_left (take i es) (e ∷ []) f there, p)
          | inr p ↦ (e, Contains-push (take i es) e, p)
        ]),
        (λ (f, there, p). elim (Contains-push_cases (take i es) e f there) [
          | inl before ↦ inl (f, before, p)
          | inr last ↦ inr (subst (λ (g : E). P g c) (sym last) p)
        ]),
      ) in
      subst (λ (all : List E). NotesCalls (OfSome P all) old new) (sym longer)
      (calls_same (λ c. OfSome P (take i es) c ⊎ P e c) (OfSome P (take i es ++ e ∷ [])) old new same (calls_both (OfSome P (take i es)) (P e) old mid new first second))

  pub calls_all : (es : List E) (i : ℕ) (old new : Option RefusedCall) → length es ≤ i → NotesCalls (OfSome P (take i es)) old new → NotesCalls (OfSome P es) old new
  calls_all es i old new past h = subst (λ (all : List E). NotesCalls (OfSome P all) old new) (take_all i es past) h

-- ---- methods

pub methods_none : (R : RefusedMethod → Type 0) (old : Option RefusedMethod) → ((m : RefusedMethod) → R m → ⊥) → NotesMethods R old old
methods_none R old none = record {
  noted = [];
  those = those_none R none;
  first = λ before h. subst (λ (xs : List RefusedMethod). IsFirstMethod xs old) (sym (append-nil before)) h;
}

pub methods_one : (R : RefusedMethod → Type 0) (old new : Option RefusedMethod) (method : RefusedMethod) → R method → ((m : RefusedMethod) → R m → method ≡ m)
    → ((methods : List RefusedMethod) → IsFirstMethod methods old → IsFirstMethod (methods ++ method ∷ []) new) → NotesMethods R old new
methods_one R old new method r only first = record { noted = method ∷ []; those = those_one R method r only; first = first }
