-- What is told of claims, walked one after the other.
use Rattle.std.proofs.Common.{◌≡◌, ℕ, ◌+◌, ◌<◌, ◌≤◌, Bool, true, false, List, [], ◌∷◌, ◌++◌, length, map, get_or, drop, not, cond, Result, Ok, Err, refl, sym, ◌∙◌, ap, subst, inl, inr, append_assoc}
use Rattle.std.specs.List.{flat_map}
use Rattle.std.proofs.lemmas.List.{drop_more, drop_all, append-nil, map-append}
use Rattle.std.proofs.lemmas.List.Elements.{All-nil, All-cons, All-head, All-tail, All-append}
use Rattle.jvm_model.specs.declared.reason.Refusal.{Refusal}
use Rattle.jvm_model.specs.declared.stub.StubClass.{StubClass}
use Rattle.jvm_model.specs.declared.pool.PoolEntry.{PoolEntry}
use Rattle.jvm_model.specs.Linking.{Claim, interface_places, reason_of, AreMet, IsFirstUnmet, Meets, own_classes}
use Rattle.jvm_model.specs.Programs.{Program, class_or_none}
use Rattle.failure.specs.declared.Failure.{Failure}
use Rattle.program_model.specs.declared.link_failure.LinkFault.{LinkFault}
use Rattle.failure.specs.declared.Failure.TheVariants.{Cause, OutOfMemory}
use Rattle.program_model.specs.declared.link_failure.LinkFault.TheVariants.{Refused, TooMany}
use Rattle.program_linking.specs.declared.supers.SuperRule.{SuperRule}
use Rattle.program_linking.specs.Claims.{TellsEnd, TellsEndOrLarge, TellsClaims, TellsClaimsOrLarge, of_own, super_claim}
use Rattle.program_model.specs.LinkFailures.{IsLinkRefusal}

-- ---- claims before others

abbrev pub IsMet : Program → Claim → Type 0
IsMet p c = Meets p c.demand

pub unmet_front : (p : Program) (r : Refusal) (xs ys : List Claim) → IsFirstUnmet p r xs → IsFirstUnmet p r (xs ++ ys)
unmet_front p r [] ys h = absurd h
unmet_front p r (c ∷ xs) ys (inl h) = inl h
unmet_front p r (c ∷ xs) ys (inr h) = inr (h.0, unmet_front p r xs ys h.1)

pub unmet_back : (p : Program) (r : Refusal) (xs ys : List Claim) → AreMet p xs → IsFirstUnmet p r ys → IsFirstUnmet p r (xs ++ ys)
unmet_back p r [] ys met h = h
unmet_back p r (c ∷ xs) ys met h = inr (All-head (IsMet p) c xs met, unmet_back p r xs ys (All-tail (IsMet p) c xs met) h)

pub end_front : (Large : Type 0) (p : Program) (xs ys : List Claim) (e : Failure LinkFault) → TellsEndOrLarge Large p xs e → TellsEndOrLarge Large p (xs ++ ys) e
end_front Large p xs ys (Cause (Refused r)) h = unmet_front p r xs ys h
end_front Large p xs ys _ h = h

pub end_back : (Large : Type 0) (p : Program) (xs ys : List Claim) (e : Failure LinkFault) → AreMet p xs → TellsEndOrLarge Large p ys e → TellsEndOrLarge Large p (xs ++ ys) e
end_back Large p xs ys (Cause (Refused r)) met h = unmet_back p r xs ys met h
end_back Large p xs ys _ met h = h

pub tells_back : {X : Type 0} (Large : Type 0) (p : Program) (xs ys : List Claim) (r : Result X (Failure LinkFault)) → AreMet p xs → TellsClaimsOrLarge Large p ys r → TellsClaimsOrLarge Large p (xs ++ ys) r
tells_back Large p xs ys (Ok x) met h = All-append (IsMet p) xs ys met h
tells_back Large p xs ys (Err e) met h = end_back Large p xs ys e met h

-- ---- what is large is so in another way

pub end_more : (Large More : Type 0) (p : Program) (claims : List Claim) (e : Failure LinkFault) → (Large → More) → TellsEndOrLarge Large p claims e → TellsEndOrLarge More p claims e
end_more Large More p claims (Cause (Refused r)) more h = h
end_more Large More p claims (Cause TooMany) more h = more h
end_more Large More p claims OutOfMemory more h = tt

pub tells_more : {X : Type 0} (Large More : Type 0) (p : Program) (claims : List Claim) (r : Result X (Failure LinkFault)) → (Large → More) → TellsClaimsOrLarge Large p claims r → TellsClaimsOrLarge More p claims r
tells_more Large More p claims (Ok x) more h = h
tells_more Large More p claims (Err e) more h = end_more Large More p claims e more h

-- where nothing was numbered, nothing is too large
pub end_unnumbered : (Large : Type 0) (p : Program) (claims : List Claim) (e : Failure LinkFault) → TellsEnd p claims e → TellsEndOrLarge Large p claims e
end_unnumbered Large p claims e h = end_more ⊥ Large p claims e (λ never. absurd never) h

pub tells_unnumbered : {X : Type 0} (Large : Type 0) (p : Program) (claims : List Claim) (r : Result X (Failure LinkFault)) → TellsClaims p claims r → TellsClaimsOrLarge Large p claims r
tells_unnumbered Large p claims r h = tells_more ⊥ Large p claims r (λ never. absurd never) h

-- ---- claims that are met

pub met_append : (p : Program) (xs ys : List Claim) → AreMet p xs → AreMet p ys → AreMet p (xs ++ ys)
met_append p xs ys met also = All-append (IsMet p) xs ys met also

pub met_first : (p : Program) (c : Claim) (others : List Claim) → AreMet p (c ∷ others) → Meets p c.demand
met_first p c others met = All-head (IsMet p) c others met

pub met_rest : (p : Program) (c : Claim) (others : List Claim) → AreMet p (c ∷ others) → AreMet p others
met_rest p c others met = All-tail (IsMet p) c others met

pub met_front : (p : Program) (xs ys : List Claim) → AreMet p (xs ++ ys) → AreMet p xs
met_front p [] ys met = All-nil (IsMet p)
met_front p (c ∷ xs) ys met = All-cons (IsMet p) c xs (met_first p c (xs ++ ys) met) (met_front p xs ys (met_rest p c (xs ++ ys) met))

pub met_back : (p : Program) (xs ys : List Claim) → AreMet p (xs ++ ys) → AreMet p ys
met_back p [] ys met = met
met_back p (c ∷ xs) ys met = met_back p xs ys (met_rest p c (xs ++ ys) met)

-- ---- one claim

pub one_met : (p : Program) (c : Claim) → Meets p c.demand → AreMet p (c ∷ [])
one_met p c h = All-cons (IsMet p) c [] h (All-nil (IsMet p))

pub one_unmet : (Large : Type 0) (p : Program) (c : Claim) (e : Failure LinkFault) → (Meets p c.demand → ⊥) → IsLinkRefusal c.file c.offset (reason_of c.demand) e → TellsEndOrLarge Large p (c ∷ []) e
one_unmet Large p c (Cause (Refused r)) h is = inl (h, is)
one_unmet Large p c (Cause TooMany) h is = absurd is
one_unmet Large p c OutOfMemory h is = tt

-- ---- a walk: what is left of the claims, where all before are met

pub record Left (p : Program) (whole rest : List Claim) : Type 0 where
  pub front : List Claim
  pub is : whole ≡ front ++ rest
  pub met : AreMet p front

pub left_all : (p : Program) (whole : List Claim) → Left p whole whole
left_all p whole = record { front = []; is = refl; met = All-nil (IsMet p) }

pub left_as : (p : Program) (whole rest other : List Claim) → rest ≡ other → Left p whole rest → Left p whole other
left_as p whole rest other e left = subst (Left p whole) e left

pub left_step : (p : Program) (whole xs ys : List Claim) → Left p whole (xs ++ ys) → AreMet p xs → Left p whole ys
left_step p whole xs ys left met = record {
  front = left.front ++ xs;
  is = left.is ∙ sym (append_assoc left.front xs ys);
  met = All-append (IsMet p) left.front xs left.met met;
}

pub left_end : (p : Program) (whole : List Claim) → Left p whole [] → AreMet p whole
left_end p whole left = subst (AreMet p) (sym (left.is ∙ append-nil left.front)) left.met

pub left_stop : (Large : Type 0) (p : Program) (whole xs ys : List Claim) (e : Failure LinkFault) → Left p whole (xs ++ ys) → TellsEndOrLarge Large p xs e → TellsEndOrLarge Large p whole e
left_stop Large p whole xs ys e left h =
    subst (λ (cs : List Claim). TellsEndOrLarge Large p cs e) (sym left.is) (end_back Large p left.front (xs ++ ys) e left.met (end_front Large p xs ys e h))

-- ---- what a list has from an item on

pub from_item : {X : Type 0} (xs : List X) (i : ℕ) (x : X) → i < length xs → x ≡ get_or xs i x → drop i xs ≡ x ∷ drop (i + 1) xs
from_item xs i x lt is = drop_more xs i x lt ∙ ap (λ y. y ∷ drop (i + 1) xs) (sym is)

-- claims of the items of a list, one after the other: `claims` of a list with a first item are those of the item and of the rest
module _ {X : Type 0} (p : Program) (claims : List X → List Claim) (one : X → List Claim) (split : (x : X) (xs : List X) → claims (x ∷ xs) ≡ one x ++ claims xs)
    (xs : List X) (i : ℕ) (x : X) (lt : i < length xs) (is : x ≡ get_or xs i x) (left : Left p (claims xs) (claims (drop i xs))) where
  at_item : Left p (claims xs) (one x ++ claims (drop (i + 1) xs))
  at_item = left_as p (claims xs) _ _ (ap claims (from_item xs i x lt is) ∙ split x (drop (i + 1) xs)) left

  pub next_item : AreMet p (one x) → Left p (claims xs) (claims (drop (i + 1) xs))
  next_item met = left_step p (claims xs) (one x) _ at_item met

  pub stop_item_or : (Large : Type 0) (e : Failure LinkFault) → TellsEndOrLarge Large p (one x) e → TellsEndOrLarge Large p (claims xs) e
  stop_item_or Large e h = left_stop Large p (claims xs) (one x) _ e at_item h

  pub stop_item : (e : Failure LinkFault) → TellsEnd p (one x) e → TellsEnd p (claims xs) e
  stop_item e h = stop_item_or ⊥ e h

pub last_item : {X : Type 0} (p : Program) (claims : List X → List Claim) → claims [] ≡ [] → (xs : List X) (i : ℕ) → length xs ≤ i
    → Left p (claims xs) (claims (drop i xs)) → AreMet p (claims xs)
last_item p claims none xs i past left = left_end p (claims xs) (left_as p (claims xs) _ _ (ap claims (drop_all i xs past) ∙ none) left)

-- ---- how claims split

pub map_flat_split : {X Y Z : Type 0} (g : Y → Z) (f : X → List Y) (x : X) (xs : List X) → map g (flat_map f (x ∷ xs)) ≡ map g (f x) ++ map g (flat_map f xs)
map_flat_split g f x xs = map-append g (f x) (flat_map f xs)

own_split : {Y : Type 0} (f : StubClass → List Y) (x : StubClass) (xs : List StubClass)
    → flat_map f (own_classes (x ∷ xs)) ≡ (cond x.is_patch [] (f x)) ++ flat_map f (own_classes xs)
own_split f x xs = by x.is_patch
  where
    by : (b : Bool) → flat_map f (cond (not b) (x ∷ own_classes xs) (own_classes xs)) ≡ (cond b [] (f x)) ++ flat_map f (own_classes xs)
    by true = refl
    by false = refl

pub own_claims_split : (f : StubClass → List Claim) (x : StubClass) (xs : List StubClass)
    → flat_map f (own_classes (x ∷ xs)) ≡ of_own f x ++ flat_map f (own_classes xs)
own_claims_split f x xs = own_split f x xs

pub own_map_split : {Y : Type 0} (g : Y → Claim) (f : StubClass → List Y) (x : StubClass) (xs : List StubClass)
    → map g (flat_map f (own_classes (x ∷ xs))) ≡ of_own (λ c. map g (f c)) x ++ map g (flat_map f (own_classes xs))
own_map_split g f x xs = by x.is_patch
  where
    by : (b : Bool) → map g (flat_map f (cond (not b) (x ∷ own_classes xs) (own_classes xs))) ≡ (cond b [] (map g (f x))) ++ map g (flat_map f (own_classes xs))
    by true = refl
    by false = map-append g (f x) _

-- ---- the interfaces of a class file

module _ (p : Program) (rule : SuperRule) (file : List ℕ) (pool : List PoolEntry) (whole : List Claim) (offset : ℕ) (xs : List ℕ) (i : ℕ) (lt : i < length xs) (name : List ℕ) where
  abbrev pub named : List ℕ → List Claim
  named text = super_claim rule (record { name = text; as_interface = true; file = file; offset = offset }) ∷ []

  abbrev pub after : List Claim
  after = map (super_claim rule) (interface_places file pool (offset + 2) (drop (i + 1) xs))

  pub at_interface : name ≡ class_or_none pool (get_or xs i 0) → Left p whole (map (super_claim rule) (interface_places file pool offset (drop i xs)))
      → Left p whole (named name ++ after)
  at_interface is left =
      left_as p whole _ _
      (ap (λ (ys : List ℕ). map (super_claim rule) (interface_places file pool offset ys)) (drop_more xs i 0 lt)
      ∙ ap (λ (text : List ℕ). named text ++ after) (sym is)) left
