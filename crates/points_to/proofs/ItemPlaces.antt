-- Items by numbers, and what they stand for: which item stands for a fact or a constraint, and where it stands.
use Rattle.std.proofs.Common.{◌≡◌, ℕ, zero, suc, ◌+◌, ◌⊎◌, List, [], ◌∷◌, ◌++◌, Some, length, take, refl, sym, ◌∙◌, ap, subst, add-one}
use Rattle.std.specs.List.{slice_get, All, AllZip, Contains}
use Rattle.std.proofs.lemmas.Option.{none-some, same_Some}
use Rattle.std.proofs.lemmas.List.Elements.{Contains-push_cases, Contains-push, Contains-append_left}
use Rattle.jvm_model.specs.declared.number.MethodNo.{MethodNo}
use Rattle.jvm_model.specs.declared.number.SiteNo.{SiteNo}
use Rattle.jvm_model.specs.declared.site.Site.{Site}
use Rattle.op_model.specs.declared.node.NodeRef.{NodeRef}
use Rattle.least_sets.proofs.Places.{place_of, contains_at, in_front, to_front, front_push}
use Rattle.points_to_rules.specs.Facts.{Holder, may_hold, may_run, may_call}
use Rattle.points_to_constraints.specs.Items.{CallSite, Constraint as ItemConstraint, Item as RuleItem, known, constrained}
use Rattle.points_to_constraints.proofs.Holders.{zip_place}
use Rattle.points_to_numbers.specs.declared.item.Item.{Item}
use Rattle.points_to_numbers.specs.declared.item.Item.TheVariants.{Holds, Runs, Calls, Constrains}
use Rattle.points_to_numbers.specs.declared.keys.CallNo.{CallNo}
use Rattle.points_to_rules.specs.declared.place.PlaceNo.{PlaceNo}
use Rattle.points_to_numbers.specs.declared.keys.ConstraintNo.{ConstraintNo}
use Rattle.points_to_numbers.specs.Numbered.{Numbered, Grows}
use Rattle.points_to_numbers.specs.Steps.{IsItemAt}
use Rattle.points_to_numbers.proofs.Growing.{grown_item}

-- ---- which item stands for what

pub record IsHolding (n : Numbered) (i : Item) (h : Holder) (s : Site) : Type 0 where
  pub place : PlaceNo
  pub site : SiteNo
  pub is : i ≡ Holds place site
  pub holder : slice_get n.holders place.0 ≡ Some h
  pub of_site : slice_get n.sites site.0 ≡ Some s

pub record IsUsing (n : Numbered) (i : Item) (h : Holder) (u : ItemConstraint) : Type 0 where
  pub place : PlaceNo
  pub constraint : ConstraintNo
  pub is : i ≡ Constrains place constraint
  pub holder : slice_get n.holders place.0 ≡ Some h
  pub of_constraint : slice_get n.constraints constraint.0 ≡ Some u

pub record IsCalling (n : Numbered) (i : Item) (at : NodeRef) (target : MethodNo) : Type 0 where
  pub number : CallNo
  pub call : CallSite
  pub is : i ≡ Calls number target
  pub stands : slice_get n.calls number.0 ≡ Some call
  pub of_node : call.at ≡ at

module _ (n : Numbered) where
  pub holding : (i : Item) (h : Holder) (s : Site) → IsItemAt n i (known (may_hold h s)) → IsHolding n i h s
  holding (Holds place site) h s (g, t, held, there, e) =
      let holders : g ≡ h = cc in
      let sites : t ≡ s = cc in
      record { place = place; site = site; is = refl; holder = held ∙ ap Some holders; of_site = there ∙ ap Some sites }
  holding (Runs m) h s e = absurd cc
  holding (Calls call target) h s (c, at, e) = absurd cc
  holding (Constrains place constraint) h s (g, u, held, there, e) = absurd cc

  pub using : (i : Item) (h : Holder) (u : ItemConstraint) → IsItemAt n i (constrained h u) → IsUsing n i h u
  using (Holds place site) h u (g, t, held, there, e) = absurd cc
  using (Runs m) h u e = absurd cc
  using (Calls call target) h u (c, at, e) = absurd cc
  using (Constrains place constraint) h u (g, v, held, there, e) =
      let holders : g ≡ h = cc in
      let constraints : v ≡ u = cc in
      record { place = place; constraint = constraint; is = refl; holder = held ∙ ap Some holders; of_constraint = there ∙ ap Some constraints }

  pub running : (i : Item) (m : MethodNo) → IsItemAt n i (known (may_run m)) → i ≡ Runs m
  running (Holds place site) m (g, t, held, there, e) = absurd cc
  running (Runs k) m e = cc
  running (Calls call target) m (c, at, e) = absurd cc
  running (Constrains place constraint) m (g, v, held, there, e) = absurd cc

  pub calling : (i : Item) (at : NodeRef) (target : MethodNo) → IsItemAt n i (known (may_call at target)) → IsCalling n i at target
  calling (Holds place site) at target (g, t, held, there, e) = absurd cc
  calling (Runs m) at target e = absurd cc
  calling (Calls call k) at target (c, stands, e) =
      let nodes : c.at ≡ at = cc in
      let targets : k ≡ target = cc in
      record { number = call; call = c; is = ap (λ (t : MethodNo). Calls call t) targets; stands = stands; of_node = nodes }
  calling (Constrains place constraint) at target (g, v, held, there, e) = absurd cc

  -- an item stands for one thing
  pub one_meaning : (i : Item) (x y : RuleItem) → IsItemAt n i x → IsItemAt n i y → x ≡ y
  one_meaning (Holds place site) x y (g, t, held, there, e) (h, s, held2, there2, f) =
      let holders = same_Some g h (sym held ∙ held2) in
      let sites = same_Some t s (sym there ∙ there2) in
      e ∙ ap (λ (k : Holder). known (may_hold k t)) holders ∙ ap (λ (r : Site). known (may_hold h r)) sites ∙ sym f
  one_meaning (Runs m) x y e f = e ∙ sym f
  one_meaning (Calls call target) x y (c, at, e) (d, at2, f) = e ∙ ap (λ (s : CallSite). known (may_call s.at target)) (same_Some c d (sym at ∙ at2)) ∙ sym f
  one_meaning (Constrains place constraint) x y (g, v, held, there, e) (h, u, held2, there2, f) =
      let holders = same_Some g h (sym held ∙ held2) in
      let constraints = same_Some v u (sym there ∙ there2) in
      e ∙ ap (λ (k : Holder). constrained k v) holders ∙ ap (λ (r : ItemConstraint). constrained h r) constraints ∙ sym f

-- ---- lists side by side

module _ {X Y : Type 0} (R : X → Y → Type 0) where
  pub zip_back : (xs : List X) (ys : List Y) → AllZip R xs ys → (k : ℕ) (y : Y) → slice_get ys k ≡ Some y → (x : X) × (slice_get xs k ≡ Some x) × R x y
  zip_back [] [] all k y e = absurd (none-some y e)
  zip_back [] (z ∷ ys) all k y e = absurd all
  zip_back (x ∷ xs) [] all k y e = absurd all
  zip_back (x ∷ xs) (z ∷ ys) all zero y e = (x, refl, subst (λ w. R x w) (same_Some z y e) all.0)
  zip_back (x ∷ xs) (z ∷ ys) all (suc k) y e = zip_back xs ys all.1 k y e

  pub zip_append : (xs : List X) (ys : List Y) (more : List X) (others : List Y) → AllZip R xs ys → AllZip R more others → AllZip R (xs ++ more) (ys ++ others)
  zip_append [] [] more others all rest = rest
  zip_append [] (y ∷ ys) more others all rest = absurd all
  zip_append (x ∷ xs) [] more others all rest = absurd all
  zip_append (x ∷ xs) (y ∷ ys) more others all rest = (all.0, zip_append xs ys more others all.1 rest)

  pub zip_length : (xs : List X) (ys : List Y) → AllZip R xs ys → length ys ≡ length xs
  zip_length [] [] all = refl
  zip_length [] (y ∷ ys) all = absurd all
  zip_length (x ∷ xs) [] all = absurd all
  zip_length (x ∷ xs) (y ∷ ys) all = ap suc (zip_length xs ys all.1)

  pub zip_weaker : (S : X → Y → Type 0) → ((x : X) (y : Y) → R x y → S x y) → (xs : List X) (ys : List Y) → AllZip R xs ys → AllZip S xs ys
  zip_weaker S give [] [] all = tt
  zip_weaker S give [] (y ∷ ys) all = absurd all
  zip_weaker S give (x ∷ xs) [] all = absurd all
  zip_weaker S give (x ∷ xs) (y ∷ ys) all = (give x y all.0, zip_weaker S give xs ys all.1)

-- items stand for the same when the tables have grown
pub stand_grown : (n m : Numbered) → Grows n m → (items : List Item) (xs : List RuleItem) → AllZip (IsItemAt n) items xs → AllZip (IsItemAt m) items xs
stand_grown n m grows = zip_weaker (IsItemAt n) (IsItemAt m) (grown_item n m grows)

-- ---- fronts

module _ (n : Numbered) (items : List Item) (xs : List RuleItem) (stand : AllZip (IsItemAt n) items xs) where
  -- what is in front stands for an item in front
  pub front_item : (k : ℕ) (x : RuleItem) → Contains (take k xs) x → (i : Item) × Contains (take k items) i × IsItemAt n i x
  front_item k x c =
      let at = place_of (take k xs) x c in
      let inside = in_front xs k at.0 x at.1 in
      let back = zip_back (IsItemAt n) items xs stand at.0 x inside.1 in
      (back.0, contains_at (take k items) at.0 back.0 (to_front items k at.0 back.0 inside.0 back.1), back.2)

  -- an item in front stands for something in front
  pub front_rule : (k : ℕ) (i : Item) → Contains (take k items) i → (x : RuleItem) × Contains (take k xs) x × IsItemAt n i x
  front_rule k i c =
      let at = place_of (take k items) i c in
      let inside = in_front items k at.0 i at.1 in
      let there = zip_place (IsItemAt n) items xs stand at.0 i inside.1 in
      (there.0, contains_at (take k xs) at.0 there.0 (to_front xs k at.0 there.0 inside.0 there.1), there.2)

  -- what an item in front stands for is in front
  pub front_rule_is : (k : ℕ) (i : Item) (x : RuleItem) → Contains (take k items) i → IsItemAt n i x → Contains (take k xs) x
  front_rule_is k i x c at = let r = front_rule k i c in subst (λ (y : RuleItem). Contains (take k xs) y) (one_meaning n i r.0 x r.2 at) r.1

  -- the same of the whole
  pub rule_is : (i : Item) (x : RuleItem) → Contains items i → IsItemAt n i x → Contains xs x
  rule_is i x c at =
      let place = place_of items i c in
      let there = zip_place (IsItemAt n) items xs stand place.0 i place.1 in
      subst (λ (y : RuleItem). Contains xs y) (one_meaning n i there.0 x there.2 at) (contains_at xs place.0 there.0 there.1)

-- one more in front
pub one_more : {X : Type 0} (xs : List X) (k : ℕ) (x : X) → slice_get xs k ≡ Some x → take (k + 1) xs ≡ take k xs ++ x ∷ []
one_more xs k x e = rw (add-one k) (front_push xs k x e)

-- what is in front was there before, or is the last
pub last_or_before : {X : Type 0} (xs : List X) (k : ℕ) (last : X) → slice_get xs k ≡ Some last → (x : X) → Contains (take (k + 1) xs) x → Contains (take k xs) x ⊎ (last ≡ x)
last_or_before {X} xs k last e x c = Contains-push_cases (take k xs) last x (subst (λ (front : List X). Contains front x) (one_more xs k last e) c)

pub last_there : {X : Type 0} (xs : List X) (k : ℕ) (last : X) → slice_get xs k ≡ Some last → Contains (take (k + 1) xs) last
last_there {X} xs k last e = subst (λ (front : List X). Contains front last) (sym (one_more xs k last e)) (Contains-push (take k xs) last)

pub before_there : {X : Type 0} (xs : List X) (k : ℕ) (last : X) → slice_get xs k ≡ Some last → (x : X) → Contains (take k xs) x → Contains (take (k + 1) xs) x
before_there {X} xs k last e x c = subst (λ (front : List X). Contains front x) (sym (one_more xs k last e)) (Contains-append_left (take k xs) (last ∷ []) x c)

-- ---- steps

-- The steps stand for what has the property, each of them, and for all of it.
pub record StandFor (n : Numbered) (P : RuleItem → Type 0) (steps : List Item) : Type 0 where
  pub ys : List RuleItem
  pub stand : AllZip (IsItemAt n) steps ys
  pub sound : All P ys
  pub complete : (x : RuleItem) → P x → Contains ys x
