-- Walks upward that look for a class: one that hides a method of another package, or one of a name.
use Rattle.std.specs.Prelude.{codes}
use Rattle.std.proofs.Common.{◌≡◌, ◌≢◌, ℕ, zero, suc, ◌<◌, Bool, true, false, List, [], ◌∷◌, length, get_or, Option, Some, None, IfNone, refl, sym, ◌∙◌, ap, subst, arith, inl, inr}
use Rattle.std.specs.Bool.{IsTrue}
use Rattle.std.specs.List.{slice_get, Contains}
use Rattle.std.specs.Option.{is_some, unwrap_or}
use Rattle.std.proofs.lemmas.Bool.{false≢true}
use Rattle.std.proofs.lemmas.Option.{same_Some}
use Rattle.jvm_model.specs.Lookups.{Signature, MemberReference}
use Rattle.jvm_model.specs.Programs.{Class, Method, Program}
use Rattle.jvm_model.specs.Subtypes.{IsChain}
use Rattle.jvm_model.specs.Selection.{StandsBelow, IsPackageOverridden, IsPackagePrivate, IsSuperCall, StartsSearch, at_super, at_named}
use Rattle.jvm_model.specs.declared.number.ClassNo.{ClassNo}
use Rattle.program_model.specs.Numbers.{name_at}
use Rattle.hierarchy.specs.Searches.{IsReachedUpward, Hides, HidesAlong, AnswersHidden, AnswersNamed, IsHidden}
use Rattle.hierarchy.specs.Upward.{AnswersFirst, IsFirstUpward}
use Rattle.hierarchy.proofs.Walks.{HasAlong}
use Rattle.hierarchy.proofs.Chains.{IsTop, chain_same}

-- ---- hiding

pub none_then : {X : Type 0} (found : Option X) (Q : Type 0) → is_some found ≡ false → IfNone found Q → Q
none_then None Q is none = none
none_then (Some x) Q is none = absurd (false≢true (sym is))

-- what a walk finds that looks for a class that hides
hidden_first : (p : Program) (owner : List ℕ) (s : Signature) (chain : List Class) (found : Option Bool) → AnswersFirst (AnswersHidden p owner s) chain found
    → (IsTrue (unwrap_or found false) → HidesAlong p owner s chain) × (HidesAlong p owner s chain → IsTrue (unwrap_or found false))
hidden_first p owner s [] (Some answer) h = absurd h
hidden_first p owner s [] None h = (λ t. absurd (false≢true t), λ along. absurd along)
hidden_first p owner s (c ∷ chain) (Some true) (inl here) = (λ t. (here.0, inl here.1), λ along. refl)
hidden_first p owner s (c ∷ chain) (Some true) (inr above) = (λ t. (above.0.0, inr ((hidden_first p owner s chain (Some true) above.1).0 t)), λ along. refl)
hidden_first p owner s (c ∷ chain) (Some false) (inl here) = (λ t. absurd (false≢true t), λ along. absurd (along.0 here))
hidden_first p owner s (c ∷ chain) (Some false) (inr above) = (
  λ t. absurd (false≢true t),
  λ along. elim along.1 [ inl hides ↦ absurd (above.0.1 hides) | inr later ↦ (hidden_first p owner s chain (Some false) above.1).1 later ],
)
hidden_first p owner s (c ∷ chain) None h = (
  λ t. absurd (false≢true t),
  λ along. elim along.1 [ inl hides ↦ absurd (h.0.1 hides) | inr later ↦ (hidden_first p owner s chain None h.1).1 later ],
)

pub hidden_found : (p : Program) (start owner : List ℕ) (s : Signature) (found : Option Bool) → IsFirstUpward p (AnswersHidden p owner s) start found
    → (IsTrue (unwrap_or found false) → IsHidden p start owner s) × (IsHidden p start owner s → IsTrue (unwrap_or found false))
hidden_found p start owner s found walk =
    let first = hidden_first p owner s walk.chain found walk.first in (
      λ t. record { chain = walk.chain; of_start = walk.of_start; hides = first.0 t },
      λ h. first.1 (subst (HidesAlong p owner s) (chain_same p (Some start) h.chain walk.chain h.of_start walk.of_start) h.hides),
    )

-- ---- a method of another package

-- A class of the chain, below the owner, that hides.
record HidesBelow (p : Program) (owner : List ℕ) (s : Signature) (chain : List Class) : Type 0 where
  below : Class
  between : StandsBelow owner chain below
  hides : Hides p owner s below.name

hides_below : (p : Program) (owner : List ℕ) (s : Signature) (chain : List Class) → HidesAlong p owner s chain → HidesBelow p owner s chain
hides_below p owner s [] h = absurd h
hides_below p owner s (c ∷ chain) h =
    elim h.1 [
      | inl here ↦ record { below = c; between = (h.0, inl refl); hides = here }
      | inr above ↦
          let later = hides_below p owner s chain above in
          record { below = later.below; between = (h.0, inr later.between); hides = later.hides }
    ]

below_hides : (p : Program) (owner : List ℕ) (s : Signature) (chain : List Class) (c : Class) → StandsBelow owner chain c → Hides p owner s c.name → HidesAlong p owner s chain
below_hides p owner s [] c between hides = absurd between
below_hides p owner s (d ∷ chain) c between hides =
    elim between.1 [
      | inl same ↦ (between.0, inl (subst (λ (x : Class). Hides p owner s x.name) (sym same) hides))
      | inr later ↦ (between.0, inr (below_hides p owner s chain c later hides))
    ]

pub hidden_overridden : (p : Program) (class : List ℕ) (resolved : ℕ) (m : Method) → slice_get p.methods resolved ≡ Some m → IsPackagePrivate m
    → IsHidden p class m.class m.signature → IsPackageOverridden p class resolved
hidden_overridden p class resolved m stands private hidden =
    let found = hides_below p m.class m.signature hidden.chain hidden.hides in
    record {
      method = m;
      stands = stands;
      package_private = private;
      chain = hidden.chain;
      of_class = hidden.of_start;
      below = found.below;
      between = found.between;
      number = found.hides.number;
      declares = found.hides.declares;
      other_package = found.hides.other_package;
    }

pub overridden_hidden : (p : Program) (class : List ℕ) (resolved : ℕ) (m : Method) → slice_get p.methods resolved ≡ Some m → IsPackageOverridden p class resolved
    → IsHidden p class m.class m.signature
overridden_hidden p class resolved m stands h =
    let method_is = same_Some h.method m (sym h.stands ∙ stands) in
    let hides : Hides p h.method.class h.method.signature h.below.name = record { number = h.number; declares = h.declares; other_package = h.other_package } in
    let hidden : IsHidden p class h.method.class h.method.signature =
    record { chain = h.chain; of_start = h.of_class; hides = below_hides p h.method.class h.method.signature h.chain h.below h.between hides } in
    subst (λ (x : Method). IsHidden p class x.class x.signature) method_is hidden

-- ---- a class of a name

named_above : (chain : List Class) (name : List ℕ) (number : ℕ) → HasAlong (λ c n. c.name ≡ name) chain number → (above : Class) × Contains chain above × (above.name ≡ name)
named_above [] name number h = absurd h
named_above (c ∷ chain) name number (inl here) = (c, (0, omega arith, refl), here)
named_above (c ∷ chain) name number (inr later) =
    let found = named_above chain name number later in
    let at = found.1 in
    let lt = at.1 in
    (found.0, (suc at.0, omega (arith, lt), at.2), found.2)

above_named : (chain : List Class) (k : ℕ) (above : Class) (name : List ℕ) (number : ℕ) → k < length chain → get_or chain k above ≡ above → above.name ≡ name
    → HasAlong (λ c n. c.name ≡ name) chain number
above_named [] k above name number lt at named = absurd (omega (arith, lt))
above_named (c ∷ chain) zero above name number lt at named = inl (ap (λ (x : Class). x.name) at ∙ named)
above_named (c ∷ chain) (suc k) above name number lt at named = inr (above_named chain k above name number (omega (arith, lt)) at named)

-- whether one is found along a chain
named_first : (name : List ℕ) (chain : List Class) (found : Option ClassNo) → AnswersFirst (AnswersNamed name) chain found
    → (IsTrue (is_some found) → HasAlong (λ c n. c.name ≡ name) chain 0) × (HasAlong (λ c n. c.name ≡ name) chain 0 → IsTrue (is_some found))
named_first name [] (Some number) first = absurd first
named_first name [] None first = (λ t. absurd (false≢true t), λ along. absurd along)
named_first name (c ∷ chain) (Some number) (inl here) = (λ t. inl here, λ along. refl)
named_first name (c ∷ chain) (Some number) (inr above) = (λ t. inr ((named_first name chain (Some number) above.1).0 refl), λ along. refl)
named_first name (c ∷ chain) None first = (
  λ t. absurd (false≢true t),
  λ along. elim along [ inl here ↦ absurd (first.0 here) | inr above ↦ (named_first name chain None first.1).1 above ],
)

-- what a walk finds that looks for a class by its name
pub reached_found : (p : Program) (start name : List ℕ) (found : Option ClassNo) → IsFirstUpward p (AnswersNamed name) start found
    → (IsTrue (is_some found) → IsReachedUpward p start name) × (IsReachedUpward p start name → IsTrue (is_some found))
reached_found p start name found walk =
    let first = named_first name walk.chain found walk.first in (
      λ t.
          let above = named_above walk.chain name 0 (first.0 t) in
          record { chain = walk.chain; of_start = walk.of_start; above = above.0; stands = above.1; named = above.2 },
      λ h.
          let same = chain_same p (Some start) h.chain walk.chain h.of_start walk.of_start in
          let along = above_named h.chain h.stands.0 h.above name 0 h.stands.1 h.stands.2 h.named in
          first.1 (subst (λ (list : List Class). HasAlong (λ c n. c.name ≡ name) list 0) same along),
    )

-- a class without a superclass is the only one that is reached from it
pub reached_top : (p : Program) (n : ℕ) (name : List ℕ) → IsTop p n → IsReachedUpward p (name_at p n) name → name_at p n ≡ name
reached_top p n name top h =
    let alone : h.chain ≡ top.class ∷ [] = chain_same p (Some (name_at p n)) h.chain (top.class ∷ []) h.of_start (top.at.named, subst (λ (v : Option (List ℕ)). IsChain p v []) (sym top.super) tt) in
    let along = above_named h.chain h.stands.0 h.above name 0 h.stands.1 h.stands.2 h.named in
    elim (subst (λ (list : List Class). HasAlong (λ c n. c.name ≡ name) list 0) alone along) [ inl here ↦ top.at.name ∙ here | inr above ↦ absurd above ]

-- ---- calls of a superclass's method

pub super_upward : (p : Program) (current : List ℕ) (m : MemberReference) → IsSuperCall p current m → IsReachedUpward p current m.class
super_upward p current m h = record { chain = h.chain; of_start = h.upward; above = h.above; stands = h.stands; named = h.named }

pub upward_super : (p : Program) (current : List ℕ) (m : MemberReference) (no_constructor : m.signature.name ≢ codes "<init>") → current ≢ m.class → IsReachedUpward p current m.class → IsSuperCall p current m
upward_super p current m no_constructor other h =
    record { no_constructor = no_constructor; other = other; chain = h.chain; upward = h.of_start; above = h.above; stands = h.stands; named = h.named }

-- the search begins at one class
pub starts_same : (p : Program) (current : List ℕ) (m : MemberReference) (x y : List ℕ) → StartsSearch p current m x → StartsSearch p current m y → x ≡ y
starts_same p current m x y (at_super c call named super) (at_super d also named_too super_too) =
    same_Some x y (sym super ∙ ap (λ (v : Class). v.super_class) (same_Some c d (sym named ∙ named_too)) ∙ super_too)
starts_same p current m x y (at_super c call named super) (at_named none is) = absurd (none call)
starts_same p current m x y (at_named none is) (at_super d also named super) = absurd (none also)
starts_same p current m x y (at_named none is) (at_named none_too is_too) = is ∙ sym is_too

-- whether a method is hidden is whether the method of its class and signature is
pub hidden_iff : (p : Program) (class owner : List ℕ) (s : Signature) (resolved : ℕ) (m : Method) (answer : Bool) → slice_get p.methods resolved ≡ Some m → IsPackagePrivate m
    → m.class ≡ owner → m.signature ≡ s → (IsTrue answer → IsHidden p class owner s) → (IsHidden p class owner s → IsTrue answer)
    → (IsTrue answer → IsPackageOverridden p class resolved) × (IsPackageOverridden p class resolved → IsTrue answer)
hidden_iff p class owner s resolved m answer stands private owner_is s_is to back = (
  λ t. hidden_overridden p class resolved m stands private
      (subst (λ (o : List ℕ). IsHidden p class o m.signature) (sym owner_is) (subst (λ (x : Signature). IsHidden p class owner x) (sym s_is) (to t))),
  λ h. back (subst (λ (x : Signature). IsHidden p class owner x) s_is (subst (λ (o : List ℕ). IsHidden p class o m.signature) owner_is (overridden_hidden p class resolved m stands h))),
)
