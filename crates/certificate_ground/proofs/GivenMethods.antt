-- The methods that are listed as reached: what is given of one more.
use Rattle.std.proofs.Common.{◌≡◌, ◌⊎◌, ℕ, ◌+◌, Bool, true, false, not, cond, List, [], ◌∷◌, ◌++◌, Some, None, Result, Ok, Err, map, take, refl, sym, ◌∙◌, ap, subst, inl, inr, arith}
use Rattle.std.specs.List.{slice_get, list_any, Contains}
use Rattle.std.proofs.lemmas.Option.{none-some}
use Rattle.std.proofs.lemmas.List.Elements.{Contains-append_left, Contains-push, Contains-push_cases}
use Rattle.list_laws.proofs.Members.{contains_none}
use Rattle.list_laws.proofs.Places.{contains_at, front_more, in_front, map_at, place_of, push_cases}
use Rattle.indexmap.specs.IndexSet.{insert_key}
use Rattle.indexmap.proofs.CallerLemmas.{Contains-list_any}
use Rattle.jvm_model.specs.declared.number.MethodNo.{MethodNo}
use Rattle.jvm_model.specs.declared.reason.Refusal.{Refusal}
use Rattle.jvm_model.specs.Programs.{Program}
use Rattle.op_model.specs.declared.lowered.LoweredMethod.{LoweredMethod}
use Rattle.op_model.specs.Supplies.{GivenAs, IsSameSupply}
use Rattle.points_to_rules.specs.declared.running_method.RunningMethod.{RunningMethod}
use Rattle.points_to_rules.specs.Solutions.{IsSupplyOf}
use Rattle.ground.specs.Added.{AreAdded}
use Rattle.ground.specs.Lists.{HaveDifferentNumbers, number_of}
use Rattle.ground.proofs.ExactKeys.{same_methods, tells_methods}
use Rattle.ground.proofs.KeySets.{is_there}
use Rattle.slot_names.specs.KeptNames.{name_table}
use Rattle.slot_names.specs.Tables.{AreNames}
use Rattle.certificate_ground.specs.Reached.{AreGivenOf, IsGivenAs, IsListedLast}

-- ---- a supply that gives the same

pub same_itself : (gives : GivenAs) → IsSameSupply gives gives
same_itself gives = record { entries = λ m a. ((λ g. g), (λ g. g)) }

pub same_on : (one other third : GivenAs) → IsSameSupply one other → IsSameSupply other third → IsSameSupply one third
same_on one other third first second = record { entries = λ m a. ((λ g. (first.entries m a).0 ((second.entries m a).0 g)), (λ g. (second.entries m a).1 ((first.entries m a).1 g))) }

pub same_back : (one other : GivenAs) → IsSameSupply one other → IsSameSupply other one
same_back one other same = record { entries = λ m a. ((λ g. (same.entries m a).1 g), (λ g. (same.entries m a).0 g)) }

pub supply_same : (p : Program) (old new : GivenAs) → IsSameSupply old new → IsSupplyOf p old → IsSupplyOf p new
supply_same p old new same h = record {
  serves = λ number coded. (let served = h.serves number coded in (served.0, (same.entries number served.0).1 served.1));
  coded = λ number answer g. h.coded number answer ((same.entries number answer).0 g);
  methods = λ number l g. h.methods number l ((same.entries number (Ok l)).0 g);
}

pub given_same : (old new : GivenAs) → IsSameSupply old new → (numbers : List MethodNo) (methods : List RunningMethod) → AreGivenOf old numbers methods → AreGivenOf new numbers methods
given_same old new same numbers methods are = record {
  only = λ r there. let (listed, given) = are.only r there in (listed, (same.entries (number_of r).0 (Ok r.method)).1 given);
  all = λ m l listed given. are.all m l listed ((same.entries m.0 (Ok l)).0 given);
  named = are.named;
  apart = are.apart;
}

-- ---- one method

-- a method is given as one thing
pub given_one : (gives : GivenAs) (one : (number : ℕ) (a b : Result LoweredMethod Refusal) → gives number a → gives number b → a ≡ b) (m : MethodNo) (l : LoweredMethod)
    → gives m.0 (Ok l) → IsGivenAs gives m (Some l)
given_one gives one m l given = (given, λ k other. (let both : Ok k ≡ Ok l = one m.0 (Ok k) (Ok l) other given in cc))

-- one that is refused is not given
pub refused_none : (gives : GivenAs) (one : (number : ℕ) (a b : Result LoweredMethod Refusal) → gives number a → gives number b → a ≡ b) (m : MethodNo) (r : Refusal)
    → gives m.0 (Err r) → IsGivenAs gives m None
refused_none gives one m r refused = λ l given. (let both : Ok l ≡ Err r = one m.0 (Ok l) (Err r) given refused in cc)

-- ---- none yet

pub given_start : (gives : GivenAs) → AreGivenOf gives [] []
given_start gives = record {
  only = λ r there. absurd (contains_none r there);
  all = λ m l there given. absurd (contains_none m there);
  named = λ r there. absurd (contains_none r there);
  apart = λ i j a b at_i at_j same. absurd (none-some a at_i);
}

-- ---- one more

module _ (gives : GivenAs) (old new : List MethodNo) (method : MethodNo) (methods : List RunningMethod) (are : AreGivenOf gives old methods) (added : AreAdded (λ m. m ≡ method) old new) where
  -- one that was there changes nothing
  pub given_again : Contains old method → AreGivenOf gives new methods
  given_again there = record {
    only = λ r listed. let (was, given) = are.only r listed in ((added.each (number_of r)).1 (inl was), given);
    all = λ m l is given. elim ((added.each m).0 is) [
      | inl before ↦ are.all m l before given
      | inr same ↦ are.all m l (subst (λ (k : MethodNo). Contains old k) (sym same) there) given
    ];
    named = are.named;
    apart = are.apart;
  }

  -- nor does one that is not given
  pub given_none : IsGivenAs gives method None → AreGivenOf gives new methods
  given_none none = record {
    only = λ r listed. let (was, given) = are.only r listed in ((added.each (number_of r)).1 (inl was), given);
    all = λ m l is given. elim ((added.each m).0 is) [
      | inl before ↦ are.all m l before given
      | inr same ↦ absurd (none l (subst (λ (k : MethodNo). gives k.0 (Ok l)) same given))
    ];
    named = are.named;
    apart = are.apart;
  }

  module _ (fresh : Contains old method → ⊥) (l : LoweredMethod) (is : IsGivenAs gives method (Some l)) (number_is : l.method ≡ method) (after : List RunningMethod)
      (last : IsListedLast l methods after) where
    last_number : number_of last.listed ≡ method
    last_number = ap (λ (k : LoweredMethod). k.method) last.is ∙ number_is

    stood : (r : RunningMethod) → Contains after r → Contains methods r ⊎ (last.listed ≡ r)
    stood r there = Contains-push_cases methods last.listed r (subst (λ (rs : List RunningMethod). Contains rs r) last.added there)

    is_last : Contains after last.listed
    is_last = subst (λ (rs : List RunningMethod). Contains rs last.listed) (sym last.added) (Contains-push methods last.listed)

    still : (r : RunningMethod) → Contains methods r → Contains after r
    still r there = subst (λ (rs : List RunningMethod). Contains rs r) (sym last.added) (Contains-append_left methods (last.listed ∷ []) r there)

    last_given : Contains new (number_of last.listed) × gives (number_of last.listed).0 (Ok last.listed.method)
    last_given = (
      (added.each (number_of last.listed)).1 (inr last_number),
      subst (λ (k : MethodNo). gives k.0 (Ok last.listed.method)) (sym last_number) (subst (λ (k : LoweredMethod). gives method.0 (Ok k)) (sym last.is) is.0),
    )

    -- none of those before has the number
    other_number : (r : RunningMethod) → Contains methods r → number_of r ≡ method → ⊥
    other_number r there same = fresh (subst (λ (k : MethodNo). Contains old k) same (are.only r there).0)

    apart_more : HaveDifferentNumbers after
    apart_more i j a b at_i at_j same =
        elim (push_cases methods last.listed i a (subst (λ (rs : List RunningMethod). slice_get rs i ≡ Some a) last.added at_i)) [
          | inl old_i ↦ elim (push_cases methods last.listed j b (subst (λ (rs : List RunningMethod). slice_get rs j ≡ Some b) last.added at_j)) [
            | inl old_j ↦ are.apart i j a b old_i old_j same
            | inr last_j ↦ absurd (other_number a (contains_at methods i a old_i) (same ∙ ap number_of last_j.1 ∙ last_number))
          ]
          | inr last_i ↦ elim (push_cases methods last.listed j b (subst (λ (rs : List RunningMethod). slice_get rs j ≡ Some b) last.added at_j)) [
            | inl old_j ↦ absurd (other_number b (contains_at methods j b old_j) (sym same ∙ ap number_of last_i.1 ∙ last_number))
            | inr last_j ↦ last_i.0 ∙ sym last_j.0
          ]
        ]

    -- one that is given goes last
    pub given_more : AreGivenOf gives new after
    given_more = record {
      only = λ r there. elim (stood r there) [
        | inl before ↦ (let (was, given) = are.only r before in ((added.each (number_of r)).1 (inl was), given))
        | inr same ↦ subst (λ (x : RunningMethod). Contains new (number_of x) × gives (number_of x).0 (Ok x.method)) same last_given
      ];
      all = λ m k listed given. elim ((added.each m).0 listed) [
        | inl before ↦ (let (r, there, same) = are.all m k before given in (r, still r there, same))
        | inr same ↦ (last.listed, is_last, last.is ∙ sym (is.1 k (subst (λ (n : MethodNo). gives n.0 (Ok k)) same given)))
      ];
      named = λ r there. elim (stood r there) [
        | inl before ↦ are.named r before
        | inr same ↦ subst (λ (x : RunningMethod). AreNames x.method (name_table x.names)) same last.named
      ];
      apart = apart_more;
    }

-- ---- numbers, one after the other

module _ (methods : List RunningMethod) (apart : HaveDifferentNumbers methods) (k : ℕ) (m : RunningMethod) (at : slice_get methods k ≡ Some m) where
  -- the number is none of those before
  not_before : Contains (map number_of (take k methods)) (number_of m) → ⊥
  not_before there =
      let (i, stands) = place_of (map number_of (take k methods)) (number_of m) there in
      let (r, r_at, same) = map_at number_of (take k methods) i (number_of m) stands in
      let (less, r_stands) = in_front methods k i r r_at in
      let one = apart i k r m r_stands at same in
      omega (arith, less, one)

  number_added : (keys : List MethodNo) (b : Bool) → keys ≡ map number_of (take k methods) → list_any (same_methods (number_of m)) keys ≡ b
      → cond b keys (keys ++ number_of m ∷ []) ≡ map number_of (take (k + 1) methods)
  number_added keys true are found = absurd (not_before (subst (λ (ks : List MethodNo). Contains ks (number_of m)) are (Contains-list_any same_methods tells_methods.exact keys (number_of m) found)))
  number_added keys false are found =
      ap (λ (ks : List MethodNo). ks ++ number_of m ∷ []) are
      ∙ sym (map_push (take k methods))
      ∙ ap (λ (ms : List RunningMethod). map number_of ms) (sym (front_more methods k m at))
    where
      map_push : (ms : List RunningMethod) → map number_of (ms ++ m ∷ []) ≡ map number_of ms ++ number_of m ∷ []
      map_push [] = refl
      map_push (x ∷ xs) = ap (λ (ns : List MethodNo). number_of x ∷ ns) (map_push xs)

  pub one_more_number : (old new : List MethodNo) → old ≡ map number_of (take k methods) → new ≡ insert_key same_methods old (number_of m)
      → new ≡ map number_of (take (k + 1) methods)
  one_more_number old new are is = is ∙ number_added old (list_any (same_methods (number_of m)) old) are refl

-- ---- whether a key was there, by what an insertion answers

pub old_key : (keys : List MethodNo) (m : MethodNo) (is_new : Bool) → is_new ≡ not (list_any (same_methods m) keys) → is_new ≡ false → Contains keys m
old_key keys m is_new is e = by (list_any (same_methods m) keys) refl (sym is ∙ e)
  where
    by : (b : Bool) → list_any (same_methods m) keys ≡ b → not (list_any (same_methods m) keys) ≡ false → Contains keys m
    by true there none = (is_there same_methods tells_methods keys m true (sym there)).0 refl
    by false there none = absurd (let e : not false ≡ false = ap not (sym there) ∙ none in cc)

pub new_key : (keys : List MethodNo) (m : MethodNo) (is_new : Bool) → is_new ≡ not (list_any (same_methods m) keys) → is_new ≡ true → Contains keys m → ⊥
new_key keys m is_new is e there =
    let found = (is_there same_methods tells_methods keys m (list_any (same_methods m) keys) refl).1 there in
    let both : not true ≡ true = ap not (sym found) ∙ sym is ∙ e in
    absurd (cc)
