-- Keys in the order of their insertion, and the map to their first places.
use Rattle.std.proofs.Common.{◌≡◌, ℕ, ◌<◌, ◌+◌, ◌^◌, Bool, true, false, cond, eqb, ◌&&◌, List, [], ◌∷◌, ◌++◌, length, Option, Some, None, refl, sym, ◌∙◌, ap, subst, arith, inl, inr, ◌⊎◌}
use Rattle.std.specs.Option.{is_some}
use Rattle.std.proofs.lemmas.Bool.{and_parts, false≢true}
use Rattle.std.proofs.lemmas.List.{length-append}
use Rattle.std.proofs.lemmas.Map.Views.{exact_unsigned_eq}
use Rattle.std.proofs.lemmas.Cmp.{nat_eq_equiv}
use Rattle.std.proofs.lemmas.Option.{same_Some, none-some}
use Rattle.std.specs.Map.{lookup}
use Rattle.std.specs.HashMap.{HashMap, get}
use Rattle.program_index.specs.declared.numbered_key.NumberedKey.{NumberedKey}
use Rattle.program_index.specs.contracts.numbered_key.NumberedKeyPartialEq.TheImpl as key_block
use Rattle.program_index.specs.FirstPlaces.{IsFirstPlace}
use Rattle.program_index.specs.KeyPlaces.{ArePlaces}
use Rattle.program_index.proofs.ListPlaces.{first_in_longer, nowhere_in_longer, first_when_new}

abbrev eq : NumberedKey → NumberedKey → Bool
eq = (key_block.ghosts).eq

-- `==` on keys tells each two apart
pub exact_keys : (a b : NumberedKey) → eq a b ≡ true → a ≡ b
exact_keys a b h =
    let parts = and_parts (eqb a.class.0 b.class.0) (eqb a.name b.name && eqb a.descriptor b.descriptor) h in
    let texts = and_parts (eqb a.name b.name) (eqb a.descriptor b.descriptor) parts.1 in
    let class = exact_unsigned_eq a.class.0 b.class.0 parts.0 in
    let name = exact_unsigned_eq a.name b.name texts.0 in
    let descriptor = exact_unsigned_eq a.descriptor b.descriptor texts.1 in
    (λ i. record { class = record { 0 = class i }; name = name i; descriptor = descriptor i })

pub same_key : (a : NumberedKey) → eq a a ≡ true
same_key a =
    ap (λ (b : Bool). b && (eqb a.name a.name && eqb a.descriptor a.descriptor)) (nat_eq_equiv.refl a.class.0)
    ∙ ap (λ (b : Bool). b && eqb a.descriptor a.descriptor) (nat_eq_equiv.refl a.name)
    ∙ nat_eq_equiv.refl a.descriptor

true_or_false : (b : Bool) → (b ≡ true) ⊎ (b ≡ false)
true_or_false true = inl refl
true_or_false false = inr refl

pub none_is : (o : Option ℕ) → is_some o ≡ false → o ≡ None
none_is None h = refl
none_is (Some x) h = cc

some_is_not : (o : Option ℕ) → is_some o ≡ true → o ≡ None → ⊥
some_is_not None h e = absurd (false≢true h)
some_is_not (Some x) h e = absurd cc

module _ {S : Type 0} (keys : List NumberedKey) (places new : HashMap NumberedKey ℕ S) (are : ArePlaces keys places) where
  -- the map has the same entries
  pub places_stay : new.entries ≡ places.entries → ArePlaces keys new
  places_stay same = record {
    first = λ q place e. are.first q place (sym (at_key q) ∙ e);
    none = λ q e. are.none q (sym (at_key q) ∙ e);
    small = are.small;
  }
    where
      at_key : (q : NumberedKey) → get eq new q ≡ get eq places q
      at_key q = ap (lookup (eq q)) same

  module _ (x : NumberedKey) (room : length keys + 1 < 2 ^ 32) where
    -- a key that is there goes last
    pub known_push : true ≡ is_some (get eq places x) → ArePlaces (keys ++ x ∷ []) places
    known_push known = record {
      first = λ q place e. first_in_longer keys (x ∷ []) q place (are.first q place e);
      none = λ q e. nowhere_in_longer keys x q (are.none q e)
          (λ same. some_is_not _ (sym known) (ap (get eq places) (sym same) ∙ e));
      small = simp length-append (omega arith);
    }

    -- a key that is not there goes last, and the map has its place
    pub new_push : (place : ℕ) → false ≡ is_some (get eq places x) → place ≡ length keys
        → ((q : NumberedKey) → get eq new q ≡ cond (eq x q) (Some place) (get eq places q)) → ArePlaces (keys ++ x ∷ []) new
    new_push place unknown last updates = record {
      first = λ q p e. elim (true_or_false (eq x q)) [
        | inl t ↦
            let at = sym (updates q ∙ ap (λ (b : Bool). cond b (Some place) (get eq places q)) t) ∙ e in
            let p_is : length keys ≡ p = sym last ∙ same_Some _ _ at in
            let here = first_when_new keys x (are.none x (none_is _ (sym unknown))) in
            subst (λ (n : ℕ). IsFirstPlace (keys ++ x ∷ []) q n) p_is
            (subst (λ (y : NumberedKey). IsFirstPlace (keys ++ x ∷ []) y (length keys)) (exact_keys x q t) here)
        | inr f ↦
            let at = sym (updates q ∙ ap (λ (b : Bool). cond b (Some place) (get eq places q)) f) ∙ e in
            first_in_longer keys (x ∷ []) q p (are.first q p at)
      ];
      none = λ q e. elim (true_or_false (eq x q)) [
        | inl t ↦ absurd (none-some place (sym e ∙ updates q ∙ ap (λ (b : Bool). cond b (Some place) (get eq places q)) t))
        | inr f ↦
            let at = sym (updates q ∙ ap (λ (b : Bool). cond b (Some place) (get eq places q)) f) ∙ e in
            nowhere_in_longer keys x q (are.none q at)
            (λ same. absurd (false≢true (sym f ∙ ap (eq x) same ∙ same_key x)))
      ];
      small = simp length-append (omega arith);
    }
