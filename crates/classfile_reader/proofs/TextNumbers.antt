-- Numbers of texts: a text that is numbered, and an index that is kept.
use Rattle.std.proofs.Common.{◌≡◌, ℕ, Bool, cond, List, Option, Some, None, unwrap_or, Bor, inl, inr, refl, sym, ap, ◌∙◌, subst}
use Rattle.std.specs.Bool.{nat_eq}
use Rattle.std.specs.HashMap.{HashMap, get}
use Rattle.std.specs.Str.{bytes_eq}
use Rattle.std.proofs.lemmas.Bool.{cases_Bool}
use Rattle.std.proofs.lemmas.Map.Views.{exact_unsigned_eq}
use Rattle.std.proofs.lemmas.Option.{same_Some}
use Rattle.std.proofs.lemmas.Slice.Eq.{bytes_eq-Decides}
use Rattle.jvm_model.specs.declared.pool.PoolEntry.{PoolEntry}
use Rattle.jvm_model.specs.Lookups.{text_at}
use Rattle.classfile_reader.specs.TextNumbers.{number_of, HasNumber, AreNumbers, StayNumbered}
use Rattle.classfile_reader.specs.declared.soundness.text_numbers.TextNumbers.{TextNumbers}

abbrev some : {X : Type 0} → X → Option X
some x = Some x

-- what has a number keeps it
pub still_numbered : (pool : List PoolEntry) (old new : TextNumbers) (index number : ℕ) → StayNumbered old new → HasNumber pool old index number → HasNumber pool new index number
still_numbered pool old new index number stays has = record { text = has.text; stands = has.stands; numbered = stays.stay has.text number has.numbered }

-- indices with one text have one number
pub one_number : (pool : List PoolEntry) (numbers : TextNumbers) (i j n k : ℕ) (text : List ℕ) → HasNumber pool numbers i n → HasNumber pool numbers j k → text_at pool i ≡ Some text → text_at pool j ≡ Some text → n ≡ k
one_number pool numbers i j n k text first second i_is j_is =
    let first_text = same_Some first.text text (sym first.stands ∙ i_is) in
    let second_text = same_Some second.text text (sym second.stands ∙ j_is) in
    same_Some n k (sym first.numbered ∙ ap (number_of numbers.by_text) (first_text ∙ sym second_text) ∙ second.numbered)

-- indices with one number have one text
pub one_text : (pool : List PoolEntry) (numbers : TextNumbers) (i j n : ℕ) → AreNumbers pool numbers → (first : HasNumber pool numbers i n) → (second : HasNumber pool numbers j n) → first.text ≡ second.text
one_text pool numbers i j n are first second =
    same_Some first.text second.text (sym (are.texts first.text n first.numbered) ∙ are.texts second.text n second.numbered)

-- ---- one more text

module _ {S : Type 0} (old new : HashMap (Bor (List ℕ)) ℕ S) (text : List ℕ) (index number : ℕ) (value : number ≡ unwrap_or (number_of old text) index)
    (after : (other : List ℕ) → number_of new other ≡ cond (bytes_eq text other) (Some number) (number_of old other)) where
  number_itself : number_of new text ≡ Some number
  number_itself = after text ∙ ap (λ b. cond b (some number) (number_of old text)) ((bytes_eq-Decides text text).1 refl)

  number_stays : (other : List ℕ) (n : ℕ) → number_of old other ≡ Some n → number_of new other ≡ Some n
  number_stays other n had =
      let at : (b : Bool) → bytes_eq text other ≡ b → number_of new other ≡ cond b (Some number) (number_of old other) =
      λ b e. after other ∙ ap (λ b. cond b (some number) (number_of old other)) e in
      elim (cases_Bool (bytes_eq text other)) [
        | inl equal ↦
            let same = (bytes_eq-Decides text other).0 equal in
            at _ equal ∙ ap some (value ∙ ap (λ (t : List ℕ). unwrap_or (number_of old t) index) same ∙ ap (λ (o : Option ℕ). unwrap_or o index) had)
        | inr apart ↦ at _ apart ∙ had
      ]

  module _ (pool : List PoolEntry) (stand : (other : List ℕ) (n : ℕ) → number_of old other ≡ Some n → text_at pool n ≡ Some other) (here : text_at pool index ≡ Some text) where
    number_stands : (o : Option ℕ) → number_of old text ≡ o → text_at pool (unwrap_or o index) ≡ Some text
    number_stands None e = here
    number_stands (Some n) e = stand text n e

    numbers_stand : (other : List ℕ) (n : ℕ) → number_of new other ≡ Some n → text_at pool n ≡ Some other
    numbers_stand other n e =
        let at : (b : Bool) → bytes_eq text other ≡ b → cond b (Some number) (number_of old other) ≡ Some n =
        λ b is. sym (after other ∙ ap (λ b. cond b (some number) (number_of old other)) is) ∙ e in
        elim (cases_Bool (bytes_eq text other)) [
          | inl equal ↦
              let same = (bytes_eq-Decides text other).0 equal in
              let is_n : unwrap_or (number_of old text) index ≡ n = sym value ∙ same_Some number n (at _ equal) in
              ap (text_at pool) (sym is_n) ∙ number_stands (number_of old text) refl ∙ ap some same
          | inr apart ↦ stand other n (at _ apart)
        ]

-- ---- one more index

pub numbers_more : (pool : List PoolEntry) (old new : TextNumbers) (index number : ℕ) (text : List ℕ) → AreNumbers pool old → text_at pool index ≡ Some text
    → number ≡ unwrap_or (number_of old.by_text text) index
    → ((other : List ℕ) → number_of new.by_text other ≡ cond (bytes_eq text other) (Some number) (number_of old.by_text other))
    → ((other : ℕ) → get nat_eq new.by_index other ≡ cond (nat_eq index other) (Some number) (get nat_eq old.by_index other))
    → AreNumbers pool new
numbers_more pool old new index number text are here value by_text by_index =
    let stays : StayNumbered old new = record { stay = number_stays old.by_text new.by_text text index number value by_text } in
    let itself : HasNumber pool new index number = record { text = text; stands = here; numbered = number_itself old.by_text new.by_text text index number value by_text } in
    let numbered : (other n : ℕ) → get nat_eq new.by_index other ≡ Some n → HasNumber pool new other n =
    λ other n e.
    let at : (b : Bool) → nat_eq index other ≡ b → cond b (Some number) (get nat_eq old.by_index other) ≡ Some n =
    λ b is. sym (by_index other ∙ ap (λ b. cond b (some number) (get nat_eq old.by_index other)) is) ∙ e in
    elim (cases_Bool (nat_eq index other)) [
      | inl equal ↦
          let there = subst (λ (i : ℕ). HasNumber pool new i number) (exact_unsigned_eq index other equal) itself in
          subst (HasNumber pool new other) (same_Some number n (at _ equal)) there
      | inr apart ↦ still_numbered pool old new other n stays (are.indices other n (at _ apart))
    ] in
    record { texts = numbers_stand old.by_text new.by_text text index number value by_text pool are.texts here; indices = numbered }
