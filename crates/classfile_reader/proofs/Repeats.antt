-- Whether a member repeats an earlier one, by the numbers of its name and its descriptor; and the answers of a loop.
use Rattle.std.proofs.Common.{◌≡◌, ℕ, ◌+◌, ◌<◌, ◌≤◌, Bool, true, false, ◌||◌, List, [], ◌∷◌, ◌++◌, length, take, get_or, Option, Some, None, slice_get, ⊎_elim, ◌⊎◌, inl, inr, refl, sym, ap, ◌∙◌, subst, arith, length-append}
use Rattle.std.specs.HashSet.{HashSet, contains}
use Rattle.std.specs.Option.{option_map_or}
use Rattle.std.proofs.lemmas.Bool.{and_parts, cases_lt, false≢true}
use Rattle.std.proofs.lemmas.Cmp.{nat_eq_equiv}
use Rattle.std.proofs.lemmas.Grind.{common_steps}
use Rattle.std.proofs.lemmas.List.Elements.{Contains-append_left, Contains-push, Contains-push_cases}
use Rattle.std.proofs.lemmas.Map.Views.{exact_unsigned_eq}
use Rattle.std.proofs.lemmas.Option.{gets, same_Some, slice_get_read, slice_get_within}
use Rattle.jvm_model.specs.declared.class_file.Member.{Member}
use Rattle.jvm_model.specs.declared.pool.PoolEntry.{PoolEntry}
use Rattle.jvm_model.specs.Lookups.{text_at}
use Rattle.jvm_model.specs.Soundness.{UseHolds}
use Rattle.jvm_model.specs.Soundness.Use.{differs}
use Rattle.classfile_reader.specs.declared.soundness.repeats.NumberedSignature.{NumberedSignature}
use Rattle.classfile_reader.specs.declared.soundness.text_numbers.TextNumbers.{TextNumbers}
use Rattle.classfile_reader.specs.Repeats.{signature_eq, AreEarlier, HasNumbers, IsListed, IsRepeat, IsSignature}
use Rattle.classfile_reader.specs.TextNumbers.{AreNumbers, StayNumbered}
use Rattle.classfile_reader.proofs.TextNumbers.{one_number, one_text, still_numbered}

abbrev some : {X : Type 0} → X → Option X
some x = Some x

-- ---- pairs of numbers

same_signature : (s t : NumberedSignature) → signature_eq s t ≡ true → s ≡ t
same_signature s t e =
    let both = and_parts _ _ e in
    let name = exact_unsigned_eq s.name t.name both.0 in
    let descriptor = exact_unsigned_eq s.descriptor t.descriptor both.1 in
    (λ i. record { name = name i; descriptor = descriptor i })

equal_itself : (s : NumberedSignature) → signature_eq s s ≡ true
equal_itself s = rw (nat_eq_equiv.refl s.name) (nat_eq_equiv.refl s.descriptor)

-- ---- the members so far

or_true : (b : Bool) → (b || true) ≡ true
or_true true = refl
or_true false = refl

or_cases : (b c : Bool) → (b || c) ≡ true → (b ≡ true) ⊎ (c ≡ true)
or_cases true c e = inl refl
or_cases false c e = inr e

still_signature : (pool : List PoolEntry) (old new : TextNumbers) (m : Member) (signature : Option NumberedSignature) → StayNumbered old new → IsSignature pool old m signature → IsSignature pool new m signature
still_signature pool old new m None stays is = is
still_signature pool old new m (Some s) stays is = record {
  name = still_numbered pool old new m.name s.name stays is.name;
  descriptor = still_numbered pool old new m.descriptor s.descriptor stays is.descriptor;
}

pub still_earlier : {S : Type 0} (pool : List PoolEntry) (earlier : List Member) (old new : TextNumbers) (signatures : HashSet NumberedSignature S) → StayNumbered old new
    → AreEarlier pool earlier old signatures → AreEarlier pool earlier new signatures
still_earlier pool earlier old new signatures stays have = record {
  among = λ s e.
      let found = have.among s e in
      (found.0, found.1, still_signature pool old new found.0 (Some s) stays found.2);
  each = λ m among.
      let one = have.each m among in
      record { signature = one.signature; is = still_signature pool old new m one.signature stays one.is; listed = one.listed };
}

-- one more member, whose numbers are added
module _ {S : Type 0} (pool : List PoolEntry) (numbers : TextNumbers) (m : Member) (signature : Option NumberedSignature) (is : IsSignature pool numbers m signature) (old new : HashSet NumberedSignature S)
    (after : (other : NumberedSignature) → contains signature_eq new other ≡ (contains signature_eq old other || option_map_or (λ (s : NumberedSignature). signature_eq s other) signature false)) where
  listed_still : (o : Option NumberedSignature) → option_map_or (contains signature_eq old) o true ≡ true → option_map_or (contains signature_eq new) o true ≡ true
  listed_still None e = refl
  listed_still (Some s) e = after s ∙ ap (λ b. b || option_map_or (λ (t : NumberedSignature). signature_eq t s) signature false) e

  listed_itself : (o : Option NumberedSignature) → signature ≡ o → option_map_or (contains signature_eq new) o true ≡ true
  listed_itself None e = refl
  listed_itself (Some s) e =
      after s ∙ ap (λ (o : Option NumberedSignature). contains signature_eq old s || option_map_or (λ (t : NumberedSignature). signature_eq t s) o false) e
      ∙ ap (λ b. contains signature_eq old s || b) (equal_itself s) ∙ or_true (contains signature_eq old s)

  its_numbers : (s : NumberedSignature) (o : Option NumberedSignature) → IsSignature pool numbers m o → option_map_or (λ (t : NumberedSignature). signature_eq t s) o false ≡ true → HasNumbers pool numbers m s
  its_numbers s None has e = absurd (false≢true e)
  its_numbers s (Some t) has e = subst (HasNumbers pool numbers m) (same_signature t s e) has

  pub earlier_more : (earlier : List Member) → AreEarlier pool earlier numbers old → AreEarlier pool (earlier ++ m ∷ []) numbers new
  earlier_more earlier have = record {
    among = λ s e. elim (or_cases _ _ (sym (after s) ∙ e)) [
      | inl before ↦
          let found = have.among s before in
          (found.0, Contains-append_left earlier (m ∷ []) found.0 found.1, found.2)
      | inr here ↦ (m, Contains-push earlier m, its_numbers s signature is here)
    ];
    each = λ e among. elim (Contains-push_cases earlier m e among) [
      | inl before ↦
          let one = have.each e before in
          record { signature = one.signature; is = one.is; listed = listed_still one.signature one.listed }
      | inr same ↦ subst (IsListed pool numbers new) same (record { signature = signature; is = is; listed = listed_itself signature refl })
    ];
  }

-- ---- the answer

module _ {S : Type 0} (pool : List PoolEntry) (earlier : List Member) (m : Member) (numbers : TextNumbers) (signatures : HashSet NumberedSignature S) where
  -- where an earlier member has the same texts, its numbers are the same
  same_listed : (signature other : Option NumberedSignature) (e : Member) (name descriptor : List ℕ) → IsSignature pool numbers m signature → IsSignature pool numbers e other
      → option_map_or (contains signature_eq signatures) signature false ≡ false → option_map_or (contains signature_eq signatures) other true ≡ true
      → text_at pool m.name ≡ Some name → text_at pool m.descriptor ≡ Some descriptor → text_at pool e.name ≡ Some name → text_at pool e.descriptor ≡ Some descriptor → ⊥
  same_listed None other e name descriptor mine theirs absent present m_name m_descriptor e_name e_descriptor = mine name descriptor m_name m_descriptor
  same_listed (Some s) None e name descriptor mine theirs absent present m_name m_descriptor e_name e_descriptor = theirs name descriptor e_name e_descriptor
  same_listed (Some s) (Some t) e name descriptor mine theirs absent present m_name m_descriptor e_name e_descriptor =
      let names : s.name ≡ t.name = one_number pool numbers m.name e.name s.name t.name name mine.name theirs.name m_name e_name in
      let descriptors : s.descriptor ≡ t.descriptor = one_number pool numbers m.descriptor e.descriptor s.descriptor t.descriptor descriptor mine.descriptor theirs.descriptor m_descriptor e_descriptor in
      let same : s ≡ t = (λ i. record { name = names i; descriptor = descriptors i }) in
      false≢true (sym absent ∙ ap (contains signature_eq signatures) same ∙ present)

  -- a member whose numbers are among those of the earlier ones repeats one of them
  old_fails : (signature : Option NumberedSignature) → AreNumbers pool numbers → IsSignature pool numbers m signature → AreEarlier pool earlier numbers signatures
      → option_map_or (contains signature_eq signatures) signature false ≡ true → UseHolds pool (differs earlier m) → ⊥
  old_fails None are mine have present holds = false≢true present
  old_fails (Some s) are mine have present holds =
      let found = have.among s present in
      let e = found.0 in
      let theirs = found.2 in
      let names = one_text pool numbers e.name m.name s.name are theirs.name mine.name in
      let descriptors = one_text pool numbers e.descriptor m.descriptor s.descriptor are theirs.descriptor mine.descriptor in
      holds mine.name.text mine.descriptor.text mine.name.stands mine.descriptor.stands e found.1 (theirs.name.stands ∙ ap some names) (theirs.descriptor.stands ∙ ap some descriptors)

  pub answer_is : (signature : Option NumberedSignature) (answer : Bool) → AreNumbers pool numbers → IsSignature pool numbers m signature → AreEarlier pool earlier numbers signatures
      → answer ≡ option_map_or (contains signature_eq signatures) signature false → IsRepeat pool earlier m answer
  answer_is signature answer are mine have told = record {
    fresh = λ absent name descriptor m_name m_descriptor e among e_name e_descriptor.
        let one = have.each e among in
        same_listed signature one.signature e name descriptor mine one.is (sym told ∙ absent) one.listed m_name m_descriptor e_name e_descriptor;
    repeated = λ present. old_fails signature are mine have (sym told ∙ present);
  }

-- ---- the answers of a loop

-- The members at the front are answered.
pub record HaveAnswers (pool : List PoolEntry) (members : List Member) (i : ℕ) (answers : List Bool) : Type 0 where
  pub long : length answers ≡ i
  pub each : (k : ℕ) (m : Member) (answer : Bool) → slice_get members k ≡ Some m → slice_get answers k ≡ Some answer → IsRepeat pool (take k members) m answer

get_earlier : (answers : List Bool) (answer : Bool) (k : ℕ) → k < length answers → slice_get (answers ++ answer ∷ []) k ≡ slice_get answers k
get_earlier answers answer k lt = grind (arith, common_steps, gets)

get_last : (answers : List Bool) (answer : Bool) (k : ℕ) → k ≡ length answers → slice_get (answers ++ answer ∷ []) k ≡ Some answer
get_last answers answer k e = grind (arith, common_steps, gets)

pub answers_more : (pool : List PoolEntry) (members : List Member) (i : ℕ) (m : Member) (answers : List Bool) (answer : Bool) → i < length members → m ≡ get_or members i m
    → HaveAnswers pool members i answers → IsRepeat pool (take i members) m answer → HaveAnswers pool members (i + 1) (answers ++ answer ∷ [])
answers_more pool members i m answers answer lt is have told = record {
  long = omega (arith, length-append answers (answer ∷ []), have.long);
  each = λ k n said here answered.
      let within = slice_get_within (answers ++ answer ∷ []) k said answered in
      let before : k < i → IsRepeat pool (take k members) n said =
      λ early. have.each k n said here (sym (get_earlier answers answer k (omega (arith, have.long))) ∙ answered) in
      let last : i ≤ k → IsRepeat pool (take k members) n said =
      λ past.
      let late : k ≡ i = omega (arith, length-append answers (answer ∷ []), have.long) in
      let one : m ≡ n = same_Some m n (sym (slice_get_read members (length members) i m refl lt is) ∙ ap (slice_get members) (sym late) ∙ here) in
      let same : answer ≡ said = same_Some answer said (sym (get_last answers answer k (late ∙ sym have.long)) ∙ answered) in
      let at_k = subst (λ (j : ℕ). IsRepeat pool (take j members) m answer) (sym late) told in
      subst (IsRepeat pool (take k members) n) same (subst (λ (x : Member). IsRepeat pool (take k members) x answer) one at_k) in
      ⊎_elim before last (cases_lt k i);
}
