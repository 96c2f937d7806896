-- The field that an instruction without a reason reads or writes.
use Rattle.std.proofs.Common.{◌≡◌, ℕ, Bool, List, Option, Some, Result, Ok, refl, sym, ap, ◌∙◌, subst}
use Rattle.std.specs.List.{slice_get}
use Rattle.std.proofs.lemmas.Option.{same_Some, none-some}
use Rattle.jvm_model.specs.declared.reason.Reason.{Reason}
use Rattle.jvm_model.specs.Instructions.{member_at}
use Rattle.jvm_model.specs.Lookups.{MemberReference, Signature}
use Rattle.jvm_model.specs.Programs.{Class, Field, Program}
use Rattle.jvm_model.specs.Resolution.{FindsField, FindsAmong, itself, above, nowhere, first, later, FieldResolution, found, other_kind, not_found}
use Rattle.machine_bytecode.specs.Machine.{NamesField}
use Rattle.lowering_reasons.specs.Reasons.{Judged, LooksUpField, wants_static}
use Rattle.program_laws.proofs.Classes.{name_is}

-- the field that is found has the name and the descriptor that are looked for
mutual
  found_signature : (p : Program) (s : Signature) (class : List ℕ) (o : Option ℕ) (n : ℕ) (f : Field) → FindsField p s class o → o ≡ Some n → slice_get p.fields n ≡ Some f → f.signature ≡ s
  found_signature p s class o n f (itself _ k d) e at =
      let number : k ≡ n = same_Some k n e in
      let same : d.field ≡ f = same_Some d.field f (sym d.stands ∙ ap (slice_get p.fields) number ∙ at) in
      sym (ap (λ (x : Field). x.signature) same) ∙ d.is
  found_signature p s class o n f (above _ _ c named none among) e at = among_signature p s _ o n f among e at

  among_signature : (p : Program) (s : Signature) (classes : List (List ℕ)) (o : Option ℕ) (n : ℕ) (f : Field) → FindsAmong p s classes o → o ≡ Some n → slice_get p.fields n ≡ Some f → f.signature ≡ s
  among_signature p s classes o n f nowhere e at = absurd (none-some n e)
  among_signature p s classes o n f (first class others k d) e at = found_signature p s class (Some k) n f d e at
  among_signature p s classes o n f (later class others _ none d) e at = among_signature p s others o n f d e at

-- the field, static or not, which is as its reference says
pub record Accessed (j : Judged) (wants : Bool) : Type 0 where
  pub names : NamesField j.program j.pool j.operand wants
  pub as_named : names.field.signature ≡ names.named.signature

resolved : (j : Judged) (m : MemberReference) (c : Class) (wants : Bool) (n : ℕ) (o : Result ℕ Reason) → member_at j.pool j.operand ≡ Some m → c.name ≡ m.class → o ≡ Ok n
    → FieldResolution j.program c m.signature wants o → Accessed j wants
resolved j m c wants n o named name e (found k field finds stands kind is) = record {
  names = record {
    named = m;
    is_named = named;
    number = k;
    found = subst (λ (x : List ℕ). FindsField j.program m.signature x (Some k)) name finds;
    field = field;
    stands = stands;
    kind = kind;
  };
  as_named = found_signature j.program m.signature c.name (Some k) k field finds refl stands;
}
resolved j m c wants n o named name e (other_kind k field finds stands kind is) = absurd (cc (e, is))
resolved j m c wants n o named name e (not_found finds is) = absurd (cc (e, is))

pub accessed : (j : Judged) (n : ℕ) → LooksUpField j (Ok n) → Accessed j (wants_static j.action)
accessed j n l = resolved j l.field l.class (wants_static j.action) n (Ok n) l.accesses.1 (name_is j.program l.field.class l.class l.named) refl l.is
