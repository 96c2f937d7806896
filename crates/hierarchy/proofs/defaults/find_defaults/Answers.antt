use Rattle.std.proofs.Common.{ℕ, Option, Some, None, sym, ap, inl, inr}
use Rattle.std.proofs.lemmas.Bool.{cases_eq}
use Rattle.std.proofs.lemmas.Option.{none-some, same_Some}
use Rattle.jvm_model.specs.Lookups.{lent_signature}
use Rattle.jvm_model.specs.declared.number.MethodNo.{MethodNo}
use Rattle.program_model.specs.Numbers.{name_at}
use Rattle.hierarchy.proofs.Specific.{such_default, default_such}
use Rattle.hierarchy.proofs.defaults.find_defaults.Goals as goal

pub returns-in_default : goal.returns-in_default
returns-in_default c = λ n default.
    let p = c.args.program.now in
    c.in_default.ensures n (default_such p (name_at p c.args.class.0) (lent_signature c.args.signature) None n (none-some (record { 0 = n })) default)

pub returns-in-Some-first_inherited : goal.returns-in-Some-first_inherited
returns-in-Some-first_inherited c =
    let p = c.args.program.now in
    let s = lent_signature c.args.signature in
    let class = name_at p c.args.class.0 in
    let first = c.in-Some.first in
    let second = c.in-Some-first_inherited.field-0 in
    let such = c.in-Some-first_inherited.ensures in
    let some_method : ℕ → Option MethodNo = λ n. Some (record { 0 = n }) in
    record {
      first = first.0;
      second = second.0;
      first_default = such_default p class s None first.0 c.in-Some.ensures;
      second_default = such_default p class s (Some first) second.0 such;
      differ = λ e. such.taken.0 (ap some_method e);
    }

pub returns-in-None : goal.returns-in-None
returns-in-None c =
    let p = c.args.program.now in
    let s = lent_signature c.args.signature in
    let class = name_at p c.args.class.0 in
    let first = c.in-Some.first in
    record {
      default = such_default p class s None first.0 c.in-Some.ensures;
      only = λ other default. elim (cases_eq other first.0) [
        | inl same ↦ same
        | inr differs ↦ absurd (c.in-None.ensures other (default_such p class s (Some first) other (λ e. differs (sym (ap (λ (m : MethodNo). m.0) (same_Some first (record { 0 = other }) e)))) default))
      ];
    }
