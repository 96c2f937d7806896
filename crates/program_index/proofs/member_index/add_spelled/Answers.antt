use Rattle.std.proofs.Common.{List, ℕ, [], ◌∷◌, Err, inl, inr, ap, subst}
use Rattle.std.proofs.lemmas.Result.{err_from_is_err_and, on_ok_weaker}
use Rattle.std.proofs.lemmas.Option.{slice_get_within, get_or_from_slice_get}
use Rattle.failure.specs.declared.Failure.TheVariants.{Cause}
use Rattle.program_index.specs.declared.numbered_key.NumberedKey.{NumberedKey}
use Rattle.program_index.specs.Limits.{AreTooMany, too_many}
use Rattle.program_index.specs.TextNumbers.{with_text, with_texts}
use Rattle.program_index.proofs.SpelledKeys.{kept_error}
use Rattle.program_index.proofs.TextPlaces.{stands_longer, too_many_longer, with_texts_extends}
use Rattle.program_index.proofs.member_index.add_spelled.Goals as goal

pub returns-in_err-name-clause-too_many : goal.returns-in_err-name-clause-too_many
returns-in_err-name-clause-too_many c = λ told.
    let texts = c.args.texts.now in
    let s = c.args.key.signature in
    let p = err_from_is_err_and c.from_residual.result c.from_residual.ensures.1 in
    let same = kept_error c.from_residual.result p.0 c.in_err-name.field-0.0 (Cause too_many) p.1 p.2 told in
    inr (too_many_longer texts (with_texts texts (s.name.now ∷ s.descriptor.now ∷ [])) (with_texts_extends texts (s.name.now ∷ s.descriptor.now ∷ [])) (c.in_err-name.ensures.too_many.0 (ap Err same)).1)

pub returns-in_err-descriptor-clause-too_many : goal.returns-in_err-descriptor-clause-too_many
returns-in_err-descriptor-clause-too_many c = λ told.
    let texts = c.args.texts.now in
    let s = c.args.key.signature in
    let p = err_from_is_err_and c.from_residual-in_err-descriptor.result c.from_residual-in_err-descriptor.ensures.1 in
    let same = kept_error c.from_residual-in_err-descriptor.result p.0 c.in_err-descriptor.field-0.0 (Cause too_many) p.1 p.2 told in
    let middle = subst (λ (ts : List (List ℕ)). AreTooMany ts) c.in_ok-name.ensures.ok (c.in_err-descriptor.ensures.too_many.0 (ap Err same)).1 in
    inr (too_many_longer (with_text texts s.name.now) (with_texts texts (s.name.now ∷ s.descriptor.now ∷ [])) (with_texts_extends (with_text texts s.name.now) (s.descriptor.now ∷ [])) middle)

pub returns-clause-places : goal.returns-clause-places
returns-clause-places c =
    let middle = c.intern.new.self in
    let last = c.intern-2.new.self in
    let s = c.args.key.signature in
    let at_name = stands_longer middle last c.in_ok-descriptor.ensures.extends _ _ c.in_ok-name.ensures.stands in
    let at_descriptor = c.in_ok-descriptor.ensures.stands in
    let numbered : NumberedKey = record { class = c.args.key.class; name = c.in_ok-name.name; descriptor = c.in_ok-descriptor.descriptor } in
    let name = get_or_from_slice_get last c.in_ok-name.name s.name.now [] at_name in
    let descriptor = get_or_from_slice_get last c.in_ok-descriptor.descriptor s.descriptor.now [] at_descriptor in
    on_ok_weaker c.push.result (λ pushed. record {
      last = numbered;
      is = pushed;
      has = record {
        name = slice_get_within last c.in_ok-name.name s.name.now at_name;
        descriptor = slice_get_within last c.in_ok-descriptor.descriptor s.descriptor.now at_descriptor;
      };
      spells = (λ i. record { class = c.args.key.class.0; signature = record { name = name i; descriptor = descriptor i } });
    }) c.push.ensures.ok

pub returns-clause-too_many : goal.returns-clause-too_many
returns-clause-too_many c = λ told. inl (c.push.ensures.too_many.0 told)
