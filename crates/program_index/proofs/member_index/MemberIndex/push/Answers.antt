use Rattle.std.proofs.Common.{List, [], ◌∷◌, ◌++◌, inl, inr, ◌∙◌, ap}
use Rattle.program_index.specs.MemberKeys.{Key, key_of}
use Rattle.program_index.proofs.SpelledKeys.{keys_push, many_keys, many_texts, spelled_push}
use Rattle.program_index.proofs.member_index.MemberIndex.push.Goals as goal

pub returns-in-Err-clause-too_many : goal.returns-in-Err-clause-too_many
returns-in-Err-clause-too_many c = λ told.
    let texts = c.self.inside.texts in
    let places = c.self.inside.places in
    elim (c.in-Err.ensures.too_many told) [
      | inl many ↦ inl (many_keys texts places c.args.self.now c.self.view_is many)
      | inr many ↦ inr (many_texts texts places c.args.self.now (key_of c.args.key) c.self.invariant c.self.view_is many)
    ]

pub invariant_of-self-in_default : goal.invariant_of-self-in_default
invariant_of-self-in_default c =
    let added = c.in_default.ensures in
    spelled_push c.self.inside.texts c.add_spelled.new.texts c.self.inside.places c.add_spelled.new.places (key_of c.args.key) c.self.invariant added.extends added.places added.texts

pub returns-clause-ok : goal.returns-clause-ok
returns-clause-ok c =
    let added = c.in_default.ensures in
    keys_push c.self.inside.texts c.add_spelled.new.texts c.self.inside.places c.add_spelled.new.places (key_of c.args.key) c.self.invariant added.extends added.places
    ∙ ap (λ (ks : List Key). ks ++ key_of c.args.key ∷ []) c.self.view_is
