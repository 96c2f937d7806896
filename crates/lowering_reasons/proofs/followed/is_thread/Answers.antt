use Rattle.std.proofs.Common.{◌≡◌, Bool, List, ℕ, refl, sym, ◌∙◌, subst}
use Rattle.std.specs.Prelude.{◌↔◌, IsTrue}
use Rattle.std.proofs.lemmas.Bool.{false≢true}
use Rattle.jvm_model.specs.Programs.{Program}
use Rattle.jvm_model.specs.Subtypes.{IsSubtype, same}
use Rattle.program_model.specs.Numbers.{name_at}
use Rattle.hierarchy.proofs.ClassPlaces.{somewhere}
use Rattle.lowering_reasons.proofs.Supertypes.{alone, above_there, named_by}
use Rattle.lowering_reasons.proofs.followed.is_thread.Goals as goal

pub returns-then-is_text : goal.returns-then-is_text
returns-then-is_text c = (λ _. same c.args.class.now (c.is_text.ensures.0 c.if-is_text.true), λ _. refl)

pub returns-in_default : goal.returns-in_default
returns-in_default c = (
  λ never. absurd (false≢true never),
  λ sub. absurd (alone c.args.program.now _ c.args.class.now (λ e. false≢true (sym c.if-is_text.false ∙ c.is_text.ensures.1 e)) c.in_default.ensures.none sub),
)

pub returns-in_default-find_class : goal.returns-in_default-find_class
returns-in_default-find_class c = (
  λ never. absurd (false≢true never),
  λ sub.
      let p = c.args.program.now in
      let program = c.well_formed-2.ensures.program in
      let found = c.in-Some.ensures.found in
      let here = named_by p program c.args.class.now c.in-Some.lower.0 found.0 found.1 in
      let above = above_there p program _ c.args.class.now here.0 here.1 sub in
      absurd (somewhere p _ above.0 above.1 c.in_default-find_class.ensures.none),
)

by_names : (p : Program) (r : Bool) (upper lower above below : List ℕ) → (IsTrue r ↔ IsSubtype p upper lower) → upper ≡ above → lower ≡ below → IsTrue r ↔ IsSubtype p above below
by_names p r upper lower above below tells e f =
    subst (λ (x : List ℕ). IsTrue r ↔ IsSubtype p x below) e (subst (λ (x : List ℕ). IsTrue r ↔ IsSubtype p upper x) f tells)

pub returns : goal.returns
returns c =
    let p = c.args.program.now in
    by_names p c.is_subtype.result (name_at p c.in-Some-find_class.upper.0) (name_at p c.in-Some.lower.0) _ c.args.class.now c.is_subtype.ensures
    c.in-Some-find_class.ensures.found.1 c.in-Some.ensures.found.1
