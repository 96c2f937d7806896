use Rattle.std.proofs.Common.{◌≡◌, ◌∙◌, ℕ, Some, inl, inr, sym, subst, arith}
use Rattle.std.specs.List.{slice_get}
use Rattle.std.proofs.lemmas.Bool.{cases_lt, false≢true}
use Rattle.std.proofs.lemmas.Option.{slice_get_within}
use Rattle.list_laws.proofs.Places.{place_of, stands_below}
use Rattle.stage_edges.specs.Edges.{IsError}
use Rattle.stage_facts.specs.Facts.{SiteFact}
use Rattle.stage_verdicts.proofs.finding.error_place.Goals as goal

pub loop-place-preserved : goal.loop-place-preserved
loop-place-preserved c = record {
  none = λ k e short at error. elim (cases_lt k c.loop-place.place) [
    | inl less ↦ c.loop-place.invariant.none k e less at error
    | inr last ↦
        let same : k ≡ c.loop-place.place = (omega (arith, last, short)) in
        let own = c.fact.ensures e (subst (λ (j : ℕ). slice_get c.args.edges.now.edges j ≡ Some e) same at) in
        false≢true (sym c.if-is_error.false ∙ c.is_error.ensures.1 (subst (λ (f : SiteFact). IsError c.args.automaton.now f) (sym own) error))
  ];
}

pub returns-then-is_error : goal.returns-then-is_error
returns-then-is_error c =
    let here = stands_below c.args.edges.now.edges c.loop-place.place (let less = c.loop-place-test.true in let len = c.len-place-end.ensures in omega (arith, less, len)) in (
      here.0,
      here.1,
      subst (λ (f : SiteFact). IsError c.args.automaton.now f) (c.fact.ensures here.0 here.1) (c.is_error.ensures.0 c.if-is_error.true),
    )

pub returns : goal.returns
returns c = λ e there error.
    let place = place_of c.args.edges.now.edges e there in
    let within = slice_get_within c.args.edges.now.edges place.0 e place.1 in
    let all = c.loop-place-test.false in
    c.loop-place.invariant.none place.0 e (omega (arith, within, all)) place.1 error
