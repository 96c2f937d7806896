use Rattle.std.proofs.Common.{ℕ, Some, List, slice_get, sym, ◌∙◌, ap, subst}
use Rattle.program_index.specs.FirstPlaces.{StandsNowhere}
use Rattle.program_index.proofs.text_index.TextIndex.find.Goals as goal

pub returns-in_err-number-clause-none : goal.returns-in_err-number-clause-none
returns-in_err-number-clause-none c =
    let text = c.args.text.now in
    let none = c.self.invariant.none text (sym c.in_err-number.ensures.value) in
    rw c.from_residual.ensures (subst (λ (texts : List (List ℕ)). StandsNowhere texts text) c.self.view_is none)

pub returns-in_err-number-clause-only : goal.returns-in_err-number-clause-only
returns-in_err-number-clause-only c = λ number stands.
    let none = c.self.invariant.none c.args.text.now (sym c.in_err-number.ensures.value) in
    absurd (none.nowhere number (ap (λ (texts : List (List ℕ)). slice_get texts number) c.self.view_is ∙ stands))

pub returns-clause-found : goal.returns-clause-found
returns-clause-found c =
    ap (λ (texts : List (List ℕ)). slice_get texts c.in_ok-number.number.now) (sym c.self.view_is)
    ∙ c.self.invariant.found c.args.text.now c.in_ok-number.number.now (sym c.in_ok-number.ensures.value)

pub returns-clause-only : goal.returns-clause-only
returns-clause-only c = λ number stands.
    let text = c.args.text.now in
    let found = c.self.invariant.found text c.in_ok-number.number.now (sym c.in_ok-number.ensures.value) in
    let there = ap (λ (texts : List (List ℕ)). slice_get texts number) c.self.view_is ∙ stands in
    ap (λ (n : ℕ). Some n) (c.self.invariant.numbered.distinct.one_place _ _ text found there)
