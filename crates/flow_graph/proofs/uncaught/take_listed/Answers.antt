use Rattle.std.proofs.Common.{◌≡◌, ◌<◌, [], length, inl, inr, ◌++◌, List, ℕ, append-nil, refl, sym, ap, ◌∙◌, arith}
use Rattle.std.proofs.lemmas.Bool.{cases_lt, false≢true}
use Rattle.flow_graph.specs.declared.uncaught.Level.{Level}
use Rattle.flow_graph.specs.Uncaught.{listed_at}
use Rattle.flow_graph.proofs.UncaughtLevels.{takes_listed, takes_none, nothing_past}
use Rattle.flow_graph.proofs.uncaught.take_listed.Goals as goal

-- an offset past the lists has nothing
past : (offset : ℕ) (level : Level) (n : ℕ) → n ≡ length level.lists.items → (offset < n → ⊥) → listed_at level offset ≡ []
past offset level n long none = nothing_past level offset (elim (cases_lt offset n) [ inl lt ↦ absurd (none lt) | inr le ↦ omega (arith, long) ])

pub returns-in_ok-append-clause-left : goal.returns-in_ok-append-clause-left
returns-in_ok-append-clause-left c =
    takes_listed c.args.level.now _ c.args.offset c.in-Some.list.now c.append.new.other (let lt = c.in-Some.ensures.variant.0 refl in let long = c.args.level.now.lists.ok.0 in omega (arith, lt, long)) c.in-Some.ensures.value c.in_ok-append.ensures.other_items refl

pub returns-in_default-clause-taken : goal.returns-in_default-clause-taken
returns-in_default-clause-taken c =
    let items = c.args.targets.now.items in
    let level = c.args.level.now in
    let nothing = past c.args.offset level _ level.lists.ok.0 (λ lt. false≢true (c.in_default.ensures.variant.1 lt)) in
    sym (ap (λ (ts : List ℕ). items ++ ts) nothing ∙ append-nil items)

pub returns-in_default-clause-left : goal.returns-in_default-clause-left
returns-in_default-clause-left c =
    let level = c.args.level.now in
    takes_none c.args.offset level (past c.args.offset level _ level.lists.ok.0 (λ lt. false≢true (c.in_default.ensures.variant.1 lt)))
