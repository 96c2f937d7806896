use Rattle.std.proofs.Common.{◌≡◌, ℕ, ◌<◌, true, false, List, length, get_or, refl, sym, ◌∙◌, subst, arith}
use Rattle.std.specs.List.{Contains}
use Rattle.std.proofs.lemmas.List.Elements.{Contains-get_or}
use Rattle.std.proofs.lemmas.Option.{slice_get_within}
use Rattle.jvm_model.specs.declared.code.Handler.{Handler}
use Rattle.lowering_handlers.specs.declared.catches.Catch.TheVariants.{Each}
use Rattle.lowering_handlers.specs.Catches.{IsUnknownEntry}
use Rattle.lowering_handlers.specs.Entries.{IsUsed}
use Rattle.lowering_handlers.proofs.TakenHandlers.{as_long, covering_below}
use Rattle.lowering_handlers.proofs.MarkedEntries.{entry_unknown, unknown_entry, none_more, is_marked, marked_is}
use Rattle.lowering_handlers.proofs.entries.first_unknown.Goals as goal
use Rattle.lowering_handlers.proofs.entries.first_unknown.Goals.{else-index-via-then-index+else-is_unknown, else-index-via-else-index}

pub used_entries-requires : goal.used_entries-requires
used_entries-requires c = λ k d lt n e within.
    let step = get_or c.args.steps.now k d in
    let there = subst (λ (xs : List ℕ). Contains xs (get_or step.handlers n e)) (c.requires.covering k d lt) (Contains-get_or step.handlers n e within) in
    covering_below c.args.handlers.now step.offset (get_or step.handlers n e) there

pub bounds-catches-place : goal.bounds-catches-place
bounds-catches-place c =
    let long = as_long c.args.program.now c.args.pool.now c.args.handlers.now c.args.catches.now c.requires.catches in
    omega (arith, c.loop-place-test.true, long)

pub returns-clause-none : goal.returns-clause-none
returns-clause-none c = λ place used unknown.
    let within = slice_get_within c.args.handlers.now place unknown.handler unknown.stands in
    let past = c.loop-place-test.false in
    c.loop-place.invariant.none place (omega (arith, within, past)) used unknown

pub returns-then-is_unknown-clause-found : goal.returns-then-is_unknown-clause-found
returns-then-is_unknown-clause-found c =
    let p = c.args.program.now in
    let pool = c.args.pool.now in
    let handlers = c.args.handlers.now in
    let catches = c.args.catches.now in
    let place = c.loop-place.place in
    let lt : place < length handlers = c.loop-place-test.true in
    let marks = c.in_ok-used.ensures in
    let inside : place < length c.in_ok-used.used.items = subst (λ (n : ℕ). place < n) (sym marks.long) lt in
    let marked = is_marked c.in_ok-used.used.items place c.index.result.now inside (sym c.index.ensures ∙ c.if-index.true) in
    let none : Handler = record { start = 0; finish = 0; target = 0; catch_type = 0 } in
    record {
      used = (marks.each place lt).0 marked;
      unknown = entry_unknown p pool handlers catches c.requires.catches place none Each lt (c.if-is_unknown.ensures.0 refl);
      first = c.loop-place.invariant.none;
    }

pub loop-place-preserved : goal.loop-place-preserved
loop-place-preserved c =
    let p = c.args.program.now in
    let pool = c.args.pool.now in
    let handlers = c.args.handlers.now in
    let place = c.loop-place.place in
    let lt : place < length handlers = c.loop-place-test.true in
    let marks = c.in_ok-used.ensures in
    let inside : place < length c.in_ok-used.used.items = subst (λ (n : ℕ). place < n) (sym marks.long) lt in
    let Both : ℕ → Type 0 = λ k. IsUsed c.args.steps.now k × IsUnknownEntry p pool handlers k in
    let more = none_more Both place (λ k less h. c.loop-place.invariant.none k less h.0 h.1) in
    elim c.else-index.branch [
      | else-index-via-then-index+else-is_unknown w ↦
          let here : Both place → ⊥ = λ h.
          let known : false ≡ true = sym w.if-is_unknown.false ∙ w.is_unknown.ensures.1 (unknown_entry p pool handlers c.args.catches.now c.requires.catches c.well_formed-2.ensures.program place Each h.1) in
          cc in
          record { none = λ k less used unknown. more here k less (used, unknown) }
      | else-index-via-else-index w ↦
          let here : Both place → ⊥ = λ h.
          let marked : true ≡ false = sym (marked_is c.in_ok-used.used.items place c.index.result.now inside ((marks.each place lt).1 h.0)) ∙ sym c.index.ensures ∙ w.if-index.false in
          cc in
          record { none = λ k less used unknown. more here k less (used, unknown) }
    ]
