use Rattle.std.proofs.Common.{◌∙◌, refl, sym}
use Rattle.std.proofs.lemmas.Bool.{false≢true}
use Rattle.jvm_model.specs.Lookups.{lent_signature}
use Rattle.jvm_model.specs.Selection.{at_super, at_named}
use Rattle.program_model.specs.Numbers.{name_at}
use Rattle.hierarchy.proofs.ClassPlaces.{names_differ}
use Rattle.hierarchy.proofs.Chains.{step_at, top_at}
use Rattle.hierarchy.proofs.Hiding.{super_upward, upward_super, reached_top}
use Rattle.hierarchy.proofs.special.search_start.Goals as goal

pub returns-then-not-is_upward-clause-start : goal.returns-then-not-is_upward-clause-start
returns-then-not-is_upward-clause-start c =
    let p = c.args.program.now in
    at_named (λ call. false≢true (sym c.if-not-is_upward.true ∙ c.is_upward.ensures.1 (super_upward p (name_at p c.args.current.0) _ call))) refl

pub returns-in-Some-clause-class : goal.returns-in-Some-clause-class
returns-in-Some-clause-class c =
    let p = c.args.program.now in
    (step_at p c.well_formed-2.ensures.program c.args.current.0 c.in-Some.above c.super_class.result c.requires.current c.in-Some.is c.super_class.ensures).below

pub returns-in-Some-clause-start : goal.returns-in-Some-clause-start
returns-in-Some-clause-start c =
    let p = c.args.program.now in
    let is = c.well_formed-2.ensures in
    let step = step_at p is.program c.args.current.0 c.in-Some.above c.super_class.result c.requires.current c.in-Some.is c.super_class.ensures in
    at_super step.class
    (upward_super p (name_at p c.args.current.0) (record { class = name_at p c.args.named.0; signature = lent_signature c.args.signature })
    (λ e. false≢true (sym c.if-is_constructor.false ∙ c.is_constructor.ensures.1 e))
    (names_differ p is.program c.args.current.0 c.args.named.0 c.requires.current c.requires.named (sym c.eq.ensures ∙ c.if-eq.false))
    (c.is_upward.ensures.0 c.if-not-is_upward.false))
    step.at.named step.super

pub returns-in-None-clause-start : goal.returns-in-None-clause-start
returns-in-None-clause-start c =
    let p = c.args.program.now in
    let is = c.well_formed-2.ensures in
    let top = top_at p is.program c.args.current.0 c.super_class.result c.requires.current c.in-None.is c.super_class.ensures in
    let same = reached_top p c.args.current.0 (name_at p c.args.named.0) top (c.is_upward.ensures.0 c.if-not-is_upward.false) in
    absurd (names_differ p is.program c.args.current.0 c.args.named.0 c.requires.current c.requires.named (sym c.eq.ensures ∙ c.if-eq.false) same)
