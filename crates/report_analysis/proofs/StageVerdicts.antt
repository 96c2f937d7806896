-- From whether the first stage proves a site safe to its verdict: where it does, or where no later stage is asked for.
use Rattle.std.proofs.Common.{◌≡◌, ◌≤◌, ℕ, Bool, true, false, List, [], ◌∷◌, map, refl, subst, arith}
use Rattle.std.specs.List.{AllByRecursion, AllZip, Contains, slice_get}
use Rattle.std.specs.Prelude.{Some}
use Rattle.std.proofs.lemmas.Bool.{false≢true}
use Rattle.std.proofs.lemmas.List.Elements.{recursion_from_All}
use Rattle.list_laws.proofs.Members.{contains_first, contains_later}
use Rattle.jvm_model.specs.declared.automaton.Automaton.{Automaton}
use Rattle.jvm_model.specs.declared.automaton.Event.{Event}
use Rattle.jvm_model.specs.declared.site.Site.{Site}
use Rattle.jvm_model.specs.Automata.{IsAutomaton}
use Rattle.machine_bytecode.specs.Objects.{Subject}
use Rattle.op_model.specs.Supplies.{GivenAs}
use Rattle.points_to_rules.specs.Facts.{Fact, Holder, may_hold}
use Rattle.ground.specs.Findings.{Findings, gives_listed}
use Rattle.site_report.specs.declared.tracked_site.TrackedSite.{TrackedSite}
use Rattle.site_report.specs.declared.verdict.Verdict.TheVariants.{Safe}
use Rattle.site_report.specs.Sites.{site_in}
use Rattle.prune_stage.specs.Pruning.{IsPruned, IsPruningOf, MayOccur}
use Rattle.prune_stage.specs.StageOne.{state_after}
use Rattle.report_spec.specs.Verdicts.{Asked, AtLimitBy, IsVerdict, IsVerdictBy, SafeBy, by_events, by_edges, of_edges}
use Rattle.report_analysis.specs.Written.{verdict_of}

module _ (x : Subject) (gives : GivenAs) (S : Fact → Type 0) (w : Asked) (some : 1 ≤ w.stages) where
  pub pruned_is_safe : (s : Site) → IsPruned gives S x.property s
      → IsVerdictBy (SafeBy x gives S w.depth w.fact_limit s) (AtLimitBy x gives S w.depth w.fact_limit s) w.stages (Safe 1)
  pruned_is_safe s pruned = record {
    from_one = omega arith;
    within = some;
    has = by_events refl pruned;
    none_earlier = λ earlier one lt safe. absurd (omega (arith, one, lt));
  }

  -- no stage but the first one is asked for
  not_safe : w.stages ≡ 1 → (s : Site) (stage : ℕ) → stage ≤ w.stages → (IsPruned gives S x.property s → ⊥) → SafeBy x gives S w.depth w.fact_limit s stage → ⊥
  not_safe first s stage within unproved (by_events is pruned) = unproved pruned
  not_safe first s stage within unproved (by_edges setting of below) = let two = of.from_two in omega arith

  no_limit : w.stages ≡ 1 → (s : Site) (stage : ℕ) → stage ≤ w.stages → AtLimitBy x gives S w.depth w.fact_limit s stage → ⊥
  no_limit first s stage within (of_edges setting of many) = let two = of.from_two in omega arith

  verdict_is : (t : TrackedSite) (answer : Bool) → (answer ≡ false → w.stages ≡ 1) → IsPruningOf x.program gives S x.property t answer
      → IsVerdict x gives S w t (verdict_of answer)
  verdict_is t true enough told = pruned_is_safe (site_in x.program t) (told.0 refl)
  verdict_is t false enough told = (
    record { none = λ stage one within safe. not_safe (enough refl) (site_in x.program t) stage within (λ pruned. false≢true (told.1 pruned)) safe },
    record { none = λ stage one within limit. no_limit (enough refl) (site_in x.program t) stage within limit },
  )

  pub first_verdicts_are : (sites : List TrackedSite) (answers : List Bool) → (Contains answers false → w.stages ≡ 1)
      → AllZip (IsPruningOf x.program gives S x.property) sites answers → AllZip (IsVerdict x gives S w) sites (map verdict_of answers)
  first_verdicts_are [] [] enough all = tt
  first_verdicts_are [] (answer ∷ answers) enough all = absurd all
  first_verdicts_are (t ∷ sites) [] enough all = absurd all
  first_verdicts_are (t ∷ sites) (answer ∷ answers) enough all = (
    verdict_is t answer (λ is. enough (subst (λ (b : Bool). Contains (answer ∷ answers) b) is (contains_first answer answers))) all.0,
    first_verdicts_are sites answers (λ later. enough (contains_later answer false answers later)) all.1,
  )

-- ---- a site without a number

module _ (g : Findings) (a : Automaton) (automaton : IsAutomaton a)
    (held : (h : Holder) (s : Site) → Contains g.facts (may_hold h s) → (number : ℕ) × (slice_get g.sites number ≡ Some s)) (s : Site)
    (nowhere : (number : ℕ) → slice_get g.sites number ≡ Some s → ⊥) where
  -- no event may occur at its objects
  no_word : (word : List Event) → AllByRecursion (MayOccur (gives_listed g.methods) (Contains g.facts) a s) word → state_after a.initial word ≡ a.error → ⊥
  no_word [] all leads = automaton.starts_sound leads
  no_word (e ∷ word) all leads =
      let o = all.0 in
      let (number, stands) = held o.from s o.holds in
      nowhere number stands

  pub unheld_is_pruned : IsPruned (gives_listed g.methods) (Contains g.facts) a s
  unheld_is_pruned = record { no_word = λ word all leads. no_word word (recursion_from_All (MayOccur (gives_listed g.methods) (Contains g.facts) a s) word all) leads }
