-- What the path edges of a stage say of a site.
use Rattle.std.proofs.Common.{◌≡◌, ◌∙◌, ◌<◌, ◌≤◌, ℕ, List, length, Option, None, Some, refl, sym, ap, subst, arith}
use Rattle.std.specs.List.{Contains, slice_get}
use Rattle.std.specs.Prelude.{MatchOption}
use Rattle.std.proofs.lemmas.Option.{same_Some}
use Rattle.list_laws.proofs.Places.{contains_at}
use Rattle.jvm_model.specs.declared.number.SiteNo.{SiteNo}
use Rattle.std.proofs.lemmas.List.Elements.{All-contains}
use Rattle.jvm_model.specs.declared.automaton.Automaton.{Automaton}
use Rattle.jvm_model.specs.declared.site.Site.{Site}
use Rattle.machine_bytecode.specs.Objects.{Subject}
use Rattle.least_sets.specs.Parts.{HasAtLeast}
use Rattle.least_sets.specs.Rules.{IsDerivable}
use Rattle.least_sets.proofs.Derivations.{derivable_in_closed}
use Rattle.least_sets.proofs.Parts.{at_least_facts}
use Rattle.ground.specs.Findings.{gives_listed}
use Rattle.stage_transfer.specs.Settings.{Setting}
use Rattle.stage_edges.specs.Edges.{ArePathEdges, IsError, IsSettingOf, StageInstance}
use Rattle.stage_edges.specs.Rules.{Edge}
use Rattle.report_spec.specs.Verdicts.{IsStageOf, by_edges, by_events, of_edges}
use Rattle.listed_answers.specs.ListedAnswers.{answers_by}
use Rattle.listed_answers.proofs.Answering.{are_answers}
use Rattle.ground_views.specs.declared.question.Question.{Question}
use Rattle.ground_views.specs.Questions.{IsAskedOf}
use Rattle.tabulation.specs.Found.{Found}
use Rattle.stage_verdicts.specs.declared.asked.LaterStages.{LaterStages}
use Rattle.stage_verdicts.specs.declared.finding.Finding.{Finding}
use Rattle.stage_verdicts.specs.declared.finding.Finding.TheVariants as findings
use Rattle.stage_verdicts.specs.LaterVerdicts.{HasAsMany, HasErrorAt, HasFound, HasNoError, IsAsked, IsAtLimitBy, IsFinding, IsFoundBy, IsQuestionOf, IsSafeBy, IsSubjectOf}

module _ (a : LaterStages) (x : Subject) (s : Site) (stage : ℕ) where
  -- A setting of the stage at the site.
  pub record IsSetting (w : Setting) : Type 0 where
    pub is : IsStageOf a.depth s stage w
    pub of : IsSettingOf x (Contains a.ground.now.facts) w

  abbrev Rules : Setting → List Edge → Edge → Type 0
  Rules w = StageInstance x (gives_listed a.ground.now.methods) (Contains a.ground.now.facts) w

  abbrev pub setting_here : Setting
  setting_here = record { property = x.property; site = s; stage = stage; depth = a.depth; answers = answers_by a.ground.now.facts }

  -- ---- there are fewer path edges than the limit

  module _ (edges : List Edge) (are : (w : Setting) → IsSetting w → ArePathEdges x (gives_listed a.ground.now.methods) (Contains a.ground.now.facts) w edges) (few : length edges < a.limit) where
    pub not_at_limit : IsAtLimitBy a x s stage → ⊥
    not_at_limit (of_edges w is at) =
        let many = at_least_facts (Rules w) edges a.limit (are w (record { is = is; of = at.setting })).least at.many in
        omega (arith, many, few)

    pub safe_so : IsSetting setting_here → ((e : Edge) → Contains edges e → IsError x.property e.fact → ⊥) → IsSafeBy a x s stage
    safe_so here none =
        by_edges setting_here here.is (record { setting = here.of; edges = edges; are = are setting_here here; few = few; no_error = none })

    pub not_safe : 2 ≤ stage → (e : Edge) → Contains edges e → IsError x.property e.fact → IsSafeBy a x s stage → ⊥
    not_safe from e there error (by_events one pruned) = omega (arith, from, one)
    not_safe from e there error (by_edges w is safe) =
        safe.no_error e
        (derivable_in_closed (Rules w) (Contains safe.edges) e
        (All-contains (IsDerivable (Rules w)) edges e (are w (record { is = is; of = safe.setting })).least.derivable there) safe.are.least.closed) error

  -- ---- there are as many as the limit

  module _ (many : (w : Setting) → IsSetting w → HasAtLeast (Rules w) (λ (e : Edge). Some e) a.limit) where
    pub at_limit : IsSetting setting_here → IsAtLimitBy a x s stage
    at_limit here = of_edges setting_here here.is (record { setting = here.of; many = many setting_here here })

    pub not_safe_at_limit : 2 ≤ stage → IsSafeBy a x s stage → ⊥
    not_safe_at_limit from (by_events one pruned) = omega (arith, from, one)
    not_safe_at_limit from (by_edges w is safe) =
        let few = safe.few in
        let least = at_least_facts (Rules w) safe.edges a.limit safe.are.least (many w (record { is = is; of = safe.setting })) in
        omega (arith, few, least)

-- ---- subjects and settings

-- what is asked of is a subject
abbrev pub own : LaterStages → Subject
own a = record { program = a.ground.now.program; property = a.automaton.now; entry = a.entry.0 }

pub own_is : (a : LaterStages) → IsSubjectOf a (own a)
own_is a = record { program = refl; entry = refl; property = refl }

pub setting_is : (a : LaterStages) (x : Subject) (s : Site) (stage : ℕ) → 2 ≤ stage → stage ≤ 4 → IsSetting a x s stage (setting_here a x s stage)
setting_is a x s stage from up_to = record {
  is = record { from_two = from; up_to_four = up_to; number = refl; site = refl; fields = refl };
  of = record { property = refl; answers = are_answers a.ground.now.facts };
}

-- each of them is asked of
pub setting_asked : (a : LaterStages) (q : Question) (x : Subject) (s : Site) (stage : ℕ) → IsAsked a → IsSubjectOf a x → q.ground ≡ a.ground → q.entry ≡ a.entry
    → q.setting.automaton ≡ a.automaton → q.setting.site.now ≡ s → q.setting.stage ≡ stage → q.setting.depth ≡ a.depth → (w : Setting) → IsSetting a x s stage w → IsAskedOf q x w
setting_asked a q x s stage asked subject ground entry automaton site number depth w is = record {
  program = subject.program ∙ ap (λ (g : _). g.now.program) (sym ground);
  entry = subject.entry ∙ ap (λ (m : _). m.0) (sym entry);
  like = record {
    property = is.of.property ∙ subject.property ∙ ap (λ (p : _). p.now) (sym automaton);
    site = is.is.site ∙ sym site;
    stage = is.is.number ∙ sym number;
    depth = is.is.fields ∙ sym depth;
    few = subst (λ (n : ℕ). n ≤ 3) (sym is.is.fields) asked.depth;
  };
  setting = subst (λ (g : _). IsSettingOf x (Contains g.now.facts) w) (sym ground) is.of;
}

-- ---- what is found

module _ (a : LaterStages) (x : Subject) (s : Site) (stage : ℕ) (asked : IsAsked a) (subject : IsSubjectOf a x) (from : 2 ≤ stage) (up_to : stage ≤ 4) (site : SiteNo) (q : Question)
    (is : IsQuestionOf a site stage q) (at : slice_get a.ground.now.sites site.0 ≡ Some s) where
  -- it is asked of each setting of the stage
  pub asked_of_question : (w : Setting) → IsSetting a x s stage w → IsAskedOf q x w
  asked_of_question w setting =
      setting_asked a q x s stage asked subject is.ground is.entry is.automaton (same_Some q.setting.site.now s (sym is.stands ∙ at)) is.at_stage is.depth w setting

  module _ (found : Found) (has : HasFound q found) where
    abbrev edges : List Edge
    edges = found.edges

    pub are_here : (w : Setting) → IsSetting a x s stage w → ArePathEdges x (gives_listed a.ground.now.methods) (Contains a.ground.now.facts) w edges
    are_here w setting =
        subst (λ (g : _). ArePathEdges x (gives_listed g.now.methods) (Contains g.now.facts) w edges) is.ground (has.edges x w (asked_of_question w setting))

    few_here : length edges < a.limit
    few_here = subst (λ (n : ℕ). length edges < n) is.limit has.few

    pub finding_of_place : (place : Option ℕ) → MatchOption place (HasNoError a.automaton.now edges) (HasErrorAt a.automaton.now edges) → (f : Finding) → IsFoundBy place f → IsFinding a x s stage f
    finding_of_place None none f is_by =
        subst (IsFinding a x s stage) (sym is_by)
        (safe_so a x s stage edges are_here few_here (setting_is a x s stage from up_to) (λ e there error. none e there (subst (λ (p : Automaton). IsError p e.fact) subject.property error)))
    finding_of_place (Some place) (e, stands, error) f is_by =
        subst (IsFinding a x s stage) (sym is_by) (
          not_safe a x s stage edges are_here few_here from e (contains_at edges place e stands) (subst (λ (p : Automaton). IsError p e.fact) (sym subject.property) error),
          not_at_limit a x s stage edges are_here few_here,
        )

  pub limit_is_found : HasAsMany q → IsFinding a x s stage findings.AtLimit
  limit_is_found many = (not_safe_at_limit a x s stage here from, at_limit a x s stage here (setting_is a x s stage from up_to))
    where
      here : (w : Setting) → IsSetting a x s stage w → HasAtLeast (StageInstance x (gives_listed a.ground.now.methods) (Contains a.ground.now.facts) w) (λ (e : Edge). Some e) a.limit
      here w setting =
          subst (λ (n : ℕ). HasAtLeast (StageInstance x (gives_listed a.ground.now.methods) (Contains a.ground.now.facts) w) (λ (e : Edge). Some e) n) is.limit
          (subst (λ (g : _). HasAtLeast (StageInstance x (gives_listed g.now.methods) (Contains g.now.facts) w) (λ (e : Edge). Some e) q.limit) is.ground (many x w (asked_of_question w setting)))
