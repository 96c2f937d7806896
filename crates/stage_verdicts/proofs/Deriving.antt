-- From the places of a derivation to the lines that tell why a site is unproved.
use Rattle.std.proofs.Common.{◌≡◌, ◌∙◌, ◌<◌, ◌≤◌, ℕ, List, [], ◌∷◌, ◌++◌, length, map, take, get_or, All, Option, Some, refl, sym, ap, subst, arith}
use Rattle.std.specs.List.{Contains, flat_map, slice_get}
use Rattle.std.specs.Option.{option_map_or}
use Rattle.std.proofs.lemmas.List.Elements.{All-head, All-tail}
use Rattle.std.proofs.lemmas.Option.{same_Some}
use Rattle.list_laws.proofs.Places.{stands_below}
use Rattle.jvm_model.specs.declared.automaton.Automaton.{Automaton}
use Rattle.jvm_model.specs.declared.number.SiteNo.{SiteNo}
use Rattle.jvm_model.specs.declared.site.Site.{Site}
use Rattle.machine_bytecode.specs.Objects.{Subject}
use Rattle.op_model.specs.Supplies.{GivenAs}
use Rattle.least_sets.specs.Rules.{Follows, Hold, IsDerivation}
use Rattle.least_sets.proofs.Places.{nothing_in}
use Rattle.points_to_rules.specs.Facts.{Fact}
use Rattle.ground.specs.Findings.{gives_listed}
use Rattle.stage_transfer.specs.Settings.{Setting}
use Rattle.stage_transfer.specs.Stages.{Transfer}
use Rattle.stage_edges.specs.Edges.{IsError, StageInstance}
use Rattle.stage_edges.specs.Rules.{Edge, Instance, answers, call_returns, described_raises, enters, goes_on, raises, resumes, returns, start, unwinds}
use Rattle.edge_numbers.specs.Premises.{AreReasons, StandAt}
use Rattle.edge_derivations.specs.Derived.{IsCutFor}
use Rattle.ground_views.specs.declared.question.Question.{Question}
use Rattle.ground_views.specs.Questions.{GroundInstance, IsAskedOf}
use Rattle.tabulation.specs.Found.{Found}
use Rattle.report_spec.specs.Traces.{IsErrorDerivation, start_edge, trace_line}
use Rattle.stage_verdicts.specs.declared.asked.LaterStages.{LaterStages}
use Rattle.stage_verdicts.specs.LaterVerdicts.{HasErrorAt, IsAsked, IsQuestionOf, IsSubjectOf, IsTraceText}
use Rattle.stage_verdicts.specs.TraceTexts.{AreDerivationLines, line_at}
use Rattle.stage_verdicts.proofs.Judged.{IsSetting, asked_of_question, setting_here, setting_is}

-- ---- the first edge

module _ (x : Subject) (gives : GivenAs) (S : Fact → Type 0) (t : Transfer) where
  -- what follows from nothing is the start
  from_nothing : (premises : List Edge) (e : Edge) → Instance x gives S t premises e → Hold (λ (p : Edge). Contains [] p) premises → e ≡ start_edge
  from_nothing premises e start hold = refl
  from_nothing premises e (goes_on m l n en f g offset node no_call there to) hold = absurd (nothing_in _ hold.0)
  from_nothing premises e (returns m l n en f g value node is to) hold = absurd (nothing_in _ hold.0)
  from_nothing premises e (raises m l n en f g class handler spot node throws goes to) hold = absurd (nothing_in _ hold.0)
  from_nothing premises e (answers m l n en f sent g c target stub parameters result offset node is goes described listed there sends to) hold = absurd (nothing_in _ hold.0)
  from_nothing premises e (described_raises m l n en f sent g c target stub parameters class handler spot node is goes described throws lands sends to) hold = absurd (nothing_in _ hold.0)
  from_nothing premises e (enters m l n en f sent target by node sends) hold = absurd (nothing_in _ hold.0)
  from_nothing premises e (call_returns m l n en f sent out g target c offset node sends there to) hold = absurd (nothing_in _ hold.0)
  from_nothing premises e (resumes m l n en f out target exit node starts is) hold = absurd (nothing_in _ hold.0)
  from_nothing premises e (unwinds m l n en f sent out g target by class handler spot node sends throws lands to) hold = absurd (nothing_in _ hold.0)

  pub first_is_start : (edges : List Edge) → IsDerivation (Instance x gives S t) edges → (e : Edge) → slice_get edges 0 ≡ Some e → e ≡ start_edge
  first_is_start edges d e at = let f = d 0 e at in from_nothing f.premises e f.instance f.hold

-- ---- edges at places

module _ (edges : List Edge) where
  -- there are edges at places of the list
  pub edges_there : (places : List ℕ) → All (λ (p : ℕ). p < length edges) places → (these : List Edge) × StandAt edges places these
  edges_there [] all = ([], refl)
  edges_there (p ∷ places) all =
      let (e, at) = stands_below edges p (All-head (λ (k : ℕ). k < length edges) p places all) in
      let (rest, stand) = edges_there places (All-tail (λ (k : ℕ). k < length edges) p places all) in
      (e ∷ rest, λ i. at i ∷ stand i)

  -- the last one stands at the last place
  pub stand_ends : (before : List ℕ) (last : ℕ) (e : Edge) → slice_get edges last ≡ Some e → (these : List Edge) → StandAt edges (before ++ last ∷ []) these
      → (front : List Edge) × (these ≡ front ++ e ∷ [])
  stand_ends [] last e at [] stand = absurd cc
  stand_ends [] last e at (t ∷ []) stand =
      let here : slice_get edges last ≡ Some t = cc in
      let same : t ≡ e = same_Some t e (sym here ∙ at) in
      ([], λ i. same i ∷ [])
  stand_ends [] last e at (t ∷ u ∷ rest) stand = absurd cc
  stand_ends (b ∷ before) last e at [] stand = absurd cc
  stand_ends (b ∷ before) last e at (t ∷ these) stand =
      let left : StandAt edges (before ++ last ∷ []) these = cc in
      let (front, is) = stand_ends before last e at these left in
      (t ∷ front, λ i. t ∷ is i)

  module _ (n : ℕ) (s : Site) where
    -- their lines
    pub lines_there : (places : List ℕ) (these : List Edge) → StandAt edges places these → flat_map (line_at n s edges) places ≡ flat_map (trace_line n s) these
    lines_there [] [] stand = refl
    lines_there [] (e ∷ these) stand = absurd cc
    lines_there (p ∷ places) [] stand = absurd cc
    lines_there (p ∷ places) (e ∷ these) stand =
        let at : slice_get edges p ≡ Some e = cc in
        let left : StandAt edges places these = cc in
        let rest = lines_there places these left in
        (λ i. option_map_or (trace_line n s) (at i) [] ++ rest i)

-- ---- the text

-- a list that ends with something begins with something
head_of : (edges front : List Edge) (e : Edge) → edges ≡ front ++ e ∷ [] → (first : Edge) × (slice_get edges 0 ≡ Some first)
head_of [] [] e is = absurd cc
head_of [] (f ∷ front) e is = absurd cc
head_of (first ∷ rest) front e is = (first, refl)

module _ (a : LaterStages) (x : Subject) (s : Site) (asked : IsAsked a) (subject : IsSubjectOf a x) (two : 2 ≤ a.stages) (site : SiteNo) (q : Question)
    (is : IsQuestionOf a site a.stages q) (at : slice_get a.ground.now.sites site.0 ≡ Some s) (found : Found)
    (reasons : (y : Subject) (w : Setting) → IsAskedOf q y w → AreReasons (GroundInstance q y w) found.edges found.reasons) (place : ℕ) (error : HasErrorAt a.automaton.now found.edges place) where
  abbrev here : Setting
  here = setting_here a x s a.stages

  setting : IsSetting a x s a.stages here
  setting = setting_is a x s a.stages two asked.stages

  pub trace_text : (text : List ℕ) → AreDerivationLines q.setting.stage q.setting.site.now found place text → IsTraceText a x s text
  trace_text text are =
      let (e, stands, in_error) = error in
      let (before, cut) = are.cut.ends in
      let ends = stand_ends found.edges before place e stands are.these (subst (λ (ps : List ℕ). StandAt found.edges ps are.these) cut are.stand) in
      let derived = are.derived q x here (reasons x here (asked_of_question a x s a.stages asked subject two asked.stages site q is at here setting)) in
      let derivation : IsDerivation (StageInstance x (gives_listed a.ground.now.methods) (Contains a.ground.now.facts) here) are.these =
      subst (λ (g : _). IsDerivation (StageInstance x (gives_listed g.now.methods) (Contains g.now.facts) here) are.these) is.ground derived in
      let (first, begins) = head_of are.these ends.0 e ends.1 in
      let starts = first_is_start x (gives_listed a.ground.now.methods) (Contains a.ground.now.facts) _ are.these derivation first begins in
      let same_site : q.setting.site.now ≡ s = same_Some q.setting.site.now s (sym is.stands ∙ at) in
      record {
        edges = are.these;
        derivation = record {
          setting = here;
          of_stage = setting.is;
          of_error = record {
            setting = setting.of;
            starts = begins ∙ ap (λ (f : Edge). Some f) starts;
            derivation = derivation;
            error = e;
            ends = (ends.0, ends.1);
            is_error = subst (λ (p : Automaton). IsError p e.fact) (sym subject.property) in_error;
          };
        };
        text_is = are.text_is ∙ (λ i. flat_map (trace_line (is.at_stage i) (same_site i)) are.these);
      }
