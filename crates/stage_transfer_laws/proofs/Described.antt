-- After a described method, which keeps the objects in some slots and gives a result, the tuple is rerooted.
use Rattle.access_paths.specs.declared.root.Root.TheVariants.{Slot}
use Rattle.access_paths.specs.Paths.{bare}
use Rattle.std.proofs.Common.{Some, ◌≡◌, ℕ, Bool, true, false, cond, List, [], ◌∷◌, map, refl, sym, ◌∙◌, ap, subst}
use Rattle.std.specs.Prelude.{◌≢◌}
use Rattle.std.specs.List.{Contains}
use Rattle.std.proofs.lemmas.Bool.{false≢true}
use Rattle.jvm_model.specs.declared.site.Site.{Site}
use Rattle.op_model.specs.declared.lowered.LoweredMethod.{LoweredMethod}
use Rattle.op_model.specs.declared.node.Node.{Node}
use Rattle.op_model.specs.declared.op.Call.{Call as NodeCall}
use Rattle.stage_facts.specs.Facts.{Tuple, SiteFact, none_yet, some_yet, of_object}
use Rattle.stage_transfer.specs.Settings.{Setting, same_site}
use Rattle.stage_transfer.specs.Calls.{Result, an_argument, a_new_object, another, after_answer, giving, written_by}
use Rattle.stage_transfer.specs.Changes.{changed, writing}
use Rattle.stage_transfer.specs.Operations.{after_new, beside_new, on_tuples, puts_away}
use Rattle.stage_transfer.specs.Stages.{finished}
use Rattle.stage_relations.specs.Laws.{IsIdle, Meets}
use Rattle.stage_relations.specs.Roots.{Answered, Doubles, HasVariables}
use Rattle.stage_relations.specs.Relations.{IsBorn, IsNewResult, PutsAway, Reroots}
use Rattle.stage_transfer_laws.proofs.Alike.{Knows}
use Rattle.stage_transfer_laws.proofs.Answered.{given_moves, other_moves}
use Rattle.stage_transfer_laws.proofs.Changed.{changed_reroots}
use Rattle.stage_transfer_laws.proofs.CutRelations.{away_cut, reroots_cut}
use Rattle.stage_transfer_laws.proofs.Finished.{finished_cut}
use Rattle.stage_transfer_laws.proofs.Results.{idle_stays, meets_only, new_first, new_further, new_some}
use Rattle.stage_transfer_laws.proofs.Sites.{is_site, site_is}
use Rattle.stage_transfer_laws.proofs.Tuples.{away_puts, away_reroots, beside_reroots, beside_unique}

-- The slots of the call are written after the objects are kept.
abbrev written : Setting → LoweredMethod → Node → NodeCall → List ℕ → Tuple → Tuple
written w l n c kept t = changed (writing w l n (written_by c)) (puts_away kept t)

module _ (w : Setting) (knows : Knows w) (l : LoweredMethod) (n : Node) (has : HasVariables l n) (c : NodeCall) (kept : List ℕ) where
  -- The roots are rerooted as the result says.
  abbrev Given : Result → Tuple → Tuple → Type 0
  Given result u v = Reroots (Answered c result) (Doubles l n (Answered c result)) (IsNewResult c result) u v

  -- What the law asks for of a result.
  abbrev Answers : Result → Tuple → Tuple → Type 0
  Answers result u v = Given result u v × PutsAway kept u v × (result ≡ a_new_object w.site → v.unique ≡ false)

  answers : (result : Result) (u v : Tuple) → Given result (puts_away kept u) v → (result ≡ a_new_object w.site → v.unique ≡ false)
      → Meets (Answers result u) (map (finished w) (of_object v ∷ []))
  answers result u v r unique =
      let cut = finished_cut w.stage v in
      meets_only w (Answers result u) v
      (reroots_cut cut (away_reroots kept u r), away_cut kept u cut (away_puts kept u r), λ is. cut.unique ∙ unique is)

  -- No argument is given.
  others : (result : Result) → ((z : ℕ) → result ≢ an_argument z) → (u : Tuple) → Given result (puts_away kept u) (written w l n c kept u)
  others result other u = changed_reroots (other_moves w knows l n has c result other) (IsNewResult c result) (puts_away kept u)

  new_answers : (site : Site) (u : Tuple)
      → Meets (Answers (a_new_object site) u) (map (finished w) (after_answer w l n c kept (a_new_object site) (of_object u)))
  new_answers site u = by (same_site site w.site) refl
    where
      rerooted : Given (a_new_object site) (puts_away kept u) (written w l n c kept u)
      rerooted = others (a_new_object site) (λ z e. absurd cc) u

      made : (z : ℕ) → c.result ≡ Some z → IsNewResult c (a_new_object site) (bare (Slot z))
      made z slot = record { site = site; result_is = refl; slot = record { slot = z; target_is = slot; path_is = refl } }

      by : (b : Bool) → same_site site w.site ≡ b → Meets (Answers (a_new_object site) u)
          (map (finished w) (cond b (after_new w c.result (written w l n c kept) (of_object u)) (on_tuples (written w l n c kept) (of_object u))))
      by true is =
          answers (a_new_object site) u (beside_new c.result (written w l n c kept u)) (beside_reroots c.result made rerooted)
          (λ same. beside_unique c.result (written w l n c kept u))
      by false is =
          answers (a_new_object site) u (written w l n c kept u) rerooted
          (λ (same : a_new_object site ≡ a_new_object w.site).
          let one : site ≡ w.site = cc in
          absurd (false≢true (sym is ∙ subst (λ (s : Site). same_site s w.site ≡ true) (sym one) (is_site w.site))))

  pub answer_meets : (result : Result) (u : Tuple)
      → Meets (λ v. Reroots (Answered c result) (Doubles l n (Answered c result)) (IsNewResult c result) u v × PutsAway kept u v
      × (result ≡ a_new_object w.site → v.unique ≡ false)) (map (finished w) (after_answer w l n c kept result (of_object u)))
  answer_meets (an_argument z) u =
      answers (an_argument z) u (changed (giving w l n c z) (puts_away kept u))
      (changed_reroots (given_moves w knows l n has c z) (IsNewResult c (an_argument z)) (puts_away kept u))
      (λ (same : an_argument z ≡ a_new_object w.site). absurd cc)
  answer_meets (a_new_object site) u = new_answers site u
  answer_meets another u =
      answers another u (written w l n c kept u) (others another (λ z e. absurd cc) u) (λ (same : another ≡ a_new_object w.site). absurd cc)

-- ---- facts without an object

pub answer_idle : (w : Setting) (l : LoweredMethod) (n : Node) (c : NodeCall) (kept : List ℕ) (result : Result) (f : SiteFact) → IsIdle f
    → result ≢ a_new_object w.site
    → Contains (map (finished w) (after_answer w l n c kept result f)) f
answer_idle w l n c kept (an_argument z) f idle other = idle_stays w (λ t. changed (giving w l n c z) (puts_away kept t)) f idle
answer_idle w l n c kept (a_new_object site) f idle other = by (same_site site w.site) refl
  where
    by : (b : Bool) → same_site site w.site ≡ b
        → Contains (map (finished w) (cond b (after_new w c.result (written w l n c kept) f) (on_tuples (written w l n c kept) f))) f
    by true is = absurd (other (ap a_new_object (site_is site w.site is)))
    by false is = idle_stays w (written w l n c kept) f idle
answer_idle w l n c kept another f idle other = idle_stays w (written w l n c kept) f idle

-- A new object of the site is given.
new_is : (w : Setting) (l : LoweredMethod) (n : Node) (c : NodeCall) (kept : List ℕ) (f : SiteFact)
    → after_answer w l n c kept (a_new_object w.site) f ≡ after_new w c.result (written w l n c kept) f
new_is w l n c kept f = ap (λ (b : Bool). cond b (after_new w c.result (written w l n c kept) f) (on_tuples (written w l n c kept) f)) (is_site w.site)

pub answer_some : (w : Setting) (l : LoweredMethod) (n : Node) (c : NodeCall) (kept : List ℕ) (f : SiteFact) → IsIdle f
    → Contains (map (finished w) (after_answer w l n c kept (a_new_object w.site) f)) some_yet
answer_some w l n c kept f idle =
    subst (λ (fs : List SiteFact). Contains (map (finished w) fs) some_yet) (sym (new_is w l n c kept f)) (new_some w c.result (written w l n c kept) f idle)

pub answer_first : (w : Setting) (l : LoweredMethod) (n : Node) (c : NodeCall) (kept : List ℕ)
    → Meets (IsBorn c.result true w.property.initial) (map (finished w) (after_answer w l n c kept (a_new_object w.site) none_yet))
answer_first w l n c kept =
    subst (λ (fs : List SiteFact). Meets (IsBorn c.result true w.property.initial) (map (finished w) fs)) (sym (new_is w l n c kept none_yet))
    (new_first w c.result (written w l n c kept))

pub answer_further : (w : Setting) (l : LoweredMethod) (n : Node) (c : NodeCall) (kept : List ℕ)
    → Meets (IsBorn c.result false w.property.initial) (map (finished w) (after_answer w l n c kept (a_new_object w.site) some_yet))
answer_further w l n c kept =
    subst (λ (fs : List SiteFact). Meets (IsBorn c.result false w.property.initial) (map (finished w) fs)) (sym (new_is w l n c kept some_yet))
    (new_further w c.result (written w l n c kept))
