-- A site with the name of its class, and all of them one after another.
use Rattle.std.proofs.Common.{◌≡◌, ℕ, ◌+◌, ◌≤◌, List, [], ◌∷◌, ◌++◌, Some, length, take, refl, sym, ◌∙◌, ap}
use Rattle.std.specs.List.{slice_get}
use Rattle.std.proofs.lemmas.List.{take_all}
use Rattle.std.proofs.lemmas.Option.{same_Some}
use Rattle.jvm_model.specs.declared.site.Site.{Site}
use Rattle.program_model.proofs.Pieces.{take_one_more}
use Rattle.points_to_numbers.specs.declared.keys.SiteKey.{SiteKey}
use Rattle.points_to_numbers.specs.Numbered.{Numbered, IsSiteAt}

pub read_site : (n : Numbered) (key : SiteKey) (s : Site) (class : List ℕ) → IsSiteAt n key s → slice_get n.classes key.class.0 ≡ Some class
    → s ≡ record { kind = key.kind; method = key.method; offset = key.offset; class = class }
read_site n key s class is named =
    let same : s.class ≡ class = same_Some s.class class (sym is.class ∙ named) in
    (λ i. record { kind = is.kind i; method = is.method i; offset = is.offset i; class = same i })

-- ---- one after another

pub none_read : (sites : List Site) → [] ≡ take 0 sites
none_read [] = refl
none_read (s ∷ sites) = refl

pub one_read : (sites read new : List Site) (k : ℕ) (s : Site) → read ≡ take k sites → slice_get sites k ≡ Some s → new ≡ read ++ s ∷ [] → new ≡ take (k + 1) sites
one_read sites read new k s before at pushed = pushed ∙ ap (λ (ss : List Site). ss ++ s ∷ []) before ∙ sym (take_one_more sites k s at)

pub all_read : (sites read : List Site) (k : ℕ) → length sites ≤ k → read ≡ take k sites → read ≡ sites
all_read sites read k past before = before ∙ take_all k sites past
