-- Sites that are numbered one after the other.
use Rattle.std.proofs.Common.{◌≡◌, ℕ, ◌+◌, ◌≤◌, List, [], ◌∷◌, ◌++◌, length, take, Some, subst, inl, inr}
use Rattle.std.specs.List.{slice_get, Contains}
use Rattle.std.proofs.lemmas.List.{take_all}
use Rattle.std.proofs.lemmas.List.Elements.{Contains-append_cases}
use Rattle.list_laws.proofs.Members.{contains_none, contains_only}
use Rattle.list_laws.proofs.Places.{contains_at, last_or_before, place_of}
use Rattle.jvm_model.specs.declared.site.Site.{Site}
use Rattle.site_numbers.specs.Added.{IsAdded}
use Rattle.certificate_lines.specs.declared.line.Line.{Line}
use Rattle.certificate_ground.specs.Listed.{named_sites}
use Rattle.certificate_ground.specs.Sites.{AreNumbered, HasAll, HasMore}

-- none are wanted
pub more_none : (sites : List Site) → HasMore [] sites sites
more_none sites = record { kept = λ s there. there; has = record { each = λ s there. absurd (contains_none s there) } }

-- a site has a number
pub more_one : (old new : List Site) (s : Site) (number : ℕ) → IsAdded old new s number → HasMore (s ∷ []) old new
more_one old new s number added = record {
  kept = λ t there. let (k, at) = place_of old t there in contains_at new k t (added.longer k t at);
  has = record { each = λ t there. subst (λ (x : Site). Contains new x) (contains_only s t there) (contains_at new number s added.stands) };
}

-- one after the other
pub more_both : (wanted others a b c : List Site) → HasMore wanted a b → HasMore others b c → HasMore (wanted ++ others) a c
more_both wanted others a b c first second = record {
  kept = λ s there. second.kept s (first.kept s there);
  has = record {
    each = λ s there. elim (Contains-append_cases wanted others s there) [
      | inl before ↦ second.kept s (first.has.each s before)
      | inr later ↦ second.has.each s later
    ];
  };
}

-- of lines: none yet, one more, all
pub numbered_start : (all : List Line) (sites : List Site) → AreNumbered (take 0 all) sites
numbered_start all sites = record { each = λ x there. absurd (contains_none x there) }

pub numbered_more : (all : List Line) (i : ℕ) (x : Line) → slice_get all i ≡ Some x → (old new : List Site) → AreNumbered (take i all) old
    → HasMore (named_sites x) old new → AreNumbered (take (i + 1) all) new
numbered_more all i x at old new before more = record {
  each = λ y there. elim (last_or_before all i x at y there) [
    | inl earlier ↦ record { each = λ s named. more.kept s ((before.each y earlier).each s named) }
    | inr same ↦ subst (λ (z : Line). HasAll (named_sites z) new) same more.has
  ];
}

pub numbered_all : (all : List Line) (i : ℕ) → length all ≤ i → (sites : List Site) → AreNumbered (take i all) sites → AreNumbered all sites
numbered_all all i l sites are = subst (λ (front : List Line). AreNumbered front sites) (take_all i all l) are
