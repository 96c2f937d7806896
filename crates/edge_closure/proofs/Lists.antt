-- Lists of edges that grow.
use Rattle.std.proofs.Common.{◌≡◌, ◌≤◌, ◌<◌, ◌⊎◌, ℕ, List, [], ◌∷◌, ◌++◌, length, get_or, Some, sym, ap, ◌∙◌, subst, inl, inr, arith}
use Rattle.std.specs.List.{All, Contains, slice_get}
use Rattle.std.proofs.lemmas.List.{append-nil, append_assoc, length-append, length-map, map-append}
use Rattle.std.proofs.lemmas.Option.{same_Some, slice_get-get_or}
use Rattle.std.proofs.lemmas.List.Elements.{All-append, All-contains, All-nil, All-weaker, Contains-append_cases, Contains-get_or}
use Rattle.list_laws.proofs.Members.{all_from_contains, contains_only}
use Rattle.list_laws.proofs.Places.{at_map, contains_at, in_longer, place_of, stands_below}
use Rattle.least_sets.specs.Rules.{IsDerivable, IsWithoutDoubles}
use Rattle.least_sets.proofs.Growing.{IsWithoutDoubles-push}
use Rattle.stage_edges.specs.Rules.{Edge}
use Rattle.ground_views.specs.declared.path_edge.PathEdge.{PathEdge}
use Rattle.ground_views.specs.declared.question.Question.{Question}
use Rattle.ground_views.specs.declared.viewed_node.ViewedNode.{ViewedNode}
use Rattle.ground_views.specs.Questions.{GroundInstance, edge_of, edges_in}
use Rattle.edge_closure.specs.Tried.{Adds, Grows, IsSeenAt, IsTried, IsTriedWith, StaysSound, StaysSoundBy}

pub grows_none : (edges : List Edge) → Grows edges edges
grows_none edges = record { more = []; is = sym (append-nil edges); apart = λ h. h }

pub grows_more : (a b c : List Edge) → Grows a b → Grows b c → Grows a c
grows_more a b c f g = record {
  more = f.more ++ g.more;
  is = g.is ∙ ap (λ (xs : List Edge). xs ++ g.more) f.is ∙ append_assoc a f.more g.more;
  apart = λ h. g.apart (f.apart h);
}

pub grows_by : (P : Edge → Type 0) (old new : List Edge) → Adds P old new → Grows old new
grows_by P old new adds = record { more = adds.more; is = adds.is; apart = adds.apart }

pub still_at : (old new : List Edge) (k : ℕ) (e : Edge) → Grows old new → slice_get old k ≡ Some e → slice_get new k ≡ Some e
still_at old new k e grows at = subst (λ (xs : List Edge). slice_get xs k ≡ Some e) (sym grows.is) (in_longer old grows.more k e at)

pub still_there : (old new : List Edge) (e : Edge) → Grows old new → Contains old e → Contains new e
still_there old new e grows there = let at = place_of old e there in contains_at new at.0 e (still_at old new at.0 e grows at.1)

pub longer : (old new : List Edge) → Grows old new → length old ≤ length new
longer old new grows = let is = ap length grows.is ∙ length-append old grows.more in omega (arith, is)

-- one that has not become longer is the same
pub same_length : (old new : List Edge) → Grows old new → length new ≤ length old → new ≡ old
same_length old new grows short = by grows.more grows.is
  where
    by : (more : List Edge) → new ≡ old ++ more → new ≡ old
    by [] is = is ∙ append-nil old
    by (e ∷ more) is = absurd (let long = ap length is ∙ length-append old (e ∷ more) in omega (arith, long, short))

-- ---- what is added

pub adds_none : (P : Edge → Type 0) (edges : List Edge) → Adds P edges edges
adds_none P edges = record { more = []; is = sym (append-nil edges); only = All-nil P; apart = λ h. h }

pub adds_more : (P : Edge → Type 0) (a b c : List Edge) → Adds P a b → Adds P b c → Adds P a c
adds_more P a b c f g = record {
  more = f.more ++ g.more;
  is = g.is ∙ ap (λ (xs : List Edge). xs ++ g.more) f.is ∙ append_assoc a f.more g.more;
  only = All-append P f.more g.more f.only g.only;
  apart = λ h. g.apart (f.apart h);
}

pub adds_weaker : (P Q : Edge → Type 0) → ((e : Edge) → P e → Q e) → (a b : List Edge) → Adds P a b → Adds Q a b
adds_weaker P Q f a b adds = record { more = adds.more; is = adds.is; only = All-weaker P Q f adds.more adds.only; apart = adds.apart }

-- ---- what is derivable

pub sound_none : (I : List Edge → Edge → Type 0) (edges : List Edge) → StaysSound I edges edges
sound_none I edges = record { sound = λ all. all }

pub sound_more : (I : List Edge → Edge → Type 0) (a b c : List Edge) → StaysSound I a b → StaysSound I b c → StaysSound I a c
sound_more I a b c f g = record { sound = λ all. g.sound (f.sound all) }

pub sound_by : (I : List Edge → Edge → Type 0) (P : Edge → Type 0) (old new : List Edge) → Adds P old new → (All (IsDerivable I) old → (e : Edge) → P e → IsDerivable I e)
    → StaysSound I old new
sound_by I P old new adds each = record {
  sound = λ all. all_from_contains (IsDerivable I) new (λ e there. by all e (Contains-append_cases old adds.more e (subst (λ (xs : List Edge). Contains xs e) adds.is there)));
}
  where
    by : All (IsDerivable I) old → (e : Edge) → Contains old e ⊎ Contains adds.more e → IsDerivable I e
    by all e (inl before) = All-contains (IsDerivable I) old e all before
    by all e (inr added) = each all e (All-contains P adds.more e adds.only added)

-- the same for each subject and setting of which it is asked
pub all_sound_none : (q : Question) (edges : List Edge) → StaysSoundBy q edges edges
all_sound_none q edges = record { each = λ x w asked. sound_none (GroundInstance q x w) edges }

pub all_sound_more : (q : Question) (a b c : List Edge) → StaysSoundBy q a b → StaysSoundBy q b c → StaysSoundBy q a c
all_sound_more q a b c f g = record { each = λ x w asked. sound_more (GroundInstance q x w) a b c (f.each x w asked) (g.each x w asked) }

-- ---- what is tried

pub tried_with_more : (I : List Edge → Edge → Type 0) (p q : Edge) (a b : List Edge) → Grows a b → IsTriedWith I p q a → IsTriedWith I p q b
tried_with_more I p q a b grows tried = record { each = λ to i. still_there a b to grows (tried.each to i) }

pub tried_more : (I : List Edge → Edge → Type 0) (p : Edge) (first old a b : List Edge) → Grows first old → Grows a b → IsTried I p old a → IsTried I p first b
tried_more I p first old a b before grows tried = record {
  alone = λ to i. still_there a b to grows (tried.alone to i);
  beside = λ q there. tried_with_more I p q a b grows (tried.beside q (still_there first old q before there));
}

-- ---- an edge more

pub pushed : (edges : List PathEdge) (e : PathEdge) → edges_in (edges ++ e ∷ []) ≡ edges_in edges ++ edge_of e ∷ []
pushed edges e = map-append edge_of edges (e ∷ [])

pub adds_one : (edges : List PathEdge) (e : PathEdge) → (Contains (edges_in edges) (edge_of e) → ⊥) → Adds (λ (f : Edge). f ≡ edge_of e) (edges_in edges) (edges_in (edges ++ e ∷ []))
adds_one edges e absent = record {
  more = edge_of e ∷ [];
  is = pushed edges e;
  only = all_from_contains (λ (f : Edge). f ≡ edge_of e) (edge_of e ∷ []) (λ f there. sym (contains_only (edge_of e) f there));
  apart = λ h. subst IsWithoutDoubles (sym (pushed edges e)) (IsWithoutDoubles-push (edges_in edges) (edge_of e) h absent);
}

pub count_edges : (edges : List PathEdge) → length (edges_in edges) ≡ length edges
count_edges edges = length-map edges edge_of

pub edge_at : (edges : List PathEdge) (k : ℕ) (e : PathEdge) → slice_get edges k ≡ Some e → slice_get (edges_in edges) k ≡ Some (edge_of e)
edge_at edges k e at = at_map edge_of edges k e at

pub read_at : (edges : List PathEdge) (k : ℕ) (e : PathEdge) → k < length edges → e ≡ get_or edges k e → slice_get (edges_in edges) k ≡ Some (edge_of e)
read_at edges k e short is = edge_at edges k e (slice_get-get_or edges k e short ∙ ap Some (sym is))

-- an element that is read is contained
pub read_there : {X : Type 0} (xs : List X) (k : ℕ) (x : X) → k < length xs → x ≡ get_or xs k x → Contains xs x
read_there {X} xs k x short is = subst (Contains xs) (sym is) (Contains-get_or xs k x short)

pub still_below : (old new : List PathEdge) (k : ℕ) → Grows (edges_in old) (edges_in new) → k < length old → k < length new
still_below old new k grows short =
    let more = longer (edges_in old) (edges_in new) grows in
    let before = count_edges old in
    let after = count_edges new in
    omega (arith, more, before, after, short)

-- where an edge stands below the length
pub stands : (edges : List PathEdge) (k : ℕ) → k < length edges → (p : Edge) × (slice_get (edges_in edges) k ≡ Some p)
stands edges k short = let count = count_edges edges in stands_below (edges_in edges) k (omega (arith, count, short))

pub stands_read : {X : Type 0} (xs : List X) (k : ℕ) (x : X) → k < length xs → x ≡ get_or xs k x → slice_get xs k ≡ Some x
stands_read xs k x short is = slice_get-get_or xs k x short ∙ ap Some (sym is)

-- below the old length both lists have the same
pub before_at : (old new : List Edge) (k : ℕ) (p : Edge) → Grows old new → k < length old → slice_get new k ≡ Some p → slice_get old k ≡ Some p
before_at old new k p grows short at =
    let known = stands_below old k short in
    let same : known.0 ≡ p = same_Some known.0 p (sym (still_at old new k known.0 grows known.1) ∙ at) in
    known.1 ∙ ap Some same

-- what is seen at a place is seen there in a longer list
pub still_seen : (q : Question) (k : ViewedNode) (place : ℕ) (old new : List Edge) → Grows old new → place < length old → IsSeenAt q k place old → IsSeenAt q k place new
still_seen q k place old new grows short seen = record {
  node = seen.node;
  seen = seen.seen;
  method = λ p at. seen.method p (before_at old new place p grows short at);
  spot = λ p at. seen.spot p (before_at old new place p grows short at);
}
