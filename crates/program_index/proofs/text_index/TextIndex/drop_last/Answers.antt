use Rattle.std.proofs.Common.{◌≡◌, ℕ, [], ◌∷◌, ◌++◌, List, None, ◌∙◌, ap, subst}
use Rattle.std.proofs.lemmas.List.{map-append}
use Rattle.std.specs.Global.{Vec}
use Rattle.std.specs.HashMap.{UpdatesBy}
use Rattle.program_index.specs.OwnedTexts.{owned_texts, owns, AreIndexed}
use Rattle.program_index.proofs.IndexedTexts.{eq, indexed_pop}
use Rattle.program_index.proofs.text_index.TextIndex.drop_last.Goals as goal

pub invariant_of-self : goal.invariant_of-self
invariant_of-self c =
    let front = c.pop.new.self.items in
    let text = c.in-Some.text in
    let numbers = c.self.inside.numbers in
    let all : owned_texts c.self.inside.texts.items ≡ owned_texts front ++ text.items ∷ [] =
    ap owned_texts c.in-Some.ensures.items ∙ map-append (λ (v : Vec ℕ). v.items) front (text ∷ []) in
    indexed_pop numbers c.remove.new.self text.items (owned_texts front)
    (subst (λ (ts : List (List ℕ)). AreIndexed ts numbers) all c.self.invariant)
    (subst (λ (t : List ℕ). UpdatesBy eq (owns t) numbers c.remove.new.self None) c.as_slice.ensures.value c.remove.ensures.updates)
