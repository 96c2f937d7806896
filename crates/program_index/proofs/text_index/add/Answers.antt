use Rattle.std.proofs.Common.{◌≡◌, ℕ, [], ◌∷◌, ◌++◌, length, List, Some, arith, sym, ◌∙◌, ap, subst}
use Rattle.std.proofs.lemmas.List.{length-map, map-append}
use Rattle.std.specs.Global.{Vec}
use Rattle.std.specs.HashMap.{UpdatesBy}
use Rattle.program_index.specs.OwnedTexts.{owned_texts, owns, AreIndexed}
use Rattle.program_index.proofs.IndexedTexts.{eq, indexed_push}
use Rattle.program_index.proofs.text_index.add.Goals as goal

pub returns-clause-indexed : goal.returns-clause-indexed
returns-clause-indexed c =
    let old = c.args.texts.now.items in
    let text = c.args.text.now in
    let numbers = c.args.numbers.now in
    let new = c.insert.new.self in
    let count : c.args.number ≡ length (owned_texts old) = c.requires.last ∙ sym (length-map old (λ (v : Vec ℕ). v.items)) in
    let at_text : UpdatesBy eq (owns text) numbers new (Some c.args.number) =
    subst (λ (t : List ℕ). UpdatesBy eq (owns t) numbers new (Some c.args.number)) c.in_ok-key.ensures.items c.in_default.ensures.updates in
    let all : owned_texts c.push.new.self.items ≡ owned_texts old ++ text ∷ [] =
    ap owned_texts c.in_ok-push.ensures.items ∙ map-append (λ (v : Vec ℕ). v.items) old (c.in_ok-copy.copy ∷ [])
    ∙ ap (λ (t : List ℕ). owned_texts old ++ t ∷ []) c.in_ok-copy.ensures.items in
    subst (λ (ts : List (List ℕ)). AreIndexed ts new) (sym all)
    (indexed_push numbers new text (owned_texts old) c.requires.indexed c.requires.fresh (omega (arith, count, c.requires.room))
    (subst (λ (n : ℕ). UpdatesBy eq (owns text) numbers new (Some n)) count at_text))
