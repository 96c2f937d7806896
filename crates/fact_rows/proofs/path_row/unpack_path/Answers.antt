use Rattle.std.proofs.Common.{◌≡◌, ℕ, ◌-◌, List, length, map, take, drop, get_or, sym, ◌∙◌, ap, arith}
use Rattle.std.proofs.lemmas.List.{length-drop, take_all}
use Rattle.std.proofs.lemmas.Option.{same_Some}
use Rattle.access_paths.specs.Followed.{first_three, listed}
use Rattle.access_paths.specs.Paths.{number_of}
use Rattle.fact_rows.specs.PathRows.{path_words}
use Rattle.fact_rows.proofs.PathWords.{listed-first_three}
use Rattle.fact_rows.proofs.path_row.unpack_path.Goals as goal

pub returns : goal.returns
returns c path is =
    let same : c.words-words.result.now ≡ path_words path = same_Some _ _ (sym c.words-words.ensures ∙ is.words) in
    let three = listed-first_three path.fields is.few in
    let root = c.root_of.ensures path.root (ap (λ (ws : List ℕ). get_or ws 0 0) same) (ap (λ (ws : List ℕ). get_or ws 1 0) same) in
    let words = c.words-words.result.now in
    let behind : take (length words - 2) (drop 2 words) ≡ drop 2 words = take_all (length words - 2) (drop 2 words) (omega (arith, length-drop 2 words)) in
    let fields = c.fields_of.ensures (first_three path.fields) (behind ∙ ap (λ (ws : List ℕ). drop 2 ws) same ∙ ap (map number_of) (sym three)) in
    let roots : c.along.result.root ≡ path.root = c.along.ensures.root ∙ root in
    let all : c.along.result.fields ≡ path.fields = c.along.ensures.fields ∙ ap listed fields ∙ three in
    λ i. record { root = roots i; fields = all i }
