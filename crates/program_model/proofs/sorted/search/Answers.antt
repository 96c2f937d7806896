use Rattle.std.proofs.Common.{ℕ, List, rules}
use Rattle.std.specs.Cmp.Lexicographic.{slice_cmp}
use Rattle.std.specs.Ordering.{nat_cmp}
use Rattle.std.proofs.lemmas.Fn.{always_returns_same}
use Rattle.program_model.proofs.sorted.search.Goals as goal

-- the closure compares a name with the text
pub returns-clause-position : goal.returns-clause-position
returns-clause-position c =
    c.binary_search_by.ensures.position (λ (name : List ℕ). slice_cmp nat_cmp name c.args.text.now) (always_returns_same _ _ _ (λ a r g called. search rules))
