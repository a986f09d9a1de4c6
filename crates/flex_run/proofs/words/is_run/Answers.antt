use Rattle.std.proofs.Common.{codes, ◌≡◌, Bool, string_bytes, sym, subst}
use Rattle.std.specs.Bool.{Decides}
use Rattle.std.proofs.lemmas.Slice.Eq.{bytes_eq-Decides}
use Rattle.flex_run.proofs.ListGrowth.{map-one, only_word}
use Rattle.flex_run.proofs.words.is_run.Goals as goal

pub returns-then-words-eq1 : goal.returns-then-words-eq1
returns-then-words-eq1 c =
    let one = map-one string_bytes c.args.words.now c.index-words-0.result c.if-words-eq1.true c.index-words-0.is in
    let decides = subst (λ (b : Bool). Decides b (c.as_str.result.now ≡ codes "run")) (sym c.eq.ensures) (bytes_eq-Decides c.as_str.result.now (codes "run")) in
    only_word string_bytes c.args.words.now c.as_str.result.now (codes "run") c.index-words-0.result c.eq.result decides c.as_str.ensures.value one
