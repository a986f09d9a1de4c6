-- The actor has a script, and this operation in it.
use Rattle.std.proofs.Common.{◌≡◌, ℕ, ◌-◌, ◌<◌, List, length, Option, Some, slice_get, slice_index_or, sym, ap, ◌∙◌, arith}
use Rattle.std.specs.Prelude.{unwrap_or}
use Rattle.std.proofs.lemmas.Option.{slice_get-get_or, slice_get_within}
use Rattle.whole_scenario.specs.declared.op.Op.{Op}
use Rattle.serial_play.proofs.ScriptPlaces.{op_at-there, script-of}
use Rattle.serial_play.proofs.operations.op_at.Goals as goal

pub overflow_sub-script : goal.overflow_sub-script
overflow_sub-script c =
    let at = c.from.ensures in
    let numbered = (script-of c.args.scenario.now c.args.by c.requires).numbered in
    omega (arith, at, numbered)

pub bounds-as_slice-from : goal.bounds-as_slice-from
bounds-as_slice-from c =
    let at = c.from.ensures in
    let h = script-of c.args.scenario.now c.args.by c.requires in
    let numbered = h.numbered in
    let low = slice_get_within c.args.scenario.now.actors h.index h.script h.there in
    let same = ap length c.as_slice.ensures in
    omega (arith, at, numbered, low, same)

-- the script that was found is the actor's
found : (scripts now : List (List Op)) (index at : ℕ) (script got : List Op) → now ≡ scripts → slice_get scripts index ≡ Some script → at ≡ index → got ≡ slice_index_or now at got → script ≡ got
found scripts now index at script got same there is read =
    let low = slice_get_within scripts index script there in
    let long = ap length same in
    ap (λ (o : Option (List Op)). unwrap_or o got) (sym there ∙ ap (slice_get scripts) (sym is) ∙ ap (λ (l : List (List Op)). slice_get l at) (sym same)
    ∙ slice_get-get_or now at got (omega (arith, low, long, is))) ∙ sym read

pub bounds-as_slice-by : goal.bounds-as_slice-by
bounds-as_slice-by c =
    let at = c.from.ensures in
    let h = script-of c.args.scenario.now c.args.by c.requires in
    let numbered = h.numbered in
    let same = found c.args.scenario.now.actors c.as_slice.result.now h.index (c.from.result - 1) h.script c.index-as_slice-from.result c.as_slice.ensures h.there (omega (arith, at, numbered))
    c.index-as_slice-from.is in
    let some = c.requires.some in
    let enough = h.enough in
    let long = ap length (c.as_slice-2.ensures ∙ sym same) in
    omega (arith, some, enough, long)

pub returns : goal.returns
returns c =
    let at = c.from.ensures in
    let h = script-of c.args.scenario.now c.args.by c.requires in
    let numbered = h.numbered in
    let same = found c.args.scenario.now.actors c.as_slice.result.now h.index (c.from.result - 1) h.script c.index-as_slice-from.result c.as_slice.ensures h.there (omega (arith, at, numbered))
    c.index-as_slice-from.is in
    let some = c.requires.some in
    let enough = h.enough in
    let script = c.as_slice-2.ensures ∙ sym same in
    let long = ap length script in
    let low : c.args.by.call - 1 < length c.as_slice-2.result.now = omega (arith, some, enough, long) in
    op_at-there c.args.scenario.now c.args.by h.index (c.args.by.call - 1) h.script c.index-as_slice-by.result h.there
    (ap (λ (l : List Op). slice_get l (c.args.by.call - 1)) (sym script) ∙ slice_get-get_or c.as_slice-2.result.now (c.args.by.call - 1) c.index-as_slice-by.result low
    ∙ ap (λ (o : Op). let one : Option Op = Some o in one) (sym c.index-as_slice-by.is)) (omega (arith, numbered)) (omega (arith, some))
