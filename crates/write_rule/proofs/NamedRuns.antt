-- The run of a legal write, as the write names it.
use Rattle.std.proofs.Common.{◌≡◌, ℕ, ◌-◌, List, length, drop, sym, ap, subst, ◌∙◌, arith}
use Rattle.std.proofs.lemmas.List.{length-take, length-drop, length-map}
use Rattle.domains.specs.declared.group.Group.{Group}
use Rattle.file_history.specs.Bytes.{bytes_after}
use Rattle.file_history.specs.Layout.{Layout}
use Rattle.file_history.specs.WriteRule.{affected_groups, generations_of}
use Rattle.write_rule.specs.Runs.{IsAffectedRun, first_replaced, stop_replaced}
use Rattle.write_rule.specs.SplicedRun.{IsRunOf}
use Rattle.write_rule.proofs.RunLemmas.{affected_are_runs, writes_replace_runs}
use Rattle.write_rule.proofs.ChunkCounts.{writes_keep_units}
use Rattle.map_changes.specs.ChangedMaps.{first_of}
use Rattle.write_rule.specs.Laws.{WritesNameTheirRun}

-- where an affected run begins, and how long it is
starts : (unit : ℕ) (l : Layout) (offset len width first count : ℕ) (old : List ℕ) → old ≡ generations_of (affected_groups unit l offset len width)
    → IsAffectedRun unit l offset len width first count → first_of old l.groups ≡ first
starts unit l offset len width first count old is r =
    let within = r.within in
    let taken = length-take first l.groups in
    ap (λ (o : List ℕ). first_of o l.groups) is ∙ ap (λ (gs : List Group). length gs) r.before ∙ omega (arith, within, taken)

counts : (unit : ℕ) (l : Layout) (offset len width first count : ℕ) (old : List ℕ) → old ≡ generations_of (affected_groups unit l offset len width)
    → IsAffectedRun unit l offset len width first count → length old ≡ count
counts unit l offset len width first count old is r =
    let within = r.within in
    let taken = length-take count (drop first l.groups) in
    let left = length-drop first l.groups in
    ap (λ (o : List ℕ). length o) is ∙ length-map (affected_groups unit l offset len width) (λ (g : Group). g.generation)
    ∙ ap (λ (gs : List Group). length gs) r.run ∙ omega (arith, within, taken, left)

pub writes_name_their_run : WritesNameTheirRun
writes_name_their_run now log l offset size change payload is size_is some w =
    let unit : ℕ = now.shape.unit in
    let len : ℕ = length payload in
    let first : ℕ = first_replaced unit l offset len w.width in
    let count : ℕ = stop_replaced unit l offset len - first in
    let run : IsAffectedRun unit l offset len w.width first count = (affected_are_runs unit l offset len w.width is some).1 in (
      subst (λ (x : ℕ × ℕ). IsRunOf unit l (bytes_after log) payload offset x.0 x.1 change)
          (λ i. (sym (starts unit l offset len w.width first count change.old w.old run) i, sym (counts unit l offset len w.width first count change.old w.old run) i))
          (writes_replace_runs now log l offset size first count change payload is size_is some w run),
      writes_keep_units now log l offset size first count change payload is size_is some w run,
    )
