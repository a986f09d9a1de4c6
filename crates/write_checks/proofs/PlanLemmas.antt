-- The plan of a write, by the facts of its file.
use Rattle.std.proofs.Common.{◌≡◌, ℕ, ◌+◌, ◌<◌, ◌^◌, true, List, length, sym, ap, subst, ◌∙◌}
use Rattle.std.proofs.lemmas.List.{length-map}
use Rattle.domains.specs.declared.group.Group.{Group}
use Rattle.inode_codec.specs.Inode.{IsInode}
use Rattle.file_history.specs.World.{Moment}
use Rattle.file_history.specs.Layout.{Layout}
use Rattle.file_history.specs.Stored.{inode_of}
use Rattle.file_history.specs.WriteRule.{groups_after_write}
use Rattle.write_rule.specs.Runs.{widths_of}
use Rattle.write_rule.specs.WriteRuns.{IsRunOfWrite}
use Rattle.write_rule.specs.declared.run.ReplacedRun.{ReplacedRun}
use Rattle.write_checks.specs.MapFacts.{AreMapFactsOf}
use Rattle.write_checks.specs.Plans.{IsPlan}
use Rattle.write_checks.specs.declared.facts.MapFacts.{MapFacts}
use Rattle.write_checks.proofs.RunBounds.{new_units_small}

module _ (f : MapFacts) (now : Moment) (l : Layout) (are : AreMapFactsOf f now l) (there : f.file.present ≡ true) where
  valid : IsInode (inode_of now.shape.unit l)
  valid = are.spelled there

  as_many : length f.widths.now ≡ length l.groups
  as_many = ap (λ (ws : List ℕ). length ws) (sym are.widths) ∙ length-map l.groups (λ (g : Group). g.n)

  -- the run that is found is that of the write
  pub run_is : (offset len width : ℕ) (run : ReplacedRun)
      → ((l : Layout) → IsInode (inode_of f.file.sight.unit l) → widths_of l.groups ≡ f.widths.now → l.size ≡ f.file.sight.size → IsRunOfWrite f.file.sight.unit l offset len width run)
      → IsRunOfWrite now.shape.unit l offset len width run
  run_is offset len width run found =
      let P : ℕ → Type 0 = λ u. IsInode (inode_of u l) in
      let Q : ℕ → Type 0 = λ u. IsRunOfWrite u l offset len width run in
      let unit = are.file.sight_is.unit_is in
      subst Q unit (found l (subst P (sym unit) valid) are.widths (sym are.file.sight_is.size_is))

  pub run_small : (offset len width : ℕ) (run : ReplacedRun) → IsRunOfWrite now.shape.unit l offset len width run → offset + len < 2 ^ 32 → run.new_units < 2 ^ 63
  run_small offset len width run is within = new_units_small now.shape.unit l offset len width run valid is within

  pub plan_is : (offset len width groups told : ℕ) (run : ReplacedRun) → IsRunOfWrite now.shape.unit l offset len width run → groups ≡ length f.widths.now
      → ((unit : ℕ) (l : Layout) (offset len : ℕ) → IsRunOfWrite unit l offset len width run → length l.groups ≡ groups → told ≡ groups_after_write unit l offset len width)
      → IsPlan (record { width = width; run = run; groups = told }) now l offset len width
  plan_is offset len width groups told run is many counted = record {
    run = is;
    groups = counted now.shape.unit l offset len is (sym as_many ∙ sym many);
  }
