-- The plan of a write, from its parts.
use Rattle.std.proofs.Common.{◌≡◌, ℕ, ◌+◌, ◌≤◌, true, List, length, take, drop, Some, sym, ap, subst, ◌∙◌, arith}
use Rattle.std.proofs.lemmas.List.{length-map}
use Rattle.domains.specs.declared.group.Group.{Group}
use Rattle.inode_codec.specs.Inode.{IsInode}
use Rattle.file_history.specs.World.{Moment}
use Rattle.file_history.specs.Layout.{Layout}
use Rattle.file_history.specs.Refusals.{MayWrite, width_at}
use Rattle.file_history.specs.Stored.{inode_of}
use Rattle.file_history.specs.WriteRule.{AreChunks, affected_groups, generations_of, groups_after_write, new_units}
use Rattle.write_rule.specs.WriteRuns.{IsRunOfWrite}
use Rattle.write_rule.specs.declared.run.ReplacedRun.{ReplacedRun}
use Rattle.write_plans.specs.Plans.{IsPlan}
use Rattle.write_plans.specs.declared.plan.WritePlan.{WritePlan}
use Rattle.write_plans.proofs.TakenGroups.{generations_of_run}

-- the run, told for a unit that is the cluster's
pub run_at : (unit told : ℕ) → told ≡ unit → (l : Layout) (offset len width : ℕ) (run : ReplacedRun) → IsInode (inode_of unit l)
    → (IsInode (inode_of told l) → IsRunOfWrite told l offset len width run) → IsRunOfWrite unit l offset len width run
run_at unit told same l offset len width run valid give =
    subst (λ (u : ℕ). IsRunOfWrite u l offset len width run) same (give (subst (λ (u : ℕ). IsInode (inode_of u l)) (sym same) valid))

pub run_ends : (unit : ℕ) (l : Layout) (offset len width : ℕ) (run : ReplacedRun) (generations : List ℕ) → IsRunOfWrite unit l offset len width run
    → generations ≡ generations_of l.groups → run.first + run.count ≤ length generations
run_ends unit l offset len width run generations is told =
    let within = is.affected.within in
    let many : length generations ≡ length l.groups = ap length told ∙ length-map l.groups (λ (g : Group). g.generation) in
    omega (arith, within, many)

pub is_plan : (now : Moment) (l : Layout) (offset len width count : ℕ) (generations : List ℕ) (run : ReplacedRun) (p : WritePlan) → l.present ≡ true
    → width_at now l ≡ Some width → 1 ≤ width → IsRunOfWrite now.shape.unit l offset len width run → generations ≡ generations_of l.groups
    → count ≡ groups_after_write now.shape.unit l offset len width → count ≤ 256
    → p.width ≡ width → p.run ≡ run → p.old ≡ take run.count (drop run.first generations) → AreChunks run.new_units width p.chunks
    → IsPlan now l offset len p
is_plan now l offset len width count generations run p present wide some is told counts few has_width has_run has_old has_chunks = record {
  present = present;
  may = subst (λ (w : ℕ). MayWrite now l offset len w) (sym has_width) (record { wide = wide; groups = subst (λ (n : ℕ). n ≤ 256) counts few });
  wide = subst (λ (w : ℕ). 1 ≤ w) (sym has_width) some;
  run = subst (λ (r : ReplacedRun). IsRunOfWrite now.shape.unit l offset len p.width r) (sym has_run)
      (subst (λ (w : ℕ). IsRunOfWrite now.shape.unit l offset len w run) (sym has_width) is);
  old = has_old ∙ ap (λ (gs : List ℕ). take run.count (drop run.first gs)) told ∙ generations_of_run l.groups run.first run.count
      ∙ ap generations_of (sym is.affected.run) ∙ ap (λ (w : ℕ). generations_of (affected_groups now.shape.unit l offset len w)) (sym has_width);
  chunks = subst (λ (w : ℕ). AreChunks (new_units now.shape.unit l offset len w) w p.chunks) (sym has_width)
      (subst (λ (n : ℕ). AreChunks n width p.chunks) is.new_units has_chunks);
}
