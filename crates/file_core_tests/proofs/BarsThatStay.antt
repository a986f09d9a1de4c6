-- A bar stays when the file is deleted and created again. The level is then the declared one, and generations go on.
use Rattle.std.proofs.Common.{◌≡◌, ℕ, ◌+◌, Bool, true, false, ◌||◌, refl, ap, ◌∙◌}
use Rattle.domains.specs.Drive.{Drive}
use Rattle.domains.specs.DriveSet.{has}
use Rattle.domains.specs.Level.{Level}
use Rattle.domains.specs.declared.drive_set.DriveSet.{DriveSet}
use Rattle.domains.specs.declared.group.Group.{Group}
use Rattle.file_history.specs.Layout.{Layout, empty_layout, layout_after_event}
use Rattle.file_history.specs.Refusals.{is_barred}
use Rattle.file_history.specs.declared.entry.FileEvent.TheVariants.{Barred, Created, Deleted, LevelSet}
use Rattle.job_rules.specs.declared.job.JobId.{JobId}

module _ (declared other : Level) (inode later : Group) (job : JobId) (drives : DriveSet) where
  -- created, barred, at another level, deleted, and created again
  abbrev created_again : Layout
  created_again =
      layout_after_event declared (Created later) (layout_after_event declared Deleted (layout_after_event declared (LevelSet other)
      (layout_after_event declared (Barred job drives) (layout_after_event declared (Created inode) (empty_layout declared)))))

  stays_barred : (d : Drive) → has drives d ≡ true → is_barred created_again d ≡ true
  stays_barred d there = ap (λ (b : Bool). b || false) there

  level_is : created_again.requested ≡ declared
  level_is = refl

  next_is : created_again.next ≡ later.generation + 1
  next_is = refl
