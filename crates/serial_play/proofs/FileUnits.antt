-- The units of files on a drive, and what the one hand holds of it.
use Rattle.std.proofs.Common.{◌≡◌, ℕ, zero, suc, ◌+◌, ◌%◌, ◌^◌, true, List, [], ◌∷◌, Option, Some, slice_get, refl, ap, ◌∙◌, arith}
use Rattle.std.specs.Prelude.{if◌then◌else◌, slice_set, unwrap_or}
use Rattle.std.proofs.lemmas.Bool.{eq-eqb}
use Rattle.std.proofs.lemmas.Option.{slice_get_within}
use Rattle.domains.specs.Drive.{Drive}
use Rattle.domains.specs.Level.{Level}
use Rattle.domains.specs.Place.{Place}
use Rattle.domains.specs.Shape.{Shape, is_of}
use Rattle.fabric.specs.Accounts.{Holds}
use Rattle.fabric.specs.declared.hand.Hand.{Hand}
use Rattle.fabric.proofs.HeldCounts.{Holds-modulo}
use Rattle.file_cells.specs.OpenFiles.{state_of}
use Rattle.file_cells.specs.declared.open_file.OpenFile.{OpenFile}
use Rattle.file_core.specs.Accounts.{groups_placed, groups_taken, is_own, placed_by, placed_in, taken_by, taken_in, units_at}
use Rattle.file_core.specs.FileView.{FileView}
use Rattle.file_core.specs.declared.noted.Noted.{Noted}
use Rattle.file_core.proofs.FileAccounts.{accounts_balance}
use Rattle.file_history.specs.Layout.{Layout, empty_layout, layout_after_event}
use Rattle.file_turns.specs.PathAccounts.{Account, KeepsAccount, on_drive}
use Rattle.turn_cell.specs.declared.chronicle.Note.{Note}
use Rattle.serial_play.specs.PlayedRuns.{AreOwn, file_units, units_on}

-- what a seat placed whose notes are all there are
own-placed : (notes : List (Note Noted)) (p : Place → _) → AreOwn notes → placed_by 0 p notes ≡ placed_in notes (λ n. true) p
own-placed [] p own = refl
own-placed (n ∷ ns) p own =
    ap (λ b. (if b then units_at p (groups_placed n.entry.told.entry.event) else 0) + placed_in ns (is_own 0) p) (eq-eqb n.seat 0 own.0)
    ∙ ap (λ (k : ℕ). units_at p (groups_placed n.entry.told.entry.event) + k) (own-placed ns p own.1)

-- and what it took away
own-taken : (notes : List (Note Noted)) (declared : Level) (l : Layout) (p : Place → _) → AreOwn notes
    → taken_in notes declared l (is_own 0) p ≡ taken_in notes declared l (λ n. true) p
own-taken [] declared l p own = refl
own-taken (n ∷ ns) declared l p own =
    let event = n.entry.told.entry.event in
    ap (λ b. (if b then units_at p (groups_taken event l) else 0) + taken_in ns declared (layout_after_event declared event l) (is_own 0) p) (eq-eqb n.seat 0 own.0)
    ∙ ap (λ (k : ℕ). units_at p (groups_taken event l) + k) (own-taken ns declared (layout_after_event declared event l) p own.1)

module _ {S : Type 0} where
  -- a file's units are what its one seat placed, less what it took away
  own-units : (d : Drive) (f : FileView S) → AreOwn f.notes → file_units d f + taken_by 0 (on_drive d) f.level f.notes ≡ placed_by 0 (on_drive d) f.notes
  own-units d f own =
      let all = accounts_balance f.level (on_drive d) f.notes in
      let placed = own-placed f.notes (on_drive d) own in
      let taken = own-taken f.notes f.level (empty_layout f.level) (on_drive d) own in
      omega (arith, all, placed, taken)

  -- the hand gains as many slots of the drive as the file has units more there
  pub keeps-units : (shape : Shape) (d : Drive) (x y : FileView S) (old new : Hand S) (others : ℕ) → is_of shape d ≡ true → KeepsAccount shape 0 x y old new → AreOwn x.notes → AreOwn y.notes
      → Holds shape d (file_units d x + others) old → Holds shape d (file_units d y + others) new
  keeps-units shape d x y old new others of keeps own_x own_y holds =
      let was = own-units d x own_x in
      let now = own-units d y own_y in
      let begun : file_units d x + others + taken_by 0 (on_drive d) x.level x.notes ≡ others + placed_by 0 (on_drive d) x.notes = omega (arith, was) in
      let account : Account shape d others 0 x old = record { held = file_units d x + others; holds = holds; sum = ap (λ (n : ℕ). n % 2 ^ 64) begun } in
      let kept = keeps.each d others of account in
      let sum = kept.sum in
      let ends : others + placed_by 0 (on_drive d) y.notes ≡ file_units d y + others + taken_by 0 (on_drive d) y.level y.notes = omega (arith, now) in
      let both : (kept.held + taken_by 0 (on_drive d) y.level y.notes) % 2 ^ 64 ≡ (file_units d y + others + taken_by 0 (on_drive d) y.level y.notes) % 2 ^ 64 =
      sum ∙ ap (λ (n : ℕ). n % 2 ^ 64) ends in
      Holds-modulo shape d kept.held (file_units d y + others) new (less kept.held (file_units d y + others) (taken_by 0 (on_drive d) y.level y.notes) both) kept.holds
    where
      less : (a b t : ℕ) → (a + t) % 2 ^ 64 ≡ (b + t) % 2 ^ 64 → a % 2 ^ 64 ≡ b % 2 ^ 64
      less a b t same = omega (arith, same)

  -- the units of a file, and those of the others, also where another stands in its place
  pub record Beside (d : Drive) (files : List (OpenFile S)) (i : ℕ) (was : OpenFile S) : Type 0 where
    pub others : ℕ
    pub all : units_on d files ≡ file_units d (state_of was) + others
    pub after : (f : OpenFile S) → units_on d (slice_set files i f) ≡ file_units d (state_of f) + others

  pub beside : (d : Drive) (files : List (OpenFile S)) (i : ℕ) (was : OpenFile S) → slice_get files i ≡ Some was → Beside d files i was
  beside d [] i was there = absurd (let low = slice_get_within [] i was there in omega (arith, low))
  beside d (g ∷ gs) zero was there = record {
    others = units_on d gs;
    all = ap (λ (f : OpenFile S). file_units d (state_of f) + units_on d gs) (ap (λ (o : Option (OpenFile S)). unwrap_or o g) there);
    after = λ f. refl;
  }
  beside d (g ∷ gs) (suc i) was there =
      let rest = beside d gs i was there in
      record {
        others = file_units d (state_of g) + rest.others;
        all = let all = rest.all in omega (arith, all);
        after = λ f. let after = rest.after f in omega (arith, after);
      }
