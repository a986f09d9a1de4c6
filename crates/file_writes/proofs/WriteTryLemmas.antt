-- What a try tells, by what was pulled and what was switched.
use Rattle.std.proofs.Common.{◌≡◌, ℕ, List, Option, None, Result, Ok, Err, length, sym, subst, ◌∙◌}
use Rattle.board.specs.declared.board_view.View.{View}
use Rattle.domains.specs.declared.by.By.{By}
use Rattle.fabric.specs.declared.hand.Hand.{Hand}
use Rattle.file_core.specs.FileView.{FileView, layout_of, now_of}
use Rattle.file_history.specs.Live.{IsReadable, write}
use Rattle.file_core.specs.declared.pull.Pulled.{Pulled}
use Rattle.file_core.specs.declared.switch.Switched.{Switched}
use Rattle.file_writes.specs.WriteTerms.{AreExactTerms}
use Rattle.file_writes.specs.WriteTries.{SwitchTells, TryTells, change_of, spin_of}
use Rattle.file_writes.specs.declared.trying.WriteStop.{WriteStop}
use Rattle.file_writes.specs.declared.trying.WriteStop.TheVariants.{Lost, NoRoom, Refused, NoMemory}
use Rattle.flex_io.specs.declared.raw_place.RawPlace.{RawPlace}
use Rattle.placed_runs.specs.declared.terms.RunTerms.{RunTerms}
use Rattle.range_writes.specs.PlacedWrites.{FindsNoWrite, PlacesWrite}
use Rattle.range_writes.specs.PulledWrites.{IsPulledWrite, ReadsSlots}
use Rattle.range_writes.specs.ReadyWrites.{AreTermsOf}
use Rattle.map_switches.specs.Switches.{IsRefusal}
use Rattle.write_plans.specs.declared.plan.WritePlan.{WritePlan}

module _ {S : Type 0} where
  -- exact terms are terms
  pub exact_terms : (x : FileView S) (view : View) (t : RunTerms) → AreExactTerms x view t → AreTermsOf x view t
  exact_terms x view t exact = record { level = exact.level; unit = exact.unit; usable = λ d of is. sym (exact.usable d of) ∙ is }

  -- a pull leaves the terms as they were
  pub read_terms : (place_of : S → RawPlace) (content : S → Option (List ℕ)) (len_of : S → ℕ) (x y : FileView S) (view : View) (t : RunTerms) → ReadsSlots place_of content len_of x y
      → AreExactTerms x view t → AreExactTerms y view t
  read_terms place_of content len_of x y view t reads exact =
      let same : AreExactTerms (record x { groups = y.groups; inode = y.inode }) view t = record { level = exact.level; unit = exact.unit; view_is = exact.view_is; usable = exact.usable } in
      subst (λ (f : FileView S). AreExactTerms f view t) (sym reads.kept) same

module _ {S : Type 0} (place_of : S → RawPlace) (content : S → Option (List ℕ)) (len_of faults : S → ℕ) (by : By) (view : View) (t : RunTerms) (plan : WritePlan) (offset : ℕ) (payload : List ℕ)
    (p : Pulled) (x read y : FileView S) (old new : Hand S) where
  pub try_tells : (result : Result (Switched S) (WriteStop S)) → t.view ≡ view → IsPulledWrite place_of content len_of view offset (length payload) plan.width p x read
      → SwitchTells place_of content len_of faults result by t plan offset payload read y old new → TryTells place_of content len_of faults result by t plan offset payload x y old new
  try_tells (Ok done) same pulled tells = (read, pulled.reads, tells)
  try_tells (Err (Lost lost)) same pulled tells = absurd tells
  try_tells (Err (NoRoom told)) same pulled tells = (
    subst (ReadsSlots place_of content len_of x) (sym tells.0) pulled.reads,
    subst (λ (v : View). IsReadable (now_of x v) (layout_of x) (write offset (length payload) plan.width)) (sym same) pulled.readable,
    subst (λ (f : FileView S). FindsNoWrite place_of content len_of faults f t (spin_of f) plan offset payload told old new) (sym tells.0) tells.1,
  )
  try_tells (Err (Refused why change)) same pulled tells = (
    tells.0,
    tells.1,
    subst (ReadsSlots place_of content len_of x) (sym tells.2) pulled.reads,
    subst (λ (f : FileView S). PlacesWrite place_of content len_of faults f t (spin_of f) plan offset payload tells.0 tells.1 old new) (sym tells.2) tells.3,
    subst (λ (f : FileView S). IsRefusal place_of faults None (change_of f t plan offset payload tells.0 tells.1) why change) (sym tells.2) tells.4,
  )
  try_tells (Err NoMemory) same pulled tells = subst (ReadsSlots place_of content len_of x) (sym tells) pulled.reads
