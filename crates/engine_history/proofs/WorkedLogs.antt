-- The definitions on worked logs: FlexProtect over one file when a node of two drives is gone, and what is not legal.
use Rattle.std.proofs.Common.{◌≡◌, ℕ, List, [], ◌∷◌, ◌++◌, replicate, Some, None, refl, lit≤, lit<}
use Rattle.domains.specs.DriveSet.{has}
use Rattle.domains.specs.declared.by.By.{By}
use Rattle.domains.specs.declared.drive_set.DriveSet.{DriveSet}
use Rattle.job_rules.specs.declared.job.JobId.{JobId}
use Rattle.job_rules.specs.declared.kind.JobKind.TheVariants.{FlexProtect, AutoBalance}
use Rattle.checkpoints.specs.Saved.{all_drives}
use Rattle.engine_history.specs.Jobs.{jobs_after}
use Rattle.engine_history.specs.Steps.{IsEngineStep, IsHandOut, IsLegalEngineLog, World, due, next_job}
use Rattle.engine_history.specs.declared.end.End.TheVariants as end
use Rattle.engine_history.specs.declared.entry.EngineEntry.{EngineEntry}
use Rattle.engine_history.specs.declared.entry.EngineEvent.{EngineEvent}
use Rattle.engine_history.specs.declared.entry.EngineEvent.TheVariants as event
use Rattle.engine_history.specs.declared.entry.Finished.TheVariants as finished
use Rattle.engine_history.specs.declared.entry.JobOrder.TheVariants.{Pause, Cancel}
use Rattle.engine_history.specs.declared.entry.OrderEffect.TheVariants as effect

abbrev j : JobId
j = record { number = 1 }

-- both drives of node 3
abbrev node_three : DriveSet
node_three = record { nodes = 0 ∷ 0 ∷ 3 ∷ replicate 29 0 }

abbrev no_drives : DriveSet
no_drives = record { nodes = replicate 32 0 }

abbrev world : World
world = record { field = record { shape = record { nodes = 3; drives = 2; slots = 16; unit = 8 }; files = 1 }; epochs = 1; gone = λ e d. has node_three d }

abbrev by : ℕ → By
by call = record { actor = 1; call = call }

abbrev entry : ℕ → EngineEvent → EngineEntry
entry call event = record { by = by call; event = event }

abbrev start : EngineEntry
start = entry 4 (event.Start j FlexProtect 1 1 node_three)

abbrev done : ℕ → EngineEntry
done item = entry 5 (event.Done j item end.Whole)

-- the repair of the one file
abbrev repair : List EngineEntry
repair = entry 5 (event.HandOut j 0 0 1) ∷ entry 5 (event.Progress j 0 2) ∷ entry 5 (event.Progress j 0 3) ∷ done 0 ∷ entry 5 (event.PhaseEnd j 0) ∷ []

abbrev verify : List EngineEntry
verify = entry 5 (event.HandOut j 1 0 1) ∷ entry 5 (event.Progress j 0 1) ∷ entry 5 (event.Progress j 0 2) ∷ entry 5 (event.Progress j 0 3) ∷ done 0 ∷ entry 5 (event.PhaseEnd j 1) ∷ []

-- the release of the two drives, and the end
abbrev release : List EngineEntry
release =
    entry 5 (event.HandOut j 2 0 1) ∷ done 0 ∷ entry 5 (event.HandOut j 2 1 1) ∷ done 1 ∷ entry 5 (event.PhaseEnd j 2)
    ∷ entry 5 (event.Finish j finished.Done) ∷ entry 5 (event.Drain 9) ∷ []

-- the whole log of the worked example
worked_is_legal : IsLegalEngineLog world (start ∷ repair ++ verify ++ release)
unfolding all_drives
worked_is_legal = record {
  legal = (
    record { fresh = refl; room = lit< tt; some_priority = lit≤ tt; most_priority = lit≤ tt; known = lit≤ tt; barred = λ d drive. refl },
    (
      record { served = refl; run = record { phase_now = refl; first_one = refl; some = lit≤ tt; few = lit≤ tt; within = lit≤ tt; all = refl } },
      (
        (refl, lit≤ tt),
        (
          (refl, lit≤ tt),
          (
            refl,
            (
              (refl, refl),
              (
                record { served = refl; run = record { phase_now = refl; first_one = refl; some = lit≤ tt; few = lit≤ tt; within = lit≤ tt; all = refl } },
                (
                  (refl, lit≤ tt),
                  (
                    (refl, lit≤ tt),
                    (
                      (refl, lit≤ tt),
                      (
                        refl,
                        (
                          (refl, refl),
                          (
                            record { served = refl; run = record { phase_now = refl; first_one = refl; some = lit≤ tt; few = lit≤ tt; within = lit≤ tt; all = refl } },
                            (
                              refl,
                              (
                                record { served = refl; run = record { phase_now = refl; first_one = refl; some = lit≤ tt; few = lit≤ tt; within = lit≤ tt; all = refl } },
                                (refl, ((refl, refl), ((refl, refl), ((record { counted = refl; left = refl }, refl), tt)))),
                              ),
                            ),
                          ),
                        ),
                      ),
                    ),
                  ),
                ),
              ),
            ),
          ),
        ),
      ),
    ),
  );
  whole = refl;
}

-- a second hand-out while the only item is out is not legal
no_second_hand_out : IsEngineStep world (start ∷ entry 5 (event.HandOut j 0 0 1) ∷ []) [] (entry 5 (event.HandOut j 0 0 1)) → ⊥
no_second_hand_out step = step.served

-- the end of a phase is due: another entry is not legal, nor that of another operation
no_hand_out_while_due : IsEngineStep world (start ∷ entry 5 (event.HandOut j 0 0 1) ∷ done 0 ∷ []) [] (entry 5 (event.HandOut j 1 0 1)) → ⊥
no_hand_out_while_due step = let same = step.0 in cc

-- a job with a lost item does not finish as done
abbrev lost : EngineEntry
lost = entry 2 (event.Done j 0 (end.Lost (record { generation = 0; have = 0; need = 1 })))

abbrev balance : List EngineEntry
balance = entry 1 (event.Start j AutoBalance 4 0 no_drives) ∷ entry 2 (event.HandOut j 0 0 1) ∷ lost ∷ entry 2 (event.PhaseEnd j 0) ∷ []

partial_is_due : due (jobs_after world.field balance) ≡ Some (event.Finish j finished.Partial)
partial_is_due = refl

no_finish_done : IsEngineStep world balance [] (entry 2 (event.Finish j finished.Done)) → ⊥
no_finish_done step = let same = step.0 in cc

-- an AutoBalance has its item out when a FlexProtect starts: no job is served until the item is given back
abbrev other : JobId
other = record { number = 2 }

abbrev two : List EngineEntry
two = entry 1 (event.Start j AutoBalance 4 0 no_drives) ∷ entry 2 (event.HandOut j 0 0 1) ∷ entry 3 (event.Start other FlexProtect 1 0 no_drives) ∷ []

none_is_served : next_job (jobs_after world.field two) ≡ None
none_is_served = refl

other_is_served : IsHandOut (jobs_after world.field (two ++ entry 2 (event.GiveBack j 0 1) ∷ [])) other 0 0 1
other_is_served = record { served = refl; run = record { phase_now = refl; first_one = refl; some = lit≤ tt; few = lit≤ tt; within = lit≤ tt; all = refl } }

-- a cancelled job whose last item ends has no end of its phase, and is at its end
abbrev cancelled : List EngineEntry
cancelled =
    entry 1 (event.Start j AutoBalance 4 0 no_drives) ∷ entry 2 (event.HandOut j 0 0 1) ∷ entry 3 (event.Order j Cancel effect.Changed) ∷ entry 2 (event.Done j 0 end.Whole) ∷ []

nothing_is_due : due (jobs_after world.field cancelled) ≡ None
nothing_is_due = refl

no_phase_end : IsEngineStep world cancelled [] (entry 2 (event.PhaseEnd j 0)) → ⊥
no_phase_end step = step

-- a drain does not end while a job could be served
no_idle_drain : IsEngineStep world (start ∷ []) (start ∷ []) (entry 5 (event.Drain 0)) → ⊥
no_idle_drain step = let none = step.1 in cc

-- an order to a job that was never started finds none; a second pause changes nothing
not_started : IsEngineStep world [] [] (entry 1 (event.Order j Pause effect.NotActive))
not_started = refl

paused_before : IsEngineStep world (start ∷ entry 5 (event.Order j Pause effect.Changed) ∷ []) [] (entry 6 (event.Order j Pause effect.Same))
paused_before = refl

not_changed_again : IsEngineStep world (start ∷ entry 5 (event.Order j Pause effect.Changed) ∷ []) [] (entry 6 (event.Order j Pause effect.Changed)) → ⊥
not_changed_again step = cc

-- an item that is not out does not end
not_out : IsEngineStep world (start ∷ []) [] (done 0) → ⊥
not_out step = cc
