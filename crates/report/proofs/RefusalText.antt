-- The line of a refusal.
use Rattle.std.proofs.Common.{codes, ◌≡◌, ℕ, List, ◌++◌, refl, append_assoc}
use Rattle.domains.specs.Level.{Level}
use Rattle.file_history.specs.declared.entry.Refused.{Refused}
use Rattle.file_history.specs.declared.entry.Refused.TheVariants as refused
use Rattle.report.specs.FileLines.{refused_text, too_few_text, no_room_text, lost_text}
use Rattle.report.specs.RefusedParts.{operation_text, reason_text}

-- it is the operation and then the reason
pub refused_in_parts : (declared : Level) (r : Refused) → refused_text declared r ≡ operation_text declared r ++ codes " refused " ++ reason_text r
unfolding refused_text too_few_text no_room_text lost_text operation_text reason_text
refused_in_parts declared refused.CreateExists = simp append_assoc
refused_in_parts declared (refused.CreateTooFew fault) = simp append_assoc
refused_in_parts declared (refused.CreateNoRoom need got drives) = simp append_assoc
refused_in_parts declared refused.DeleteAbsent = refl
refused_in_parts declared (refused.WriteAbsent offset len) = simp append_assoc
refused_in_parts declared (refused.WriteTooFew offset len fault) = simp append_assoc
refused_in_parts declared (refused.WriteTooLong offset len count) = simp append_assoc
refused_in_parts declared (refused.WriteLost offset len lost) = simp append_assoc
refused_in_parts declared (refused.WriteNoRoom offset len need got drives) = simp append_assoc
refused_in_parts declared (refused.ReadAbsent offset len) = simp append_assoc
refused_in_parts declared (refused.ReadLost offset len lost) = simp append_assoc
refused_in_parts declared (refused.LevelAbsent level) = simp append_assoc

-- so who writes the operation, the word and the reason has written the line
pub refused_written : (text front middle all : List ℕ) (declared : Level) (r : Refused)
    → front ≡ text ++ operation_text declared r → middle ≡ front ++ codes " refused " → all ≡ middle ++ reason_text r
    → all ≡ text ++ refused_text declared r
refused_written text front middle all declared r first second third = rw (third, second, first, refused_in_parts) (simp append_assoc)
