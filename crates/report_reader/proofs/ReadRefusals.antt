-- The parts of a refusal, as the code reads them.
use Rattle.std.proofs.Common.{codes, ◌≡◌, ℕ, true, List, [], ◌∷◌, ◌++◌, refl, ap, ◌∙◌}
use Rattle.domains.specs.declared.group.Group.{Group}
use Rattle.file_history.specs.declared.entry.Change.{Change}
use Rattle.file_history.specs.declared.entry.Refused.{Refused}
use Rattle.file_history.specs.declared.entry.Refused.TheVariants as refused
use Rattle.report_reader.specs.Lines.{lacks}
use Rattle.report_reader.specs.Refusals.{lost_rest, no_room_rest, reason_head, reason_line, reason_rest, too_few_rest}
use Rattle.domains.specs.declared.group.Lost.{Lost}
use Rattle.domains.specs.declared.room.TooFew.{TooFew}

abbrev made_few : ℕ → ℕ → TooFew
made_few have need = record { have = have; need = need }

pub few_is : (have need : ℕ) (t : TooFew) → have ≡ t.have → need ≡ t.need → made_few have need ≡ t
few_is have need t a b = rw (a, b) refl

abbrev made_lost : ℕ → ℕ → ℕ → Lost
made_lost generation have need = record { generation = generation; have = have; need = need }

pub lost_is : (generation have need : ℕ) (l : Lost) → generation ≡ l.generation → have ≡ l.have → need ≡ l.need → made_lost generation have need ≡ l
lost_is generation have need l a b d = rw (a, b, d) refl

abbrev made_change : List ℕ → List Group → Group → Change
made_change old new inode = record { old = old; new = new; inode = inode }

pub change_is : (old : List ℕ) (new : List Group) (inode : Group) (c : Change) → old ≡ c.old → new ≡ c.new → inode ≡ c.inode → made_change old new inode ≡ c
change_is old new inode c a b d = rw (a, b, d) refl

alone : (text word rest only : List ℕ) → text ≡ only → lacks 32 only ≡ true → (lacks 32 text ≡ true → (word ≡ text) × (rest ≡ [])) → (word ≡ only) × (rest ≡ [])
alone text word rest only is clean none = let parts = none (ap (lacks 32) is ∙ clean) in (parts.0 ∙ is, parts.1)

-- a reason cut at its first space
pub reason_cut : (r : Refused) (text word rest : List ℕ) → text ≡ reason_line r
    → ((xs ys : List ℕ) → lacks 32 xs ≡ true → text ≡ xs ++ 32 ∷ ys → (word ≡ xs) × (rest ≡ ys)) → (lacks 32 text ≡ true → (word ≡ text) × (rest ≡ []))
    → (word ≡ reason_head r) × (rest ≡ reason_rest r)
reason_cut refused.CreateExists text word rest is at none = alone text word rest (codes "exists") is refl none
reason_cut (refused.CreateTooFew fault) text word rest is at none = at (codes "toofew") (too_few_rest fault) refl is
reason_cut (refused.CreateNoRoom need got drives) text word rest is at none = at (codes "noroom") (no_room_rest need got drives) refl is
reason_cut refused.DeleteAbsent text word rest is at none = alone text word rest (codes "absent") is refl none
reason_cut (refused.WriteAbsent offset len) text word rest is at none = alone text word rest (codes "absent") is refl none
reason_cut (refused.WriteTooFew offset len fault) text word rest is at none = at (codes "toofew") (too_few_rest fault) refl is
reason_cut (refused.WriteTooLong offset len count) text word rest is at none = at (codes "toolong") _ refl is
reason_cut (refused.WriteLost offset len l) text word rest is at none = at (codes "lost") (lost_rest l) refl is
reason_cut (refused.WriteNoRoom offset len need got drives) text word rest is at none = at (codes "noroom") (no_room_rest need got drives) refl is
reason_cut (refused.ReadAbsent offset len) text word rest is at none = alone text word rest (codes "absent") is refl none
reason_cut (refused.ReadLost offset len l) text word rest is at none = at (codes "lost") (lost_rest l) refl is
reason_cut (refused.LevelAbsent level) text word rest is at none = alone text word rest (codes "absent") is refl none
