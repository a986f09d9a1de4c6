-- The definitions on a small table, both ways.
use Rattle.std.proofs.Common.{codes, ◌≡◌, [], ◌∷◌, pos, true, false, Bool, refl}
use Rattle.std.specs.Fmt.{digits}
use Rattle.toml.specs.Data.{integer, array, no_items, Members, no_members, member}
use Rattle.scenario_table.specs.Canonical.{table_text, number_line, text_line, file_lines, op_line, actor_lines, Numbers}
use Rattle.scenario_table.specs.Table.{IsTableOf, table_of}
use Rattle.scenario_table.specs.declared.draft.Draft.{Draft}
use Rattle.scenario_table.specs.declared.draft.FileRow.{FileRow}

abbrev file_a : FileRow
file_a = record { name = codes "a"; level = codes "2x" }

abbrev small : Numbers
small = record { unit = 8; nodes = 2; drives = 1; slots = 16; workers = 1 }

-- the canonical text, as documented
text_is : table_text small (file_a ∷ []) ((codes "create a" ∷ codes "read a 0 5" ∷ []) ∷ []) ≡
    codes "unit = 8\nnodes = 2\ndrives = 1\nslots = 16\nworkers = 1\n[[file]]\nname = \"a\"\nlevel = \"2x\"\n[[actor]]\nops = [\n\"create a\",\n\"read a 0 5\",\n]\n"
unfolding table_text number_line text_line file_lines op_line actor_lines digits
text_is = refl

-- a table without unit and workers
abbrev bare : Members
bare =
    member (codes "actor") (array no_items) (member (codes "drives") (integer (pos 1)) (member (codes "file") (array no_items)
    (member (codes "nodes") (integer (pos 2)) (member (codes "slots") (integer (pos 3)) no_members))))

abbrev bare_draft : Draft
bare_draft = record { unit = pos 131072; nodes = pos 2; drives = pos 1; slots = pos 3; workers = pos 1; files = []; actors = [] }

bare_is : IsTableOf bare bare_draft
bare_is = record { given = record { unit = false; workers = false }; omitted = record { unit = λ none. refl; workers = λ none. refl }; is = refl }

-- no draft gives it a unit
no_unit : (unit workers : Bool) (d : Draft) → bare ≡ table_of (record { unit = unit; workers = workers }) d → unit ≡ false
no_unit false workers d is = refl
no_unit true workers d is = absurd cc

-- so it is of the default unit alone
only_default : (d : Draft) → (is : IsTableOf bare d) → d.unit ≡ pos 131072
only_default d is = is.omitted.unit (no_unit is.given.unit is.given.workers d is.is)
