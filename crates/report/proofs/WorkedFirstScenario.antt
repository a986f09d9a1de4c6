-- The definitions on a small run: two nodes of one drive, a mirrored file that is created, written and read.
use Rattle.std.proofs.Common.{codes, ◌≡◌, ℕ, List, [], ◌∷◌, refl, rules}
use Rattle.std.specs.Fmt.{digits}
use Rattle.hex.proofs.OnLiterals.{hex_on_literals}
use Rattle.domains.specs.Place.{Place}
use Rattle.domains.specs.Level.{two_copies}
use Rattle.domains.specs.declared.group.Group.{Group}
use Rattle.scenario.specs.Ops.{op_text, drive_text}
use Rattle.scenario.specs.Canonical.{canonical_text, number_line, text_line, file_lines, op_line, actor_lines}
use Rattle.scenario.specs.declared.op.Op.TheVariants.{Create, WriteText, Read}
use Rattle.scenario.specs.declared.scenario.Scenario.{Scenario}
use Rattle.file_history.specs.declared.entry.FileEvent.{FileEvent}
use Rattle.file_history.specs.declared.entry.FileEvent.TheVariants.{Created, Written, Shown}
use Rattle.file_history.specs.declared.entry.FileEntry.{FileEntry}
use Rattle.report.specs.Words.{by_text, place_text, group_text}
use Rattle.report.specs.FileLines as file
use Rattle.report.specs.Printed.{printed, board_block, file_block}
use Rattle.std.specs.List.{AllByRecursion}
use Rattle.file_history.specs.Step.{IsLegalLog}
use Rattle.report.specs.Script.{noted_entries, FitsScript, file_calls, numbers_where, is_for_file}
use Rattle.file_history.specs.World.{world_of}
use Rattle.report.specs.declared.logs.Logs.{Logs}

abbrev scenario : Scenario
scenario = record {
  shape = record { nodes = 2; drives = 1; slots = 16; unit = 8 };
  workers = 1;
  files = record { name = codes "a"; level = two_copies } ∷ [];
  actors = (Create 0 ∷ WriteText 0 0 (codes "hello") ∷ Read 0 0 5 ∷ []) ∷ [];
}

abbrev placed : ℕ → ℕ → Place
placed node slot = record { drive = record { node = node; drive = 1 }; slot = slot }

abbrev mirror : ℕ → Place → Place → Group
mirror generation a b = record { generation = generation; n = 1; m = 1; places = a ∷ b ∷ [] }

abbrev entry : ℕ → FileEvent → FileEntry
entry call event = record { by = record { actor = 1; call = call }; epoch = 0; event = event }

abbrev log : List FileEntry
log =
    entry 1 (Created (mirror 0 (placed 1 0) (placed 2 0)))
    ∷ entry 2 (Written 0 5 5 (record { old = []; new = mirror 1 (placed 2 1) (placed 1 1) ∷ []; inode = mirror 2 (placed 1 2) (placed 2 2) }))
    ∷ entry 3 (Shown 0 5 (codes "hello")) ∷ []

abbrev logs : Logs
logs = record { scenario = scenario; board = []; files = log ∷ [] }

is_legal : IsLegalLog (world_of scenario.shape [] two_copies) (noted_entries scenario log)
is_legal = search rules depth 7

fits : AllByRecursion (FitsScript scenario 0) log
fits = (
  record { operation = Create 0; known = refl; answers = refl },
  (
    record { operation = WriteText 0 0 (codes "hello"); known = refl; answers = (refl, refl, refl) },
    (record { operation = Read 0 0 5; known = refl; answers = refl }, tt),
  ),
)

calls : file_calls 1 log ≡ numbers_where (Create 0 ∷ WriteText 0 0 (codes "hello") ∷ Read 0 0 5 ∷ []) 1 (is_for_file 0)
calls = refl

text : printed logs ≡
    codes "report 1\nunit = 8\nnodes = 2\ndrives = 1\nslots = 16\nworkers = 1\n[[file]]\nname = \"a\"\nlevel = \"2x\"\n[[actor]]\nops = [\n\"create a\",\n\"write a 0 text:hello\",\n\"read a 0 5\",\n]\nboard 0\nengine 0\nfile a 3\n1.1 e0 create 2x inode 0=1+1@1/1:0,2/1:0\n1.2 e0 write 0 5 size 5 old - new 1=1+1@2/1:1,1/1:1 inode 2=1+1@1/1:2,2/1:2\n1.3 e0 read 0 5 shown 68656c6c6f\nend\n"
unfolding digits hex_on_literals printed canonical_text number_line text_line file_lines op_line actor_lines op_text drive_text board_block file_block by_text place_text group_text file.range_text file.change_text file.create_text file.event_text file.file_line
text = refl
