-- The canonical text of a scenario.
use Rattle.std.specs.Prelude.{codes, ℕ, List, [], ◌∷◌, ◌++◌}
use Rattle.std.specs.Fmt.{decimal}
use Rattle.domains.specs.Level.{level_name}
use Rattle.scenario.specs.declared.op.Op.{Op}
use Rattle.scenario.specs.declared.scenario.FileDecl.{FileDecl}
use Rattle.scenario.specs.declared.scenario.Scenario.{Scenario}
use Rattle.scenario.specs.Ops.{op_text}

abbrev line_feed : List ℕ
line_feed = 10 ∷ []

-- a line that gives a number
unfoldable pub number_line : List ℕ → ℕ → List ℕ
number_line key n = key ++ codes " = " ++ decimal n ++ line_feed

-- a line that gives a text
unfoldable pub text_line : List ℕ → List ℕ → List ℕ
text_line key text = key ++ codes " = \"" ++ text ++ codes "\"" ++ line_feed

-- the lines of a file's table
unfoldable pub file_lines : FileDecl → List ℕ
file_lines f = codes "[[file]]" ++ line_feed ++ text_line (codes "name") f.name ++ text_line (codes "level") (level_name f.level)

-- the line of an operation
unfoldable pub op_line : List FileDecl → Op → List ℕ
op_line files op = codes "\"" ++ op_text files op ++ codes "\"," ++ line_feed

abbrev pub op_lines : List FileDecl → List Op → List ℕ
op_lines files [] = []
op_lines files (op ∷ ops) = op_line files op ++ op_lines files ops

-- the lines of an actor's table
unfoldable pub actor_lines : List FileDecl → List Op → List ℕ
actor_lines files ops =
    codes "[[actor]]" ++ line_feed ++ codes "ops = [" ++ line_feed ++ op_lines files ops ++ codes "]" ++ line_feed

abbrev pub all_file_lines : List FileDecl → List ℕ
all_file_lines [] = []
all_file_lines (f ∷ fs) = file_lines f ++ all_file_lines fs

abbrev pub all_actor_lines : List FileDecl → List (List Op) → List ℕ
all_actor_lines files [] = []
all_actor_lines files (ops ∷ actors) = actor_lines files ops ++ all_actor_lines files actors

-- the canonical text of a scenario, line by line
unfoldable pub canonical_text : Scenario → List ℕ
canonical_text s =
    number_line (codes "unit") s.shape.unit ++ number_line (codes "nodes") s.shape.nodes
    ++ number_line (codes "drives") s.shape.drives ++ number_line (codes "slots") s.shape.slots
    ++ number_line (codes "workers") s.workers
    ++ all_file_lines s.files ++ all_actor_lines s.files s.actors
