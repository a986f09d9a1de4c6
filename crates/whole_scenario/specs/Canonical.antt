-- The canonical text of a scenario.
use Rattle.std.specs.Prelude.{codes, ℕ, List, [], ◌∷◌, ◌++◌}
use Rattle.std.specs.Fmt.{decimal}
use Rattle.domains.specs.Level.{level_name}
use Rattle.operation_rules.specs.OpRules.{file_names}
use Rattle.operation_text.specs.NamedOps.{named_text}
use Rattle.scenario.specs.declared.scenario.FileDecl.{FileDecl}
use Rattle.whole_scenario.specs.Names.{named_op}
use Rattle.whole_scenario.specs.declared.op.Op.{Op}
use Rattle.whole_scenario.specs.declared.whole.Scenario.{Scenario}

abbrev line_feed : List ℕ
line_feed = 10 ∷ []

-- a line that gives a number
unfoldable pub number_line : List ℕ → ℕ → List ℕ
number_line key n = key ++ codes " = " ++ decimal n ++ line_feed

-- a line that gives a text
unfoldable pub text_line : List ℕ → List ℕ → List ℕ
text_line key text = key ++ codes " = \"" ++ text ++ codes "\"" ++ line_feed

-- the lines of a file's table
unfoldable pub file_lines : FileDecl → List ℕ
file_lines f = codes "[[file]]" ++ line_feed ++ text_line (codes "name") f.name ++ text_line (codes "level") (level_name f.level)

abbrev pub all_file_lines : List FileDecl → List ℕ
all_file_lines [] = []
all_file_lines (f ∷ fs) = file_lines f ++ all_file_lines fs

-- the text of an operation, where the files and the jobs have these names
abbrev pub op_text : List (List ℕ) → List (List ℕ) → Op → List ℕ
op_text files jobs op = named_text (named_op files jobs op)

-- the line of an operation
unfoldable pub op_line : List (List ℕ) → List (List ℕ) → Op → List ℕ
op_line files jobs op = codes "\"" ++ op_text files jobs op ++ codes "\"," ++ line_feed

abbrev pub op_lines : List (List ℕ) → List (List ℕ) → List Op → List ℕ
op_lines files jobs [] = []
op_lines files jobs (op ∷ ops) = op_line files jobs op ++ op_lines files jobs ops

-- the lines before the operations of an actor
unfoldable pub actor_opening : List ℕ
actor_opening = codes "[[actor]]" ++ line_feed ++ codes "ops = [" ++ line_feed

-- the lines of an actor's table
unfoldable pub actor_lines : List (List ℕ) → List (List ℕ) → List Op → List ℕ
actor_lines files jobs ops =
    actor_opening ++ op_lines files jobs ops ++ codes "]" ++ line_feed

abbrev pub all_actor_lines : List (List ℕ) → List (List ℕ) → List (List Op) → List ℕ
all_actor_lines files jobs [] = []
all_actor_lines files jobs (ops ∷ actors) = actor_lines files jobs ops ++ all_actor_lines files jobs actors

-- the canonical text of a scenario, line by line
unfoldable pub canonical_text : Scenario → List ℕ
canonical_text s =
    number_line (codes "unit") s.shape.unit ++ number_line (codes "nodes") s.shape.nodes
    ++ number_line (codes "drives") s.shape.drives ++ number_line (codes "slots") s.shape.slots
    ++ number_line (codes "workers") s.workers
    ++ all_file_lines s.files ++ all_actor_lines (file_names s.files) s.jobs s.actors
