-- The canonical text of a table.
use Rattle.std.specs.Prelude.{codes, ◌≡◌, ◌<◌, ◌^◌, ℕ, nat_le, pos, Bool, true, ◌&&◌, not, ◌==◌, List, [], ◌∷◌, ◌++◌, length, Some}
use Rattle.std.specs.Fmt.{decimal}
use Rattle.std.specs.List.{list_all, AllByRecursion}
use Rattle.toml.specs.Parse.{parse_document}
use Rattle.scenario_table.specs.declared.draft.Draft.{Draft}
use Rattle.scenario_table.specs.declared.draft.FileRow.{FileRow}
use Rattle.scenario_table.specs.Table.{all_given, table_of}

abbrev line_feed : List ℕ
line_feed = 10 ∷ []

-- a line that gives a number
unfoldable pub number_line : List ℕ → ℕ → List ℕ
number_line key n = key ++ codes " = " ++ decimal n ++ line_feed

-- a line that gives a text
unfoldable pub text_line : List ℕ → List ℕ → List ℕ
text_line key text = key ++ codes " = \"" ++ text ++ codes "\"" ++ line_feed

-- the lines of a file's table
unfoldable pub file_lines : FileRow → List ℕ
file_lines f = codes "[[file]]" ++ line_feed ++ text_line (codes "name") f.name ++ text_line (codes "level") f.level

-- the line of an operation
unfoldable pub op_line : List ℕ → List ℕ
op_line op = codes "\"" ++ op ++ codes "\"," ++ line_feed

abbrev pub op_lines : List (List ℕ) → List ℕ
op_lines [] = []
op_lines (op ∷ ops) = op_line op ++ op_lines ops

-- the lines of an actor's table
unfoldable pub actor_lines : List (List ℕ) → List ℕ
actor_lines ops = codes "[[actor]]" ++ line_feed ++ codes "ops = [" ++ line_feed ++ op_lines ops ++ codes "]" ++ line_feed

abbrev pub all_file_lines : List FileRow → List ℕ
all_file_lines [] = []
all_file_lines (f ∷ fs) = file_lines f ++ all_file_lines fs

abbrev pub all_actor_lines : List (List (List ℕ)) → List ℕ
all_actor_lines [] = []
all_actor_lines (ops ∷ actors) = actor_lines ops ++ all_actor_lines actors

-- the numbers of a table
pub record Numbers : Type 0 where
  pub unit : ℕ
  pub nodes : ℕ
  pub drives : ℕ
  pub slots : ℕ
  pub workers : ℕ

-- the canonical text of a table of these values, line by line
unfoldable pub table_text : Numbers → List FileRow → List (List (List ℕ)) → List ℕ
table_text n files actors =
    number_line (codes "unit") n.unit ++ number_line (codes "nodes") n.nodes ++ number_line (codes "drives") n.drives
    ++ number_line (codes "slots") n.slots ++ number_line (codes "workers") n.workers
    ++ all_file_lines files ++ all_actor_lines actors

-- a draft of these values
abbrev pub draft_of : Numbers → List FileRow → List (List (List ℕ)) → Draft
draft_of n files actors = record {
  unit = pos n.unit;
  nodes = pos n.nodes;
  drives = pos n.drives;
  slots = pos n.slots;
  workers = pos n.workers;
  files = files;
  actors = actors;
}

-- a character from a space to a tilde, but for the double quote and the backslash
abbrev pub is_plain_byte : ℕ → Bool
is_plain_byte b = (nat_le 32 b && nat_le b 126) && (not (b == 34) && not (b == 92))

-- the bytes stand for themselves between quotes
abbrev pub IsPlain : List ℕ → Type 0
IsPlain text = list_all is_plain_byte text ≡ true

pub record IsPlainRow (f : FileRow) : Type 0 where
  pub name : IsPlain f.name
  pub level : IsPlain f.level

-- the numbers and texts can be written as they are
pub record IsPlainTable (n : Numbers) (files : List FileRow) (actors : List (List (List ℕ))) : Type 0 where
  pub unit : n.unit < 2 ^ 32
  pub nodes : n.nodes < 2 ^ 32
  pub drives : n.drives < 2 ^ 32
  pub slots : n.slots < 2 ^ 32
  pub workers : n.workers < 2 ^ 32
  pub some_files : 0 < length files
  pub some_actors : 0 < length actors
  pub rows : AllByRecursion IsPlainRow files
  pub ops : AllByRecursion (AllByRecursion IsPlain) actors

-- the canonical text is TOML for its table
abbrev pub ReadsBack : Type 0
ReadsBack =
    (n : Numbers) (files : List FileRow) (actors : List (List (List ℕ))) → IsPlainTable n files actors
    → parse_document (table_text n files actors) ≡ Some (table_of all_given (draft_of n files actors))
