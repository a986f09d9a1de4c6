-- What an operation writes, and the one text that spells it.
use Rattle.std.specs.Prelude.{codes, ℕ, List, [], ◌∷◌, ◌++◌}
use Rattle.std.specs.Fmt.{decimal}
use Rattle.domains.specs.Drive.{Drive}
use Rattle.scenario.specs.declared.op.Op.{Op}
use Rattle.scenario.specs.declared.op.Op.TheVariants.{Create, WriteText, Read, Fail}
use Rattle.scenario.specs.declared.scenario.FileDecl.{FileDecl}

-- the bytes that the operation writes to its file
abbrev pub payload_of : Op → List ℕ
payload_of (Create file) = []
payload_of (WriteText file offset text) = text
payload_of (Read file offset len) = []
payload_of (Fail drive) = []

-- the name of the file of this number
abbrev pub name_of : List FileDecl → ℕ → List ℕ
name_of [] file = []
name_of (f ∷ fs) ℕ.zero = f.name
name_of (f ∷ fs) (ℕ.suc file) = name_of fs file

-- a drive as its node and its number, parted by a slash
unfoldable pub drive_text : Drive → List ℕ
drive_text d = decimal d.node ++ codes "/" ++ decimal d.drive

-- the text of an operation, in a scenario with these files
unfoldable pub op_text : List FileDecl → Op → List ℕ
op_text files (Create file) = codes "create " ++ name_of files file
op_text files (WriteText file offset text) = codes "write " ++ name_of files file ++ codes " " ++ decimal offset ++ codes " text:" ++ text
op_text files (Read file offset len) = codes "read " ++ name_of files file ++ codes " " ++ decimal offset ++ codes " " ++ decimal len
op_text files (Fail drive) = codes "fail " ++ drive_text drive
