-- The grammar of an inode as it is read from left to right, a row for each field, with the first field that is broken.
use Rattle.std.specs.Prelude.{◌≡◌, ℕ, ◌+◌, ◌==◌, ◌&&◌, Bool, not, if◌then◌else◌, List, [], ◌∷◌, ◌++◌, length, map, sum_by, get_or, Result, Ok, Err}
use Rattle.std.specs.Int.{w16, w32, w64}
use Rattle.std.specs.List.{list_any}
use Rattle.field_readers.specs.declared.fault.Broken.{Broken}
use Rattle.field_readers.specs.declared.fault.Broken.TheVariants.{Ends, Field}
use Rattle.field_readers.specs.FieldReaders.{◌>>=◌, Reader, both, broken, byte, checked, each, offset_of, word}
use Rattle.domains.specs.Drive.{Drive}
use Rattle.domains.specs.Place.{Place}
use Rattle.domains.specs.Level.{Level, named_levels, two_copies}
use Rattle.domains.specs.declared.group.Group.{Group}
use Rattle.inode_codec.specs.Inode.{level_code, units_for}
use Rattle.inode_codec.specs.declared.fault.BadInode.{BadInode}
use Rattle.inode_codec.specs.declared.fault.InodeFault.{InodeFault}
use Rattle.inode_codec.specs.declared.fault.InodeFault.TheVariants.{Bad, NoMemory}
use Rattle.inode_codec.specs.declared.fault.InodeRule.{InodeRule}
use Rattle.inode_codec.specs.declared.fault.InodeRule.TheVariants as rule
use Rattle.inode_codec.specs.declared.inode.Inode.{Inode}

-- a value taken off the front of the bytes, or the first field that is broken
abbrev pub InodeReader : Type 0 → Type 0
InodeReader A = Reader InodeRule A

-- a place: its node and drive, and its slot
abbrev pub RawPlace : Type 0
RawPlace = (ℕ × ℕ) × ℕ

-- a group: its generation, n, m and its places
abbrev pub RawGroup : Type 0
RawGroup = ℕ × (ℕ × (ℕ × List RawPlace))

-- an inode: the mark, the format, the code of the level, the unit, the size, how many groups and each of them
abbrev pub RawInode : Type 0
RawInode = ℕ × (ℕ × (ℕ × (ℕ × (ℕ × (ℕ × List RawGroup)))))

-- the drive is that of an earlier place
abbrev pub is_taken : List RawPlace → ℕ × ℕ → Bool
is_taken earlier d = list_any (λ (p : RawPlace). (p.0.0 == d.0) && (p.0.1 == d.1)) earlier

-- the generation is that of an earlier group
abbrev pub is_used : List RawGroup → ℕ → Bool
is_used earlier generation = list_any (λ (g : RawGroup). g.0 == generation) earlier

-- those before, and this one
abbrev pub push : {A : Type 0} → List A → A → List A
push earlier x = earlier ++ x ∷ []

-- a drive: its node, and its number within the node
abbrev pub any_drive_at : InodeReader (ℕ × ℕ)
any_drive_at = both (byte rule.Node 1 33) (λ node. byte rule.Drive 1 17)

-- the drive of a place, another one than those of the earlier places; a drive that comes again is broken at its node
unfoldable pub drive_at : List RawPlace → InodeReader (ℕ × ℕ)
drive_at earlier = checked rule.Node (λ d. not (is_taken earlier d)) any_drive_at

unfoldable pub place_at : List RawPlace → InodeReader RawPlace
place_at earlier = both (drive_at earlier) (λ drive. word w16 rule.Slot 0 4096)

unfoldable pub generation_at : List RawGroup → InodeReader ℕ
generation_at earlier = checked rule.Generation (λ generation. not (is_used earlier generation)) (word w32 rule.Generation 0 4294967296)

-- the first number above those of correction units, beside n data units
abbrev pub end_of_m : ℕ → ℕ
end_of_m n = if n == 1 then 8 else 5

unfoldable pub group_at : List RawGroup → InodeReader RawGroup
group_at earlier =
    both (generation_at earlier) (λ generation.
    both (byte rule.N 1 17) (λ n.
    both (byte rule.M 1 (end_of_m n)) (λ m.
    each place_at push (n + m) [])))

unfoldable pub inode_at : InodeReader RawInode
inode_at =
    both (word w16 rule.Mark 0x494E 0x494F) (λ mark.
    both (byte rule.Format 1 2) (λ format.
    both (byte rule.LevelField 0 16) (λ level.
    both (word w32 rule.UnitField 8 131073) (λ unit.
    both (word w64 rule.Size 0 536870913) (λ size.
    both (word w16 rule.Groups 0 257) (λ groups.
    each group_at push groups []))))))

-- how many data units the groups have
abbrev pub raw_units : List RawGroup → ℕ
raw_units groups = sum_by (λ (g : RawGroup). g.1.0) groups

-- the data units are as many as the size needs
abbrev pub has_units : RawInode → Bool
has_units i = raw_units i.1.1.1.1.1.1 == units_for i.1.1.1.0 i.1.1.1.1.0

-- all of the bytes: behind the last group the sum is right, and then nothing is left
unfoldable pub all_of : List ℕ → Result RawInode (Broken InodeRule)
all_of bytes =
    inode_at bytes >>= λ i.
    if has_units i.0 then (if length i.1 == 0 then Ok i.0 else Err (broken rule.Left i.1)) else Err (broken rule.Sum i.1)

-- ---- what was read, as the numbers of its fields

-- the level of this code: the row of the table at this place
abbrev pub level_at : ℕ → Level
level_at code = get_or (map (λ (named : Level × List ℕ). named.0) named_levels) code two_copies

abbrev pub raw_drive : Drive → ℕ × ℕ
raw_drive d = (d.node, d.drive)

abbrev pub raw_place : Place → RawPlace
raw_place s = (raw_drive s.drive, s.slot)

abbrev pub raw_group : Group → RawGroup
raw_group g = (g.generation, (g.n, (g.m, map raw_place g.places)))

-- the numbers that an inode's fields spell
abbrev pub raw_inode : Inode → RawInode
raw_inode i = (0x494E, (1, (level_code i.level, (i.unit, (i.size, (length i.groups, map raw_group i.groups))))))

-- ---- what the reader answers

-- the rule that is broken
abbrev pub rule_of : Broken InodeRule → InodeRule
rule_of Ends = rule.Ends
rule_of (Field left what) = what

-- the offset of what is broken, in bytes of this number, and the rule
abbrev pub bad_at : ℕ → Broken InodeRule → BadInode
bad_at bytes b = record { at = offset_of bytes b; what = rule_of b }

-- the bytes spell the inode, or this field of theirs is the first that is broken, unless memory ran out
abbrev pub Answers : List ℕ → Result Inode InodeFault → Result RawInode (Broken InodeRule) → Type 0
Answers bytes (Ok i) read = read ≡ Ok (raw_inode i)
Answers bytes (Err NoMemory) read = Unit {0}
Answers bytes (Err (Bad b)) (Ok x) = ⊥
Answers bytes (Err (Bad b)) (Err e) = b ≡ bad_at (length bytes) e

-- the inode was read, unless memory ran out
abbrev pub IsRead : Inode → Result Inode InodeFault → Type 0
IsRead i (Ok j) = j ≡ i
IsRead i (Err NoMemory) = Unit {0}
IsRead i (Err (Bad b)) = ⊥
