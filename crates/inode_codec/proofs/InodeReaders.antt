-- The readers of the fields of an inode.
use Rattle.std.proofs.Common.{◌≡◌, ℕ, ◌+◌, ◌^◌, true, not, List, [], ◌∷◌, ◌++◌, lit≤}
use Rattle.std.specs.Int.{w16, w32, w64, to_be_bytes}
use Rattle.field_readers.specs.FieldReaders.{byte, each, word}
use Rattle.field_readers.proofs.Readers.{AreSo, IsReader, IsWithin, both_reader, byte_reader, checked_reader, each_reader, texts, wide16, wide32, wide64, word_reader}
use Rattle.inode_codec.specs.declared.fault.InodeRule.TheVariants as rule
use Rattle.inode_codec.specs.InodeReader.{RawGroup, RawInode, RawPlace, any_drive_at, drive_at, end_of_m, generation_at, group_at, inode_at, is_taken, is_used, place_at, push}

abbrev pub drive_text : ℕ × ℕ → List ℕ
drive_text d = (d.0 ∷ []) ++ (d.1 ∷ [])

abbrev pub AnyDriveFits : ℕ × ℕ → Type 0
AnyDriveFits d = IsWithin 1 33 d.0 × IsWithin 1 17 d.1

abbrev pub DriveFits : List RawPlace → ℕ × ℕ → Type 0
DriveFits earlier d = AnyDriveFits d × (not (is_taken earlier d) ≡ true)

any_drive_reader : IsReader any_drive_at drive_text AnyDriveFits
any_drive_reader =
    both_reader (byte rule.Node 1 33) (λ n. n ∷ []) (IsWithin 1 33) (λ node. byte rule.Drive 1 17) (λ node n. n ∷ []) (λ node. IsWithin 1 17)
    (byte_reader rule.Node 1 33) (λ node _. byte_reader rule.Drive 1 17)

drive_reader : (earlier : List RawPlace) → IsReader (drive_at earlier) drive_text (DriveFits earlier)
unfolding drive_at
drive_reader earlier = checked_reader rule.Node (λ d. not (is_taken earlier d)) any_drive_at drive_text AnyDriveFits any_drive_reader

abbrev pub place_text : RawPlace → List ℕ
place_text p = drive_text p.0 ++ to_be_bytes w16 p.1

abbrev pub PlaceFits : List RawPlace → RawPlace → Type 0
PlaceFits earlier p = DriveFits earlier p.0 × IsWithin 0 4096 p.1

place_reader : (earlier : List RawPlace) → IsReader (place_at earlier) place_text (PlaceFits earlier)
unfolding place_at
place_reader earlier =
    both_reader (drive_at earlier) drive_text (DriveFits earlier) (λ drive. word w16 rule.Slot 0 4096) (λ drive. to_be_bytes w16) (λ drive. IsWithin 0 4096)
    (drive_reader earlier) (λ drive _. word_reader w16 (2 ^ 16) wide16 rule.Slot 0 4096 (lit≤ tt))

pub places_reader : (count : ℕ) → IsReader (each place_at push count []) (texts place_text) (AreSo PlaceFits push count [])
places_reader count = each_reader place_at push place_text PlaceFits place_reader count []

abbrev pub GenerationFits : List RawGroup → ℕ → Type 0
GenerationFits earlier g = IsWithin 0 4294967296 g × (not (is_used earlier g) ≡ true)

generation_reader : (earlier : List RawGroup) → IsReader (generation_at earlier) (to_be_bytes w32) (GenerationFits earlier)
unfolding generation_at
generation_reader earlier =
    checked_reader rule.Generation (λ g. not (is_used earlier g)) (word w32 rule.Generation 0 4294967296) (to_be_bytes w32) (IsWithin 0 4294967296)
    (word_reader w32 (2 ^ 32) wide32 rule.Generation 0 4294967296 (lit≤ tt))

abbrev pub group_text : RawGroup → List ℕ
group_text g = to_be_bytes w32 g.0 ++ ((g.1.0 ∷ []) ++ ((g.1.1.0 ∷ []) ++ texts place_text g.1.1.1))

abbrev pub GroupFits : List RawGroup → RawGroup → Type 0
GroupFits earlier g =
    GenerationFits earlier g.0 × (IsWithin 1 17 g.1.0 × (IsWithin 1 (end_of_m g.1.0) g.1.1.0 × AreSo PlaceFits push (g.1.0 + g.1.1.0) [] g.1.1.1))

group_reader : (earlier : List RawGroup) → IsReader (group_at earlier) group_text (GroupFits earlier)
unfolding group_at
group_reader earlier =
    both_reader (generation_at earlier) (to_be_bytes w32) (GenerationFits earlier) _ _ _ (generation_reader earlier) (λ generation _.
    both_reader (byte rule.N 1 17) (λ n. n ∷ []) (IsWithin 1 17) _ _ _ (byte_reader rule.N 1 17) (λ n _.
    both_reader (byte rule.M 1 (end_of_m n)) (λ m. m ∷ []) (IsWithin 1 (end_of_m n)) (λ m. each place_at push (n + m) []) (λ m. texts place_text) (λ m. AreSo PlaceFits push (n + m) [])
    (byte_reader rule.M 1 (end_of_m n)) (λ m _. places_reader (n + m))))

pub groups_reader : (count : ℕ) → IsReader (each group_at push count []) (texts group_text) (AreSo GroupFits push count [])
groups_reader count = each_reader group_at push group_text GroupFits group_reader count []

abbrev pub inode_text : RawInode → List ℕ
inode_text i =
    to_be_bytes w16 i.0
    ++ ((i.1.0 ∷ []) ++ ((i.1.1.0 ∷ []) ++ (to_be_bytes w32 i.1.1.1.0 ++ (to_be_bytes w64 i.1.1.1.1.0 ++ (to_be_bytes w16 i.1.1.1.1.1.0 ++ texts group_text i.1.1.1.1.1.1)))))

abbrev pub InodeFits : RawInode → Type 0
InodeFits i =
    IsWithin 0x494E 0x494F i.0
    × (IsWithin 1 2 i.1.0
    × (IsWithin 0 16 i.1.1.0
    × (IsWithin 8 131073 i.1.1.1.0
    × (IsWithin 0 536870913 i.1.1.1.1.0 × (IsWithin 0 257 i.1.1.1.1.1.0 × AreSo GroupFits push i.1.1.1.1.1.0 [] i.1.1.1.1.1.1)))))

pub inode_reader : IsReader inode_at inode_text InodeFits
unfolding inode_at
inode_reader =
    both_reader (word w16 rule.Mark 0x494E 0x494F) (to_be_bytes w16) (IsWithin 0x494E 0x494F) _ _ _ (word_reader w16 (2 ^ 16) wide16 rule.Mark 0x494E 0x494F (lit≤ tt)) (λ mark _.
    both_reader (byte rule.Format 1 2) (λ n. n ∷ []) (IsWithin 1 2) _ _ _ (byte_reader rule.Format 1 2) (λ format _.
    both_reader (byte rule.LevelField 0 16) (λ n. n ∷ []) (IsWithin 0 16) _ _ _ (byte_reader rule.LevelField 0 16) (λ level _.
    both_reader (word w32 rule.UnitField 8 131073) (to_be_bytes w32) (IsWithin 8 131073) _ _ _ (word_reader w32 (2 ^ 32) wide32 rule.UnitField 8 131073 (lit≤ tt)) (λ unit _.
    both_reader (word w64 rule.Size 0 536870913) (to_be_bytes w64) (IsWithin 0 536870913) _ _ _ (word_reader w64 (2 ^ 64) wide64 rule.Size 0 536870913 (lit≤ tt)) (λ size _.
    both_reader (word w16 rule.Groups 0 257) (to_be_bytes w16) (IsWithin 0 257) (λ groups. each group_at push groups []) (λ groups. texts group_text) (λ groups. AreSo GroupFits push groups [])
    (word_reader w16 (2 ^ 16) wide16 rule.Groups 0 257 (lit≤ tt)) (λ groups _. groups_reader groups))))))
