-- A drive or a generation that came before, as the code finds it.
use Rattle.std.proofs.Common.{◌≡◌, ℕ, Bool, true, false, ◌||◌, not, List, [], ◌∷◌, map, Ok, Err, refl, ap, ◌∙◌, eqb}
use Rattle.std.specs.List.{list_any}
use Rattle.std.specs.Int.{w32}
use Rattle.domains.specs.Drive.{Drive, same_drive}
use Rattle.domains.specs.Place.{Place}
use Rattle.domains.specs.declared.group.Group.{Group}
use Rattle.field_readers.specs.declared.fault.ReadFault.{ReadFault}
use Rattle.field_readers.specs.FieldReaders.{Fails, broken, word}
use Rattle.field_readers.proofs.Readers.{checked_fails, checked_passed, checked_refused}
use Rattle.inode_codec.specs.declared.fault.InodeRule.{InodeRule}
use Rattle.inode_codec.specs.declared.fault.InodeRule.TheVariants as rule
use Rattle.inode_codec.specs.InodeReader.{any_drive_at, drive_at, generation_at, is_taken, is_used, raw_drive, raw_group, raw_place}

is_taken-places : (ps : List Place) (d : Drive) → is_taken (map raw_place ps) (raw_drive d) ≡ list_any (λ (s : Place). same_drive s.drive d) ps
is_taken-places [] d = refl
is_taken-places (p ∷ ps) d = ap (λ (t : Bool). same_drive p.drive d || t) (is_taken-places ps d)

is_used-groups : (gs : List Group) (n : ℕ) → is_used (map raw_group gs) n ≡ list_any (λ (g : Group). eqb g.generation n) gs
is_used-groups [] n = refl
is_used-groups (g ∷ gs) n = ap (λ (t : Bool). eqb g.generation n || t) (is_used-groups gs n)

pub drive_fails : (ps : List Place) (bytes : List ℕ) (e : ReadFault InodeRule) → Fails e (any_drive_at bytes) → Fails e (drive_at (map raw_place ps) bytes)
unfolding drive_at
drive_fails ps bytes e h = checked_fails rule.Node (λ d. not (is_taken (map raw_place ps) d)) any_drive_at bytes e h

pub drive_taken : (ps : List Place) (bytes : List ℕ) (d : Drive) (rest : List ℕ) → any_drive_at bytes ≡ Ok (raw_drive d, rest) → list_any (λ (s : Place). same_drive s.drive d) ps ≡ true
    → drive_at (map raw_place ps) bytes ≡ Err (broken rule.Node bytes)
unfolding drive_at
drive_taken ps bytes d rest read taken =
    checked_refused rule.Node (λ x. not (is_taken (map raw_place ps) x)) any_drive_at bytes (raw_drive d, rest) read (ap not (is_taken-places ps d ∙ taken))

pub drive_free : (ps : List Place) (bytes : List ℕ) (d : Drive) (rest : List ℕ) → any_drive_at bytes ≡ Ok (raw_drive d, rest) → list_any (λ (s : Place). same_drive s.drive d) ps ≡ false
    → drive_at (map raw_place ps) bytes ≡ Ok (raw_drive d, rest)
unfolding drive_at
drive_free ps bytes d rest read free =
    checked_passed rule.Node (λ x. not (is_taken (map raw_place ps) x)) any_drive_at bytes (raw_drive d, rest) read (ap not (is_taken-places ps d ∙ free))

pub generation_fails : (gs : List Group) (bytes : List ℕ) (e : ReadFault InodeRule) → Fails e (word w32 rule.Generation 0 4294967296 bytes) → Fails e (generation_at (map raw_group gs) bytes)
unfolding generation_at
generation_fails gs bytes e h = checked_fails rule.Generation (λ g. not (is_used (map raw_group gs) g)) (word w32 rule.Generation 0 4294967296) bytes e h

pub generation_used : (gs : List Group) (bytes : List ℕ) (n : ℕ) (rest : List ℕ) → word w32 rule.Generation 0 4294967296 bytes ≡ Ok (n, rest) → list_any (λ (g : Group). eqb g.generation n) gs ≡ true
    → generation_at (map raw_group gs) bytes ≡ Err (broken rule.Generation bytes)
unfolding generation_at
generation_used gs bytes n rest read used =
    checked_refused rule.Generation (λ x. not (is_used (map raw_group gs) x)) (word w32 rule.Generation 0 4294967296) bytes (n, rest) read (ap not (is_used-groups gs n ∙ used))

pub generation_free : (gs : List Group) (bytes : List ℕ) (n : ℕ) (rest : List ℕ) → word w32 rule.Generation 0 4294967296 bytes ≡ Ok (n, rest) → list_any (λ (g : Group). eqb g.generation n) gs ≡ false
    → generation_at (map raw_group gs) bytes ≡ Ok (n, rest)
unfolding generation_at
generation_free gs bytes n rest read free =
    checked_passed rule.Generation (λ x. not (is_used (map raw_group gs) x)) (word w32 rule.Generation 0 4294967296) bytes (n, rest) read (ap not (is_used-groups gs n ∙ free))
