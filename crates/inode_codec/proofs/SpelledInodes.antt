-- The numbers of an inode's fields are spelled as the inode is, and reading them goes both ways.
use Rattle.std.proofs.Common.{◌≡◌, ℕ, ◌+◌, ◌≤◌, ◌<◌, Bool, true, false, cond, List, [], ◌∷◌, ◌++◌, length, map, Result, Ok, Err, refl, sym, ap, subst, ◌∙◌, arith, eqb}
use Rattle.std.proofs.lemmas.Bool.{eqb-true}
use Rattle.std.proofs.lemmas.List.{append-nil, length-map, nil_from_length}
use Rattle.std.specs.Int.{w16, w32, w64, to_be_bytes}
use Rattle.domains.specs.Level.{Level}
use Rattle.domains.specs.Place.{Place}
use Rattle.domains.specs.declared.group.Group.{Group}
use Rattle.field_readers.specs.declared.fault.Broken.{Broken}
use Rattle.field_readers.specs.declared.fault.ReadFault.{ReadFault}
use Rattle.field_readers.specs.declared.fault.ReadFault.TheVariants as fault
use Rattle.field_readers.specs.FieldReaders.{Fails, broken, byte, each, word}
use Rattle.field_readers.proofs.Readers.{IsBytes, bind_ok, done, test_ok, texts}
use Rattle.inode_codec.specs.declared.fault.InodeFault.{InodeFault}
use Rattle.inode_codec.specs.declared.fault.InodeFault.TheVariants.{Bad, NoMemory}
use Rattle.inode_codec.specs.declared.fault.InodeRule.{InodeRule}
use Rattle.inode_codec.specs.declared.fault.InodeRule.TheVariants as rule
use Rattle.inode_codec.specs.declared.inode.Inode.{Inode}
use Rattle.inode_codec.specs.Inode.{IsInode, data_units, group_bytes, groups_bytes, inode_bytes, level_code, place_bytes, places_bytes, units_for}
use Rattle.inode_codec.specs.InodeReader.{Answers, IsRead, RawInode, all_of, end_of_m, generation_at, group_at, has_units, inode_at, place_at, push, raw_group, raw_inode, raw_place}
use Rattle.inode_codec.proofs.InodeBytes.{inode_bytes-eq}
use Rattle.inode_codec.proofs.InodeFields.{fit_inode, inode_fits, raw_units-map, units_fit}
use Rattle.inode_codec.proofs.InodeReaders.{InodeFits, group_text, inode_reader, inode_text, place_text}

texts-places : (ps : List Place) → texts place_text (map raw_place ps) ≡ places_bytes ps
unfolding place_bytes
texts-places [] = refl
texts-places (p ∷ ps) = ap (λ (rest : List ℕ). p.drive.node ∷ p.drive.drive ∷ (to_be_bytes w16 p.slot ++ rest)) (texts-places ps)

group_spelled : (g : Group) → group_text (raw_group g) ≡ group_bytes g
unfolding group_bytes
group_spelled g = ap (λ (rest : List ℕ). to_be_bytes w32 g.generation ++ (g.n ∷ g.m ∷ rest)) (texts-places g.places)

texts-groups : (gs : List Group) → texts group_text (map raw_group gs) ≡ groups_bytes gs
texts-groups [] = refl
texts-groups (g ∷ gs) = ap (λ (text : List ℕ). text ++ texts group_text (map raw_group gs)) (group_spelled g) ∙ ap (λ (rest : List ℕ). group_bytes g ++ rest) (texts-groups gs)

inode_spelled : (i : Inode) → inode_text (raw_inode i) ≡ inode_bytes i
unfolding inode_bytes
inode_spelled i =
    ap (λ (rest : List ℕ). 0x49 ∷ 0x4E ∷ 1 ∷ level_code i.level ∷ (to_be_bytes w32 i.unit ++ (to_be_bytes w64 i.size ++ (to_be_bytes w16 (length i.groups) ++ rest)))) (texts-groups i.groups)

-- ---- what the code reads

pub group_is : (earlier : _) (bytes : List ℕ) (generation : ℕ) (r1 : List ℕ) (n : ℕ) (r2 : List ℕ) (m : ℕ) (r3 : List ℕ) (places : List Place) (r4 : List ℕ)
    → generation_at earlier bytes ≡ Ok (generation, r1) → byte rule.N 1 17 r1 ≡ Ok (n, r2) → byte rule.M 1 (end_of_m n) r2 ≡ Ok (m, r3)
    → each place_at push (n + m) [] r3 ≡ Ok (map raw_place places, r4)
    → group_at earlier bytes ≡ Ok ((generation, (n, (m, map raw_place places))), r4)
unfolding group_at
group_is earlier bytes generation r1 n r2 m r3 places r4 e1 e2 e3 e4 = rw (e1, e2, e3, e4) refl

pub inode_is : (bytes : List ℕ) (mark : ℕ) (r1 : List ℕ) (format : ℕ) (r2 : List ℕ) (code : ℕ) (r3 : List ℕ) (unit : ℕ) (r4 : List ℕ) (size : ℕ) (r5 : List ℕ) (count : ℕ) (r6 : List ℕ) (groups : List Group) (r7 : List ℕ) (level : Level)
    → word w16 rule.Mark 0x494E 0x494F bytes ≡ Ok (mark, r1) → byte rule.Format 1 2 r1 ≡ Ok (format, r2) → byte rule.LevelField 0 16 r2 ≡ Ok (code, r3)
    → word w32 rule.UnitField 8 131073 r3 ≡ Ok (unit, r4) → word w64 rule.Size 0 536870913 r4 ≡ Ok (size, r5) → word w16 rule.Groups 0 257 r5 ≡ Ok (count, r6)
    → each group_at push count [] r6 ≡ Ok (map raw_group groups, r7) → level_code level ≡ code
    → inode_at bytes ≡ Ok ((0x494E, (1, (level_code level, (unit, (size, (length groups, map raw_group groups)))))), r7)
unfolding inode_at
inode_is bytes mark r1 format r2 code r3 unit r4 size r5 count r6 groups r7 level e1 e2 e3 e4 e5 e6 e7 coded =
    let so : inode_at bytes ≡ Ok ((mark, (format, (code, (unit, (size, (count, map raw_group groups)))))), r7) = rw (e1, e2, e3, e4, e5, e6, e7) refl in
    let fits = inode_reader.fits bytes ((mark, (format, (code, (unit, (size, (count, map raw_group groups)))))), r7) so in
    let mark_is : mark ≡ 0x494E = omega (arith, fits.0.0, fits.0.1) in
    let format_is : format ≡ 1 = omega (arith, fits.1.0.0, fits.1.0.1) in
    let count_is : count ≡ length groups = sym (sym (length-map groups raw_group) ∙ fits.1.1.1.1.1.1.0) in
    so ∙ ap (λ (x : ℕ). made x format code count) mark_is ∙ ap (λ (x : ℕ). made 0x494E x code count) format_is ∙ ap (λ (x : ℕ). made 0x494E 1 x count) (sym coded) ∙ ap (λ (x : ℕ). made 0x494E 1 (level_code level) x) count_is
  where
    made : ℕ → ℕ → ℕ → ℕ → Result (RawInode × List ℕ) (Broken InodeRule)
    made mark format code count = Ok ((mark, (format, (code, (unit, (size, (count, map raw_group groups)))))), r7)

-- the limits of what was read
pub inode_within : (bytes : List ℕ) (i : Inode) (rest : List ℕ) → inode_at bytes ≡ Ok (raw_inode i, rest) → (1 ≤ i.unit) × (i.size ≤ 536870912) × (length i.groups ≤ 256)
inode_within bytes i rest e =
    let fits = inode_reader.fits bytes (raw_inode i, rest) e in
    let unit : 8 ≤ i.unit = fits.1.1.1.0.0 in
    let size : i.size < 536870913 = fits.1.1.1.1.0.1 in
    let count : length i.groups < 257 = fits.1.1.1.1.1.0.1 in
    (omega arith, omega arith, omega arith)

-- the answer over all of the bytes, once the inode that begins them was read
pub all_is : (bytes : List ℕ) (i : Inode) (rest : List ℕ) → inode_at bytes ≡ Ok (raw_inode i, rest)
    → all_of bytes ≡ cond (eqb (data_units i.groups) (units_for i.unit i.size)) (cond (eqb (length rest) 0) (Ok (raw_inode i)) (Err (broken rule.Left rest))) (Err (broken rule.Sum rest))
unfolding all_of
all_is bytes i rest e =
    rw e (ap (λ (n : ℕ). cond (eqb n (units_for i.unit i.size)) (cond (eqb (length rest) 0) (done (raw_inode i)) (Err (broken rule.Left rest))) (Err (broken rule.Sum rest))) (raw_units-map i.groups))

pub all_fails : (bytes : List ℕ) (e : ReadFault InodeRule) → Fails e (inode_at bytes) → Fails e (all_of bytes)
unfolding all_of
all_fails bytes fault.Memory h = tt
all_fails bytes (fault.Broken b) h = rw h refl

-- ---- both ways

then_ok : (t : Bool) (d : Broken InodeRule) (r : Result RawInode (Broken InodeRule)) (y : RawInode) → cond t r (Err d) ≡ Ok y → (t ≡ true) × (r ≡ Ok y)
then_ok true d r y e = (refl, e)
then_ok false d r y e = absurd cc

pub is_found : (bytes : List ℕ) (i : Inode) → IsBytes bytes → all_of bytes ≡ Ok (raw_inode i) → IsInode i × (bytes ≡ inode_bytes i)
unfolding all_of
is_found bytes i are e =
    let a = bind_ok (inode_at bytes) (λ x. cond (has_units x.0) (cond (eqb (length x.1) 0) (done x.0) (Err (broken rule.Left x.1))) (Err (broken rule.Sum x.1))) (raw_inode i) e in
    let b = then_ok (has_units a.0.0) (broken rule.Sum a.0.1) (cond (eqb (length a.0.1) 0) (done a.0.0) (Err (broken rule.Left a.0.1))) (raw_inode i) a.2 in
    let g = test_ok (eqb (length a.0.1) 0) (broken rule.Left a.0.1) a.0.0 (raw_inode i) b.1 in
    let fits = inode_reader.fits bytes a.0 a.1 in
    let takes = inode_reader.takes bytes a.0 are a.1 in
    let nothing : a.0.1 ≡ [] = nil_from_length a.0.1 (eqb-true _ _ g.0) in (
      fit_inode i (subst InodeFits g.1 fits) (subst (λ (x : RawInode). has_units x ≡ true) g.1 b.0),
      takes.parts ∙ ap (λ (rest : List ℕ). inode_text a.0.0 ++ rest) nothing ∙ append-nil (inode_text a.0.0) ∙ ap inode_text g.1 ∙ inode_spelled i,
    )

pub is_read : (i : Inode) → IsInode i → all_of (inode_bytes i) ≡ Ok (raw_inode i)
unfolding all_of
is_read i is =
    let again : inode_at (inode_bytes i) ≡ Ok (raw_inode i, []) =
    ap inode_at (sym (append-nil (inode_text (raw_inode i)) ∙ inode_spelled i)) ∙ inode_reader.again (raw_inode i) [] (inode_fits i is) in
    rw (again, units_fit i is) refl

pub only_so : (bytes : List ℕ) (result : Result Inode InodeFault) → IsBytes bytes → Answers bytes result (all_of bytes) → (i : Inode) → IsInode i → bytes ≡ inode_bytes i → IsRead i result
only_so bytes (Ok j) are exact i is spelled = let found = is_found bytes j are exact in inode_bytes-eq j i found.0 is (sym found.1 ∙ spelled)
only_so bytes (Err NoMemory) are exact i is spelled = tt
only_so bytes (Err (Bad b)) are exact i is spelled = absurd (subst (Answers bytes (Err (Bad b))) (ap all_of spelled ∙ is_read i is) exact)
