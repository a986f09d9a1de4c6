-- The readers of the fields of a checkpoint, and what they read of its types.
use Rattle.std.proofs.Common.{◌≡◌, ℕ, zero, suc, ◌+◌, ◌*◌, ◌^◌, ◌<◌, ◌≤◌, max, true, false, cond, List, [], ◌∷◌, ◌++◌, map, Result, Ok, refl, sym, ap, subst, arith, eqb, eq-eqb, lit≤}
use Rattle.std.proofs.lemmas.Bool.Decides.{nat_tests}
use Rattle.std.specs.List.{AllByRecursion, list_any}
use Rattle.std.specs.Int.{w16, to_be_bytes}
use Rattle.domains.specs.Drive.{Drive, IsDrive, same_drive}
use Rattle.domains.specs.DriveSet.{has}
use Rattle.domains.specs.declared.drive_set.DriveSet.{DriveSet}
use Rattle.field_readers.specs.declared.fault.Broken.{Broken}
use Rattle.checkpoints.specs.declared.fault.CheckpointRule.{CheckpointRule}
use Rattle.checkpoints.specs.declared.fault.CheckpointRule.TheVariants as rule
use Rattle.checkpoints.specs.Saved.{drives_of}
use Rattle.field_readers.specs.FieldReaders.{byte, each, word}
use Rattle.checkpoints.specs.CheckpointFields.{RawTail, above, drive_at, item_at, next_at, raw_drive, stays, tail_at, this_drive}
use Rattle.checkpoints.proofs.AllDrives.{AllAbove, IsAscending, rank}
use Rattle.checkpoints.proofs.SetOfDrives.{drives_of-set}
use Rattle.field_readers.proofs.Readers.{AreSo, EachFits, IsBytes, IsReader, IsWithin, Takes, both_reader, byte_reader, each_reader, ok_is, texts, wide16, word_reader}

-- ---- drives

abbrev least_drive : ℕ × ℕ → ℕ → ℕ
least_drive before node = cond (eqb node before.0) (before.1 + 1) 1

abbrev pub DriveFits : ℕ × ℕ → ℕ × ℕ → Type 0
DriveFits before d = IsWithin (max 1 before.0) 33 d.0 × IsWithin (least_drive before d.0) 17 d.1

abbrev pub drive_text : ℕ × ℕ → List ℕ
drive_text d = (d.0 ∷ []) ++ (d.1 ∷ [])

pub drive_reader : (before : ℕ × ℕ) → IsReader (drive_at before) drive_text (DriveFits before)
unfolding drive_at
drive_reader before =
    both_reader (byte rule.Node (max 1 before.0) 33) (λ n. n ∷ []) (IsWithin (max 1 before.0) 33)
    (λ node. byte rule.Drive (least_drive before node) 17) (λ node n. n ∷ []) (λ node. IsWithin (least_drive before node) 17)
    (byte_reader rule.Node (max 1 before.0) 33) (λ node _. byte_reader rule.Drive (least_drive before node) 17)

pub drives_reader : (count : ℕ) → IsReader (each drive_at this_drive count (0, 0)) (texts drive_text) (AreSo DriveFits this_drive count (0, 0))
drives_reader count = each_reader drive_at this_drive drive_text DriveFits drive_reader count (0, 0)

abbrev raw_rank : ℕ × ℕ → ℕ
raw_rank d = d.0 * 32 + d.1

fits_above : (before d : ℕ × ℕ) → before.1 < 32 → DriveFits before d → raw_rank before < raw_rank d
fits_above before d small h =
    elim (eqb d.0 before.0) as (λ t. eqb d.0 before.0 ≡ t → cond t (before.1 + 1) 1 ≤ d.1 → raw_rank before < raw_rank d) [
      | true ↦ λ same least. let node : d.0 ≡ before.0 = grind (arith, nat_tests) in omega arith
      | false ↦ λ other least.
          let most : max 1 before.0 ≤ d.0 = h.0.0 in
          let apart : d.0 ≡ before.0 → ⊥ = λ same. let yes : eqb d.0 before.0 ≡ true = eq-eqb d.0 before.0 same in cc in
          let above : before.0 < d.0 = omega arith in
          omega arith
    ] refl h.1.0

fits_drive : (before d : ℕ × ℕ) → DriveFits before d → IsDrive (record { node = d.0; drive = d.1 })
fits_drive before d h =
    let least : max 1 before.0 ≤ d.0 = h.0.0 in
    let most : d.0 < 33 = h.0.1 in
    let some : least_drive before d.0 ≤ d.1 = h.1.0 in
    let few : d.1 < 17 = h.1.1 in
    let one : 1 ≤ least_drive before d.0 = elim (eqb d.0 before.0) as (λ t. 1 ≤ cond t (before.1 + 1) 1) [ true ↦ omega arith | false ↦ omega arith ] in
    record { some_node = omega arith; nodes = omega arith; some_drive = omega arith; drives = omega arith }

above_more : (n m : ℕ) (ds : List Drive) → n < m → AllAbove m ds → AllAbove n ds
above_more n m [] over above = tt
above_more n m (d ∷ ds) over above = (let more : m < rank d = above.0 in omega arith, above_more n m ds over above.1)

-- drives that fit one behind the other ascend
record Ascends (before : ℕ × ℕ) (ds : List Drive) : Type 0 where
  above : AllAbove (raw_rank before) ds
  ascending : IsAscending ds
  drives : AllByRecursion IsDrive ds

ascends : (before : ℕ × ℕ) (ds : List Drive) → before.1 < 32 → EachFits DriveFits this_drive before (map raw_drive ds) → Ascends before ds
ascends before [] small h = record { above = tt; ascending = tt; drives = tt }
ascends before (d ∷ ds) small h =
    let over : raw_rank before < rank d = fits_above before (raw_drive d) small h.0 in
    let drive = fits_drive before (raw_drive d) h.0 in
    let low : d.drive < 32 = omega (arith, drive.drives) in
    let later = ascends (raw_drive d) ds low h.1 in
    record { above = (over, above_more (raw_rank before) (rank d) ds over later.above); ascending = (later.above, later.ascending); drives = (drive, later.drives) }

-- ascending drives fit one behind the other
pub each_drive_fits : (before : ℕ × ℕ) (ds : List Drive) → before.0 ≤ 32 → before.1 < 32 → AllAbove (raw_rank before) ds → IsAscending ds → AllByRecursion IsDrive ds
    → EachFits DriveFits this_drive before (map raw_drive ds)
each_drive_fits before [] some small above ascending drives = tt
each_drive_fits before (d ∷ ds) some small above ascending drives =
    let drive = drives.0 in
    let over : before.0 * 32 + before.1 < d.node * 32 + d.drive = above.0 in
    let low : d.drive ≤ 16 = drive.drives in
    let first : 1 ≤ d.drive = drive.some_drive in
    let node : before.0 ≤ d.node = omega arith in (
      (
        (omega (arith, drive.some_node), omega (arith, drive.nodes)),
        (
          elim (eqb d.node before.0) as (λ t. eqb d.node before.0 ≡ t → cond t (before.1 + 1) 1 ≤ d.drive) [
            | true ↦ λ same. let at_one : d.node ≡ before.0 = grind (arith, nat_tests) in omega arith
            | false ↦ λ _. first
          ] refl,
          omega arith,
        ),
      ),
      each_drive_fits (raw_drive d) ds drive.nodes (omega arith) ascending.0 ascending.1 drives.1,
    )

-- ---- items

abbrev pub next_text : ℕ → ℕ → List ℕ
next_text zero n = to_be_bytes w16 n
next_text (suc zero) n = to_be_bytes w16 n
next_text (suc (suc s)) n = []

abbrev pub NextFits : ℕ → ℕ → Type 0
NextFits zero n = IsWithin 0 258 n
NextFits (suc zero) n = IsWithin 0 258 n
NextFits (suc (suc s)) n = n ≡ 0

no_next : (s : ℕ) → IsReader (next_at (suc (suc s))) (next_text (suc (suc s))) (NextFits (suc (suc s)))
no_next s = record { fits = fit; takes = taken; again = λ n rest none. ap (λ (k : ℕ). ok_pair k rest) (sym none) }
  where
    ok_pair : ℕ → List ℕ → Result (ℕ × List ℕ) (Broken CheckpointRule)
    ok_pair k rest = Ok (k, rest)

    fit : (bytes : List ℕ) (x : ℕ × List ℕ) → ok_pair 0 bytes ≡ Ok x → x.0 ≡ 0
    fit bytes x e = let same : (0, bytes) ≡ x = ok_is (0, bytes) x e in sym (ap (λ (y : ℕ × List ℕ). y.0) same)

    taken : (bytes : List ℕ) (x : ℕ × List ℕ) → IsBytes bytes → ok_pair 0 bytes ≡ Ok x → Takes bytes [] x.1
    taken bytes x are e = let same : (0, bytes) ≡ x = ok_is (0, bytes) x e in subst (λ (y : ℕ × List ℕ). Takes bytes [] y.1) same (record { parts = refl; rest_fits = are })

next_reader : (s : ℕ) → IsReader (next_at s) (next_text s) (NextFits s)
next_reader zero = word_reader w16 (2 ^ 16) wide16 rule.Next 0 258 (lit≤ tt)
next_reader (suc zero) = word_reader w16 (2 ^ 16) wide16 rule.Next 0 258 (lit≤ tt)
next_reader (suc (suc s)) = no_next s

abbrev pub item_text : ℕ × ℕ → List ℕ
item_text i = (i.0 ∷ []) ++ next_text i.0 i.1

abbrev pub ItemFits : ℕ → ℕ × ℕ → Type 0
ItemFits before i = IsWithin 0 5 i.0 × NextFits i.0 i.1

pub item_reader : (before : ℕ) → IsReader (item_at before) item_text (ItemFits before)
unfolding item_at
item_reader before =
    both_reader (byte rule.ItemState 0 5) (λ n. n ∷ []) (IsWithin 0 5) next_at next_text NextFits (byte_reader rule.ItemState 0 5) (λ s _. next_reader s)

pub items_reader : (count : ℕ) → IsReader (each item_at stays count 0) (texts item_text) (AreSo ItemFits stays count 0)
items_reader count = each_reader item_at stays item_text ItemFits item_reader count 0

-- ---- jobs

abbrev pub tail_text : RawTail → List ℕ
tail_text t = (t.0 ∷ []) ++ (texts drive_text t.1.0 ++ ((t.1.1.0 ∷ []) ++ (to_be_bytes w16 t.1.1.1.0 ++ texts item_text t.1.1.1.1)))

abbrev pub TailFits : RawTail → Type 0
TailFits t =
    IsWithin 0 201 t.0
    × (AreSo DriveFits this_drive t.0 (0, 0) t.1.0 × (IsWithin 0 2 t.1.1.0 × (IsWithin 0 257 t.1.1.1.0 × AreSo ItemFits stays t.1.1.1.0 0 t.1.1.1.1)))

pub tail_reader : IsReader tail_at tail_text TailFits
unfolding tail_at
tail_reader =
    both_reader (byte rule.Bars 0 201) (λ n. n ∷ []) (IsWithin 0 201) _ _ _ (byte_reader rule.Bars 0 201) (λ bars _.
    both_reader (each drive_at this_drive bars (0, 0)) (texts drive_text) (AreSo DriveFits this_drive bars (0, 0)) _ _ _ (drives_reader bars) (λ drives _.
    both_reader (byte rule.Earlier 0 2) (λ n. n ∷ []) (IsWithin 0 2) _ _ _ (byte_reader rule.Earlier 0 2) (λ earlier _.
    both_reader (word w16 rule.Items 0 257) (to_be_bytes w16) (IsWithin 0 257) (λ n. each item_at stays n 0) (λ n. texts item_text) (λ n. AreSo ItemFits stays n 0)
    (word_reader w16 (2 ^ 16) wide16 rule.Items 0 257 (lit≤ tt)) (λ n _. items_reader n))))

-- the set of drives that fit one behind the other, listed, is these drives
pub drive_set_is : (set : DriveSet) (ds : List Drive) → EachFits DriveFits this_drive (0, 0) (map raw_drive ds) → ((d : Drive) → IsDrive d → has set d ≡ list_any (same_drive d) ds) → drives_of set ≡ ds
drive_set_is set ds fits holds =
    let are = ascends (0, 0) ds (omega arith) fits in
    drives_of-set set ds are.ascending are.drives holds
