-- The set of ascending drives, listed, is these drives.
use Rattle.std.proofs.Common.{◌≡◌, ℕ, ◌<◌, inl, inr, Bool, true, false, cond, ◌&&◌, ◌||◌, List, [], ◌∷◌, refl, sym, ap, ◌∙◌, subst, arith, nat_eq, eq-eqb}
use Rattle.std.proofs.lemmas.Bool.Decides.{nat_tests}
use Rattle.std.specs.List.{AllByRecursion, filter, list_any}
use Rattle.domains.specs.Drive.{Drive, IsDrive, same_drive}
use Rattle.domains.specs.DriveSet.{has}
use Rattle.domains.specs.declared.drive_set.DriveSet.{DriveSet}
use Rattle.checkpoints.specs.Saved.{all_drives, drives_of}
use Rattle.checkpoints.proofs.AllDrives.{AllAbove, IsAmong, IsAscending, among-all_drives, ascending-all_drives, drive-all_drives, rank}

same_rank : (a b : Drive) → same_drive a b ≡ true → rank a ≡ rank b
same_rank a b same =
    let node : a.node ≡ b.node = left (nat_eq a.node b.node) (nat_eq a.drive b.drive) same (λ h. grind (arith, nat_tests)) in
    let drive : a.drive ≡ b.drive = right (nat_eq a.node b.node) (nat_eq a.drive b.drive) same (λ h. grind (arith, nat_tests)) in
    omega arith
  where
    left : {P : Type 0} (x y : Bool) → x && y ≡ true → (x ≡ true → P) → P
    left true y h so = so refl
    left false y h so = absurd cc

    right : {P : Type 0} (x y : Bool) → x && y ≡ true → (y ≡ true → P) → P
    right true y h so = so h
    right false y h so = absurd cc

other_rank : (a b : Drive) → (rank a ≡ rank b → ⊥) → same_drive a b ≡ false
other_rank a b other = elim (same_drive a b) as (λ t. same_drive a b ≡ t → t ≡ false) [ true ↦ λ same. absurd (other (same_rank a b same)) | false ↦ λ _. refl ] refl

same_self : (a : Drive) → same_drive a a ≡ true
same_self a = ap (λ t. t && nat_eq a.drive a.drive) (eq-eqb a.node a.node refl) ∙ eq-eqb a.drive a.drive refl

none_above : (a : Drive) (ds : List Drive) → AllAbove (rank a) ds → list_any (same_drive a) ds ≡ false
none_above a [] above = refl
none_above a (d ∷ ds) above =
    ap (λ t. t || list_any (same_drive a) ds) (other_rank a d (λ same. let over : rank a < rank d = above.0 in omega arith)) ∙ none_above a ds above.1

pub filter-same : (p q : Drive → Bool) (P : Drive → Type 0) → ((d : Drive) → P d → p d ≡ q d) → (ds : List Drive) → AllByRecursion P ds → filter p ds ≡ filter q ds
filter-same p q P so [] all = refl
filter-same p q P so (d ∷ ds) all =
    ap (λ t. cond t (d ∷ filter p ds) (filter p ds)) (so d all.0) ∙ ap (λ rest. cond (q d) (d ∷ rest) rest) (filter-same p q P so ds all.1)

filter-none : (ds : List Drive) → filter (λ d. false) ds ≡ []
filter-none [] = refl
filter-none (d ∷ ds) = filter-none ds

above_along : (n m : ℕ) (ds : List Drive) → n < m → AllAbove m ds → AllAbove n ds
above_along n m [] over above = tt
above_along n m (d ∷ ds) over above = (let more : m < rank d = above.0 in omega arith, above_along n m ds over above.1)

among_above : (n : ℕ) (d : Drive) (ds : List Drive) → AllAbove n ds → IsAmong d ds → n < rank d
among_above n d [] above among = absurd among
among_above n d (x ∷ xs) above among = elim among [ inl here ↦ subst (λ y. n < rank y) (sym here) above.0 | inr later ↦ among_above n d xs above.1 later ]

-- drives above the first of a list that has them stand behind it
all_behind : (x : Drive) (xs ds : List Drive) → AllAbove (rank x) ds → AllByRecursion (λ d. IsAmong d (x ∷ xs)) ds → AllByRecursion (λ d. IsAmong d xs) ds
all_behind x xs [] above among = tt
all_behind x xs (d ∷ ds) above among = (
  elim among.0 [ inl here ↦ absurd (let same : rank d ≡ rank x = ap rank here in let over : rank x < rank d = above.0 in omega arith) | inr later ↦ later ],
  all_behind x xs ds above.1 among.1,
)

filter-among : (ds xs : List Drive) → IsAscending xs → IsAscending ds → AllByRecursion (λ d. IsAmong d xs) ds → filter (λ x. list_any (same_drive x) ds) xs ≡ ds
filter-among [] xs ascending below among = filter-none xs
filter-among (d ∷ ds) [] ascending below among = absurd among.0
filter-among (d ∷ ds) (x ∷ xs) ascending below among =
    elim among.0 [
      | inl here ↦
          let test : same_drive x d ≡ true = subst (λ y. same_drive x y ≡ true) (sym here) (same_self x) in
          let rest : filter (λ y. list_any (same_drive y) (d ∷ ds)) xs ≡ ds =
          filter-same (λ y. list_any (same_drive y) (d ∷ ds)) (λ y. list_any (same_drive y) ds) (λ y. rank x < rank y)
          (λ y over. ap (λ t. t || list_any (same_drive y) ds) (other_rank y d (λ same. let at_x : rank d ≡ rank x = ap rank here in omega arith))) xs ascending.0
          ∙ filter-among ds xs ascending.1 below.1 (all_behind x xs ds (subst (λ y. AllAbove (rank y) ds) here below.0) among.1) in
          ap (λ t. cond (t || list_any (same_drive x) ds) (x ∷ filter (λ y. list_any (same_drive y) (d ∷ ds)) xs) (filter (λ y. list_any (same_drive y) (d ∷ ds)) xs)) test
          ∙ ap (λ r. x ∷ r) rest ∙ ap (λ y. y ∷ ds) (sym here)
      | inr later ↦
          let over : rank x < rank d = among_above (rank x) d xs ascending.0 later in
          let all : AllAbove (rank x) (d ∷ ds) = (over, above_along (rank x) (rank d) ds over below.0) in
          ap (λ t. cond t (x ∷ filter (λ y. list_any (same_drive y) (d ∷ ds)) xs) (filter (λ y. list_any (same_drive y) (d ∷ ds)) xs)) (none_above x (d ∷ ds) all)
          ∙ filter-among (d ∷ ds) xs ascending.1 below (all_behind x xs (d ∷ ds) all among)
    ]

all_among : (ds : List Drive) → AllByRecursion IsDrive ds → AllByRecursion (λ d. IsAmong d all_drives) ds
all_among [] drives = tt
all_among (d ∷ ds) drives = (among-all_drives d drives.0, all_among ds drives.1)

pub drives_of-set : (set : DriveSet) (ds : List Drive) → IsAscending ds → AllByRecursion IsDrive ds → ((d : Drive) → IsDrive d → has set d ≡ list_any (same_drive d) ds) → drives_of set ≡ ds
drives_of-set set ds ascending drives holds =
    filter-same (has set) (λ d. list_any (same_drive d) ds) IsDrive holds all_drives drive-all_drives
    ∙ filter-among ds all_drives ascending-all_drives ascending (all_among ds drives)

ascending-filter : (p : Drive → Bool) (ds : List Drive) → IsAscending ds → IsAscending (filter p ds)
ascending-filter p [] ascending = tt
ascending-filter p (d ∷ ds) ascending =
    elim (p d) as (λ t. IsAscending (cond t (d ∷ filter p ds) (filter p ds))) [
      | true ↦ (all-filter (λ x. rank d < rank x) p ds ascending.0, ascending-filter p ds ascending.1)
      | false ↦ ascending-filter p ds ascending.1
    ]
  where
    all-filter : (P : Drive → Type 0) (p : Drive → Bool) (ds : List Drive) → AllByRecursion P ds → AllByRecursion P (filter p ds)
    all-filter P p [] all = tt
    all-filter P p (d ∷ ds) all = elim (p d) as (λ t. AllByRecursion P (cond t (d ∷ filter p ds) (filter p ds))) [ true ↦ (all.0, all-filter P p ds all.1) | false ↦ all-filter P p ds all.1 ]

drive-filter : (p : Drive → Bool) (ds : List Drive) → AllByRecursion IsDrive ds → AllByRecursion IsDrive (filter p ds)
drive-filter p [] all = tt
drive-filter p (d ∷ ds) all = elim (p d) as (λ t. AllByRecursion IsDrive (cond t (d ∷ filter p ds) (filter p ds))) [ true ↦ (all.0, drive-filter p ds all.1) | false ↦ drive-filter p ds all.1 ]

pub ascending-drives_of : (set : DriveSet) → IsAscending (drives_of set)
ascending-drives_of set = ascending-filter (has set) all_drives ascending-all_drives

pub drive-drives_of : (set : DriveSet) → AllByRecursion IsDrive (drives_of set)
drive-drives_of set = drive-filter (has set) all_drives drive-all_drives
