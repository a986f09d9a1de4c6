-- All drives that a cluster may have, in their order.
use Rattle.std.proofs.Common.{◌≡◌, ℕ, zero, suc, ◌+◌, ◌*◌, ◌<◌, ◌≤◌, ◌⊎◌, inl, inr, Bool, List, [], ◌∷◌, ◌++◌, ap, ◌∙◌, arith, add-one, lit≤}
use Rattle.std.proofs.lemmas.Bool.{cases_lt}
use Rattle.std.proofs.lemmas.List.Elements.{filter-append}
use Rattle.std.specs.List.{AllByRecursion, filter}
use Rattle.domains.specs.Drive.{Drive, IsDrive}
use Rattle.checkpoints.specs.Saved.{all_drives, drives_on, drives_up_to}

pub filter-up_to : (p : Drive → Bool) (n : ℕ) → filter p (drives_up_to (n + 1)) ≡ filter p (drives_up_to n) ++ filter p (drives_on (n + 1) 16)
filter-up_to p n = rw add-one (filter-append p (drives_up_to n) (drives_on (suc n) 16))

-- a number for each drive, in the order of drives
abbrev pub rank : Drive → ℕ
rank d = d.node * 32 + d.drive

abbrev pub AllBelow : ℕ → List Drive → Type 0
AllBelow n ds = AllByRecursion (λ d. rank d < n) ds

abbrev pub AllAbove : ℕ → List Drive → Type 0
AllAbove n ds = AllByRecursion (λ d. n < rank d) ds

-- each drive before all behind it
abbrev pub IsAscending : List Drive → Type 0
IsAscending [] = Unit {0}
IsAscending (d ∷ ds) = AllAbove (rank d) ds × IsAscending ds

pub all-append : (P : Drive → Type 0) (xs ys : List Drive) → AllByRecursion P xs → AllByRecursion P ys → AllByRecursion P (xs ++ ys)
all-append P [] ys left right = right
all-append P (x ∷ xs) ys left right = (left.0, all-append P xs ys left.1 right)

-- what holds of each drive holds of each
all_so : (P Q : Drive → Type 0) → ((d : Drive) → P d → Q d) → (ds : List Drive) → AllByRecursion P ds → AllByRecursion Q ds
all_so P Q so [] all = tt
all_so P Q so (d ∷ ds) all = (so d all.0, all_so P Q so ds all.1)

ascending-append : (n : ℕ) (xs ys : List Drive) → IsAscending xs → IsAscending ys → AllBelow n xs → AllByRecursion (λ d. n ≤ rank d) ys → IsAscending (xs ++ ys)
ascending-append n [] ys left right below above = right
ascending-append n (x ∷ xs) ys left right below above = (
  all-append (λ d. rank x < rank d) xs ys left.0 (all_so (λ d. n ≤ rank d) (λ d. rank x < rank d) (λ d least. omega (arith, below.0)) ys above),
  ascending-append n xs ys left.1 right below.1 above,
)

below-on : (node k : ℕ) → AllBelow (node * 32 + k + 1) (drives_on node k)
below-on node zero = tt
below-on node (suc k) =
    all-append (λ d. rank d < node * 32 + suc k + 1) (drives_on node k) (record { node = node; drive = suc k } ∷ [])
    (all_so (λ d. rank d < node * 32 + k + 1) (λ d. rank d < node * 32 + suc k + 1) (λ d below. omega arith) (drives_on node k) (below-on node k)) (omega arith, tt)

above-on : (node k : ℕ) → AllByRecursion (λ d. node * 32 + 1 ≤ rank d) (drives_on node k)
above-on node zero = tt
above-on node (suc k) =
    all-append (λ d. node * 32 + 1 ≤ rank d) (drives_on node k) (record { node = node; drive = suc k } ∷ []) (above-on node k) (omega arith, tt)

ascending-on : (node k : ℕ) → IsAscending (drives_on node k)
ascending-on node zero = tt
ascending-on node (suc k) =
    ascending-append (node * 32 + k + 1) (drives_on node k) (record { node = node; drive = suc k } ∷ []) (ascending-on node k) (tt, tt) (below-on node k) (omega arith, tt)

below-up_to : (n : ℕ) → AllBelow (n * 32 + 17) (drives_up_to n)
below-up_to zero = tt
below-up_to (suc n) =
    all-append (λ d. rank d < suc n * 32 + 17) (drives_up_to n) (drives_on (suc n) 16)
    (all_so (λ d. rank d < n * 32 + 17) (λ d. rank d < suc n * 32 + 17) (λ d below. omega arith) (drives_up_to n) (below-up_to n))
    (all_so (λ d. rank d < suc n * 32 + 16 + 1) (λ d. rank d < suc n * 32 + 17) (λ d below. omega arith) (drives_on (suc n) 16) (below-on (suc n) 16))

ascending-up_to : (n : ℕ) → IsAscending (drives_up_to n)
ascending-up_to zero = tt
ascending-up_to (suc n) =
    ascending-append (n * 32 + 17) (drives_up_to n) (drives_on (suc n) 16) (ascending-up_to n) (ascending-on (suc n) 16) (below-up_to n)
    (all_so (λ d. suc n * 32 + 1 ≤ rank d) (λ d. n * 32 + 17 ≤ rank d) (λ d least. omega arith) (drives_on (suc n) 16) (above-on (suc n) 16))

-- the drive is one of these
abbrev pub IsAmong : Drive → List Drive → Type 0
IsAmong d [] = ⊥
IsAmong d (x ∷ xs) = (d ≡ x) ⊎ IsAmong d xs

among-left : (d : Drive) (xs ys : List Drive) → IsAmong d xs → IsAmong d (xs ++ ys)
among-left d [] ys among = absurd among
among-left d (x ∷ xs) ys among = elim among [ inl here ↦ inl here | inr later ↦ inr (among-left d xs ys later) ]

among-right : (d : Drive) (xs ys : List Drive) → IsAmong d ys → IsAmong d (xs ++ ys)
among-right d [] ys among = among
among-right d (x ∷ xs) ys among = inr (among-right d xs ys among)

same_numbers : (d : Drive) (node drive : ℕ) → d.node ≡ node → d.drive ≡ drive → d ≡ record { node = node; drive = drive }
same_numbers d node drive n k =
    ap (λ (x : ℕ). let made : Drive = record { node = x; drive = d.drive } in made) n ∙ ap (λ (x : ℕ). let made : Drive = record { node = node; drive = x } in made) k

among-on : (d : Drive) (node k : ℕ) → d.node ≡ node → 1 ≤ d.drive → d.drive ≤ k → IsAmong d (drives_on node k)
among-on d node zero n some few = absurd (omega arith)
among-on d node (suc k) n some few =
    elim (cases_lt d.drive (suc k)) [
      | inl lower ↦ among-left d (drives_on node k) (record { node = node; drive = suc k } ∷ []) (among-on d node k n some (omega arith))
      | inr last ↦ among-right d (drives_on node k) (record { node = node; drive = suc k } ∷ []) (inl (same_numbers d node (suc k) n (omega arith)))
    ]

among-up_to : (d : Drive) (n : ℕ) → IsDrive d → d.node ≤ n → IsAmong d (drives_up_to n)
among-up_to d zero drive few = absurd (omega (arith, drive.some_node))
among-up_to d (suc n) drive few =
    elim (cases_lt d.node (suc n)) [
      | inl lower ↦ among-left d (drives_up_to n) (drives_on (suc n) 16) (among-up_to d n drive (omega arith))
      | inr last ↦ among-right d (drives_up_to n) (drives_on (suc n) 16) (among-on d (suc n) 16 (omega arith) drive.some_drive drive.drives)
    ]

pub among-all_drives : (d : Drive) → IsDrive d → IsAmong d all_drives
unfolding all_drives
among-all_drives d drive = among-up_to d 32 drive drive.nodes

pub ascending-all_drives : IsAscending all_drives
unfolding all_drives
ascending-all_drives = ascending-up_to 32

drive-on : (node k : ℕ) → 1 ≤ node → node ≤ 32 → k ≤ 16 → AllByRecursion IsDrive (drives_on node k)
drive-on node zero some few small = tt
drive-on node (suc k) some few small =
    all-append IsDrive (drives_on node k) (record { node = node; drive = suc k } ∷ []) (drive-on node k some few (omega arith))
    (record { some_node = some; nodes = few; some_drive = omega arith; drives = small }, tt)

drive-up_to : (n : ℕ) → n ≤ 32 → AllByRecursion IsDrive (drives_up_to n)
drive-up_to zero few = tt
drive-up_to (suc n) few = all-append IsDrive (drives_up_to n) (drives_on (suc n) 16) (drive-up_to n (omega arith)) (drive-on (suc n) 16 (omega arith) few (lit≤ tt))

pub drive-all_drives : AllByRecursion IsDrive all_drives
unfolding all_drives
drive-all_drives = drive-up_to 32 (lit≤ tt)
