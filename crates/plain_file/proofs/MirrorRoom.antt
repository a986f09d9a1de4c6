-- The room that few drives leave.
use Rattle.std.proofs.Common.{◌≡◌, ◌≢◌, ℕ, zero, suc, ◌+◌, ◌<◌, ◌≤◌, min, Bool, false, cond, refl, ap, ◌∙◌, inl, inr, ◌⊎◌, arith}
use Rattle.std.proofs.lemmas.Bool.{cases_eq, cases_lt}
use Rattle.domains.specs.Drive.{Drive, IsDrive}
use Rattle.domains.specs.Shape.{Shape, IsShape}
use Rattle.domains.specs.Level.{Level, two_copies}
use Rattle.domains.specs.Room.{drives_on, room_up_to, room_of}

none_up_to : (n node : ℕ) (usable : Drive → Bool)
    → ((d : ℕ) → 0 < d → d ≤ n → usable (record { node = node; drive = d }) ≡ false) → drives_on n node usable ≡ 0
none_up_to zero node usable none = refl
none_up_to (suc n) node usable none =
    let here : usable (record { node = node; drive = suc n }) ≡ false = none (suc n) (omega arith) (omega arith) in
    let before : drives_on n node usable ≡ 0 = none_up_to n node usable (λ d some within. none d some (omega arith)) in
    ap (λ (k : ℕ). k + cond (usable (record { node = node; drive = suc n })) 1 0) before ∙ ap (λ b. 0 + cond b 1 0) here

-- a node has no usable drive if none is usable among its first drives, nor among those behind them
pub drives_on_none : (n first node : ℕ) (usable : Drive → Bool)
    → ((d : ℕ) → first < d → d ≤ n → usable (record { node = node; drive = d }) ≡ false)
    → ((d : ℕ) → 0 < d → d ≤ first → usable (record { node = node; drive = d }) ≡ false) → drives_on n node usable ≡ 0
drives_on_none n first node usable high low =
    none_up_to n node usable (λ d some within. elim (cases_lt first d) [ inl behind ↦ high d behind within | inr front ↦ low d some front ])

none_but : (n : ℕ) (level : Level) (shape : Shape) (usable : Drive → Bool) (other : ℕ)
    → ((node : ℕ) → 1 ≤ node → node ≤ n → node ≢ other → drives_on shape.drives node usable ≡ 0) → (n < other) ⊎ (other ≡ 0)
    → room_up_to n level shape usable ≡ 0
none_but zero level shape usable other none out = refl
none_but (suc n) level shape usable other none out =
    let apart : suc n ≢ other = λ h. elim out [ inl below ↦ omega arith | inr nowhere ↦ omega arith ] in
    let out_before : (n < other) ⊎ (other ≡ 0) = elim out [ inl below ↦ inl (omega arith) | inr nowhere ↦ inr nowhere ] in
    let here : drives_on shape.drives (suc n) usable ≡ 0 = none (suc n) (omega arith) (omega arith) apart in
    let before : room_up_to n level shape usable ≡ 0 =
    none_but n level shape usable other (λ node some within. none node some (omega arith)) out_before in
    let both : room_up_to n level shape usable + min (drives_on shape.drives (suc n) usable) level.k ≡ 0 + min 0 level.k =
    ap (λ (k : ℕ). k + min (drives_on shape.drives (suc n) usable) level.k) before ∙ ap (λ (k : ℕ). 0 + min k level.k) here in
    omega (arith, both)

one_but : (n : ℕ) (shape : Shape) (usable : Drive → Bool) (other : ℕ)
    → ((node : ℕ) → 1 ≤ node → node ≤ n → node ≢ other → drives_on shape.drives node usable ≡ 0)
    → room_up_to n two_copies shape usable ≤ 1
one_but zero shape usable other none = omega arith
one_but (suc n) shape usable other none =
    elim (cases_eq (suc n) other) [
      | inl here ↦
          let before : room_up_to n two_copies shape usable ≡ 0 =
          none_but n two_copies shape usable other (λ node some within. none node some (omega arith)) (inl (omega arith)) in
          omega (arith, before)
      | inr elsewhere ↦
          let here : drives_on shape.drives (suc n) usable ≡ 0 = none (suc n) (omega arith) (omega arith) elsewhere in
          let before : room_up_to n two_copies shape usable ≤ 1 =
          one_but n shape usable other (λ node some within. none node some (omega arith)) in
          omega (arith, here, before)
    ]

-- where no node has a usable drive, a mirror finds no place for two copies
pub room_of_none : (shape : Shape) (usable : Drive → Bool)
    → ((node : ℕ) → 1 ≤ node → node ≤ shape.nodes → node ≢ 0 → drives_on shape.drives node usable ≡ 0)
    → room_of two_copies shape usable ≤ 1
room_of_none shape usable none = one_but shape.nodes shape usable 0 none

-- nor where one node alone has any
pub room_of_one : (shape : Shape) (usable : Drive → Bool) (other : ℕ)
    → ((node : ℕ) → 1 ≤ node → node ≤ shape.nodes → node ≢ other → drives_on shape.drives node usable ≡ 0)
    → room_of two_copies shape usable ≤ 1
room_of_one shape usable other none = one_but shape.nodes shape usable other none

same_drives_on : (n node : ℕ) (u v : Drive → Bool) → 1 ≤ node → node ≤ 32 → n ≤ 16 → ((d : Drive) → IsDrive d → u d ≡ v d)
    → drives_on n node u ≡ drives_on n node v
same_drives_on zero node u v some nodes drives same = refl
same_drives_on (suc n) node u v some nodes drives same =
    let d : Drive = record { node = node; drive = suc n } in
    let here : u d ≡ v d = same d (record { some_node = some; nodes = nodes; some_drive = omega arith; drives = drives }) in
    let before : drives_on n node u ≡ drives_on n node v = same_drives_on n node u v some nodes (omega arith) same in
    ap (λ (k : ℕ). k + cond (u d) 1 0) before ∙ ap (λ b. drives_on n node v + cond b 1 0) here

same_room_up_to : (n : ℕ) (level : Level) (shape : Shape) (u v : Drive → Bool) → n ≤ 32 → shape.drives ≤ 16
    → ((d : Drive) → IsDrive d → u d ≡ v d) → room_up_to n level shape u ≡ room_up_to n level shape v
same_room_up_to zero level shape u v nodes drives same = refl
same_room_up_to (suc n) level shape u v nodes drives same =
    let here : drives_on shape.drives (suc n) u ≡ drives_on shape.drives (suc n) v =
    same_drives_on shape.drives (suc n) u v (omega arith) nodes drives same in
    let before : room_up_to n level shape u ≡ room_up_to n level shape v =
    same_room_up_to n level shape u v (omega arith) drives same in
    ap (λ (k : ℕ). k + min (drives_on shape.drives (suc n) u) level.k) before
    ∙ ap (λ (k : ℕ). room_up_to n level shape v + min k level.k) here

-- the same usable drives leave the same room
pub room_of_same : (level : Level) (shape : Shape) (u v : Drive → Bool) → IsShape shape
    → ((d : Drive) → IsDrive d → u d ≡ v d) → room_of level shape u ≡ room_of level shape v
room_of_same level shape u v is same = same_room_up_to shape.nodes level shape u v is.nodes is.drives same
