-- The visits that are left, and the drives that are left of a node, after some of each.
use Rattle.std.proofs.Common.{◌≡◌, ℕ, suc, ◌+◌, ◌-◌, ◌/◌, ◌%◌, ◌<◌, ◌≤◌, Bool, true, false, cond, not, ◌&&◌, ◌||◌, List, [], ◌∷◌, ◌++◌, length, map, take, Option, Some, None, append-nil, append_assoc, refl, sym, ap, ◌∙◌, arith}
use Rattle.std.proofs.Math.Seq.{take-append_seam}
use Rattle.std.proofs.lemmas.Bool.{and_from, and_left, and_right, both_ways, not_from_false}
use Rattle.domains.specs.Drive.{Drive}
use Rattle.placement_order.specs.Order.{DrawRequest, cycle, drawn_in, drives_of, first_open, given_at, is_open, nodes_of, visits_after, visits_in, visits_of, with_drive}

-- the numbers of a cycle without the first n
cycle_left : (n i count start : ℕ) → i < n → cycle (n - i) count (start + i) ≡ (1 + (start + i) % count) ∷ cycle (n - (i + 1)) count (start + (i + 1))
cycle_left n i count start within =
    let left : n - i ≡ suc (n - (i + 1)) = omega (arith, within) in
    let next : suc (start + i) ≡ start + (i + 1) = omega arith in
    ap (λ m. cycle m count (start + i)) left ∙ ap (λ m. (1 + (start + i) % count) ∷ cycle (n - (i + 1)) count m) next

cycle_end : (n i count start : ℕ) → n ≤ i → cycle (n - i) count start ≡ []
cycle_end n i count start past =
    let none : n - i ≡ 0 = omega (arith, past) in
    ap (λ m. cycle m count start) none

-- the nodes without the first n
abbrev pub nodes_left : DrawRequest → ℕ → List ℕ
nodes_left s i = cycle (s.shape.nodes - i) s.shape.nodes (s.spin + i)

pub nodes_left-all : (s : DrawRequest) → nodes_left s 0 ≡ nodes_of s
nodes_left-all s =
    let all : s.shape.nodes - 0 ≡ s.shape.nodes = omega arith in
    let none : s.spin + 0 ≡ s.spin = omega arith in
    ap (λ m. cycle m s.shape.nodes (s.spin + 0)) all ∙ ap (λ m. cycle s.shape.nodes s.shape.nodes m) none

pub nodes_left-next : (s : DrawRequest) (i : ℕ) → i < s.shape.nodes → nodes_left s i ≡ (1 + (s.spin + i) % s.shape.nodes) ∷ nodes_left s (i + 1)
nodes_left-next s i within = cycle_left s.shape.nodes i s.shape.nodes s.spin within

pub nodes_left-end : (s : DrawRequest) (i : ℕ) → s.shape.nodes ≤ i → nodes_left s i ≡ []
nodes_left-end s i past = cycle_end s.shape.nodes i s.shape.nodes (s.spin + i) past

-- the drives of a node without the first n
abbrev pub drives_left : DrawRequest → ℕ → ℕ → List Drive
drives_left s node i =
    map (λ drive. record { node = node; drive = drive }) (cycle (s.shape.drives - i) s.shape.drives (s.spin / s.shape.nodes + i))

abbrev pub drive_at : DrawRequest → ℕ → ℕ → Drive
drive_at s node i = record { node = node; drive = 1 + (s.spin / s.shape.nodes + i) % s.shape.drives }

pub drives_left-all : (s : DrawRequest) (node : ℕ) → drives_left s node 0 ≡ drives_of s node
drives_left-all s node =
    let none : s.spin / s.shape.nodes + 0 ≡ s.spin / s.shape.nodes = omega arith in
    let all : s.shape.drives - 0 ≡ s.shape.drives = omega arith in
    ap (λ m. map (λ (drive : ℕ). let made : Drive = record { node = node; drive = drive } in made) (cycle m s.shape.drives (s.spin / s.shape.nodes + 0))) all
    ∙ ap (λ m. map (λ (drive : ℕ). let made : Drive = record { node = node; drive = drive } in made) (cycle s.shape.drives s.shape.drives m)) none

pub drives_left-next : (s : DrawRequest) (node i : ℕ) → i < s.shape.drives → drives_left s node i ≡ drive_at s node i ∷ drives_left s node (i + 1)
drives_left-next s node i within =
    ap (λ ns. map (λ (drive : ℕ). let made : Drive = record { node = node; drive = drive } in made) ns) (cycle_left s.shape.drives i s.shape.drives (s.spin / s.shape.nodes) within)

pub drives_left-end : (s : DrawRequest) (node i : ℕ) → s.shape.drives ≤ i → drives_left s node i ≡ []
drives_left-end s node i past =
    ap (λ ns. map (λ (drive : ℕ). let made : Drive = record { node = node; drive = drive } in made) ns) (cycle_end s.shape.drives i s.shape.drives (s.spin / s.shape.nodes + i) past)

-- the visits of the rounds without the first n
abbrev pub visits_left : DrawRequest → ℕ → List (ℕ × ℕ)
visits_left s round = visits_after round (s.level.k - round) (nodes_of s)

pub visits_left-all : (s : DrawRequest) → visits_left s 0 ≡ visits_of s
visits_left-all s =
    let all : s.level.k - 0 ≡ s.level.k = omega arith in
    ap (λ m. visits_after 0 m (nodes_of s)) all

pub visits_left-next : (s : DrawRequest) (round : ℕ) → round < s.level.k → visits_left s round ≡ visits_in (round + 1) (nodes_of s) ++ visits_left s (round + 1)
visits_left-next s round within =
    let nodes : List ℕ = nodes_of s in
    let left : s.level.k - round ≡ suc (s.level.k - (round + 1)) = omega (arith, within) in
    let next : suc round ≡ round + 1 = omega arith in
    ap (λ m. visits_after round m nodes) left ∙ ap (λ m. visits_in m nodes ++ visits_after m (s.level.k - (round + 1)) nodes) next

pub visits_left-end : (s : DrawRequest) (round : ℕ) → s.level.k ≤ round → visits_left s round ≡ []
visits_left-end s round past =
    let none : s.level.k - round ≡ 0 = omega (arith, past) in
    ap (λ m. visits_after round m (nodes_of s)) none

longer : (drawn : List Drive) (given : Option Drive) → (more : List Drive) × (with_drive drawn given ≡ drawn ++ more)
longer drawn None = ([], sym (append-nil drawn))
longer drawn (Some d) = (d ∷ [], refl)

-- visits add behind the drives that were drawn before
pub begins : (visits : List (ℕ × ℕ)) (s : DrawRequest) (spent : Drive → Bool) (drawn : List Drive) → (more : List Drive) × (drawn_in visits s spent drawn ≡ drawn ++ more)
begins [] s spent drawn = ([], sym (append-nil drawn))
begins (visit ∷ visits) s spent drawn =
    let one = longer drawn (given_at s spent drawn visit) in
    let rest = begins visits s spent (with_drive drawn (given_at s spent drawn visit)) in
    (one.0 ++ rest.0, rest.1 ∙ ap (λ xs. xs ++ rest.0) one.1 ∙ append_assoc drawn one.0 rest.0)

-- once as many as wanted are drawn, they are what the visits left come to
pub take-drawn : (count : ℕ) (visits : List (ℕ × ℕ)) (s : DrawRequest) (spent : Drive → Bool) (drawn : List Drive) → length drawn ≡ count
    → take count (drawn_in visits s spent drawn) ≡ drawn
take-drawn count visits s spent drawn many =
    let all = begins visits s spent drawn in
    ap (take count) all.1 ∙ ap (λ n. take n (drawn ++ all.0)) (sym many) ∙ take-append_seam drawn all.0

pub first_open-is : (s : DrawRequest) (spent : Drive → Bool) (drawn : List Drive) (d : Drive) (ds : List Drive) → is_open s spent drawn d ≡ true
    → first_open s spent drawn (d ∷ ds) ≡ Some d
first_open-is s spent drawn d ds opens = ap (λ b. cond b (Some d) (first_open s spent drawn ds)) opens

pub first_open-next : (s : DrawRequest) (spent : Drive → Bool) (drawn : List Drive) (d : Drive) (ds : List Drive) → is_open s spent drawn d ≡ false
    → first_open s spent drawn (d ∷ ds) ≡ first_open s spent drawn ds
first_open-next s spent drawn d ds shut = ap (λ b. cond b (Some d) (first_open s spent drawn ds)) shut

-- a drive is open if it is usable, and neither used, spent nor drawn
pub open_from : (a b c e : Bool) → a ≡ true → b ≡ false → c ≡ false → e ≡ false → ((a && not b) && (not c && not e)) ≡ true
open_from a b c e usable unused unspent undrawn =
    and_from _ _ (and_from _ _ usable (not_from_false b unused)) (and_from _ _ (not_from_false c unspent) (not_from_false e undrawn))

-- it is not if it is used, drawn or spent
pub shut_from : (a b c e : Bool) → ((b || e) || c) ≡ true → ((a && not b) && (not c && not e)) ≡ false
shut_from a true c e any = and_left (a && not true) (not c && not e) (and_right a (not true) refl)
shut_from a false true e any = and_right (a && not false) (not true && not e) (and_left (not true) (not e) refl)
shut_from a false false true any = and_right (a && not false) (not false && not true) (and_right (not false) (not true) refl)
shut_from a false false false any = absurd (both_ways false refl any)

pub shut_unusable : (a b c e : Bool) → a ≡ false → ((a && not b) && (not c && not e)) ≡ false
shut_unusable a b c e not = and_left _ _ (and_left _ _ not)
