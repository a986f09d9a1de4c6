-- A run of groups each of which stands in a map where it stood: it is a run of that map.
use Rattle.std.proofs.Common.{◌≡◌, ℕ, ◌+◌, ◌≤◌, inl, inr, List, [], ◌∷◌, ◌++◌, refl, ap, subst, ◌∙◌, arith}
use Rattle.std.proofs.lemmas.List.Sums.{sum_by-cons}
use Rattle.domains.specs.declared.group.Group.{Group}
use Rattle.inode_codec.specs.Inode.{data_units}
use Rattle.map_changes.proofs.Pairs.{All-left, All-right}
use Rattle.map_laws.specs.MappedGroups.{StandsFrom}
use Rattle.map_laws.proofs.StandingGroups.{LiesWithin, stands-split, stands-start, stands-within}
use Rattle.earlier_copies.proofs.TestedRuns.{HaveUnits, no_groups}

-- the map, the first of whose groups begins with `start`, has this run from the data unit `at` on
pub record HasRun (gs : List Group) (start : ℕ) (run : List Group) (at : ℕ) : Type 0 where
  pub front : List Group
  pub back : List Group
  pub parted : gs ≡ front ++ (run ++ back)
  pub before : start + data_units front ≡ at

-- one group
pub one_run : (gs : List Group) (start : ℕ) (g : Group) (at : ℕ) → StandsFrom gs start g at → HasRun gs start (g ∷ []) at
one_run [] start g at stands = absurd stands
one_run (h ∷ hs) start g at (inl here) = record { front = []; back = hs; parted = ap (λ (k : Group). k ∷ hs) here.0; before = let is = here.1 in omega (arith, is) }
one_run (h ∷ hs) start g at (inr later) =
    let rest = one_run hs (start + h.n) g at later in
    let whole = sum_by-cons (λ (k : Group). k.n) h rest.front in
    let before = rest.before in
    record { front = h ∷ rest.front; back = rest.back; parted = ap (λ (l : List Group). h ∷ l) rest.parted; before = omega (arith, whole, before) }

-- each group of the run stands in the map where it stands in the run
abbrev pub StandThere : List Group → ℕ → List Group → ℕ → Type 0
StandThere run at gs start = (g : Group) (first : ℕ) → StandsFrom run at g first → StandsFrom gs start g first

pub contiguous : (run : List Group) (r : Group) (gs : List Group) (start at : ℕ) → HaveUnits (r ∷ run) → HaveUnits gs → StandThere (r ∷ run) at gs start
    → HasRun gs start (r ∷ run) at
contiguous [] r gs start at run_some some stand = one_run gs start r at (stand r at (inl (refl, refl)))
contiguous (q ∷ qs) r gs start at run_some some stand =
    let first = one_run gs start r at (stand r at (inl (refl, refl))) in
    let before = first.before in
    let parts : HaveUnits (first.front ++ (r ∷ first.back)) = subst HaveUnits first.parted some in
    let back_some : HaveUnits first.back = (All-right (λ (g : Group). 1 ≤ g.n) first.front (r ∷ first.back) parts).1 in
    let r_some : 1 ≤ r.n = run_some.0 in
    let behind : StandThere (q ∷ qs) (at + r.n) first.back (at + r.n) =
    λ g f stands.
    let late = (stands-within (q ∷ qs) (at + r.n) g f stands).from in
    let some_g : LiesWithin (at + r.n) f g.n (at + r.n + data_units (q ∷ qs)) = stands-within (q ∷ qs) (at + r.n) g f stands in
    elim (stands-split first.front (r ∷ first.back) start g f (subst (λ (l : List Group). StandsFrom l start g f) first.parted (stand g f (inr stands)))) [
      | inl early ↦ let to = (stands-within first.front start g f early).to in absurd (omega (arith, to, late, before, r_some))
      | inr rest ↦ elim rest [
        | inl here ↦ let is = here.1 in absurd (omega (arith, is, late, before, r_some))
        | inr later ↦ stands-start first.back (start + data_units first.front + r.n) (at + r.n) g f (omega (arith, before)) later
      ]
    ] in
    let next = contiguous qs q first.back (at + r.n) (at + r.n) run_some.1 back_some behind in
    let none = next.before in
    let empty : next.front ≡ [] =
    no_groups next.front (All-left (λ (g : Group). 1 ≤ g.n) next.front ((q ∷ qs) ++ next.back) (subst HaveUnits next.parted back_some)) (omega (arith, none)) in
    record {
      front = first.front;
      back = next.back;
      parted = first.parted ∙ ap (λ (l : List Group). first.front ++ (r ∷ l)) (next.parted ∙ ap (λ (l : List Group). l ++ ((q ∷ qs) ++ next.back)) empty);
      before = before;
    }
