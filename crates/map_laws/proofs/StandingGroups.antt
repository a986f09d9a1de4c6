-- Groups that stand in a map.
use Rattle.std.proofs.Common.{◌≡◌, ℕ, ◌+◌, ◌≤◌, ◌==◌, Bool, true, false, ◌||◌, ◌⊎◌, inl, inr, List, [], ◌∷◌, ◌++◌, ap, subst, arith}
use Rattle.std.specs.List.{AllByRecursion}
use Rattle.std.proofs.lemmas.Bool.{eq-eqb}
use Rattle.std.proofs.lemmas.List.Sums.{sum_by-cons}
use Rattle.domains.specs.declared.group.Group.{Group}
use Rattle.inode_codec.specs.Inode.{data_units}
use Rattle.file_history.specs.Layout.{is_among}
use Rattle.file_history.specs.WriteRule.{generations_of}
use Rattle.map_laws.specs.MappedGroups.{StandsFrom}

-- at an equal start
pub stands-start : (gs : List Group) (a b : ℕ) (g : Group) (first : ℕ) → a ≡ b → StandsFrom gs a g first → StandsFrom gs b g first
stands-start gs a b g first same stands = subst (λ (s : ℕ). StandsFrom gs s g first) same stands

-- a group of two lists stands in one of them
pub stands-split : (xs ys : List Group) (start : ℕ) (g : Group) (first : ℕ) → StandsFrom (xs ++ ys) start g first
    → StandsFrom xs start g first ⊎ StandsFrom ys (start + data_units xs) g first
stands-split [] ys start g first stands = inr (stands-start ys start (start + data_units []) g first (omega arith) stands)
stands-split (x ∷ xs) ys start g first (inl here) = inl (inl here)
stands-split (x ∷ xs) ys start g first (inr later) = elim (stands-split xs ys (start + x.n) g first later) [
  | inl front ↦ inl (inr front)
  | inr back ↦
      let whole = sum_by-cons (λ (h : Group). h.n) x xs in
      inr (stands-start ys (start + x.n + data_units xs) (start + data_units (x ∷ xs)) g first (omega (arith, whole)) back)
]

pub stands-left : (xs ys : List Group) (start : ℕ) (g : Group) (first : ℕ) → StandsFrom xs start g first → StandsFrom (xs ++ ys) start g first
stands-left [] ys start g first stands = absurd stands
stands-left (x ∷ xs) ys start g first (inl here) = inl here
stands-left (x ∷ xs) ys start g first (inr later) = inr (stands-left xs ys (start + x.n) g first later)

pub stands-right : (xs ys : List Group) (start : ℕ) (g : Group) (first : ℕ) → StandsFrom ys (start + data_units xs) g first → StandsFrom (xs ++ ys) start g first
stands-right [] ys start g first stands = stands-start ys (start + data_units []) start g first (omega arith) stands
stands-right (x ∷ xs) ys start g first stands =
    let whole = sum_by-cons (λ (h : Group). h.n) x xs in
    inr (stands-right xs ys (start + x.n) g first
    (stands-start ys (start + data_units (x ∷ xs)) (start + x.n + data_units xs) g first (omega (arith, whole)) stands))

-- it lies among their data units
pub record LiesWithin (start first n stop : ℕ) : Type 0 where
  pub from : start ≤ first
  pub to : first + n ≤ stop

pub stands-within : (gs : List Group) (start : ℕ) (g : Group) (first : ℕ) → StandsFrom gs start g first → LiesWithin start first g.n (start + data_units gs)
stands-within [] start g first stands = absurd stands
stands-within (h ∷ hs) start g first (inl here) =
    let whole = sum_by-cons (λ (k : Group). k.n) h hs in
    let same : h.n ≡ g.n = ap (λ (k : Group). k.n) here.0 in
    let at = here.1 in
    record { from = omega (arith, at); to = omega (arith, whole, same, at) }
stands-within (h ∷ hs) start g first (inr later) =
    let whole = sum_by-cons (λ (k : Group). k.n) h hs in
    let rest = stands-within hs (start + h.n) g first later in
    let from = rest.from in
    let to = rest.to in
    record { from = omega (arith, from); to = omega (arith, whole, to) }

-- what holds of all groups holds of it
pub stands-all : (P : Group → Type 0) (gs : List Group) (start : ℕ) (g : Group) (first : ℕ) → AllByRecursion P gs → StandsFrom gs start g first → P g
stands-all P [] start g first all stands = absurd stands
stands-all P (h ∷ hs) start g first all (inl here) = subst P here.0 all.0
stands-all P (h ∷ hs) start g first all (inr later) = stands-all P hs (start + h.n) g first all.1 later

-- its generation is among theirs
pub stands-among : (gs : List Group) (start : ℕ) (g : Group) (first : ℕ) → StandsFrom gs start g first → is_among (generations_of gs) g.generation ≡ true
stands-among [] start g first stands = absurd stands
stands-among (h ∷ hs) start g first (inl here) =
    ap (λ (b : Bool). b || is_among (generations_of hs) g.generation) (eq-eqb h.generation g.generation (ap (λ (k : Group). k.generation) here.0))
stands-among (h ∷ hs) start g first (inr later) = or_right (h.generation == g.generation) (is_among (generations_of hs) g.generation) (stands-among hs (start + h.n) g first later)
  where
    or_right : (a b : Bool) → b ≡ true → (a || b) ≡ true
    or_right true b is = λ i. true
    or_right false b is = is
