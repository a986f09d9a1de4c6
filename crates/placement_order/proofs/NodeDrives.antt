-- The drives of a node, in the order of the spin.
use Rattle.std.proofs.Common.{◌≡◌, ℕ, ◌≤◌, true, false, cond, List, [], ◌∷◌, map, refl, sym, ap, subst, ◌∙◌, inl, inr}
use Rattle.std.proofs.lemmas.Bool.{cases_Bool, and_parts, and_from, eqb-true, eq-eqb, both_ways, le-leb, leb-true, false_from_ne_true}
use Rattle.domains.specs.Drive.{Drive, same_drive, is_in, AreApart}
use Rattle.domains.specs.Shape.{is_of}
use Rattle.placement_order.specs.Order.{DrawRequest, drives_of}
use Rattle.domains.proofs.DriveLemmas.{is_in-rest}
use Rattle.placement_order.proofs.CycleLemmas.{IsOneOf, AreWithin, AreOnce, within_all, in_all, once_all}

abbrev at : ℕ → ℕ → Drive
at node drive = record { node = node; drive = drive }

-- the drive is one of the node, with a number within 1 and the count
pub record IsOn (node count : ℕ) (d : Drive) : Type 0 where
  pub node_is : d.node ≡ node
  pub some : 1 ≤ d.drive
  pub within : d.drive ≤ count

on_node : (node count : ℕ) (ns : List ℕ) (d : Drive) → AreWithin count ns → is_in (map (at node) ns) d ≡ true → IsOn node count d
on_node node count [] d within there = absurd (both_ways false refl there)
on_node node count (n ∷ ns) d within there = elim (cases_Bool (same_drive (at node n) d)) [
  | inl this ↦
      let both = and_parts _ _ this in
      let number = eqb-true n d.drive both.1 in
      record {
        node_is = sym (eqb-true node d.node both.0);
        some = subst (λ m. 1 ≤ m) number within.0;
        within = subst (λ m. m ≤ count) number within.1;
      }
  | inr other ↦ on_node node count ns d within.2 (sym (ap (λ b. cond b true (is_in (map (at node) ns) d)) other) ∙ there)
]

among : (node : ℕ) (ns : List ℕ) (d : Drive) → d.node ≡ node → IsOneOf d.drive ns → is_in (map (at node) ns) d ≡ true
among node [] d same there = absurd there
among node (n ∷ ns) d same there = elim there [
  | inl here ↦ ap (λ b. cond b true (is_in (map (at node) ns) d)) (and_from _ _ (eq-eqb node d.node (sym same)) (eq-eqb n d.drive here))
  | inr later ↦ is_in-rest (at node n) (map (at node) ns) d (among node ns d same later)
]

-- the drives of a node are on it
pub drives_of-on : (s : DrawRequest) (node : ℕ) (d : Drive) → is_in (drives_of s node) d ≡ true → IsOn node s.shape.drives d
drives_of-on s node d there = on_node node s.shape.drives _ d (within_all s.shape.drives _) there

-- and all that are on it are among them
pub on-drives_of : (s : DrawRequest) (node : ℕ) (d : Drive) → IsOn node s.shape.drives d → is_in (drives_of s node) d ≡ true
on-drives_of s node d on = among node _ d on.node_is (in_all s.shape.drives _ d.drive on.some on.within)

-- a drive on a node of the cluster is of the cluster
pub is_of-on : (s : DrawRequest) (node : ℕ) (d : Drive) → 1 ≤ node → node ≤ s.shape.nodes → IsOn node s.shape.drives d → is_of s.shape d ≡ true
is_of-on s node d some within on =
    and_from _ _
    (and_from _ _ (le-leb 1 d.node (subst (λ m. 1 ≤ m) (sym on.node_is) some)) (le-leb 1 d.drive on.some))
    (and_from _ _ (le-leb d.node s.shape.nodes (subst (λ m. m ≤ s.shape.nodes) (sym on.node_is) within)) (le-leb d.drive s.shape.drives on.within))

-- a drive of the cluster is on its node, which is one of the cluster
pub on-is_of : (s : DrawRequest) (d : Drive) → is_of s.shape d ≡ true → (1 ≤ d.node) × (d.node ≤ s.shape.nodes) × IsOn d.node s.shape.drives d
on-is_of s d of_shape =
    let all = and_parts _ _ of_shape in
    let low = and_parts _ _ all.0 in
    let high = and_parts _ _ all.1 in (
      leb-true 1 d.node low.0,
      leb-true d.node s.shape.nodes high.0,
      record { node_is = refl; some = leb-true 1 d.drive low.1; within = leb-true d.drive s.shape.drives high.1 },
    )

number_of : (node : ℕ) (ns : List ℕ) (d : Drive) → is_in (map (at node) ns) d ≡ true → IsOneOf d.drive ns
number_of node [] d there = absurd (both_ways false refl there)
number_of node (n ∷ ns) d there = elim (cases_Bool (same_drive (at node n) d)) [
  | inl this ↦ inl (eqb-true n d.drive (and_parts _ _ this).1)
  | inr other ↦ inr (number_of node ns d (sym (ap (λ b. cond b true (is_in (map (at node) ns) d)) other) ∙ there))
]

apart : (node : ℕ) (ns : List ℕ) → AreOnce ns → AreApart (map (at node) ns)
apart node [] once = tt
apart node (n ∷ ns) once = (false_from_ne_true _ (λ there. once.0 (number_of node ns (at node n) there)), apart node ns once.1)

-- the drives of a node are different ones, and this is their number
pub drives_of-apart : (s : DrawRequest) (node : ℕ) → AreApart (drives_of s node)
drives_of-apart s node = apart node _ (once_all s.shape.drives _)
