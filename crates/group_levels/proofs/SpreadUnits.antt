-- Units that are spread over nodes.
use Rattle.std.proofs.Common.{◌≡◌, ℕ, ◌≤◌, nat_le, Bool, true, false, ◌&&◌, List, [], ◌∷◌, IsTrue, refl, sym, ◌∙◌}
use Rattle.std.specs.List.{AllByRecursion, list_all}
use Rattle.std.specs.Cmp.Derive.{both_true}
use Rattle.std.proofs.lemmas.Bool.{false≢true, leb-true, le-leb}
use Rattle.domains.specs.Place.{Place}
use Rattle.domains.specs.Level.{Level}
use Rattle.domains.specs.AtLevel.{AtLevel, drives_of, units_on}
use Rattle.domains.specs.Drive.{AreApart}
use Rattle.domains.specs.declared.group.Group.{Group}
use Rattle.group_levels.specs.Units.{HasUnitsOf, are_spread, is_spread}

both : (a b : Bool) → (a && b) ≡ true → (a ≡ true) × (b ≡ true)
both true b is = (refl, is)
both false b is = absurd (false≢true is)

-- at most k of all the places are on the node of each, exactly if that is found
each_spread : (places all : List Place) (k : ℕ) → list_all (is_spread all k) places ≡ true
    → AllByRecursion (λ (s : Place). units_on s.drive.node all ≤ k) places
unfolding is_spread
each_spread [] all k is = tt
each_spread (s ∷ ss) all k is =
    let found = both (nat_le (units_on s.drive.node all) k) (list_all (is_spread all k) ss) is in
    (leb-true (units_on s.drive.node all) k found.0, each_spread ss all k found.1)

spread_each : (places all : List Place) (k : ℕ) → AllByRecursion (λ (s : Place). units_on s.drive.node all ≤ k) places
    → list_all (is_spread all k) places ≡ true
unfolding is_spread
spread_each [] all k each = refl
spread_each (s ∷ ss) all k each = both_true (le-leb (units_on s.drive.node all) k each.0) (spread_each ss all k each.1)

-- a group of the level's units on different drives is at the level, exactly if they are spread
pub at_level_if : (g : Group) (level : Level) (found : Bool) → HasUnitsOf g level → AreApart (drives_of g.places) → found ≡ are_spread g.places level.k
    → (IsTrue found → AtLevel g level) × (AtLevel g level → IsTrue found)
at_level_if g level found units apart is = (
  λ so. record {
    some = units.some;
    narrow = units.narrow;
    corrected = units.corrected;
    whole = units.whole;
    apart = apart;
    spread = each_spread g.places g.places level.k (sym is ∙ so);
  },
  λ at. is ∙ spread_each g.places g.places level.k at.spread,
)
