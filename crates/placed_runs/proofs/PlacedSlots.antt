-- Slots that were drawn for a group stand on its cluster, on different drives that are up.
use Rattle.std.proofs.Common.{ℕ, Bool, List, [], ◌∷◌, Option, sym, subst, ◌∙◌}
use Rattle.std.specs.List.{AllByRecursion}
use Rattle.std.proofs.lemmas.Bool.{and_parts}
use Rattle.std.proofs.lemmas.List.Elements.{recursion_from_All}
use Rattle.domains.specs.Drive.{Drive, is_in}
use Rattle.domains.specs.Place.{IsPlace, IsPlaceOf}
use Rattle.domains.specs.Shape.{IsShape, Shape}
use Rattle.domains.proofs.ShapeLemmas.{IsPlace-of}
use Rattle.flex_io.specs.declared.raw_place.RawPlace.{RawPlace}
use Rattle.held_slots.specs.Slots.{place_from, places_from}
use Rattle.fabric.specs.declared.hand.Hand.{Hand}
use Rattle.placement_order.specs.Order.{DrawRequest}
use Rattle.placement_order.specs.OrderLaws.{MayGive}
use Rattle.placement_order.proofs.OrderMembers.{prefixes_may_give}
use Rattle.placement.specs.Draws.{Draws}
use Rattle.placement.specs.PlacedGroups.{Places, spent_by}
use Rattle.slot_search.specs.HandSeats.{AreOfCluster, drives_at, drives_of_all}
use Rattle.placed_runs.specs.PlacedRuns.{MayGoBack}
use Rattle.placed_runs.specs.Terms.{IsAskedFor}
use Rattle.placed_runs.specs.declared.terms.RunTerms.{RunTerms}

module _ {S : Type 0} (place_of : S → RawPlace) where
  of_cluster : (shape : Shape) (slots : List S) → IsShape shape → AllByRecursion (λ (y : S). IsPlaceOf shape (place_from (place_of y))) slots
      → AllByRecursion IsPlace (places_from place_of slots)
  of_cluster shape [] cluster all = tt
  of_cluster shape (y ∷ ys) cluster all = (IsPlace-of shape (place_from (place_of y)) cluster all.0, of_cluster shape ys cluster all.1)

  -- their places are within the limits of a cluster
  pub are_places : (shape : Shape) (slots : List S) → IsShape shape → AreOfCluster place_of shape slots → AllByRecursion IsPlace (places_from place_of slots)
  are_places shape slots cluster all = of_cluster shape slots cluster (recursion_from_All (λ (y : S). IsPlaceOf shape (place_from (place_of y))) slots all)

  module _ (t : RunTerms) (shape : Shape) (spin : ℕ) (s : DrawRequest) (slots : List S) (asks : IsAskedFor t shape spin s) where
    may_go_back : (spent : Drive → Bool) → MayGive s spent (drives_of_all place_of slots) → AreOfCluster place_of s.shape slots → MayGoBack place_of shape t.view slots
    may_go_back spent may places = record {
      places = subst (λ (c : Shape). AreOfCluster place_of c slots) asks.shape_is places;
      apart = may.apart;
      up = λ d there. (and_parts _ _ (sym (asks.usable d) ∙ (and_parts _ _ (may.left d there)).0)).1;
    }

    pub drawn_may_go_back : (count : ℕ) (old new : Hand S) → Draws place_of s count slots old new → MayGoBack place_of shape t.view slots
    drawn_may_go_back count old new drawn =
        may_go_back (is_in (drives_at drawn.found))
        (subst (MayGive s (is_in (drives_at drawn.found))) (sym drawn.order) (prefixes_may_give s (is_in (drives_at drawn.found)) count).1)
        drawn.drew.places

    pub placed_may_go_back : (content : S → Option (List ℕ)) (len_of faults : S → ℕ) (units : List (List ℕ)) (old new : Hand S)
        → Places place_of content len_of faults s units slots old new → MayGoBack place_of shape t.view slots
    placed_may_go_back content len_of faults units old new placed =
        may_go_back (spent_by placed.failed placed.found) placed.may (λ k default below. (placed.written k default below).of_shape)
