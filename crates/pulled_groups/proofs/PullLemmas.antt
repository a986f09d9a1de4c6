-- Flags, and what a pull leaves of the slots.
use Rattle.std.proofs.Common.{◌≡◌, ℕ, ◌+◌, ◌-◌, Bool, ◌&&◌, nat_lt, if◌then◌else◌, List, [], ◌∷◌, length, map, Option, refl, sym, ap, ◌∙◌, arith}
use Rattle.std.proofs.lemmas.Simd.{map-map}
use Rattle.flex_io.specs.declared.raw_place.RawPlace.{RawPlace}
use Rattle.domains.specs.Place.{Place}
use Rattle.domains.specs.declared.group.Group.{Group}
use Rattle.held_slots.specs.Slots.{place_from, places_from}
use Rattle.striped_groups.specs.StoredGroups.{stored_group}
use Rattle.file_heads.specs.Parts.{first_live}

pub length_first_live : (places : List Place) (need position : ℕ) (live : ℕ → Place → Bool) → length (first_live places need position live) ≡ length places
length_first_live [] need position live = refl
length_first_live (s ∷ ss) need position live =
    let more = length_first_live ss (if nat_lt 0 need && live position s then need - 1 else need) (position + 1) live in omega (arith, more)

-- slots at the same places
same_places : {S : Type 0} (place_of : S → RawPlace) (xs ys : List S) → map place_of xs ≡ map place_of ys → places_from place_of xs ≡ places_from place_of ys
same_places place_of xs ys same = sym (map-map place_from place_of xs) ∙ ap (map place_from) same ∙ map-map place_from place_of ys

-- slots that show the same, in a group
pub stored_same : {S : Type 0} (place_of : S → RawPlace) (content : S → Option (List ℕ)) (len_of : S → ℕ) (group : Group) (xs ys : List S)
    → map place_of xs ≡ map place_of ys → map content xs ≡ map content ys → map len_of xs ≡ map len_of ys
    → stored_group place_of content len_of (record { group = group; slots = xs }) ≡ stored_group place_of content len_of (record { group = group; slots = ys })
stored_same place_of content len_of group xs ys places contents lengths =
    λ i. record { group = group; places = same_places place_of xs ys places i; contents = contents i; lengths = lengths i }
