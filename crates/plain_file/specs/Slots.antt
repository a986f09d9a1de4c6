-- What slots of a cluster hold, and where they are.
use Rattle.std.specs.Prelude.{◌≡◌, ℕ, not, if◌then◌else◌, List, [], ◌∷◌, Option, None, is_none, count_by}
use Rattle.flex_io.specs.declared.raw_place.RawPlace.{RawPlace}
use Rattle.domains.specs.Place.{Place, same_place, is_place_of}
use Rattle.domains.specs.Shape.{Shape}
use Rattle.held_slots.specs.Slots.{place_from, count_at}

-- all slots are places of the cluster
abbrev pub AreOf : {S : Type 0} → (S → RawPlace) → Shape → List S → Type 0
AreOf place_of shape slots = count_at place_of (λ s. not (is_place_of shape s)) slots ≡ 0

-- all slots tell what they hold
abbrev pub Tell : {S : Type 0} → (S → Option (List ℕ)) → List S → Type 0
Tell content slots = count_by (λ x. is_none (content x)) slots ≡ 0

-- what the first of the slots that stands at the place holds, where it tells
abbrev pub content_at : {S : Type 0} → List S → (S → RawPlace) → (S → Option (List ℕ)) → Place → Option (List ℕ)
content_at [] place_of content s = None
content_at (x ∷ xs) place_of content s =
    if same_place (place_from (place_of x)) s then content x else content_at xs place_of content s
