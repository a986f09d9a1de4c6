-- The content of a slot whose rack tells it.
use Rattle.std.proofs.Common.{◌≡◌, ℕ, List, Option, None, Some, IsSome, ap, rules}
use Rattle.flex_io.specs.Slots.{Holds}

pub content_is : (content : Option (List ℕ)) (bytes : List ℕ) → IsSome content → Holds content bytes → content ≡ Some bytes
content_is (Some known) bytes is holds = ap (λ l. Some l) holds
content_is None bytes is holds = search rules
