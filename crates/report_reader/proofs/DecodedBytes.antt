-- What is decoded from hexadecimal are bytes.
use Rattle.std.proofs.Common.{◌≡◌, ℕ, suc, ◌<◌, List, [], ◌∷◌, Ok}
use Rattle.std.specs.List.{AllByRecursion}
use Rattle.hex.specs.Hex.{IsBytes, decode_of}
use Rattle.hex.proofs.HexLemmas.{decode_of-ok}

all_bytes : (bytes : List ℕ) → IsBytes bytes → AllByRecursion (λ (b : ℕ). b < 256) bytes
all_bytes [] h = tt
all_bytes (b ∷ bs) h = (h 0, all_bytes bs (λ i. h (suc i)))

pub bytes_decoded : (t items : List ℕ) → decode_of t ≡ Ok items → AllByRecursion (λ (b : ℕ). b < 256) items
bytes_decoded t items is = all_bytes items (decode_of-ok t items is).3
