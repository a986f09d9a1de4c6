-- Groups that share data units, one more at the front.
use Rattle.std.proofs.Common.{◌≡◌, ℕ, ◌-◌, ◌≤◌, min, List, [], ◌∷◌, arith}
use Rattle.file_history.specs.WriteRule.{AreChunks}

some_left : (count width m : ℕ) (ns : List ℕ) → 1 ≤ width → AreChunks count width (m ∷ ns) → 1 ≤ count
some_left count width m [] wide chunks = let same = chunks.0 in let some = chunks.1 in omega (arith, same, some)
some_left count width m (n ∷ ns) wide chunks = let same = chunks.0 in let within = chunks.1 in omega (arith, same, within, wide)

-- a group of the whole width, or of all that is left, before those that share the rest
pub AreChunks-next : (left width n : ℕ) (rest : List ℕ) → 1 ≤ width → 1 ≤ left → n ≡ min left width → AreChunks (left - n) width rest → AreChunks left width (n ∷ rest)
AreChunks-next left width n [] wide some is chunks = (omega (arith, is, chunks), omega (arith, is, some, wide), omega (arith, is))
AreChunks-next left width n (m ∷ ns) wide some is chunks =
    let more = some_left (left - n) width m ns wide chunks in (omega (arith, is, more), omega (arith, is), chunks)
