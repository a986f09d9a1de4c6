-- New pools of the drives, in the order of their places.
use Rattle.std.proofs.Common.{◌≡◌, ℕ, suc, ◌+◌, ◌*◌, true, List, [], ◌∷◌, ◌++◌, length, sym, ap, ◌∙◌, arith}
use Rattle.std.proofs.Math.Nat.{zero-mul}
use Rattle.std.proofs.lemmas.List.{length-reverse}
use Rattle.domains.specs.Shape.{Shape, is_of}
use Rattle.flex_io.specs.declared.raw_place.RawPlace.{RawPlace}
use Rattle.slot_pool.specs.Pools.{PoolView}
use Rattle.fabric.specs.Cells.{place_in}
use Rattle.fabric.specs.NewFabric.{AreNewPoolsFrom, IsNewPool, free_in}

module _ {S : Type 0} (place_of : S → RawPlace) (shape : Shape) where
  -- one more pool
  pub AreNewPoolsFrom-push : (place : ℕ) (pools : List (PoolView S)) (p : PoolView S) → AreNewPoolsFrom place_of shape place pools → is_of shape p.drive ≡ true
      → place_in shape p.drive ≡ place + length pools → IsNewPool place_of shape p.drive p → AreNewPoolsFrom place_of shape place (pools ++ p ∷ [])
  AreNewPoolsFrom-push place [] p are of next new = (of, (next ∙ (let same : place + 0 ≡ place = omega arith in same)), new, tt)
  AreNewPoolsFrom-push place (q ∷ pools) p are of next new =
      (are.0, are.1, are.2, AreNewPoolsFrom-push (suc place) pools p are.3 of (next ∙ (let same : place + length (q ∷ pools) ≡ suc place + length pools = omega arith in same)) new)

  -- all their slots are free
  pub free_in-new : (place : ℕ) (pools : List (PoolView S)) → AreNewPoolsFrom place_of shape place pools → free_in pools ≡ length pools * shape.slots
  free_in-new place [] are = sym (zero-mul shape.slots)
  free_in-new place (p ∷ pools) are =
      let rest = free_in-new (suc place) pools are.3 in
      let new = are.2 in
      let here : length p.free ≡ shape.slots = ap (λ q. length q.free) new.is ∙ (length-reverse new.slots ∙ new.many) in
      let all : (1 + length pools) * shape.slots ≡ length pools * shape.slots + shape.slots = grind arith in
      omega (arith, rest, here, all)

module _ {S : Type 0} where
  pub free_in-push : (pools : List (PoolView S)) (p : PoolView S) → free_in (pools ++ p ∷ []) ≡ free_in pools + length p.free
  free_in-push [] p = let same : length p.free + 0 ≡ 0 + length p.free = omega arith in same
  free_in-push (q ∷ pools) p =
      let rest = free_in-push pools p in
      omega (arith, rest)
