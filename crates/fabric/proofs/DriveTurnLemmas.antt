-- What a turn at a pool and a turn at the yard found together, and left.
use Rattle.std.proofs.Common.{◌≡◌, ℕ, ◌+◌, [], length, Result, Ok, Err, IfOk, OnOk, OnErr, refl, ap, ◌∙◌}
use Rattle.flex_io.specs.declared.raw_place.RawPlace.{RawPlace}
use Rattle.slot_pool.specs.Pools.{PoolView, counted}
use Rattle.slot_pool.specs.Tallies.{took}
use Rattle.slot_yard.specs.Queues.{queue_of}
use Rattle.slot_yard.specs.Yards.{YardView, without_drive}
use Rattle.turn_cell.specs.Seats.{SeatView}
use Rattle.fabric.specs.DriveTurns.{LooksOnBoth, RetiresAll}
use Rattle.fabric.proofs.PoolTurnLemmas.{PoolTurned, last_pool, pool_turn}
use Rattle.fabric.proofs.YardTurnLemmas.{YardTurned, last_yard, yard_turn}

module _ {S : Type 0} (place_of : S → RawPlace) (before after : SeatView (PoolView S)) (x state y : PoolView S) (turned : PoolTurned place_of before after x state y)
    (yard_before yard_after : SeatView (YardView S)) (found begun kept : YardView S) (yard_turned : YardTurned place_of yard_before yard_after found begun kept) where
  -- the pool is that of the drive that the seat knows
  drive_is : state.drive ≡ before.last.drive
  drive_is = ap (λ p. p.drive) turned.begins ∙ ap (λ s. s.drive) turned.follows.fixed

  -- the two turns retired the drive's slots
  pub retires_all : {E : Type 0} (r : Result ℕ E) → IfOk r (λ many. many ≡ length state.free + length (queue_of state.drive begun.waiting))
      → OnOk r (kept ≡ without_drive state.drive state.free begun) → OnOk r (y ≡ counted (took (length state.free)) [] state)
      → IfOk r (λ many. RetiresAll place_of before.last.drive many before after yard_before yard_after)
  retires_all (Err e) many retired taken = tt
  retires_all (Ok n) many retired taken =
      let free = ap (λ p. p.free) turned.begins in
      record {
        pool = x;
        yard = found;
        many_are = many
            ∙ (ap (λ free. length free + length (queue_of state.drive begun.waiting)) free
            ∙ (ap (λ d. length x.free + length (queue_of d begun.waiting)) drive_is
            ∙ ap (λ z. length x.free + length (queue_of before.last.drive z.waiting)) yard_turned.begins));
        pool_turn = pool_turn place_of before after x state y turned (counted (took (length x.free)) []) refl (taken ∙ ap (λ free. counted (took (length free)) [] state) free);
        yard_turn = yard_turn place_of yard_before yard_after found begun kept yard_turned (without_drive before.last.drive x.free) refl
            (retired ∙ (ap (λ d. without_drive d state.free begun) drive_is ∙ ap (λ free. without_drive before.last.drive free begun) free));
        is_pool = last_pool place_of before after x state y turned;
        is_yard = last_yard place_of yard_before yard_after found begun kept yard_turned;
      }

  -- or were refused, and changed nothing
  pub looks_on_both : {E : Type 0} (r : Result ℕ E) → OnErr r (kept ≡ begun) → OnErr r (y ≡ state) → OnErr r (LooksOnBoth place_of before after yard_before yard_after)
  looks_on_both (Ok n) yard_same same = tt
  looks_on_both (Err e) yard_same same = record {
    pool = x;
    yard = found;
    pool_turn = pool_turn place_of before after x state y turned (λ p. p) refl same;
    yard_turn = yard_turn place_of yard_before yard_after found begun kept yard_turned (λ z. z) refl yard_same;
    is_pool = last_pool place_of before after x state y turned;
    is_yard = last_yard place_of yard_before yard_after found begun kept yard_turned;
  }
