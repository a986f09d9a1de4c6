-- The pools of closed cells.
use Rattle.std.proofs.Common.{◌≡◌, ℕ, suc, ◌+◌, List, [], ◌∷◌, ◌++◌, length, Some, sym, ap, ◌∙◌, subst, inl, inr, arith, append_assoc}
use Rattle.std.specs.Global.{Vec}
use Rattle.std.specs.Prelude.{slice_get}
use Rattle.std.proofs.lemmas.List.{length-append}
use Rattle.std.proofs.lemmas.Option.{slice_get_within}
use Rattle.flex_io.specs.declared.raw_place.RawPlace.{RawPlace}
use Rattle.slot_pool.specs.Pools.{IsPool, PoolView}
use Rattle.turn_cell.specs.declared.seat.Seat.{Seat}
use Rattle.fabric.specs.ClosedFabric.{ClosesPool}
use Rattle.fabric.proofs.ListElements.{element_at_push, same_element, slice_get-left, slice_get-seam}

-- of all cells and their buffers these are left, and the others' pools are closed
pub record AreClosed {C S : Type 0} (place_of : S → RawPlace) (cells : List C) (buffers : List (Vec (Seat (PoolView S)))) (cells_left : List C) (buffers_left : List (Vec (Seat (PoolView S)))) (closed : List (PoolView S)) : Type 0 where
  pub cells_done : List C
  pub buffers_done : List (Vec (Seat (PoolView S)))
  pub cells_split : cells ≡ cells_done ++ cells_left
  pub buffers_split : buffers ≡ buffers_done ++ buffers_left
  pub same : length buffers_done ≡ length cells_done
  pub many : length closed ≡ length cells_done
  pub each : (k : ℕ) (room : Vec (Seat (PoolView S))) (p : PoolView S) → slice_get buffers_done k ≡ Some room → slice_get closed k ≡ Some p
      → ClosesPool room.items p × IsPool place_of p

module _ {C S : Type 0} (place_of : S → RawPlace) where
  -- the next cell and its room
  pub next_at : (cells : List C) (buffers : List (Vec (Seat (PoolView S)))) (cells_left : List C) (buffers_left : List (Vec (Seat (PoolView S)))) (closed : List (PoolView S)) (cell : C) (room : Vec (Seat (PoolView S)))
      → (are : AreClosed place_of cells buffers (cell ∷ cells_left) (room ∷ buffers_left) closed)
      → (slice_get cells (length are.cells_done) ≡ Some cell) × (slice_get buffers (length are.cells_done) ≡ Some room) × (length closed + suc (length cells_left) ≡ length cells)
  next_at cells buffers cells_left buffers_left closed cell room are =
      let long = ap length are.cells_split ∙ length-append are.cells_done (cell ∷ cells_left) in
      let many = are.many in (
        ap (λ l. slice_get l (length are.cells_done)) are.cells_split ∙ slice_get-seam are.cells_done cell cells_left,
        ap (slice_get buffers) (sym are.same) ∙ (ap (λ l. slice_get l (length are.buffers_done)) are.buffers_split ∙ slice_get-seam are.buffers_done room buffers_left),
        omega (arith, long, many),
      )

  pub AreClosed-next : (cells : List C) (buffers : List (Vec (Seat (PoolView S)))) (cells_left : List C) (buffers_left : List (Vec (Seat (PoolView S)))) (closed : List (PoolView S)) (cell : C) (room : Vec (Seat (PoolView S))) (pool : PoolView S)
      → AreClosed place_of cells buffers (cell ∷ cells_left) (room ∷ buffers_left) closed → ClosesPool room.items pool → IsPool place_of pool
      → AreClosed place_of cells buffers cells_left buffers_left (closed ++ pool ∷ [])
  AreClosed-next cells buffers cells_left buffers_left closed cell room pool are closes is =
      let more_closed = length-append closed (pool ∷ []) in
      let more_cells = length-append are.cells_done (cell ∷ []) in
      let more_buffers = length-append are.buffers_done (room ∷ []) in
      let same = are.same in
      let many = are.many in
      record {
        cells_done = are.cells_done ++ cell ∷ [];
        buffers_done = are.buffers_done ++ room ∷ [];
        cells_split = are.cells_split ∙ sym (append_assoc are.cells_done (cell ∷ []) cells_left);
        buffers_split = are.buffers_split ∙ sym (append_assoc are.buffers_done (room ∷ []) buffers_left);
        same = omega (arith, more_cells, more_buffers, same);
        many = omega (arith, more_cells, more_closed, many);
        each = λ k r p at there.
            elim (element_at_push are.buffers_done room k r at) [
              | inl before ↦ are.each k r p before (let within = slice_get_within are.buffers_done k r before in sym (slice_get-left closed (pool ∷ []) k (omega (arith, within, same, many))) ∙ there)
              | inr last ↦ (
                  let place : k ≡ length closed = omega (arith, last.0, same, many) in
                  let pool_is : pool ≡ p = same_element _ _ pool p (slice_get-seam closed pool []) (ap (slice_get (closed ++ pool ∷ [])) (sym place)) there in
                  subst (λ (z : Vec (Seat (PoolView S)) × PoolView S). ClosesPool z.0.items z.1 × IsPool place_of z.1) (λ i. (last.1 i, pool_is i)) (closes, is)
                  )
            ];
      }

  pub AreClosed-all : (cells : List C) (buffers : List (Vec (Seat (PoolView S)))) (cells_left : List C) (buffers_left : List (Vec (Seat (PoolView S)))) (closed : List (PoolView S)) → length buffers ≡ length cells → cells_left ≡ []
      → AreClosed place_of cells buffers cells_left buffers_left closed
      → (length closed ≡ length cells) × ((k : ℕ) (room : Vec (Seat (PoolView S))) (p : PoolView S) → slice_get buffers k ≡ Some room → slice_get closed k ≡ Some p → ClosesPool room.items p × IsPool place_of p)
  AreClosed-all cells buffers cells_left buffers_left closed all none are =
      let long = ap length are.cells_split ∙ length-append are.cells_done cells_left in
      let empty = ap length none in
      let many = are.many in
      let same = are.same in (
        omega (arith, long, empty, many),
        λ k room p at there.
            let within = slice_get_within buffers k room at in
            are.each k room p (sym (slice_get-left are.buffers_done buffers_left k (omega (arith, within, all, long, empty, same))) ∙ (ap (λ l. slice_get l k) (sym are.buffers_split) ∙ at)) there,
      )
