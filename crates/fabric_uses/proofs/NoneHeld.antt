-- Hands that hold no slot.
use Rattle.std.proofs.Common.{◌≡◌, ℕ, suc, ◌%◌, ◌^◌, true, List, [], ◌∷◌, length, map, Some, Result, Ok, Err, IsOk, OnOk, false, refl, sym, ap, ◌∙◌, subst, arith}
use Rattle.std.specs.Prelude.{slice_get}
use Rattle.std.proofs.lemmas.Bool.{both_ways}
use Rattle.std.specs.List.{sum}
use Rattle.std.proofs.lemmas.List.Sums.{sum_by-cons}
use Rattle.domains.specs.Shape.{Shape, is_of}
use Rattle.domains.specs.Drive.{Drive}
use Rattle.flex_io.specs.declared.raw_place.RawPlace.{RawPlace}
use Rattle.slot_pool.specs.Pools.{PoolView}
use Rattle.fabric.specs.Accounts.{Holds, Stays}
use Rattle.fabric.specs.Cells.{FabricView, place_in}
use Rattle.fabric.specs.ClosedFabric.{AreHolding, IsExact, all_slots}
use Rattle.fabric.specs.NewFabric.{IsNewHand}
use Rattle.fabric.specs.declared.hand.Hand.{Hand}
use Rattle.fabric_uses.specs.declared.traders.Trader.{Trader}
use Rattle.fabric_uses.specs.Traders.{AllDone, AllTraded, Traded}

on_ok : {T E P : Type 0} (r : Result T E) → OnOk r P → IsOk r → P
on_ok (Ok x) holds ok = holds
on_ok (Err e) holds ok = absurd (both_ways false refl ok)

module _ {S : Type 0} where
  -- 0 for each trader
  abbrev zeros : List (Trader S) → List ℕ
  zeros [] = []
  zeros (t ∷ ts) = 0 ∷ zeros ts

  sum-zeros : (ts : List (Trader S)) → sum (zeros ts) ≡ 0
  sum-zeros [] = refl
  sum-zeros (t ∷ ts) =
      let all = sum_by-cons (λ n. n) 0 (zeros ts) in
      let rest = sum-zeros ts in
      omega (arith, all, rest)

  -- a hand that holds what it held before, none, holds none
  even : (shape : Shape) (d : Drive) (before after : Trader S) → is_of shape d ≡ true → OnOk after.done (Stays shape before.hand after.hand) → IsOk after.done → Holds shape d 0 before.hand → Holds shape d 0 after.hand
  even shape d before after of stays done holds = on_ok after.done stays done d 0 of holds

  holding_none : (f : FabricView) (d : Drive) (before after : List (Trader S)) → is_of f.shape d ≡ true → length after ≡ length before
      → ((k : ℕ) (b a : Trader S) → slice_get before k ≡ Some b → slice_get after k ≡ Some a → Traded f b a) → AllDone after
      → ((k : ℕ) (hand : Hand S) → slice_get (map (λ t. t.hand) before) k ≡ Some hand → Holds f.shape d 0 hand) → AreHolding f.shape d (map (λ t. t.hand) after) (zeros after)
  holding_none f d [] [] of many each done held = tt
  holding_none f d [] (a ∷ rest) of many each done held = absurd (omega (arith, many))
  holding_none f d (b ∷ bs) [] of many each done held = absurd (omega (arith, many))
  holding_none f d (b ∷ bs) (a ∷ rest) of many each done held = (
    even f.shape d b a of (each 0 b a refl refl).even done.0 (held 0 b.hand refl),
    holding_none f d bs rest of (omega (arith, many)) (λ k x y at there. each (suc k) x y at there) done.1 (λ k hand at. held (suc k) hand at),
  )

  -- new hands that hold as many slots at the end as at the beginning leave each drive all its slots
  pub none_held : (place_of : S → RawPlace) (f : FabricView) (shape : Shape) (room : ℕ) (before after : List (Trader S)) (new now : List (Hand S)) (pools : List (PoolView S)) (yard retired : List S)
      → f.shape ≡ shape → map (λ t. t.hand) before ≡ new → ((k : ℕ) (hand : Hand S) → slice_get new k ≡ Some hand → IsNewHand place_of shape room hand) → AllTraded f before after → AllDone after
      → now ≡ map (λ t. t.hand) after → IsExact place_of f.shape now pools yard retired
      → (d : Drive) (p : PoolView S) → is_of shape d ≡ true → slice_get pools (place_in shape d) ≡ Some p → all_slots place_of d p yard retired 0 ≡ shape.slots
  none_held place_of f shape room before after new now pools yard retired shape_is new_are fresh traded done now_are exact d p of is =
      let within = ap (λ (c : Shape). is_of c d) shape_is ∙ of in
      let there = ap (λ (c : Shape). slice_get pools (place_in c d)) shape_is ∙ is in
      let held : (k : ℕ) (hand : Hand S) → slice_get (map (λ t. t.hand) before) k ≡ Some hand → Holds f.shape d 0 hand =
      λ k hand at. subst (λ (c : Shape). Holds c d 0 hand) (sym shape_is) ((fresh k hand (ap (λ hands. slice_get hands k) (sym new_are) ∙ at)).holds d of) in
      let holding = subst (λ hands. AreHolding f.shape d hands (zeros after)) (sym now_are) (holding_none f d before after within traded.count traded.each done held) in
      let none = sum-zeros after in
      exact d p (zeros after) 0 within there holding (omega (arith, none)) (omega arith) ∙ ap (λ (c : Shape). c.slots) shape_is
