-- The hands of traders, before and after they traded.
use Rattle.std.proofs.Common.{◌≡◌, ℕ, zero, suc, ◌+◌, ◌<◌, List, [], ◌∷◌, ◌++◌, length, map, Some, Result, Ok, Err, IsOk, OnOk, refl, sym, ap, ◌∙◌, arith, append_assoc, append-nil, subst}
use Rattle.std.proofs.lemmas.List.{length-append, length-map, map-append}
use Rattle.std.specs.Prelude.{slice_get, slice_index_or}
use Rattle.fabric.specs.Cells.{FabricView}
use Rattle.fabric.specs.ClosedFabric.{AreHandsFrom, AreHandsOf}
use Rattle.fabric.specs.Views.{IsHandOf}
use Rattle.fabric.specs.declared.hand.Hand.{Hand}
use Rattle.fabric_uses.specs.declared.traders.Trader.{Trader}
use Rattle.fabric_uses.specs.Traders.{AllDone, AllTraded, Traded}

pub none_of : {X : Type 0} (xs : List X) → length xs ≡ 0 → xs ≡ []
none_of [] none = refl
none_of (x ∷ xs) none = absurd (omega (arith, none))

pub on_ok_from : {T E P : Type 0} (r : Result T E) → (IsOk r → P) → OnOk r P
on_ok_from (Ok x) holds = holds refl
on_ok_from (Err e) holds = tt

module _ {S : Type 0} where
  hands_from : (f : FabricView) (n : ℕ) (before after : List (Trader S)) → length after ≡ length before → AreHandsFrom f n (map (λ t. t.hand) before)
      → ((k : ℕ) (b a : Trader S) → slice_get before k ≡ Some b → slice_get after k ≡ Some a → Traded f b a) → AreHandsFrom f n (map (λ t. t.hand) after)
  hands_from f n [] [] many are each = tt
  hands_from f n [] (a ∷ rest) many are each = absurd (omega (arith, many))
  hands_from f n (b ∷ bs) [] many are each = absurd (omega (arith, many))
  hands_from f n (b ∷ bs) (a ∷ rest) many are each =
      let first = each 0 b a refl refl in
      (first.hand, first.number ∙ are.1, hands_from f (suc n) bs rest (omega (arith, many)) are.2 (λ k x y at there. each (suc k) x y at there))

  each_from : (f : FabricView) (n : ℕ) (traders : List (Trader S)) → AreHandsFrom f n (map (λ t. t.hand) traders) → (k : ℕ) (default : Trader S) → k < length traders
      → IsHandOf f (slice_index_or traders k default).hand
  each_from f n [] are k default within = absurd (omega (arith, within))
  each_from f n (t ∷ ts) are zero default within = are.0
  each_from f n (t ∷ ts) are (suc k) default within = each_from f (suc n) ts are.2 k default (omega (arith, within))

  -- each trader has a hand of the fabric
  pub each_hand : (f : FabricView) (traders : List (Trader S)) (hands : List (Hand S)) → map (λ t. t.hand) traders ≡ hands → AreHandsOf f hands → (k : ℕ) (default : Trader S) → k < length traders
      → IsHandOf f (slice_index_or traders k default).hand
  each_hand f traders hands same are = each_from f 0 traders (subst (AreHandsFrom f 0) (sym same) are.1)

  -- the hands of all traders are all of the fabric's after they traded
  pub hands_after : (f : FabricView) (before after : List (Trader S)) → AllTraded f before after → AreHandsOf f (map (λ t. t.hand) before) → AreHandsOf f (map (λ t. t.hand) after)
  hands_after f before after traded are =
      let old = length-map before (λ t. t.hand) in
      let new = length-map after (λ t. t.hand) in
      let many = traded.count in
      let count = are.0 in
      (omega (arith, old, new, many, count), hands_from f 0 before after many are.1 traded.each)

  AllDone-push : (traders : List (Trader S)) (trader : Trader S) → AllDone traders → IsOk trader.done → AllDone (traders ++ trader ∷ [])
  AllDone-push [] trader all done = (done, tt)
  AllDone-push (t ∷ ts) trader all done = (all.0, AllDone-push ts trader all.1 done)

  -- of all traders these are left: the hands of the others were taken, and whether all their trades went well
  pub record HandsTaken {E : Type 0} (all left : List (Trader S)) (hands : List (Hand S)) (done : Result (Unit {0}) E) : Type 0 where
    pub taken : List (Trader S)
    pub split : all ≡ taken ++ left
    pub hands_are : hands ≡ map (λ t. t.hand) taken
    pub well : IsOk done → AllDone taken

  pub HandsTaken-next : {E : Type 0} (all left : List (Trader S)) (trader : Trader S) (hands : List (Hand S)) (done now : Result (Unit {0}) E) → HandsTaken all (trader ∷ left) hands done
      → (IsOk now → IsOk done × IsOk trader.done) → HandsTaken all left (hands ++ trader.hand ∷ []) now
  HandsTaken-next all left trader hands done now was both = record {
    taken = was.taken ++ trader ∷ [];
    split = was.split ∙ sym (append_assoc was.taken (trader ∷ []) left);
    hands_are = ap (λ l. l ++ trader.hand ∷ []) was.hands_are ∙ sym (map-append (λ t. t.hand) was.taken (trader ∷ []));
    well = λ ok. let each = both ok in AllDone-push was.taken trader (was.well each.0) each.1;
  }

  -- once no trader is left
  pub HandsTaken-all : {E : Type 0} (all left : List (Trader S)) (hands : List (Hand S)) (done : Result (Unit {0}) E) → left ≡ [] → HandsTaken all left hands done
      → (hands ≡ map (λ t. t.hand) all) × (IsOk done → AllDone all)
  HandsTaken-all all left hands done none was =
      let whole : was.taken ≡ all = sym (was.split ∙ (ap (λ l. was.taken ++ l) none ∙ append-nil was.taken)) in (
        was.hands_are ∙ ap (λ l. map (λ t. t.hand) l) whole,
        λ ok. subst AllDone whole (was.well ok),
      )

  -- as many hands were taken as traders
  pub HandsTaken-count : {E : Type 0} (all left : List (Trader S)) (hands : List (Hand S)) (done : Result (Unit {0}) E) → HandsTaken all left hands done → length hands + length left ≡ length all
  HandsTaken-count all left hands done was =
      let long = ap length was.split ∙ length-append was.taken left in
      let many = ap length was.hands_are ∙ length-map was.taken (λ t. t.hand) in
      omega (arith, long, many)

  -- one trader more stands behind the others, and its hand behind theirs
  pub hands_push : (traders : List (Trader S)) (trader : Trader S) (rest : List (Hand S)) → map (λ t. t.hand) (traders ++ trader ∷ []) ++ rest ≡ map (λ t. t.hand) traders ++ trader.hand ∷ rest
  hands_push traders trader rest =
      ap (λ l. l ++ rest) (map-append (λ t. t.hand) traders (trader ∷ [])) ∙ append_assoc (map (λ t. t.hand) traders) (trader.hand ∷ []) rest
