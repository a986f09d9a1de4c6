-- The set of drives that are up, after one more drive is lost.
use Rattle.std.proofs.Common.{◌≡◌, Bool, true, false, not, ◌&&◌, cond, List, [], ◌∷◌, ◌++◌, length, refl, sym, ap, ◌∙◌}
use Rattle.domains.specs.Drive.{Drive, same_drive}
use Rattle.domains.specs.Shape.{Shape, is_of}
use Rattle.domains.specs.declared.by.By.{By}
use Rattle.board_history.specs.Board.{state_after, up_after, is_up, is_gone, change_of, effect_of}
use Rattle.board_history.specs.declared.entry.State.{State}
use Rattle.board_history.specs.declared.entry.State.TheVariants.{Up, Down, Gone}
use Rattle.board_history.specs.declared.entry.Order.TheVariants.{Fail}
use Rattle.board_history.specs.declared.entry.Effect.{Effect}
use Rattle.board_history.specs.declared.entry.Effect.TheVariants.{Changed, NoChange}
use Rattle.board_history.specs.declared.entry.BoardEntry.{BoardEntry}
use Rattle.domains.proofs.DriveLemmas.{same_drive-sym, same_drive-self}
use Rattle.board_history.proofs.Histories.{state_from-push, up_after-all}
use Rattle.std.proofs.lemmas.Bool.{true≢false, and_parts}

-- the state after a drive is lost
up-lost : (b : Bool) (s : State) → is_up (cond b Gone s) ≡ not b && is_up s
up-lost true s = refl
up-lost false s = refl

gone-lost : (b : Bool) (s : State) → is_gone s ≡ not (is_up s) → is_gone (cond b Gone s) ≡ not (is_up (cond b Gone s))
gone-lost true s h = refl
gone-lost false s h = h

and-swap : (a b c : Bool) → a && (b && c) ≡ b && (a && c)
and-swap true b c = refl
and-swap false true c = refl
and-swap false false c = refl

-- the drives that are up after one more is lost are the others
pub up_after-fail : (shape : Shape) (log : List BoardEntry) (by : By) (e : Effect) (lost d : Drive)
    → up_after shape (log ++ record { by = by; order = Fail lost; effect = e } ∷ []) (length (log ++ record { by = by; order = Fail lost; effect = e } ∷ [])) d
    ≡ not (same_drive d lost) && up_after shape log (length log) d
up_after-fail shape log by e lost d =
    let entry : BoardEntry = record { by = by; order = Fail lost; effect = e } in
    up_after-all shape (log ++ entry ∷ []) d
    ∙ ap (λ (s : State). is_of shape d && is_up s) (state_from-push log entry d Up)
    ∙ ap (λ b. is_of shape d && b) (up-lost (same_drive lost d) (state_after log d))
    ∙ and-swap (is_of shape d) (not (same_drive lost d)) (is_up (state_after log d))
    ∙ ap (λ b. not b && (is_of shape d && is_up (state_after log d))) (same_drive-sym lost d)
    ∙ sym (ap (λ b. not (same_drive d lost) && b) (up_after-all shape log d))

-- a drive that is not up is gone, also after one more is lost
pub gone_after-fail : (log : List BoardEntry) (by : By) (e : Effect) (lost d : Drive)
    → is_gone (state_after log d) ≡ not (is_up (state_after log d))
    → is_gone (state_after (log ++ record { by = by; order = Fail lost; effect = e } ∷ []) d)
    ≡ not (is_up (state_after (log ++ record { by = by; order = Fail lost; effect = e } ∷ []) d))
gone_after-fail log by e lost d h =
    let entry : BoardEntry = record { by = by; order = Fail lost; effect = e } in
    let pushed = state_from-push log entry d Up in
    ap is_gone pushed ∙ gone-lost (same_drive lost d) (state_after log d) h ∙ sym (ap (λ (s : State). not (is_up s)) pushed)

-- an order to lose a drive that is up changes its state
effect_up : (s : State) → is_up s ≡ true → change_of s Gone ≡ Changed
effect_up Up h = refl
effect_up Down h = refl
effect_up Gone h = absurd (true≢false (sym h))

effect_gone : (s : State) → is_up s ≡ false → is_gone s ≡ not (is_up s) → change_of s Gone ≡ NoChange Gone
effect_gone Up h g = absurd (true≢false h)
effect_gone Down h g = absurd (true≢false (sym g))
effect_gone Gone h g = refl

fail_effect : (shape : Shape) (log : List BoardEntry) (d : Drive) → effect_of shape log (Fail d) ≡ change_of (state_after log d) Gone
fail_effect shape log d = ap (λ b. change_of (state_after log d) (cond b Gone (state_after log d))) (same_drive-self d)

-- the order changes the state of a drive of the cluster that is up
pub effect_of-up : (shape : Shape) (log : List BoardEntry) (d : Drive) → up_after shape log (length log) d ≡ true
    → effect_of shape log (Fail d) ≡ Changed
effect_of-up shape log d h =
    fail_effect shape log d ∙ effect_up (state_after log d) ((and_parts _ _ (sym (up_after-all shape log d) ∙ h)).1)

-- and finds one that is not up gone
pub effect_of-gone : (shape : Shape) (log : List BoardEntry) (d : Drive) → is_of shape d ≡ true
    → is_gone (state_after log d) ≡ not (is_up (state_after log d)) → up_after shape log (length log) d ≡ false
    → effect_of shape log (Fail d) ≡ NoChange Gone
effect_of-gone shape log d within gone h =
    let down : is_up (state_after log d) ≡ false =
    sym (ap (λ b. b && is_up (state_after log d)) within) ∙ sym (up_after-all shape log d) ∙ h in
    fail_effect shape log d ∙ effect_gone (state_after log d) down gone

-- what is answered to the loss of a drive is what it does
pub effect_of-loss : (shape : Shape) (log : List BoardEntry) (d : Drive) (b : Bool) → b ≡ up_after shape log (length log) d
    → is_of shape d ≡ true → is_gone (state_after log d) ≡ not (is_up (state_after log d))
    → cond b Changed (NoChange Gone) ≡ effect_of shape log (Fail d)
effect_of-loss shape log d true h within gone = sym (effect_of-up shape log d (sym h))
effect_of-loss shape log d false h within gone = sym (effect_of-gone shape log d within gone (sym h))
