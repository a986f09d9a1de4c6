-- The line of a board's entry tells the entry.
use Rattle.std.proofs.Common.{codes, ◌≡◌, ℕ, Bool, true, false, cond, List, [], ◌∷◌, ◌++◌, refl, sym, ap, ◌∙◌, append_assoc, arith}
use Rattle.std.specs.Fmt.{decimal}
use Rattle.domains.specs.Drive.{Drive, IsDrive}
use Rattle.domains.specs.declared.by.By.{By}
use Rattle.scenario.specs.Ops.{drive_text}
use Rattle.board_history.specs.declared.entry.BoardEntry.{BoardEntry}
use Rattle.board_history.specs.declared.entry.Effect.{Effect}
use Rattle.board_history.specs.declared.entry.Effect.TheVariants as effect
use Rattle.board_history.specs.declared.entry.Order.{Order}
use Rattle.board_history.specs.declared.entry.Order.TheVariants as order
use Rattle.board_history.specs.declared.entry.State.TheVariants as state
use Rattle.report.specs.BoardLines.{board_line, effect_text, order_text}
use Rattle.report.specs.Words.{by_text, line_feed}
use Rattle.report_reader.specs.Fits.{FitsBoardEntry, FitsBy, FitsDrive, FitsOrder}
use Rattle.report_reader.specs.Lines.{IsBoardEntry, IsBy, IsOrder, board_text, lacks, target_of, word_of}
use Rattle.report_reader.proofs.Cuts.{IsWord, cut, cut_at, lacks_both, number_again, number_in, number_word, same_text, spaced}
use Rattle.report_reader.proofs.WordsTold.{by_again, by_in, by_word, drive_again, drive_in, drive_word}

abbrev effect_in : List ℕ → Effect
effect_in text =
    cond (same_text text (codes "changed")) effect.Changed
    (cond (same_text text (codes "nochange up")) (effect.NoChange state.Up)
    (cond (same_text text (codes "nochange down")) (effect.NoChange state.Down) (effect.NoChange state.Gone)))

effect_again : (e : Effect) → effect_in (effect_text e) ≡ e
unfolding effect_text
effect_again effect.Changed = refl
effect_again (effect.NoChange state.Up) = refl
effect_again (effect.NoChange state.Down) = refl
effect_again (effect.NoChange state.Gone) = refl

effect_feed : (e : Effect) → lacks 10 (effect_text e) ≡ true
unfolding effect_text
effect_feed effect.Changed = refl
effect_feed (effect.NoChange state.Up) = refl
effect_feed (effect.NoChange state.Down) = refl
effect_feed (effect.NoChange state.Gone) = refl

abbrev order_in : List ℕ → List ℕ → Order
order_in word text =
    cond (same_text word (codes "fail")) (order.Fail (drive_in text))
    (cond (same_text word (codes "down")) (order.Down (drive_in text))
    (cond (same_text word (codes "up")) (order.Up (drive_in text)) (order.FailNode (number_in text))))

pub order_spelled : (o : Order) → order_text o ≡ word_of o ++ 32 ∷ target_of o
unfolding order_text
order_spelled (order.Fail d) = refl
order_spelled (order.FailNode n) = refl
order_spelled (order.Down d) = refl
order_spelled (order.Up d) = refl

order_again : (o : Order) → FitsOrder o → order_in (word_of o) (target_of o) ≡ o
order_again (order.Fail d) h = ap order.Fail (drive_again d h)
order_again (order.FailNode n) h = ap order.FailNode (number_again n h)
order_again (order.Down d) h = ap order.Down (drive_again d h)
order_again (order.Up d) h = ap order.Up (drive_again d h)

pub order_words : (o : Order) → FitsOrder o → IsWord (word_of o) × IsWord (target_of o)
order_words (order.Fail d) h = ((refl, refl), drive_word d h)
order_words (order.FailNode n) h = ((refl, refl), number_word n h)
order_words (order.Down d) h = ((refl, refl), drive_word d h)
order_words (order.Up d) h = ((refl, refl), drive_word d h)

pub board_spelled : (e : BoardEntry) → board_text e ≡ by_text e.by ++ 32 ∷ (word_of e.order ++ 32 ∷ (target_of e.order ++ 32 ∷ effect_text e.effect))
board_spelled e = rw (order_spelled e.order) (simp append_assoc)

unfoldable pub board_in : List ℕ → BoardEntry
board_in line =
    let by = cut 32 line in
    let word = cut 32 by.1 in
    let target = cut 32 word.1 in
    record { by = by_in by.0; order = order_in word.0 target.0; effect = effect_in target.1 }

pub board_again : (e : BoardEntry) → FitsBoardEntry e → board_in (board_text e) ≡ e
unfolding board_in
board_again e h =
    let words = order_words e.order h.order in
    ap board_in (board_spelled e)
    ∙ rw (cut_at 32 (by_text e.by) (word_of e.order ++ 32 ∷ (target_of e.order ++ 32 ∷ effect_text e.effect)) (by_word e.by h.by).0)
    (rw (cut_at 32 (word_of e.order) (target_of e.order ++ 32 ∷ effect_text e.effect) words.0.0)
    (rw (cut_at 32 (target_of e.order) (effect_text e.effect) words.1.0)
    (rw (by_again e.by h.by, order_again e.order h.order, effect_again e.effect) refl)))

pub board_feed : (e : BoardEntry) → FitsBoardEntry e → lacks 10 (board_text e) ≡ true
board_feed e h =
    let words = order_words e.order h.order in
    ap (lacks 10) (board_spelled e)
    ∙ spaced (by_text e.by) (word_of e.order ++ 32 ∷ (target_of e.order ++ 32 ∷ effect_text e.effect)) (by_word e.by h.by).1
    (spaced (word_of e.order) (target_of e.order ++ 32 ∷ effect_text e.effect) words.0.1 (spaced (target_of e.order) (effect_text e.effect) words.1.1 (effect_feed e.effect)))

pub board_line-is : (e : BoardEntry) → board_line e ≡ board_text e ++ line_feed
unfolding board_line
board_line-is e = refl

abbrev made_entry : By → Order → Effect → BoardEntry
made_entry by order effect = record { by = by; order = order; effect = effect }

pub entry_is : (by : By) (o : Order) (f : Effect) (e : BoardEntry) → by ≡ e.by → o ≡ e.order → f ≡ e.effect → made_entry by o f ≡ e
entry_is by o f e one two three = rw (one, two, three) refl

-- ---- entries of the code's types

pub by_fits : (by : By) → IsBy by → FitsBy by
by_fits by h = record { actor = omega (arith, h.actor); call = omega (arith, h.call) }

pub drive_fits : (d : Drive) → IsDrive d → FitsDrive d
drive_fits d h = record { node = omega (arith, h.nodes); drive = omega (arith, h.drives) }

pub order_fits : (o : Order) → IsOrder o → FitsOrder o
order_fits (order.Fail d) h = drive_fits d h
order_fits (order.FailNode n) h = omega (arith, h.1)
order_fits (order.Down d) h = drive_fits d h
order_fits (order.Up d) h = drive_fits d h

pub entry_fits : (e : BoardEntry) → IsBoardEntry e → FitsBoardEntry e
entry_fits e h = record { by = by_fits e.by h.by; order = order_fits e.order h.order }
