use Rattle.std.proofs.Common.{◌≡◌, ◌∙◌, ◌<◌, ◌≤◌, List, [], ◌∷◌, ◌++◌, ap, refl, sym, subst, min, vec_len, vec_capacity}
use Rattle.domains.specs.Shape.{Shape}
use Rattle.board_history.specs.declared.entry.BoardEntry.{BoardEntry}
use Rattle.board_history.specs.Board.{IsBoardStep, IsWithin}
use Rattle.board.specs.History.{History, with_entry, stamped}
use Rattle.board.specs.BoardInvariant.{BoardInvariant}
use Rattle.board.specs.contracts.board.Board.{the_view}
use Rattle.board.specs.declared.entry_stamp.EntryStamp.{EntryStamp}
use Rattle.board.proofs.EntryAdded.{BoardInvariant-push, below_room}
use Rattle.board.proofs.BoardFields.{log_inside}
use Rattle.board.proofs.StampedEntries.{spare_less, stamped_push, with_entry_is}
use Rattle.board.proofs.board.Board.give.Goals as goal

abbrev entry : goal.After-push_reserved-2 → BoardEntry
entry c = record { by = c.args.by; order = c.args.order; effect = c.give-effect.result }

-- the entry is legal after the entries so far
step : (c : goal.After-push_reserved-2) → IsBoardStep c.self.inside.shape c.self.inside.entries.items (entry c)
step c = record {
  within = subst (λ (h : History). IsWithin h.shape c.args.order) (sym c.self.view_is) c.requires.within;
  effect = c.give-effect.ensures.effect c.self.inside.entries.items c.self.invariant.states;
}

pub returns-clause-entry : goal.returns-clause-entry
returns-clause-entry c =
    let inside = c.self.inside in
    let first = c.push_reserved.ensures in
    let second = c.push_reserved-2.ensures in
    let stamp : EntryStamp = record { turn = inside.turns; seat = inside.seat } in
    let notes : stamped c.push_reserved.new.self.items c.push_reserved-2.new.self.items ≡ stamped inside.stamps.items inside.entries.items ++ record { turn = inside.turns; seat = inside.seat; entry = entry c } ∷ [] =
    ap (λ (l : List EntryStamp). stamped l c.push_reserved-2.new.self.items) first.items
    ∙ ap (stamped (inside.stamps.items ++ stamp ∷ [])) second.items
    ∙ stamped_push inside.stamps.items inside.entries.items stamp (entry c) c.self.invariant.stamped in
    let spare = spare_less (vec_capacity inside.entries) (vec_capacity inside.stamps) inside.room (vec_len inside.entries) (vec_capacity c.push_reserved-2.new.self) (vec_capacity c.push_reserved.new.self) (vec_len c.push_reserved-2.new.self) second.capacity first.capacity second.len in
    with_entry_is (the_view inside) _ _ (entry c) notes spare ∙ ap (λ (h : History). with_entry h (entry c)) c.self.view_is

pub returns-clause-legal : goal.returns-clause-legal
returns-clause-legal c =
    let log = log_inside c.self.inside c.args.self.now c.self.view_is c.self.invariant.stamped in
    subst (λ (x : Shape × List BoardEntry). IsBoardStep x.0 x.1 (entry c)) (λ i. ((c.self.view_is i).shape, log i)) (step c)

pub invariant_of-self : goal.invariant_of-self
invariant_of-self c =
    let inside = c.self.inside in
    let stamp : EntryStamp = record { turn = inside.turns; seat = inside.seat } in
    let spare : 1 ≤ (the_view inside).spare = subst (λ (h : History). 1 ≤ h.spare) (sym c.self.view_is) c.requires.spare in
    let below = below_room (min (vec_capacity inside.entries) (vec_capacity inside.stamps)) inside.room (vec_len inside.entries) spare in
    let length_is = inside.entries.ok.0 in
    let kept = BoardInvariant-push inside.shape inside.room inside.entries.items inside.stamps.items inside.states c.give-effect.new.self (entry c) stamp
    c.self.invariant (step c) (subst (λ n. n < inside.room) length_is below) (c.give-effect.ensures.states inside.entries.items (entry c) refl c.self.invariant.states) in
    subst (λ (x : List BoardEntry × List EntryStamp). BoardInvariant inside.shape inside.room x.0 x.1 c.give-effect.new.self) (λ i. (sym c.push_reserved-2.ensures.items i, sym c.push_reserved.ensures.items i)) kept
