-- What a seat that has begun an item finds in its next turn.
use Rattle.std.proofs.Common.{◌≡◌, ℕ, ◌+◌, Option, Some, None, Result, true, sym, ap, ◌∙◌, subst}
use Rattle.std.specs.Prelude.{IfSome}
use Rattle.domains.specs.declared.by.By.{By}
use Rattle.job_rules.specs.declared.job.JobId.{JobId}
use Rattle.turn_cell.specs.Seats.{SeatView, in_turn, left}
use Rattle.engine_history.specs.declared.end.End.{End}
use Rattle.job_log.specs.declared.job_log.Grow.{Grow}
use Rattle.engine_history.specs.Steps.{is_item_out}
use Rattle.engine_core.specs.BegunItems.{begun_at}
use Rattle.engine_core.specs.EngineTurns.{ChangesEngine, FollowsEngine, HasBegun, IsUntouched}
use Rattle.engine_core.specs.EngineView.{EngineView, IsEngine, NoOtherBegan, jobs_now}
use Rattle.engine_core.specs.Items.{after_begin}
use Rattle.engine_core.specs.Tasks.{work_of}
use Rattle.engine_core.specs.declared.work.Task.{Task}
use Rattle.engine_core.specs.declared.work.Work.{Work}
use Rattle.engine_core.proofs.EngineTurns.{none_else, none_touched, stays_begun}
use Rattle.engine_uses.specs.ItemTurns.{BeginsItem, EndsIn, EndsItem, in_turn_of, passed}

-- the seat is once more in no turn
pub has_left : {A : Type 0} (before within after : SeatView A) (turns : ℕ) (state : A) → within ≡ in_turn before → after ≡ left within turns state → after ≡ left before turns state
has_left before within after turns state entered leaves = leaves ∙ ap (λ seat. left seat turns state) entered

-- the number of turns and the seat of a turn do not matter to what is begun
pub begun_seat : (seat : ℕ) (e : EngineView) (job : JobId) (item other : ℕ) → HasBegun seat e job item → HasBegun seat (in_turn_of other e) job item
begun_seat seat e job item other h = record { order = h.order; placed = h.placed; few = h.few; begun = h.begun; here = h.here; own = h.own; early = h.early }

pub begun_passed : (seat : ℕ) (e : EngineView) (job : JobId) (item : ℕ) → HasBegun seat e job item → HasBegun seat (passed e) job item
begun_passed seat e job item h = record { order = h.order; placed = h.placed; few = h.few; begun = h.begun; here = h.here; own = h.own; early = h.early }

engine_seat : (e : EngineView) (seat : ℕ) → IsEngine (in_turn_of seat e) → IsEngine e
engine_seat e seat is = record { due_none = is.due_none; begun = is.begun }

-- an item that a seat has begun is out
pub begun_out : (seat : ℕ) (e : EngineView) (job : JobId) (item : ℕ) → IsEngine e → HasBegun seat e job item → is_item_out (jobs_now e) job item ≡ true
begun_out seat e job item is h =
    (is.begun.begun_each job h.order item h.begun h.placed h.few (sym (ap (λ o. begun_at e.begun o item) h.placed) ∙ h.here)).out

-- what a turn tells of its seat: it found x, began at `state`, and left y
pub record EngineTurned (before after : SeatView EngineView) (x state y : EngineView) : Type 0 where
  pub follows : FollowsEngine before.number before.last x
  pub begins : state ≡ in_turn_of before.number x
  pub leaves : after ≡ left before (x.log.turns + 1) (passed y)

module _ (before after : SeatView EngineView) (x state y : EngineView) (turned : EngineTurned before after x state y) where
  number : after.number ≡ before.number
  number = ap (λ (v : SeatView EngineView). v.number) turned.leaves

  pub last : after.last ≡ passed y
  last = ap (λ (v : SeatView EngineView). v.last) turned.leaves

  mine : state.log.seat ≡ before.number
  mine = ap (λ (e : EngineView). e.log.seat) turned.begins

  left_begun : (job : JobId) (item : ℕ) → HasBegun before.number y job item → HasBegun after.number after.last job item
  left_begun job item h = subst (λ (p : ℕ × EngineView). HasBegun p.0 p.1 job item) (λ i. (sym number i, sym last i)) (begun_passed before.number y job item h)

  -- the turn began the item, if there is work
  pub begins_item : (result : Option Work) → IfSome result (λ work. HasBegun state.log.seat y work.job work.item) → IfSome result (λ work. HasBegun after.number after.last work.job work.item)
  begins_item None none = tt
  begins_item (Some work) h = left_begun work.job work.item (subst (λ k. HasBegun k y work.job work.item) mine h)

  -- what the seat had begun before
  pub begun_here : (job : JobId) (item : ℕ) → HasBegun before.number before.last job item → HasBegun before.number state job item
  begun_here job item h =
      subst (λ (e : EngineView). HasBegun before.number e job item) (sym turned.begins) (begun_seat before.number x job item before.number (stays_begun before.number before.last x job item turned.follows h))

  -- a turn that only looks
  pub looks : (job : JobId) (item : ℕ) → y ≡ state → HasBegun before.number before.last job item → HasBegun after.number after.last job item
  looks job item same h = left_begun job item (subst (λ (e : EngineView). HasBegun before.number e job item) (sym same) (begun_here job item h))

  pub untouched : (job : JobId) (item : ℕ) → y ≡ state → IsEngine state → HasBegun before.number before.last job item → IsUntouched before.last after.last job item
  untouched job item same is h more notes =
      let found : IsEngine x = engine_seat x before.number (subst IsEngine turned.begins is) in
      let here : after.last.log.notes ≡ x.log.notes = ap (λ (e : EngineView). e.log.notes) last ∙ ap (λ (e : EngineView). e.log.notes) same ∙ ap (λ (e : EngineView). e.log.notes) turned.begins in
      none_touched before.number before.last x job item turned.follows h found more (sym here ∙ notes)

  pub begins_exact : (task : Task) (item : ℕ) (result : Option Work) → result ≡ work_of state task item → y ≡ after_begin state task.job item result → BeginsItem before after task item result
  begins_exact task item result work begun = record {
    found = x;
    follows = turned.follows;
    work = work ∙ ap (λ (e : EngineView). work_of e task item) turned.begins;
    leaves = last ∙ ap passed (begun ∙ ap (λ (e : EngineView). after_begin e task.job item result) turned.begins);
  }

  pub ends_exact : (by : By) (job : JobId) (item : ℕ) (end : End) (result : Result (Unit {0}) Grow) → IsEngine state → HasBegun before.number before.last job item → EndsIn state y by job item end result
      → EndsItem before after by job item end result
  ends_exact by job item end result is h ended = record {
    found = x;
    follows = turned.follows;
    untouched = none_touched before.number before.last x job item turned.follows h (engine_seat x before.number (subst IsEngine turned.begins is));
    engine = y;
    ended = subst (λ (e : EngineView). EndsIn e y by job item end result) turned.begins ended;
    leaves = last;
  }

-- what a call on the item asks for, in the next turn of the seat
pub none_else_found : (number : ℕ) (last x state : EngineView) (job : JobId) (item : ℕ) → FollowsEngine number last x → state ≡ in_turn_of number x → HasBegun number last job item → NoOtherBegan state job item
none_else_found number last x state job item follows begins h =
    none_else number state job item (ap (λ (e : EngineView). e.log.seat) begins)
    (subst (λ (e : EngineView). HasBegun number e job item) (sym begins) (begun_seat number x job item number (stays_begun number last x job item follows h)))

pub out_found : (number : ℕ) (last x state : EngineView) (job : JobId) (item : ℕ) → FollowsEngine number last x → state ≡ in_turn_of number x → IsEngine state → HasBegun number last job item
    → is_item_out (jobs_now state) job item ≡ true
out_found number last x state job item follows begins is h =
    begun_out number state job item is (subst (λ (e : EngineView). HasBegun number e job item) (sym begins) (begun_seat number x job item number (stays_begun number last x job item follows h)))

-- a turn of the seat makes of x what it makes of the state at which it begins
pub turn_from : (number : ℕ) (x state y : EngineView) → state ≡ in_turn_of number x → ChangesEngine state.log.seat state y → ChangesEngine number x y
turn_from number x state y begins changed =
    let h = subst (λ (e : EngineView). ChangesEngine e.log.seat e y) begins changed in
    record { turns = h.turns; more = h.more; notes = h.notes; own = h.own; others = h.others; fixed = h.fixed }

-- and the seat's own number is that of the seat within the turn
pub turn_within : (before within : SeatView EngineView) (x state y : EngineView) → within ≡ in_turn before → state ≡ in_turn_of before.number x → ChangesEngine state.log.seat state y
    → ChangesEngine within.number x y
turn_within before within x state y entered begins changed =
    subst (λ (v : SeatView EngineView). ChangesEngine v.number x y) (sym entered) (turn_from before.number x state y begins changed)
