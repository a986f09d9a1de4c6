-- The sets of drives, after an order.
use Rattle.std.proofs.Common.{◌≡◌, ℕ, zero, suc, ◌<◌, ◌≤◌, Bool, true, false, ◌&&◌, cond, eqb, leb, List, [], ◌∷◌, ◌++◌, refl, sym, ap, ◌∙◌, inl, inr, arith, subst, le_trans}
use Rattle.std.proofs.lemmas.Bool.{cases_Bool, false_from_ne_true, true≢false, and_parts, and_from, and_left, and_right, eqb-true, eq-eqb, ne_eqb, cases_eq, le-leb}
use Rattle.domains.specs.Drive.{Drive, IsDrive, same_drive}
use Rattle.domains.specs.Shape.{Shape, IsShape, is_of}
use Rattle.domains.specs.DriveSet.{has}
use Rattle.domains.specs.declared.drive_set.DriveSet.{DriveSet}
use Rattle.board_history.specs.Board.{after_order, all_gone, effect_of, is_gone, is_up, state_after}
use Rattle.board_history.specs.declared.entry.State.{State}
use Rattle.board_history.specs.declared.entry.State.TheVariants.{Up, Down, Gone}
use Rattle.board_history.specs.declared.entry.Order.{Order}
use Rattle.board_history.specs.declared.entry.Order.TheVariants.{FailNode}
use Rattle.board_history.specs.declared.entry.Effect.TheVariants.{Changed, NoChange}
use Rattle.board_history.specs.declared.entry.BoardEntry.{BoardEntry}
use Rattle.board_history.proofs.Histories.{state_from-push}
use Rattle.board.specs.DriveStates.{HasStates, all_in, state_in}
use Rattle.board.specs.declared.drive_states.DriveStates.{DriveStates}

-- one drive that the set has not
pub all_in_not : (n m node : ℕ) (set : DriveSet) → m < n → has set (record { node = node; drive = suc m }) ≡ false → all_in n node set ≡ false
all_in_not zero m node set below gone = absurd (omega arith)
all_in_not (suc n) m node set below gone =
    elim (cases_eq m n) [
      | inl here ↦ and_left _ _ (ap (λ (k : ℕ). has set (record { node = node; drive = suc k })) (sym here) ∙ gone)
      | inr other ↦ and_right _ _ (all_in_not n m node set (omega arith) gone)
    ]

-- a set of the drives that are gone has all drives of a node where these are all gone
pub all_in_gone : (n node : ℕ) (log : List BoardEntry) (set : DriveSet)
    → ((k : ℕ) → 1 ≤ k → k ≤ n → has set (record { node = node; drive = k }) ≡ is_gone (state_after log (record { node = node; drive = k })))
    → all_in n node set ≡ all_gone n node log
all_in_gone zero node log set same = refl
all_in_gone (suc n) node log set same =
    ap (λ b. b && all_in n node set) (same (suc n) (omega arith) (omega arith))
    ∙ ap (λ b. is_gone (state_after log (record { node = node; drive = suc n })) && b) (all_in_gone n node log set (λ k some below. same k some (omega arith)))

-- the state that two tests tell
told : (s : State) → cond (is_gone s) Gone (cond (is_up s) Up Down) ≡ s
told Up = refl
told Down = refl
told Gone = refl

-- the sets give a drive of the cluster the state that the log leaves
pub state_in_log : (shape : Shape) (log : List BoardEntry) (s : DriveStates) (d : Drive) → IsDrive d → is_of shape d ≡ true → HasStates shape log s
    → state_in s d ≡ state_after log d
state_in_log shape log s d of_d within states =
    let gone : has s.gone d ≡ is_gone (state_after log d) = states.gone d of_d ∙ ap (λ b. b && is_gone (state_after log d)) within in
    let up : has s.up d ≡ is_up (state_after log d) = states.up d of_d ∙ ap (λ b. b && is_up (state_after log d)) within in
    ap (λ b. cond b Gone (cond (has s.up d) Up Down)) gone ∙ ap (λ b. cond (is_gone (state_after log d)) Gone (cond b Up Down)) up ∙ told (state_after log d)

same_drive_true : (a b : Drive) → same_drive a b ≡ true → a ≡ b
same_drive_true a b h =
    let parts = and_parts _ _ h in
    let nodes : a.node ≡ b.node = eqb-true a.node b.node parts.0 in
    let drives : a.drive ≡ b.drive = eqb-true a.drive b.drive parts.1 in
    λ i. record { node = nodes i; drive = drives i }

same_drive_refl : (d : Drive) → same_drive d d ≡ true
same_drive_refl d = and_from _ _ (eq-eqb d.node d.node refl) (eq-eqb d.drive d.drive refl)

same_drive_sym : (a b : Drive) → same_drive a b ≡ false → same_drive b a ≡ false
same_drive_sym a b h = false_from_ne_true (same_drive b a) (λ same. true≢false (sym (subst (λ (x : Drive). same_drive a x ≡ true) (sym (same_drive_true b a same)) (same_drive_refl a)) ∙ h))

-- one set of drives, by a test of states, after an order to one drive: that drive has its new state, and no other has one
one_set : (shape : Shape) (log : List BoardEntry) (entry : BoardEntry) (e d : Drive) (p : State → Bool) (f : State → State) (now : State) (before after : Bool)
    → ((d : Drive) (was : State) → after_order entry.order d was ≡ cond (same_drive e d) (f was) was)
    → now ≡ f (state_after log e) → is_of shape e ≡ true
    → before ≡ is_of shape d && p (state_after log d)
    → after ≡ cond (same_drive d e) (p now) before
    → after ≡ is_of shape d && p (state_after (log ++ entry ∷ []) d)
one_set shape log entry e d p f now before after orders is within was changed =
    let next : state_after (log ++ entry ∷ []) d ≡ cond (same_drive e d) (f (state_after log d)) (state_after log d) = state_from-push log entry d Up ∙ orders d (state_after log d) in
    elim (cases_Bool (same_drive d e)) [
      | inl same ↦
          let this : d ≡ e = same_drive_true d e same in
          let other_way : same_drive e d ≡ true = ap (λ (x : Drive). same_drive e x) this ∙ same_drive_refl e in
          let state : state_after (log ++ entry ∷ []) d ≡ now =
          next ∙ ap (λ b. cond b (f (state_after log d)) (state_after log d)) other_way ∙ ap (λ (x : Drive). f (state_after log x)) this ∙ sym is in
          changed ∙ ap (λ b. cond b (p now) before) same ∙ sym (ap (λ s. is_of shape d && p s) state ∙ ap (λ (x : Drive). is_of shape x && p now) this ∙ ap (λ b. b && p now) within)
      | inr apart ↦
          let state : state_after (log ++ entry ∷ []) d ≡ state_after log d =
          next ∙ ap (λ b. cond b (f (state_after log d)) (state_after log d)) (same_drive_sym d e apart) in
          changed ∙ ap (λ b. cond b (p now) before) apart ∙ was ∙ sym (ap (λ s. is_of shape d && p s) state)
    ]

-- the sets after an order to one drive of the cluster
pub states_one : (shape : Shape) (log : List BoardEntry) (entry : BoardEntry) (e : Drive) (f : State → State) (s t : DriveStates) (now : State)
    → ((d : Drive) (was : State) → after_order entry.order d was ≡ cond (same_drive e d) (f was) was)
    → IsDrive e → is_of shape e ≡ true → HasStates shape log s → now ≡ f (state_in s e)
    → ((d : Drive) → IsDrive d → has t.up d ≡ cond (same_drive d e) (is_up now) (has s.up d))
    → ((d : Drive) → IsDrive d → has t.gone d ≡ cond (same_drive d e) (is_gone now) (has s.gone d))
    → HasStates shape (log ++ entry ∷ []) t
states_one shape log entry e f s t now orders of_e within states is up gone =
    let known : now ≡ f (state_after log e) = is ∙ ap f (state_in_log shape log s e of_e within states) in
    record {
      up = λ d of_d. one_set shape log entry e d is_up f now _ _ orders known within (states.up d of_d) (up d of_d);
      gone = λ d of_d. one_set shape log entry e d is_gone f now _ _ orders known within (states.gone d of_d) (gone d of_d);
    }

-- a drive of the cluster and of the node is one of the node's
leb_of : (shape : Shape) (d : Drive) → is_of shape d ≡ true → leb d.drive shape.drives ≡ true
leb_of shape d h = (and_parts _ _ ((and_parts _ _ h).1)).1

-- one set of drives, by a test of states, after the loss of a node
node_set : (shape : Shape) (log : List BoardEntry) (entry : BoardEntry) (n : ℕ) (d : Drive) (p : State → Bool) (before after : Bool)
    → entry.order ≡ FailNode n
    → before ≡ is_of shape d && p (state_after log d)
    → after ≡ cond (eqb d.node n && leb d.drive shape.drives) (p Gone) before
    → ((is_of shape d ≡ false) → (eqb d.node n && leb d.drive shape.drives ≡ true) → p Gone ≡ false)
    → after ≡ is_of shape d && p (state_after (log ++ entry ∷ []) d)
node_set shape log entry n d p before after order was changed outside =
    let next : state_after (log ++ entry ∷ []) d ≡ cond (eqb n d.node) Gone (state_after log d) =
    state_from-push log entry d Up ∙ ap (λ (o : Order). after_order o d (state_after log d)) order in
    elim (cases_Bool (is_of shape d)) [
      | inl within ↦
          elim (cases_eq d.node n) [
            | inl here ↦
                let lost = and_from _ _ (eq-eqb d.node n here) (leb_of shape d within) in
                let state = next ∙ ap (λ b. cond b Gone (state_after log d)) (eq-eqb n d.node (sym here)) in
                changed ∙ ap (λ b. cond b (p Gone) before) lost ∙ sym (ap (λ b. b && p (state_after (log ++ entry ∷ []) d)) within ∙ ap p state)
            | inr there ↦
                let kept = and_left _ _ (ne_eqb d.node n there) in
                let state = next ∙ ap (λ b. cond b Gone (state_after log d)) (ne_eqb n d.node (λ h. there (sym h))) in
                changed ∙ ap (λ b. cond b (p Gone) before) kept ∙ was ∙ sym (ap (λ s. is_of shape d && p s) state)
          ]
      | inr beyond ↦
          let none : before ≡ false = was ∙ ap (λ b. b && p (state_after log d)) beyond in
          elim (cases_Bool (eqb d.node n && leb d.drive shape.drives)) [
            | inl lost ↦ changed ∙ ap (λ b. cond b (p Gone) before) lost ∙ outside beyond lost ∙ sym (ap (λ b. b && p (state_after (log ++ entry ∷ []) d)) beyond)
            | inr kept ↦ changed ∙ ap (λ b. cond b (p Gone) before) kept ∙ none ∙ sym (ap (λ b. b && p (state_after (log ++ entry ∷ []) d)) beyond)
          ]
    ]

-- a drive with these numbers is one of the cluster
of_node : (shape : Shape) (n : ℕ) (d : Drive) → IsDrive d → n ≤ shape.nodes → eqb d.node n && leb d.drive shape.drives ≡ true → is_of shape d ≡ true
of_node shape n d of_d within h =
    let parts = and_parts _ _ h in
    let here : d.node ≡ n = eqb-true d.node n parts.0 in
    and_from _ _ (and_from _ _ (le-leb 1 d.node of_d.some_node) (le-leb 1 d.drive of_d.some_drive)) (and_from _ _ (le-leb d.node shape.nodes (omega arith)) parts.1)

-- the sets after the loss of a node
pub states_node : (shape : Shape) (log : List BoardEntry) (entry : BoardEntry) (n : ℕ) (s t : DriveStates)
    → entry.order ≡ FailNode n → n ≤ shape.nodes → HasStates shape log s
    → ((d : Drive) → IsDrive d → has t.up d ≡ cond (eqb d.node n && leb d.drive shape.drives) false (has s.up d))
    → ((d : Drive) → IsDrive d → has t.gone d ≡ cond (eqb d.node n && leb d.drive shape.drives) true (has s.gone d))
    → HasStates shape (log ++ entry ∷ []) t
states_node shape log entry n s t order within states up gone = record {
  up = λ d of_d. node_set shape log entry n d is_up _ _ order (states.up d of_d) (up d of_d) (λ beyond lost. refl);
  gone = λ d of_d. node_set shape log entry n d is_gone _ _ order (states.gone d of_d) (gone d of_d)
      (λ beyond lost. absurd (true≢false (sym (of_node shape n d of_d within lost) ∙ beyond)));
}

-- what is answered to the loss of a node is what it does
pub effect_node : (shape : Shape) (log : List BoardEntry) (n : ℕ) (s : DriveStates) → 1 ≤ n → n ≤ shape.nodes → IsShape shape → HasStates shape log s
    → cond (all_in shape.drives n s.gone) (NoChange Gone) Changed ≡ effect_of shape log (FailNode n)
effect_node shape log n s some within limits states =
    ap (λ b. cond b (NoChange Gone) Changed) (all_in_gone shape.drives n log s.gone (λ k from to.
    let d : Drive = record { node = n; drive = k } in
    let of_d : IsDrive d = record { some_node = some; nodes = le_trans within limits.nodes; some_drive = from; drives = le_trans to limits.drives } in
    let inside : is_of shape d ≡ true = of_node shape n d of_d within (and_from _ _ (eq-eqb n n refl) (le-leb k shape.drives to)) in
    states.gone d of_d ∙ ap (λ b. b && is_gone (state_after log d)) inside))
