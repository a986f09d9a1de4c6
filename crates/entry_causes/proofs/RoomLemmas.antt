-- Drives that are taken out of a set, and the room that is left.
use Rattle.std.proofs.Common.{◌≡◌, ℕ, zero, suc, ◌+◌, ◌-◌, ◌<◌, ◌≤◌, min, nat_le, Bool, true, false, ◌&&◌, not, if◌then◌else◌, List, [], ◌∷◌, length, take, drop, get_or, IsTrue, ◌↔◌, refl, sym, ap, subst, ◌∙◌, arith}
use Rattle.std.proofs.lemmas.Bool.{false≢true, and_parts, and_from, leb-true, le-leb}
use Rattle.std.proofs.lemmas.List.{take_all}
use Rattle.std.specs.List.{AllByRecursion}
use Rattle.domains.specs.Drive.{Drive, IsDrive, is_in, same_drive}
use Rattle.domains.specs.DriveSet.{has}
use Rattle.domains.specs.Level.{Level}
use Rattle.domains.specs.Room.{room_of, room_up_to}
use Rattle.domains.specs.Shape.{Shape, IsShape, is_of}
use Rattle.domains.specs.declared.drive_set.DriveSet.{DriveSet}
use Rattle.domains.specs.declared.room.TooFew.{TooFew}
use Rattle.domains.proofs.DriveLemmas.{same_drive-sym}
use Rattle.domains.proofs.ShapeLemmas.{IsDrive-of}
use Rattle.placement_order.proofs.MarkedDrives.{is_of-at}
use Rattle.placement_order.proofs.NodeCounts.{drives_on-agree}
use Rattle.file_history.specs.World.{Moment}
use Rattle.file_history.specs.Layout.{Layout}
use Rattle.file_history.specs.Refusals.{HasNoRoom, HasTooFew, is_usable, room_at}
use Rattle.placed_groups.specs.NewPlaces.{IsUsableSet}
use Rattle.entry_causes.specs.Room.{AreOnce, AreTakenOut, IsIn, TellsRoom}

-- tests that agree on the drives of the cluster find the same room
pub room-agree : (n : ℕ) (level : Level) (shape : Shape) (p q : Drive → Bool) → n ≤ shape.nodes → ((d : Drive) → is_of shape d ≡ true → p d ≡ q d)
    → room_up_to n level shape p ≡ room_up_to n level shape q
room-agree zero level shape p q within same = refl
room-agree (suc n) level shape p q within same =
    let rest = room-agree n level shape p q (omega (arith, within)) same in
    let here = drives_on-agree shape.drives (suc n) p q (λ d on.
    same d (is_of-at shape d.node d.drive (let node = on.node_is in omega (arith, node)) (let node = on.node_is in omega (arith, node, within)) on.some on.within)) in
    λ i. rest i + min (here i) level.k

-- no drive is taken out of a set at an end
pub out_none : (set : DriveSet) → AreTakenOut true [] set set
out_none set = record {
  found = λ so. record { each = tt; apart = tt };
  left = λ so d is. and_true (has set d);
  accepts = λ once. refl;
}
  where
    and_true : (b : Bool) → b ≡ (b && true)
    and_true true = refl
    and_true false = refl

-- a drive that is not there
pub out_missing : (d : Drive) (ds : List Drive) (set : DriveSet) → has set d ≡ false → AreTakenOut false (d ∷ ds) set set
out_missing d ds set missing = record {
  found = λ so. absurd (false≢true so);
  left = λ so. absurd (false≢true so);
  accepts = λ once. absurd (false≢true (sym missing ∙ once.each.0.there));
}

-- a drive that is there, and then the others
pub out_step : (all : Bool) (d : Drive) (ds : List Drive) (old mid new : DriveSet) → IsDrive d → has old d ≡ true
    → ((e : Drive) → IsDrive e → has mid e ≡ (not (same_drive e d) && has old e)) → AreTakenOut all ds mid new → AreTakenOut all (d ∷ ds) old new
out_step all d ds old mid new is there step rest = record {
  found = λ so. record { each = (record { drive = is; there = there }, each ds (rest.found so).each); apart = (apart ds (rest.found so).each, (rest.found so).apart) };
  left = λ so e is_e. rest.left so e is_e ∙ ap (λ (b : Bool). b && not (is_in ds e)) (step e is_e) ∙ turned (same_drive e d) (same_drive d e) (has old e) (is_in ds e) (same_drive-sym e d);
  accepts = λ once. rest.accepts (record { each = after ds once.each.1 once.apart.0; apart = once.apart.1 });
}
  where
    parts : (e : Drive) → IsIn mid e → (not (same_drive e d) ≡ true) × (has old e ≡ true)
    parts e in_mid = and_parts (not (same_drive e d)) (has old e) (sym (step e in_mid.drive) ∙ in_mid.there)

    not-true : (b : Bool) → not b ≡ true → b ≡ false
    not-true false so = refl
    not-true true so = absurd (false≢true so)

    each : (es : List Drive) → AllByRecursion (IsIn mid) es → AllByRecursion (IsIn old) es
    each [] all_in = tt
    each (e ∷ es) all_in = (record { drive = all_in.0.drive; there = (parts e all_in.0).1 }, each es all_in.1)

    apart : (es : List Drive) → AllByRecursion (IsIn mid) es → is_in es d ≡ false
    apart [] all_in = refl
    apart (e ∷ es) all_in = ap (λ (b : Bool). if b then true else is_in es d) (not-true (same_drive e d) (parts e all_in.0).0) ∙ apart es all_in.1

    turned : (a b c r : Bool) → a ≡ b → ((not a && c) && not r) ≡ (c && not (if b then true else r))
    turned a b c r same = subst (λ (x : Bool). ((not a && c) && not r) ≡ (c && not (if x then true else r))) same (by_cases a c r)
      where
        by_cases : (a c r : Bool) → ((not a && c) && not r) ≡ (c && not (if a then true else r))
        by_cases true true r = refl
        by_cases true false r = refl
        by_cases false c r = refl

    split : (b r : Bool) → (if b then true else r) ≡ false → (b ≡ false) × (r ≡ false)
    split false r so = (refl, so)
    split true r so = absurd (false≢true (sym so))

    after : (es : List Drive) → AllByRecursion (IsIn old) es → is_in es d ≡ false → AllByRecursion (IsIn mid) es
    after [] all_in out = tt
    after (e ∷ es) all_in out =
        let both = split (same_drive e d) (is_in es d) out in (
          record { drive = all_in.0.drive; there = step e all_in.0.drive ∙ and_from (not (same_drive e d)) (has old e) (ap not both.0) all_in.0.there },
          after es all_in.1 both.1,
        )

-- the drives, taken apart
pub drives_cons : (ds : List Drive) (d : Drive) → 1 ≤ length ds → d ≡ get_or ds 0 d → ds ≡ d ∷ take (length ds - 1) (drop 1 ds)
drives_cons [] d some is = absurd (omega (arith, some))
drives_cons (x ∷ xs) d some is =
    let all : length xs ≤ length (x ∷ xs) - 1 = omega arith in
    ap (λ (l : List Drive). x ∷ l) (sym (take_all (length (x ∷ xs) - 1) xs all))
    ∙ ap (λ (y : Drive). y ∷ take (length (x ∷ xs) - 1) xs) (sym is)

module _ (shape : Shape) (usable : DriveSet) (now : Moment) (l : Layout) (cluster : IsShape shape) (usable_is : IsUsableSet shape usable now l) where
  on_cluster : (d : Drive) → is_of shape d ≡ true → has usable d ≡ is_usable now l d
  on_cluster d of = usable_is.each d (IsDrive-of shape d cluster of)

  pub room_is : (level : Level) → l.requested ≡ level → room_of level shape (has usable) ≡ room_at now l
  room_is level same =
      room-agree shape.nodes level shape (has usable) (is_usable now l) (omega arith) on_cluster
      ∙ ap (λ (r : Level). room_of r shape (is_usable now l)) (sym same) ∙ ap (λ (c : Shape). room_of l.requested c (is_usable now l)) (sym usable_is.cluster)

  -- a fault that tells the room of the usable drives is that of the file
  pub too_few_if : (level : Level) (fault : TooFew) (room : ℕ) (told : Bool) → l.requested ≡ level → room ≡ room_of level shape (has usable)
      → (IsTrue told ↔ TellsRoom level room fault) → IsTrue told ↔ HasTooFew now l fault
  too_few_if level fault room told same is tells = (
    λ so. let t = tells.0 so in record { have = t.have ∙ is ∙ room_is level same; need = t.need ∙ ap (λ (r : Level). r.m + 1) (sym same); short = t.short },
    λ few. tells.1 (record { have = few.have ∙ sym (room_is level same) ∙ sym is; need = few.need ∙ ap (λ (r : Level). r.m + 1) same; short = few.short }),
  )

  -- the room that is found has the fewest units that the level wants, exactly if the file's has
  pub has_room_if : (level : Level) (need room : ℕ) → l.requested ≡ level → need ≡ level.m + 1 → room ≡ room_of level shape (has usable)
      → IsTrue (nat_le need room) ↔ (l.requested.m + 1 ≤ room_at now l)
  has_room_if level need room same need_is is =
      let all = is ∙ room_is level same in
      let wanted : need ≡ l.requested.m + 1 = need_is ∙ ap (λ (r : Level). r.m + 1) (sym same) in (
        λ so. let most = leb-true need room so in omega (arith, most, all, wanted),
        λ enough. le-leb need room (omega (arith, enough, all, wanted)),
      )

  in_usable : (ds : List Drive) → AllByRecursion (λ (d : Drive). is_usable now l d ≡ true) ds → AllByRecursion (IsIn usable) ds
  in_usable [] each = tt
  in_usable (d ∷ ds) each =
      let of = usable_is.of_cluster d each.0 in
      (record { drive = IsDrive-of shape d cluster of; there = on_cluster d of ∙ each.0 }, in_usable ds each.1)

  usable_from : (ds : List Drive) → AllByRecursion (IsIn usable) ds → AllByRecursion (λ (d : Drive). is_usable now l d ≡ true) ds
  usable_from [] each = tt
  usable_from (d ∷ ds) each = (sym (usable_is.each d each.0.drive) ∙ each.0.there, usable_from ds each.1)

  once_if : (need got : ℕ) (drives : List Drive) → HasNoRoom now l need got drives → AreOnce drives usable
  once_if need got drives none = record { each = in_usable drives none.usable; apart = none.apart }

  left_room : (level : Level) (drives : List Drive) (left : DriveSet) → l.requested ≡ level
      → ((d : Drive) → IsDrive d → has left d ≡ (has usable d && not (is_in drives d)))
      → room_of level shape (has left) ≡ room_of l.requested now.shape (λ d. is_usable now l d && not (is_in drives d))
  left_room level drives left same is =
      room-agree shape.nodes level shape (has left) (λ d. is_usable now l d && not (is_in drives d)) (omega arith)
      (λ d of. is d (IsDrive-of shape d cluster of) ∙ ap (λ (b : Bool). b && not (is_in drives d)) (on_cluster d of))
      ∙ ap (λ (r : Level). room_of r shape (λ d. is_usable now l d && not (is_in drives d))) (sym same)
      ∙ ap (λ (c : Shape). room_of l.requested c (λ d. is_usable now l d && not (is_in drives d))) (sym usable_is.cluster)

  -- what is left of the usable drives, without those found empty, has this room or not
  pub no_room_if : (level : Level) (need got room : ℕ) (drives : List Drive) (left : DriveSet) → l.requested ≡ level → got < need
      → AreTakenOut true drives usable left → room ≡ room_of level shape (has left) → IsTrue (nat_le got room) ↔ HasNoRoom now l need got drives
  no_room_if level need got room drives left same short out is =
      let once = out.found refl in
      let all = is ∙ left_room level drives left same (out.left refl) in (
        λ so. record {
          short = short;
          usable = usable_from drives once.each;
          apart = once.apart;
          room = subst (λ (r : ℕ). got ≤ r) all (leb-true got room so);
        },
        λ none. le-leb got room (subst (λ (r : ℕ). got ≤ r) (sym all) none.room),
      )

  pub no_room_short : (need got : ℕ) (drives : List Drive) → need ≤ got → IsTrue false ↔ HasNoRoom now l need got drives
  no_room_short need got drives enough = (λ so. absurd (false≢true so), λ none. absurd (let short = none.short in omega (arith, short, enough)))

  pub no_room_missing : (need got : ℕ) (drives : List Drive) (left : DriveSet) → AreTakenOut false drives usable left → IsTrue false ↔ HasNoRoom now l need got drives
  no_room_missing need got drives left out = (λ so. absurd (false≢true so), λ none. absurd (false≢true (out.accepts (once_if need got drives none))))
