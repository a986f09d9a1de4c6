-- A placement that was made ready on an earlier copy is legal now.
use Rattle.std.proofs.Common.{◌≡◌, ℕ, ◌+◌, ◌<◌, ◌≤◌, inl, inr, Bool, true, false, List, [], ◌∷◌, ◌++◌, length, Option, refl, sym, ap, subst, ◌∙◌, arith, append-nil, length-append}
use Rattle.std.specs.Prelude.{nat_lt}
use Rattle.std.specs.List.{AllByRecursion, list_any}
use Rattle.std.proofs.Math.Nat.{div-eq_of_lt}
use Rattle.std.proofs.lemmas.Bool.{false≢true, le-ltb, or_from, or_parts}
use Rattle.domains.specs.Place.{Place, same_place}
use Rattle.domains.specs.AtLevel.{InodeAt}
use Rattle.domains.specs.declared.group.Group.{Group}
use Rattle.inode_codec.specs.Inode.{IsInode, units_for}
use Rattle.file_history.specs.World.{Moment, World, moment_at}
use Rattle.file_history.specs.Bytes.{bytes_after}
use Rattle.file_history.specs.Layout.{Layout, group_list, is_among, layout_after, places_of}
use Rattle.file_history.specs.Live.{is_dead}
use Rattle.file_history.specs.WriteRule.{generations_of}
use Rattle.file_history.specs.Stored.{inode_of}
use Rattle.file_history.specs.Step.{AreNewPlaces, HasPlaceForm, IsLegalLogWhere, IsNewPlace, Reshapes}
use Rattle.file_history.specs.declared.entry.NotedEntry.{NotedEntry}
use Rattle.stale_changes.specs.Staleness.{adds_units, is_kept}
use Rattle.map_changes.proofs.Pairs.{All-left, All-right}
use Rattle.map_laws.specs.Limits.{IsWithinLimits, RequestsLevel}
use Rattle.map_laws.specs.MappedGroups.{StandsFrom}
use Rattle.map_laws.proofs.StandingGroups.{stands-all, stands-among}
use Rattle.map_laws.proofs.ChangedRuns.{keeps}
use Rattle.map_laws.proofs.SoundFiles.{IsSound, placed}
use Rattle.map_laws.proofs.LaterLogs.{IsReached, later_log, legal_parts, sound_log, within_front}
use Rattle.earlier_copies.specs.ReadyWrites.{numbered}
use Rattle.earlier_copies.specs.ReadyPlaces.{IsPlaceMade, IsPlaceReady, MayBePlaced, ReadyPlace, SparesPlace, brought_places, kept_units, place_basis, placed_change, placed_places, places_beside}
use Rattle.earlier_copies.specs.PlaceLaws.{EarlierPlacesAreLegal, EarlierPlacesFindGroups, EarlierPlacesLeaveGroups}
use Rattle.earlier_copies.proofs.NumberedGroups.{are_numbered, numbered-places, renumbered}
use Rattle.earlier_copies.proofs.SparedChanges.{IsSpared, spared}
use Rattle.earlier_copies.proofs.MadeWrites.{free_of_bars}
use Rattle.earlier_copies.proofs.MadeNow.{are_new}
use Rattle.earlier_copies.proofs.PlacedAgain.{beside-all, having, having-one, repairs_again, reshapes_again, stands_there}

any_parts : (P : Place → Bool) (xs ys : List Place) → list_any P (xs ++ ys) ≡ false → (list_any P xs ≡ false) × (list_any P ys ≡ false)
any_parts P [] ys none = (refl, none)
any_parts P (x ∷ xs) ys none =
    let parts = or_parts (P x) (list_any P (xs ++ ys)) none in
    let rest = any_parts P xs ys parts.1 in
    (or_from (P x) (list_any P xs) parts.0 rest.0, rest.1)

-- a place where no unit stands is none of a group that does
untaken : (gs rest : List Group) (start : ℕ) (g : Group) (first : ℕ) (s : Place) → StandsFrom gs start g first
    → list_any (same_place s) (places_of (gs ++ rest)) ≡ false → list_any (same_place s) g.places ≡ false
untaken [] rest start g first s stands none = absurd stands
untaken (h ∷ hs) rest start g first s (inl here) none =
    subst (λ (x : Group). list_any (same_place s) x.places ≡ false) here.0 (any_parts (same_place s) h.places (places_of (hs ++ rest)) none).0
untaken (h ∷ hs) rest start g first s (inr later) none =
    untaken hs rest (start + h.n) g first s later (any_parts (same_place s) h.places (places_of (hs ++ rest)) none).1

-- a new place is none of a group of the map
apart : (was : Moment) (l : Layout) (g : Group) → having g.generation l.groups ≡ g ∷ [] → (s : Place) → IsNewPlace was l s → list_any (same_place s) g.places ≡ false
apart was l g one s new =
    let there = stands_there l.groups 0 g one in
    untaken l.groups (group_list l.inode) 0 g there.0 s there.1 new.free

all_apart : (was : Moment) (l : Layout) (g : Group) (ss : List Place) → having g.generation l.groups ≡ g ∷ [] → AllByRecursion (IsNewPlace was l) ss
    → AllByRecursion (λ (s : Place). list_any (same_place s) g.places ≡ false) ss
all_apart was l g [] one news = tt
all_apart was l g (s ∷ ss) one news = (apart was l g one s news.0, all_apart was l g ss one news.1)

-- the groups stand in the map, each the one with its generation
abbrev AreMapped : Layout → List Group → Type 0
AreMapped l gs = AllByRecursion (λ (g : Group). having g.generation l.groups ≡ g ∷ []) gs

-- the places of whole new groups
whole_places : (was : Moment) (l : Layout) (old : Group) (new : List Group) (inode : Group) (a b : ℕ) → having old.generation l.groups ≡ old ∷ []
    → Reshapes was l old (numbered new a) (record inode { generation = b }) → places_beside old.places (places_of new) ≡ places_of new
whole_places was l old new inode a b one r =
    beside-all old.places (places_of new)
    (all_apart was l old (places_of new) one
    (All-left (IsNewPlace was l) (places_of new) inode.places (subst (λ (ss : List Place). AllByRecursion (IsNewPlace was l) (ss ++ inode.places)) (numbered-places new a) r.places.each)))

-- the new places of a placement are new ones on its copy
were_new : (was : Moment) (l : Layout) (old new : List Group) (inode : Group) (a b : ℕ) → AreMapped l old
    → HasPlaceForm was l old (numbered new a) (record inode { generation = b }) → AllByRecursion (IsNewPlace was l) (brought_places old new ++ inode.places)
were_new was l [] [] inode a b mapped form = form.each
were_new was l [] (g ∷ gs) inode a b mapped form = absurd form
were_new was l (o ∷ []) [] inode a b mapped form = absurd form
were_new was l (o ∷ []) (g ∷ []) inode a b mapped (inl r) =
    subst (λ (ss : List Place). AllByRecursion (IsNewPlace was l) (places_beside o.places ss ++ inode.places)) (sym (append-nil g.places))
    r.places.each
were_new was l (o ∷ []) (g ∷ []) inode a b mapped (inr r) = reshaped was l o (g ∷ []) inode a b mapped.0 r
  where
    reshaped : (was : Moment) (l : Layout) (o : Group) (new : List Group) (inode : Group) (a b : ℕ) → having o.generation l.groups ≡ o ∷ []
        → Reshapes was l o (numbered new a) (record inode { generation = b }) → AllByRecursion (IsNewPlace was l) (places_beside o.places (places_of new) ++ inode.places)
    reshaped was l o new inode a b one r =
        subst (λ (ss : List Place). AllByRecursion (IsNewPlace was l) (ss ++ inode.places)) (numbered-places new a ∙ sym (whole_places was l o new inode a b one r)) r.places.each
were_new was l (o ∷ []) (g ∷ h ∷ gs) inode a b mapped form =
    subst (λ (ss : List Place). AllByRecursion (IsNewPlace was l) (ss ++ inode.places))
    (numbered-places (g ∷ h ∷ gs) a ∙ sym (whole_places was l o (g ∷ h ∷ gs) inode a b mapped.0 form)) form.places.each
were_new was l (o ∷ p ∷ ps) new inode a b mapped form = absurd form

-- the form is the same on a later map
form_again : (was now : Moment) (l later : Layout) (old new : List Group) (inode : Group) (a b c d : ℕ) → l.requested ≡ later.requested → AreMapped l old
    → ((generation n : ℕ) → is_kept (kept_units old new) generation n ≡ true → is_dead l generation n ≡ false → is_dead later generation n ≡ false)
    → AreNewPlaces now later (brought_places old new ++ inode.places)
    → HasPlaceForm was l old (numbered new a) (record inode { generation = b }) → HasPlaceForm now later old (numbered new c) (record inode { generation = d })
form_again was now l later [] [] inode a b c d level mapped alive are form = are
form_again was now l later [] (g ∷ gs) inode a b c d level mapped alive are form = absurd form
form_again was now l later (o ∷ []) [] inode a b c d level mapped alive are form = absurd form
form_again was now l later (o ∷ []) (g ∷ []) inode a b c d level mapped alive are (inl r) =
    let those : AreNewPlaces now later (places_beside o.places g.places ++ inode.places) =
    subst (λ (ss : List Place). AreNewPlaces now later (places_beside o.places ss ++ inode.places)) (append-nil g.places) are in
    inl (repairs_again was now l later o g inode a b c d level (λ n. alive o.generation n) (apart was l o mapped.0)
    (All-left (IsNewPlace now later) (places_beside o.places g.places) inode.places those.each) those r)
form_again was now l later (o ∷ []) (g ∷ []) inode a b c d level mapped alive are (inr r) =
    inr (reshapes_again was now l later o (g ∷ []) inode a b c d level
    (subst (λ (ss : List Place). AreNewPlaces now later (ss ++ inode.places)) (whole_places was l o (g ∷ []) inode a b mapped.0 r) are) r)
form_again was now l later (o ∷ []) (g ∷ h ∷ gs) inode a b c d level mapped alive are form =
    reshapes_again was now l later o (g ∷ h ∷ gs) inode a b c d level
    (subst (λ (ss : List Place). AreNewPlaces now later (ss ++ inode.places)) (whole_places was l o (g ∷ h ∷ gs) inode a b mapped.0 form) are) form
form_again was now l later (o ∷ p ∷ ps) new inode a b c d level mapped alive are form = absurd form

-- a placement reaches no unit
no_units : (unit n : ℕ) → 1 ≤ unit → nat_lt n (units_for unit 0) ≡ false
no_units unit n wide = ap (nat_lt n) (div-eq_of_lt (omega (arith, wide))) ∙ le-ltb n 0 (omega arith)

-- a group is among those of a list of one
is_one : (g : Group) → is_among (generations_of (g ∷ [])) g.generation ≡ true
is_one g = stands-among (g ∷ []) 0 g 0 (inl (refl, refl))

module _ (world : World) (log more : List NotedEntry) (earlier : ℕ) (last : Option ℕ) (p : ReadyPlace)
    (limits : IsWithinLimits world (log ++ more)) (legal : IsLegalLogWhere ⊥ world (log ++ more))
    (ready : IsPlaceReady (moment_at world earlier) (layout_after world.level log) p)
    (spares : SparesPlace world.shape.unit last p log more) where
  abbrev old_l : Layout
  old_l = layout_after world.level log

  abbrev new_l : Layout
  new_l = layout_after world.level (log ++ more)

  sound : IsSound world.shape.unit (length log) (layout_after world.level log) (bytes_after log)
  sound = sound_log world log (within_front world log more limits) (legal_parts log more world [] legal).0

  reach : IsReached world log (log ++ more)
  reach = later_log world log more limits legal

  were_mapped : AreMapped (layout_after world.level log) p.old
  were_mapped = subst (AreMapped old_l) ready.groups ready.legal.mapped

  form : HasPlaceForm (moment_at world earlier) (layout_after world.level log) p.old (numbered p.new (layout_after world.level log).next)
      (record p.inode { generation = (layout_after world.level log).next + length p.new })
  form =
      subst (λ (gs : List Group). HasPlaceForm (moment_at world earlier) old_l gs (numbered p.new old_l.next) (record p.inode { generation = old_l.next + length p.new }))
      ready.groups ready.legal.form

  news : AllByRecursion (IsNewPlace (moment_at world earlier) (layout_after world.level log)) (placed_places p)
  news = were_new (moment_at world earlier) old_l p.old p.new p.inode old_l.next (old_l.next + length p.new) were_mapped form

  no_end : adds_units (place_basis world.shape.unit last p) ≡ true → ⊥
  no_end adds = let least = limits.cluster.least_unit in false≢true (sym (no_units world.shape.unit p.units (omega (arith, least))) ∙ adds)

  pub spared_place : IsSpared (place_basis world.shape.unit last p) (generations_of p.old) (kept_units p.old p.new) (placed_places p)
      (layout_after world.level log) (layout_after world.level (log ++ more))
  spared_place =
      let most = limits.entries in
      let whole = length-append log more in
      spared more world log (place_basis world.shape.unit last p) (generations_of p.old) (kept_units p.old p.new) (placed_places p) old_l limits.cluster limits.declared
      (All-right (λ (t : NotedEntry). RequestsLevel t.entry.event) log more limits.levels) (omega (arith, most, whole)) refl ready.level sound
      (legal_parts log more world [] legal).1 spares
      (record {
        present = ready.legal.present;
        requested = refl;
        stays = λ g first mapped among. mapped;
        alive = λ generation position keeps alive. alive;
        grown = omega arith;
        units = λ adds. absurd (no_end adds);
        end = λ adds. absurd (no_end adds);
        usable = free_of_bars (moment_at world earlier) old_l (placed_places p) news;
      })

  valid_now : IsInode (inode_of world.shape.unit (layout_after world.level (log ++ more)))
  valid_now = reach.sound.spelled spared_place.present

  -- a group that is replaced stands where it stood
  mapped_again : (g : Group) → having g.generation (layout_after world.level log).groups ≡ g ∷ [] → is_among (generations_of p.old) g.generation ≡ true
      → having g.generation (layout_after world.level (log ++ more)).groups ≡ g ∷ []
  mapped_again g one among =
      let there = stands_there old_l.groups 0 g one in
      having-one new_l.groups 0 g there.0 valid_now.generations (spared_place.stays g there.0 there.1 among)

  all_mapped : (gs : List Group) → p.old ≡ gs → AreMapped (layout_after world.level log) gs
      → HasPlaceForm (moment_at world earlier) (layout_after world.level log) gs (numbered p.new (layout_after world.level log).next)
      (record p.inode { generation = (layout_after world.level log).next + length p.new })
      → AreMapped (layout_after world.level (log ++ more)) gs
  all_mapped [] is mapped shape = tt
  all_mapped (g ∷ []) is mapped shape = (mapped_again g mapped.0 (ap (λ (gs : List Group). is_among (generations_of gs) g.generation) is ∙ is_one g), tt)
  all_mapped (g ∷ h ∷ gs) is mapped shape = absurd shape

  pub placed_now : (epoch : ℕ) → MayBePlaced (moment_at world epoch) (layout_after world.level (log ++ more)) p
      → IsPlaceMade (moment_at world epoch) (layout_after world.level (log ++ more)) p
  placed_now epoch tests =
      let s = spared_place in
      let level : old_l.requested ≡ new_l.requested = sym s.requested in
      let places : AreNewPlaces (moment_at world epoch) new_l (placed_places p) = record {
        each = are_new (moment_at world epoch) (moment_at world earlier) new_l old_l (placed_places p) refl news tests.up s.usable tests.free.free;
        distinct = tests.free.distinct;
      } in
      record {
        present = s.present;
        old = p.old;
        mapped = all_mapped p.old refl were_mapped form;
        generations = refl;
        form = form_again (moment_at world earlier) (moment_at world epoch) old_l new_l p.old p.new p.inode old_l.next (old_l.next + length p.new) new_l.next (new_l.next + length p.new)
            level were_mapped s.alive places form;
        inode = subst (InodeAt (record p.inode { generation = new_l.next + length p.new })) level (record {
          one = ready.legal.inode.one;
          at_level = renumbered p.inode (old_l.next + length p.new) (new_l.next + length p.new) old_l.requested ready.legal.inode.at_level;
        });
        numbers = are_numbered p.new new_l.next (record p.inode { generation = new_l.next + length p.new }) refl;
        groups = tests.groups;
      }

pub earlier_places_are_legal : EarlierPlacesAreLegal
earlier_places_are_legal world log more earlier epoch last p limits legal ready spares tests = placed_now world log more earlier last p limits legal ready spares epoch tests

pub earlier_places_find_groups : EarlierPlacesFindGroups
earlier_places_find_groups world log more earlier last p limits legal ready spares g first mapped among =
    let l = layout_after world.level log in
    let stands = (spared_place world log more earlier last p limits legal ready spares).stays g first mapped among in
    let used = (sound_log world log (within_front world log more limits) (legal_parts log more world [] legal).0).used in
    let early : g.generation < l.next = stands-all (λ (x : Group). x.generation < l.next) l.groups 0 g first used mapped in
    (stands, ((later_log world log more limits legal).later.stays g first stands early).bytes)

pub earlier_places_leave_groups : EarlierPlacesLeaveGroups
earlier_places_leave_groups world log more earlier epoch last job p limits room legal ready spares tests g first mapped other =
    let l = layout_after world.level (log ++ more) in
    let r = later_log world log more limits legal in
    let made = placed_now world log more earlier last p limits legal ready spares epoch tests in
    let next = placed (moment_at world epoch) world.level (length (log ++ more)) (log ++ more) l job (placed_change p l.next) limits.cluster r.sound (omega (arith, room)) made in
    keeps l.next world.shape.unit (generations_of p.old) (numbered p.new l.next) l.groups _ (bytes_after (log ++ more)) (bytes_after (log ++ more)) next.changed g first mapped other
