-- The one group of a run that is repaired.
use Rattle.std.proofs.Common.{◌≡◌, ℕ, suc, ◌+◌, ◌<◌, ◌≤◌, List, [], ◌∷◌, ◌++◌, length, map, take, drop, get_or, set, Option, None, Some, refl, sym, ap, subst, ◌∙◌, arith, lit≤}
use Rattle.std.proofs.lemmas.List.{get_or-drop, length-drop, length-take, set_split, take-append-drop}
use Rattle.domains.specs.declared.group.Group.{Group}
use Rattle.map_changes.specs.ChangedMaps.{first_of, spliced}
use Rattle.striped_groups.specs.StoredGroups.{GroupSlots, list_of}
use Rattle.map_switches.specs.declared.change.Fresh.{Fresh}
use Rattle.map_switches.specs.declared.change.Fresh.TheVariants.{Groups, Units}
use Rattle.map_switches.specs.declared.change.FreshUnit.{FreshUnit}
use Rattle.map_switches.specs.RepairedUnits.{freed, repaired_group, slots_freed, slots_with}
use Rattle.map_switches.specs.Switches.{AreForRun, brought, brought_groups, groups_of, numbered, released, repaired_among, run_in, run_of, stripes_from}
use Rattle.map_switches.proofs.BroughtGroups.{run-groups}

pub no_group : (o : Option Group) (g : Group) → o ≡ None → list_of o ≡ g ∷ [] → ⊥
no_group o g none is = absurd (omega (arith, long))
  where
    long : length (list_of {A = Group} None) ≡ length (g ∷ [])
    long = ap (λ (p : Option Group). length (list_of p)) (sym none) ∙ ap (λ (l : List Group). length l) is

head_of : Group → List Group → Group
head_of d [] = d
head_of d (g ∷ gs) = g

pub one_group : (o : Option Group) (g h : Group) → o ≡ Some g → list_of o ≡ h ∷ [] → g ≡ h
unfolding head_of
one_group o g h some is = ap (head_of h) (ap (λ (p : Option Group). list_of p) (sym some) ∙ is)

module _ {S : Type 0} where
  -- the run is one group, with as many slots as there are units
  pub record IsAlone (gs : List (GroupSlots S)) (old : List ℕ) (us : List (FreshUnit S)) : Type 0 where
    pub stripe : GroupSlots S
    pub run : run_in old gs ≡ stripe ∷ []
    pub whole : length us ≡ length stripe.slots

  one_of : (gs : List (GroupSlots S)) (old : List ℕ) (us : List (FreshUnit S)) (run : List (GroupSlots S)) → run_in old gs ≡ run → AreForRun run (Units us) → IsAlone gs old us
  one_of gs old us [] same are = absurd are
  one_of gs old us (g ∷ []) same are = record { stripe = g; run = same; whole = are }
  one_of gs old us (g ∷ h ∷ hs) same are = absurd are

  pub alone : (gs : List (GroupSlots S)) (old : List ℕ) (us : List (FreshUnit S)) (fresh : Fresh S) → fresh ≡ Units us → AreForRun (run_in old gs) fresh → IsAlone gs old us
  alone gs old us fresh is are = one_of gs old us (run_in old gs) refl (subst (λ (f : Fresh S). AreForRun (run_in old gs) f) is are)

  -- what the log takes in its place
  pub logged_one : (gs : List (GroupSlots S)) (old : List ℕ) (us : List (FreshUnit S)) (fresh : Fresh S) (next : ℕ) → fresh ≡ Units us → (a : IsAlone gs old us)
      → repaired_among fresh (numbered (brought_groups (run_of old (groups_of gs)) fresh) next) ≡ record (repaired_group us a.stripe.group) { generation = next } ∷ []
  logged_one gs old us fresh next is a =
      ap (λ (f : Fresh S). repaired_among f (numbered (brought_groups (run_of old (groups_of gs)) f) next)) is
      ∙ ap (λ (l : List Group). numbered (map (repaired_group us) l) next)
      (sym (run-groups old gs) ∙ ap (λ (l : List (GroupSlots S)). groups_of l) a.run)

  -- which is one group at most
  pub one_logged : (gs : List (GroupSlots S)) (old : List ℕ) (fresh : Fresh S) (next : ℕ) → AreForRun (run_in old gs) fresh
      → length (repaired_among fresh (numbered (brought_groups (run_of old (groups_of gs)) fresh) next)) ≤ 1
  one_logged gs old (Groups hs) next are = lit≤ tt
  one_logged gs old (Units us) next are =
      let long = ap (λ (l : List Group). length l) (logged_one gs old us (Units us) next refl (alone gs old us (Units us) refl are)) in omega (arith, long)

  module _ (gs : List (GroupSlots S)) (old : List ℕ) (us : List (FreshUnit S)) (first : ℕ) (a : IsAlone gs old us) (at : first ≡ first_of old (groups_of gs)) where
    from_there : drop first gs ≡ a.stripe ∷ drop (length old) (drop first gs)
    from_there =
        sym (take-append-drop (length old) (drop first gs))
        ∙ ap (λ (l : List (GroupSlots S)). l ++ drop (length old) (drop first gs)) (ap (λ (n : ℕ). take (length old) (drop n gs)) at ∙ a.run)

    pub stripe_is : (x : GroupSlots S) → x ≡ get_or gs first x → x ≡ a.stripe
    stripe_is x is =
        is ∙ ap (λ (n : ℕ). get_or gs n x) (plus first) ∙ sym (get_or-drop first gs 0 x) ∙ ap (λ (l : List (GroupSlots S)). get_or l 0 x) from_there
      where
        plus : (n : ℕ) → n ≡ n + 0
        plus n = omega arith

    pub set_there : (new : GroupSlots S) → first_of old (groups_of gs) + length old ≤ length gs
        → set gs first new ≡ spliced gs (first_of old (groups_of gs)) (length old) (new ∷ [])
    set_there new within =
        set_split gs first new below ∙ ap (λ (n : ℕ). take first gs ++ (new ∷ drop n gs)) behind
        ∙ ap (λ (n : ℕ). spliced gs n (length old) (new ∷ [])) at
      where
        one : length old ≡ 1
        one =
            let left = length-take (length old) (drop (first_of old (groups_of gs)) gs) in
            let long = length-drop (first_of old (groups_of gs)) gs in
            let run = ap (λ (l : List (GroupSlots S)). length l) a.run in
            omega (arith, left, long, run, within)

        below : first < length gs
        below = let k = one in omega (arith, k, within, at)

        behind : suc first ≡ first + length old
        behind = let k = one in omega (arith, k)

    -- the stripe that the map takes
    pub brought_one : (fresh : Fresh S) (next : ℕ) (group : Group) (x new : GroupSlots S) → fresh ≡ Units us → x ≡ get_or gs first x
        → group ≡ record (repaired_group us a.stripe.group) { generation = next } → new ≡ record { group = group; slots = slots_with x.slots us }
        → new ∷ [] ≡ stripes_from (brought (run_in old gs) fresh) next
    brought_one fresh next group x new is there named made =
        ap (λ (y : GroupSlots S). y ∷ [])
        (made ∙ ap (λ (p : Group × GroupSlots S). let y : GroupSlots S = record { group = p.0; slots = slots_with p.1.slots us } in y) (λ i. (named i, stripe_is x there i)))
        ∙ sym (ap (λ (p : List (GroupSlots S) × Fresh S). stripes_from (brought p.0 p.1) next) (λ i. (a.run i, is i)))

    pub groups_replaced : (fresh : Fresh S) (next : ℕ) (group : Group) (x new : GroupSlots S) → fresh ≡ Units us → x ≡ get_or gs first x
        → group ≡ record (repaired_group us a.stripe.group) { generation = next } → new ≡ record { group = group; slots = slots_with x.slots us }
        → first_of old (groups_of gs) + length old ≤ length gs
        → set gs first new ≡ spliced gs (first_of old (groups_of gs)) (length old) (stripes_from (brought (run_in old gs) fresh) next)
    groups_replaced fresh next group x new is there named made within =
        set_there new within
        ∙ ap (λ (l : List (GroupSlots S)). spliced gs (first_of old (groups_of gs)) (length old) l) (brought_one fresh next group x new is there named made)

    -- and what comes out of it
    pub gone_one : (fresh : Fresh S) (x out : GroupSlots S) → fresh ≡ Units us → x ≡ get_or gs first x → out ≡ record { group = x.group; slots = slots_freed x.slots us }
        → out ∷ [] ≡ released (run_in old gs) fresh
    gone_one fresh x out is there made =
        ap (λ (y : GroupSlots S). y ∷ []) (made ∙ ap (λ (y : GroupSlots S). freed us y) (stripe_is x there))
        ∙ sym (ap (λ (p : List (GroupSlots S) × Fresh S). released p.0 p.1) (λ i. (a.run i, is i)))
