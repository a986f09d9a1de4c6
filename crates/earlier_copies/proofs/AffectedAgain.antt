-- The groups that a write affects on a later map: those that it affected on its copy.
use Rattle.std.proofs.Common.{◌≡◌, ℕ, ◌+◌, ◌<◌, ◌≤◌, min, ◌⊎◌, inl, inr, Bool, true, false, ◌||◌, ◌&&◌, if◌then◌else◌, List, [], ◌∷◌, ◌++◌, refl, sym, ap, subst, ◌∙◌, arith, append-nil}
use Rattle.std.specs.Prelude.{nat_le, nat_lt}
use Rattle.std.proofs.lemmas.Bool.{cases_lt, le-ltb, lt-leb}
use Rattle.std.proofs.lemmas.List.Sums.{sum_by-append}
use Rattle.domains.specs.declared.group.Group.{Group}
use Rattle.inode_codec.specs.Inode.{data_units}
use Rattle.file_history.specs.Live.{groups_with}
use Rattle.map_changes.proofs.Pairs.{All-left, All-right}
use Rattle.map_laws.specs.MappedGroups.{StandsFrom}
use Rattle.map_laws.proofs.StandingGroups.{stands-within}
use Rattle.earlier_copies.proofs.TestedRuns.{HaveUnits, Test, last-fails, no_groups, passing, passing-append, passing-none, with-after, with-none, with-passing}
use Rattle.earlier_copies.proofs.ContiguousRuns.{StandThere, contiguous}

-- the test of a write from the unit q to the unit b, of a file of u units, whose new groups have at most `width` data units
abbrev pub affects : ℕ → ℕ → ℕ → ℕ → Test
affects q b width u =
    λ start g is_last. (nat_le start b && nat_lt (min q u) (start + g.n)) || (is_last && (nat_le u b && nat_lt g.n width))

-- what is known of the map on which the write was made ready, and of the later one
pub record AreCopies (q b width u later : ℕ) (gs now a run c : List Group) : Type 0 where
  pub low : q ≤ b
  pub some : HaveUnits gs
  pub some_now : HaveUnits now
  pub whole : data_units gs ≡ u
  pub whole_now : data_units now ≡ later
  pub parted : gs ≡ a ++ (run ++ c)
  pub starts : data_units a ≤ q
  pub ends : (c ≡ []) ⊎ (b < data_units a + data_units run)
  pub none : run ≡ [] → c ≡ []
  pub is : groups_with gs 0 (affects q b width u) ≡ run
  pub kept : StandThere run (data_units a) now 0
  pub grown : u ≤ later
  pub units : u ≤ b → later ≡ u
  pub late : u ≤ b → (g : Group) (first : ℕ) → StandsFrom now 0 g first → first + g.n ≡ 0 + data_units now → StandsFrom gs 0 g first

neither : (x : Bool) → ((x && false) || false) ≡ false
neither true = refl
neither false = refl

module _ (q b width : ℕ) where
  -- a group that ends by the first unit fails
  early : (u first : ℕ) (g : Group) → first + g.n ≤ min q u → affects q b width u first g false ≡ false
  early u first g low =
      ap (λ (x : Bool). (nat_le first b && x) || false) (le-ltb (min q u) (first + g.n) low) ∙ neither (nat_le first b)

  -- and one that begins behind the last
  behind : (u first : ℕ) (g : Group) → b < first → affects q b width u first g false ≡ false
  behind u first g high = ap (λ (x : Bool). (x && nat_lt (min q u) (first + g.n)) || false) (lt-leb first b high)

  -- the last fails too if the write reaches no unit behind those of the file
  plain : (u first : ℕ) (g : Group) → b < u → affects q b width u first g true ≡ affects q b width u first g false
  plain u first g within = ap (λ (x : Bool). (nat_le first b && nat_lt (min q u) (first + g.n)) || (x && nat_lt g.n width)) (lt-leb u b within)

  -- the last, if it ends by the first unit, is tested alone
  same_test : (u v first : ℕ) (g : Group) → min q u ≡ min q v → affects q b width u first g false ≡ affects q b width v first g false
  same_test u v first g same = ap (λ (k : ℕ). (nat_le first b && nat_lt k (first + g.n)) || false) same

  passing-same : (gs : List Group) (start u v : ℕ) → min q u ≡ min q v → passing gs start (affects q b width u) ≡ passing gs start (affects q b width v)
  passing-same [] start u v same = refl
  passing-same (g ∷ gs) start u v same =
      ap (λ (x : Bool × List Group). if x.0 then g ∷ x.1 else x.1) (λ i. (same_test u v start g same i, passing-same gs (start + g.n) u v same i))

  -- in a map with a run, and nothing else that passes, the run is what passes
  only_run : (gs front run back : List Group) (u : ℕ) → gs ≡ front ++ (run ++ back) → data_units front ≤ min q u → b < data_units front + data_units run
      → passing gs 0 (affects q b width u) ≡ passing run (data_units front) (affects q b width u)
  only_run gs front run back u parted starts ends =
      let p : Test = affects q b width u in
      ap (λ (l : List Group). passing l 0 p) parted ∙ passing-append front (run ++ back) 0 p
      ∙ ap (λ (l : List Group). l ++ passing (run ++ back) (0 + data_units front) p)
      (passing-none front 0 p (λ g first stands. let to = (stands-within front 0 g first stands).to in early u first g (omega (arith, to, starts))))
      ∙ ap (λ (n : ℕ). passing (run ++ back) n p) (omega arith)
      ∙ passing-append run back (data_units front) p
      ∙ ap (λ (l : List Group). passing run (data_units front) p ++ l)
      (passing-none back (data_units front + data_units run) p
      (λ g first stands. let from = (stands-within back (data_units front + data_units run) g first stands).from in behind u first g (omega (arith, from, ends))))
      ∙ append-nil (passing run (data_units front) p)

-- the write affects this run
abbrev IsAgain : ℕ → ℕ → ℕ → ℕ → ℕ → List Group → List Group → Type 0
IsAgain q b width later at now run = groups_with now 0 (affects q b width later) ≡ run

module _ (q b width u later : ℕ) (gs now a : List Group) where
  three : (front run back : List Group) → data_units (front ++ (run ++ back)) ≡ data_units front + (data_units run + data_units back)
  three front run back =
      let one = sum_by-append (λ (g : Group). g.n) front (run ++ back) in
      let two = sum_by-append (λ (g : Group). g.n) run back in omega (arith, one, two)

  -- the write reaches no unit behind those of the file
  within : (run c : List Group) → AreCopies q b width u later gs now a run c → b < u → IsAgain q b width later (data_units a) now run
  within [] c k less =
      let nothing = ap (λ (l : List Group). data_units l) (k.parted ∙ ap (λ (l : List Group). a ++ l) (k.none refl) ∙ append-nil a) in
      let starts = k.starts in let low = k.low in let whole = k.whole in
      absurd (omega (arith, nothing, starts, low, whole, less))
  within (r ∷ rs) c k less =
      let low = k.low in
      let grown = k.grown in
      let starts = k.starts in
      let all = ap data_units k.parted ∙ three a (r ∷ rs) c in
      let whole = k.whole in
      let ends : b < data_units a + data_units (r ∷ rs) = elim k.ends [
        | inl last ↦ let empty = ap data_units last in omega (arith, all, whole, less, empty)
        | inr past ↦ past
      ] in
      let some_run : HaveUnits (r ∷ rs) = All-left (λ (g : Group). 1 ≤ g.n) (r ∷ rs) c (All-right (λ (g : Group). 1 ≤ g.n) a ((r ∷ rs) ++ c) (subst HaveUnits k.parted k.some)) in
      let run = contiguous rs r now 0 (data_units a) some_run k.some_now k.kept in
      let before = run.before in
      let at : data_units run.front ≡ data_units a = omega (arith, before) in
      let p1 : Test = affects q b width u in
      let p2 : Test = affects q b width later in
      let old : passing (r ∷ rs) (data_units a) p1 ≡ r ∷ rs =
      sym (only_run q b width gs a (r ∷ rs) c u k.parted (omega (arith, starts, low, less)) ends)
      ∙ sym (with-passing gs 0 p1 (λ first g. plain q b width u first g less)) ∙ k.is in
      with-passing now 0 p2 (λ first g. plain q b width later first g (omega (arith, less, grown)))
      ∙ only_run q b width now run.front (r ∷ rs) run.back later run.parted (omega (arith, at, starts, low, less, grown)) (omega (arith, at, ends))
      ∙ ap (λ (n : ℕ). passing (r ∷ rs) n p2) at
      ∙ passing-same q b width (r ∷ rs) (data_units a) later u (omega (arith, low, less, grown)) ∙ old

  -- it reaches one, and so the run goes to the end of the map
  beyond : (run c : List Group) → AreCopies q b width u later gs now a run c → u ≤ b → IsAgain q b width later (data_units a) now run
  beyond run c k more = behind_all run (run_to_end k.ends)
    where
      same_units : later ≡ u
      same_units = k.units more

      all : data_units gs ≡ data_units a + (data_units run + data_units c)
      all = ap data_units k.parted ∙ three a run c

      run_to_end : (c ≡ []) ⊎ (b < data_units a + data_units run) → c ≡ []
      run_to_end (inl last) = last
      run_to_end (inr past) = let parts = all in let whole = k.whole in absurd (omega (arith, parts, whole, more, past))

      empty_now : (run : List Group) → run ≡ [] → c ≡ [] → data_units gs ≡ data_units a + (data_units run + data_units c)
          → groups_with gs 0 (affects q b width u) ≡ run → IsAgain q b width later (data_units a) now []
      empty_now run none last parts is =
          let no_run = ap data_units none in
          let no_back = ap data_units last in
          let whole = k.whole in
          let whole_now = k.whole_now in
          let same = same_units in
          let starts = k.starts in
          with-none now 0 (affects q b width later)
          (λ g first stands. let to = (stands-within now 0 g first stands).to in
          early q b width later first g (omega (arith, to, whole_now, same, parts, no_run, no_back, whole, starts)))
          (λ g first stands ends.
          ap (λ (n : ℕ). affects q b width n first g true) same
          ∙ last-fails gs 0 (affects q b width u) g first k.some (is ∙ none) (k.late more g first stands ends) (omega (arith, ends, whole, whole_now, same)))

      full_now : (r : Group) (rs : List Group) → run ≡ r ∷ rs → c ≡ [] → IsAgain q b width later (data_units a) now (r ∷ rs)
      full_now r rs is last =
          let parted : gs ≡ a ++ (r ∷ (rs ++ [])) = k.parted ∙ ap (λ (x : List Group × List Group). a ++ (x.0 ++ x.1)) (λ i. (is i, last i)) in
          let some_run : HaveUnits (r ∷ rs) = All-left (λ (g : Group). 1 ≤ g.n) (r ∷ rs) [] (All-right (λ (g : Group). 1 ≤ g.n) a ((r ∷ rs) ++ []) (subst HaveUnits parted k.some)) in
          let hold = contiguous rs r now 0 (data_units a) some_run k.some_now (subst (λ (l : List Group). StandThere l (data_units a) now 0) is k.kept) in
          let before = hold.before in
          let whole = k.whole in
          let whole_now = k.whole_now in
          let same = same_units in
          let starts = k.starts in
          let parts = ap data_units parted ∙ three a (r ∷ rs) [] in
          let parts_now = ap data_units hold.parted ∙ three hold.front (r ∷ rs) hold.back in
          let at : data_units hold.front ≡ data_units a = omega (arith, before) in
          let some_back : HaveUnits hold.back =
          All-right (λ (g : Group). 1 ≤ g.n) (r ∷ rs) hold.back (All-right (λ (g : Group). 1 ≤ g.n) hold.front ((r ∷ rs) ++ hold.back) (subst HaveUnits hold.parted k.some_now)) in
          let empty : hold.back ≡ [] = no_groups hold.back some_back (omega (arith, parts, parts_now, at, whole, whole_now, same)) in
          let p : Test = affects q b width u in
          ap (λ (n : ℕ). groups_with now 0 (affects q b width n)) same
          ∙ ap (λ (l : List Group). groups_with l 0 p) (hold.parted ∙ ap (λ (l : List Group). hold.front ++ (r ∷ (rs ++ l))) empty)
          ∙ with-after hold.front r (rs ++ []) 0 p
          (λ g first stands. let to = (stands-within hold.front 0 g first stands).to in early q b width u first g (omega (arith, to, at, starts, parts, whole)))
          ∙ ap (λ (n : ℕ). groups_with (r ∷ (rs ++ [])) n p) (omega (arith, at))
          ∙ sym (with-after a r (rs ++ []) 0 p
          (λ g first stands. let to = (stands-within a 0 g first stands).to in early q b width u first g (omega (arith, to, starts, parts, whole))))
          ∙ ap (λ (l : List Group). groups_with l 0 p) (sym parted) ∙ k.is ∙ is

      behind_all : (l : List Group) → c ≡ [] → IsAgain q b width later (data_units a) now run
      behind_all l last = by_run run refl
        where
          by_run : (l : List Group) → run ≡ l → IsAgain q b width later (data_units a) now run
          by_run [] is = subst (IsAgain q b width later (data_units a) now) (sym is) (empty_now run is last all k.is)
          by_run (r ∷ rs) is = subst (IsAgain q b width later (data_units a) now) (sym is) (full_now r rs is last)

  pub again : (run c : List Group) → AreCopies q b width u later gs now a run c → IsAgain q b width later (data_units a) now run
  again run c k = elim (cases_lt b u) [ inl less ↦ within run c k less | inr more ↦ beyond run c k more ]
