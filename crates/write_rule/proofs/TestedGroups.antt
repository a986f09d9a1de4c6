-- The groups for which a test passes that asks whether they hold a unit of a range: a run.
use Rattle.std.proofs.Common.{◌≡◌, ℕ, zero, suc, ◌+◌, ◌<◌, ◌≤◌, ◌⊎◌, inl, inr, Bool, true, false, ◌&&◌, not, cond, leb, List, [], ◌∷◌, length, take, drop, refl, sym, ap, subst, ◌∙◌, arith}
use Rattle.std.proofs.lemmas.Bool.{both_ways, cases_lt, cases_Bool, le-leb, lt-leb, cond-true, cond-false}
use Rattle.std.proofs.lemmas.List.{take_all}
use Rattle.std.proofs.lemmas.List.Sums.{sum_by-cons}
use Rattle.domains.specs.declared.group.Group.{Group}
use Rattle.inode_codec.specs.Inode.{data_units}
use Rattle.file_history.specs.Live.{groups_with}
use Rattle.write_rule.specs.Runs.{groups_that, widths_of, first_from, begun_by}

-- what the test of a group says, which holds the units from s on, of the units from a to b
pub record IsTest (p : ℕ → Group → Bool → Bool) (fills : ℕ → Bool) (a b : ℕ) : Type 0 where
  pub passes : (s : ℕ) (g : Group) (last : Bool) → s ≤ b → a < s + g.n → p s g last ≡ true
  pub skips : (s : ℕ) (g : Group) → s + g.n ≤ a → p s g false ≡ false
  pub fill : (s : ℕ) (g : Group) → s + g.n ≤ a → p s g true ≡ fills g.n

-- the test, and another of the first unit and the number of units
abbrev pub also : (ℕ → Group → Bool → Bool) → (ℕ → ℕ → Bool) → ℕ → Group → Bool → Bool
also p q s g last = p s g last && q s g.n

-- of these groups each but the last ends behind unit a, and no later than unit b begins
abbrev pub AreInner : List Group → ℕ → ℕ → ℕ → Type 0
AreInner [] s a b = Unit {0}
AreInner (g ∷ []) s a b = Unit {0}
AreInner (g ∷ h ∷ gs) s a b = (a < s + g.n) × (s + g.n ≤ b) × AreInner (h ∷ gs) (s + g.n) a b

-- how many groups pass, from this one on
pub record Picked (p : ℕ → Group → Bool → Bool) (q : ℕ → ℕ → Bool) (fills : ℕ → Bool) (a b : ℕ) (gs : List Group) (s : ℕ) : Type 0 where
  pub first : ℕ
  pub count : ℕ
  pub within : first + count ≤ length gs
  pub run : groups_with gs s p ≡ take count (drop first gs)
  pub from : ℕ
  pub from_is : from ≡ s + data_units (take first gs)
  pub some : groups_with gs s (also p q) ≡ groups_that (take count (drop first gs)) from q
  pub none : (1 ≤ count) ⊎ (first ≡ length gs)
  pub before : s + data_units (take first gs) ≤ a
  pub first_is : first ≡ first_from (widths_of gs) s a fills
  pub stop_is : first + count ≡ begun_by (widths_of gs) s b
  pub inner : AreInner (take count (drop first gs)) from a b
  pub ends : (first + count ≡ length gs) ⊎ (b < s + data_units (take first gs) + data_units (take count (drop first gs)))

-- how many groups pass, from the front
record FromFront (p : ℕ → Group → Bool → Bool) (q : ℕ → ℕ → Bool) (a b : ℕ) (gs : List Group) (s : ℕ) : Type 0 where
  pub count : ℕ
  pub within : count ≤ length gs
  pub run : groups_with gs s p ≡ take count gs
  pub some : groups_with gs s (also p q) ≡ groups_that (take count gs) s q
  pub ends : (count ≡ length gs) ⊎ (b < s + data_units (take count gs))
  pub stop_is : count ≡ begun_by (widths_of gs) s b
  pub inner : AreInner (take count gs) s a b
  pub begins : (count ≡ 0) ⊎ (s ≤ b)

units-cons : (g : Group) (gs : List Group) → data_units (g ∷ gs) ≡ g.n + data_units gs
units-cons g gs = sum_by-cons (λ (k : Group). k.n) g gs

on_here : (r : ℕ → Group → Bool → Bool) (g h : Group) (gs : List Group) (s : ℕ) → r s g false ≡ true → groups_with (g ∷ h ∷ gs) s r ≡ g ∷ groups_with (h ∷ gs) (s + g.n) r
on_here r g h gs s pass = cond-true (r s g false) (g ∷ groups_with (h ∷ gs) (s + g.n) r) (groups_with (h ∷ gs) (s + g.n) r) pass

off_here : (r : ℕ → Group → Bool → Bool) (g h : Group) (gs : List Group) (s : ℕ) → r s g false ≡ false → groups_with (g ∷ h ∷ gs) s r ≡ groups_with (h ∷ gs) (s + g.n) r
off_here r g h gs s fail = cond-false (r s g false) (g ∷ groups_with (h ∷ gs) (s + g.n) r) (groups_with (h ∷ gs) (s + g.n) r) fail

on_last : (r : ℕ → Group → Bool → Bool) (g : Group) (s : ℕ) → r s g true ≡ true → groups_with (g ∷ []) s r ≡ g ∷ []
on_last r g s pass = cond-true (r s g true) (g ∷ []) [] pass

off_last : (r : ℕ → Group → Bool → Bool) (g : Group) (s : ℕ) → r s g true ≡ false → groups_with (g ∷ []) s r ≡ []
off_last r g s fail = cond-false (r s g true) (g ∷ []) [] fail

first_past : (g h : Group) (gs : List Group) (s a : ℕ) (fills : ℕ → Bool) → s + g.n ≤ a → first_from (widths_of (g ∷ h ∷ gs)) s a fills ≡ 1 + first_from (widths_of (h ∷ gs)) (s + g.n) a fills
first_past g h gs s a fills past = cond-true (leb (s + g.n) a) (1 + first_from (widths_of (h ∷ gs)) (s + g.n) a fills) 0 (le-leb (s + g.n) a past)

first_here : (g : Group) (gs : List Group) (s a : ℕ) (fills : ℕ → Bool) → a < s + g.n → first_from (widths_of (g ∷ gs)) s a fills ≡ 0
first_here g [] s a fills here = ap (λ (c : Bool). cond (c && not (fills g.n)) 1 0) (lt-leb (s + g.n) a here)
first_here g (h ∷ gs) s a fills here = cond-false (leb (s + g.n) a) (1 + first_from (widths_of (h ∷ gs)) (s + g.n) a fills) 0 (lt-leb (s + g.n) a here)

first_last : (g : Group) (s a : ℕ) (fills : ℕ → Bool) (on : Bool) → s + g.n ≤ a → fills g.n ≡ on → first_from (widths_of (g ∷ [])) s a fills ≡ cond (not on) 1 0
first_last g s a fills on past is =
    ap (λ (c : Bool). cond (c && not (fills g.n)) 1 0) (le-leb (s + g.n) a past) ∙ ap (λ (c : Bool). cond (not c) 1 0) is

begun_here : (g : Group) (gs : List Group) (s b : ℕ) → s ≤ b → begun_by (widths_of (g ∷ gs)) s b ≡ 1 + begun_by (widths_of gs) (s + g.n) b
begun_here g gs s b here = cond-true (leb s b) (1 + begun_by (widths_of gs) (s + g.n) b) 0 (le-leb s b here)

begun_past : (gs : List Group) (s b : ℕ) → b < s → begun_by (widths_of gs) s b ≡ 0
begun_past [] s b past = refl
begun_past (g ∷ gs) s b past = cond-false (leb s b) (1 + begun_by (widths_of gs) (s + g.n) b) 0 (lt-leb s b past)

begun_all : (gs : List Group) (s b : ℕ) → s + data_units gs ≤ b → begun_by (widths_of gs) s b ≡ length gs
begun_all [] s b to = refl
begun_all (g ∷ gs) s b to =
    let units = units-cons g gs in
    let here = begun_here g gs s b (omega (arith, to)) in
    let rest = begun_all gs (s + g.n) b (omega (arith, to, units)) in
    omega (arith, here, rest)

abbrev AllAfter : List Group → ℕ → ℕ → Type 0
AllAfter [] s a = Unit {0}
AllAfter (g ∷ gs) s a = a < s + g.n

inner_all : (gs : List Group) (s a b : ℕ) → s + data_units gs ≤ b → AllAfter gs s a → AreInner gs s a b
inner_all [] s a b to after = tt
inner_all (g ∷ []) s a b to after = tt
inner_all (g ∷ h ∷ gs) s a b to after =
    let units = units-cons g (h ∷ gs) in
    (after, omega (arith, to, units), inner_all (h ∷ gs) (s + g.n) a b (omega (arith, to, units)) (omega (arith, after)))

inner_more : (g h : Group) (gs : List Group) (count s a b : ℕ) → a < s + g.n → (count ≡ 0) ⊎ (s + g.n ≤ b) → AreInner (take count (h ∷ gs)) (s + g.n) a b
    → AreInner (g ∷ take count (h ∷ gs)) s a b
inner_more g h gs zero s a b here begins inner = tt
inner_more g h gs (suc count) s a b here (inl none) inner = absurd (omega (arith, none))
inner_more g h gs (suc count) s a b here (inr begins) inner = (here, begins, inner)

none_pass : (r : ℕ → Group → Bool → Bool) (b : ℕ) → ((s : ℕ) (g : Group) (last : Bool) → b < s → r s g last ≡ false)
    → (gs : List Group) (s : ℕ) → b < s → groups_with gs s r ≡ []
none_pass r b stops [] s past = refl
none_pass r b stops (g ∷ []) s past = off_last r g s (stops s g true past)
none_pass r b stops (g ∷ h ∷ gs) s past = off_here r g h gs s (stops s g false past) ∙ none_pass r b stops (h ∷ gs) (s + g.n) (omega (arith, past))

module _ (p : ℕ → Group → Bool → Bool) (q : ℕ → ℕ → Bool) (fills : ℕ → Bool) (a b : ℕ) (test : IsTest p fills a b) where
  -- where the first test passes, the second decides
  some_here : (g h : Group) (gs others : List Group) (s : ℕ) → p s g false ≡ true → groups_with (h ∷ gs) (s + g.n) (also p q) ≡ groups_that others (s + g.n) q
      → groups_with (g ∷ h ∷ gs) s (also p q) ≡ groups_that (g ∷ others) s q
  some_here g h gs others s pass rest =
      ap (λ (c : Bool). cond (c && q s g.n) (g ∷ groups_with (h ∷ gs) (s + g.n) (also p q)) (groups_with (h ∷ gs) (s + g.n) (also p q))) pass
      ∙ ap (λ (l : List Group). cond (q s g.n) (g ∷ l) l) rest

  some_last : (g : Group) (s : ℕ) → p s g true ≡ true → groups_with (g ∷ []) s (also p q) ≡ groups_that (g ∷ []) s q
  some_last g s pass = ap (λ (c : Bool). cond (c && q s g.n) (g ∷ []) []) pass

  fails_too : (s : ℕ) (g : Group) (last : Bool) → p s g last ≡ false → also p q s g last ≡ false
  fails_too s g last fail = ap (λ (c : Bool). c && q s g.n) fail

  -- one group is passed over
  skipped : (g h : Group) (gs : List Group) (s : ℕ) → s + g.n ≤ a → a ≤ b → Picked p q fills a b (h ∷ gs) (s + g.n) → Picked p q fills a b (g ∷ h ∷ gs) s
  skipped g h gs s past order rest =
      let within = rest.within in
      let first_is = rest.first_is in
      let stop_is = rest.stop_is in
      let one = first_past g h gs s a fills past in
      let begun = begun_here g (h ∷ gs) s b (omega (arith, past, order)) in
      let before = rest.before in
      let from_is = rest.from_is in
      let units = units-cons g (take rest.first (h ∷ gs)) in
      record {
        first = suc rest.first;
        count = rest.count;
        within = omega (arith, within);
        run = off_here p g h gs s (test.skips s g past) ∙ rest.run;
        from = rest.from;
        from_is = omega (arith, from_is, units);
        some = off_here (also p q) g h gs s (fails_too s g false (test.skips s g past)) ∙ rest.some;
        none = elim rest.none [ inl some ↦ inl some | inr all ↦ inr (ap suc all) ];
        before = omega (arith, before, units);
        first_is = omega (arith, first_is, one);
        stop_is = omega (arith, stop_is, begun);
        inner = rest.inner;
        ends = elim rest.ends [
          | inl all ↦ inl (omega (arith, all))
          | inr more ↦ inr (omega (arith, more, units))
        ];
      }

  -- all groups pass
  all_pass : (gs : List Group) (s : ℕ) → a < s → s + data_units gs ≤ b → (groups_with gs s p ≡ gs) × (groups_with gs s (also p q) ≡ groups_that gs s q)
  all_pass [] s from to = (refl, refl)
  all_pass (g ∷ []) s from to =
      let pass = test.passes s g true (omega (arith, to)) (omega (arith, from)) in
      (on_last p g s pass, some_last g s pass)
  all_pass (g ∷ h ∷ gs) s from to =
      let units = units-cons g (h ∷ gs) in
      let pass = test.passes s g false (omega (arith, to, units)) (omega (arith, from)) in
      let rest = all_pass (h ∷ gs) (s + g.n) (omega (arith, from)) (omega (arith, to, units)) in
      (on_here p g h gs s pass ∙ ap (λ (l : List Group). g ∷ l) rest.0, some_here g h gs (h ∷ gs) s pass rest.1)

  -- the range ends behind the groups
  pub behind : (gs : List Group) (s : ℕ) → s ≤ a → a ≤ s + data_units gs → s + data_units gs ≤ b → Picked p q fills a b gs s
  behind [] s low high to =
      record {
        first = 0;
        count = 0;
        within = omega arith;
        run = refl;
        from = s;
        from_is = omega arith;
        some = refl;
        none = inr refl;
        before = omega (arith, low);
        first_is = refl;
        stop_is = omega arith;
        inner = tt;
        ends = inl (omega arith);
      }
  behind (g ∷ []) s low high to =
      let units = units-cons g [] in
      let begins : s ≤ b = omega (arith, to) in
      let begun = begun_here g [] s b begins in
      elim (cases_Bool (p s g true)) [
        | inl on ↦ record {
          first = 0;
          count = 1;
          within = omega arith;
          run = on_last p g s on;
          from = s;
          from_is = omega arith;
          some = some_last g s on;
          none = inl (omega arith);
          before = omega (arith, low);
          first_is = elim (cases_lt a (s + g.n)) [
            | inl here ↦ sym (first_here g [] s a fills here)
            | inr past ↦ sym (first_last g s a fills true past (sym (test.fill s g past) ∙ on))
          ];
          stop_is = omega (arith, begun);
          inner = tt;
          ends = inl (omega arith);
        }
        | inr off ↦ record {
          first = 1;
          count = 0;
          within = omega arith;
          run = off_last p g s off;
          from = s + g.n;
          from_is = omega (arith, units);
          some = off_last (also p q) g s (fails_too s g true off);
          none = inr refl;
          before = elim (cases_lt a (s + g.n)) [
            | inl here ↦ absurd (both_ways (p s g true) off (test.passes s g true begins here))
            | inr past ↦ omega (arith, past, units)
          ];
          first_is = elim (cases_lt a (s + g.n)) [
            | inl here ↦ absurd (both_ways (p s g true) off (test.passes s g true begins here))
            | inr past ↦ sym (first_last g s a fills false past (sym (test.fill s g past) ∙ off))
          ];
          stop_is = omega (arith, begun);
          inner = tt;
          ends = inl (omega arith);
        }
      ]
  behind (g ∷ h ∷ gs) s low high to =
      let units = units-cons g (h ∷ gs) in
      elim (cases_lt a (s + g.n)) [
        | inl here ↦ whole g h gs s low here to (test.passes s g false (omega (arith, to)) here) (all_pass (h ∷ gs) (s + g.n) here (omega (arith, to, units)))
        | inr past ↦ skipped g h gs s past (omega (arith, high, to)) (behind (h ∷ gs) (s + g.n) past (omega (arith, high, units)) (omega (arith, to, units)))
      ]
    where
      whole : (g h : Group) (gs : List Group) (s : ℕ) → s ≤ a → a < s + g.n → s + data_units (g ∷ h ∷ gs) ≤ b → p s g false ≡ true
          → (groups_with (h ∷ gs) (s + g.n) p ≡ h ∷ gs) × (groups_with (h ∷ gs) (s + g.n) (also p q) ≡ groups_that (h ∷ gs) (s + g.n) q)
          → Picked p q fills a b (g ∷ h ∷ gs) s
      whole g h gs s low here to pass rest =
          let none = first_here g (h ∷ gs) s a fills here in
          let begun = begun_all (g ∷ h ∷ gs) s b to in
          let all : take (length (g ∷ h ∷ gs)) (g ∷ h ∷ gs) ≡ g ∷ h ∷ gs = take_all (length (g ∷ h ∷ gs)) (g ∷ h ∷ gs) (omega arith) in
          record {
            first = 0;
            count = length (g ∷ h ∷ gs);
            within = omega arith;
            run = on_here p g h gs s pass ∙ ap (λ (l : List Group). g ∷ l) rest.0 ∙ sym all;
            from = s;
            from_is = omega arith;
            some = some_here g h gs (h ∷ gs) s pass rest.1 ∙ ap (λ (l : List Group). groups_that l s q) (sym all);
            none = inl (omega arith);
            before = omega (arith, low);
            first_is = sym none;
            stop_is = omega (arith, begun);
            inner = subst (λ (l : List Group). AreInner l s a b) (sym all) (inner_all (g ∷ h ∷ gs) s a b to here);
            ends = inl (omega arith);
          }

  -- a test that fails for all groups behind the range
  module _ (stops : (s : ℕ) (g : Group) (last : Bool) → b < s → p s g last ≡ false) where
    stops_too : (s : ℕ) (g : Group) (last : Bool) → b < s → also p q s g last ≡ false
    stops_too s g last past = fails_too s g last (stops s g last past)

    from_front : (gs : List Group) (s : ℕ) → a < s → FromFront p q a b gs s
    from_front [] s from = record { count = 0; within = omega arith; run = refl; some = refl; ends = inl refl; stop_is = refl; inner = tt; begins = inl refl }
    from_front (g ∷ []) s from =
        elim (cases_lt b s) [
          | inl past ↦ record {
            count = 0;
            within = omega arith;
            run = none_pass p b stops (g ∷ []) s past;
            some = none_pass (also p q) b stops_too (g ∷ []) s past;
            ends = inr (omega (arith, past));
            stop_is = sym (begun_past (g ∷ []) s b past);
            inner = tt;
            begins = inl refl;
          }
          | inr here ↦
              let pass = test.passes s g true here (omega (arith, from)) in
              let begun = begun_here g [] s b here in
              record { count = 1; within = omega arith; run = on_last p g s pass; some = some_last g s pass; ends = inl refl; stop_is = omega (arith, begun); inner = tt; begins = inr here }
        ]
    from_front (g ∷ h ∷ gs) s from =
        elim (cases_lt b s) [
          | inl past ↦ record {
            count = 0;
            within = omega arith;
            run = none_pass p b stops (g ∷ h ∷ gs) s past;
            some = none_pass (also p q) b stops_too (g ∷ h ∷ gs) s past;
            ends = inr (omega (arith, past));
            stop_is = sym (begun_past (g ∷ h ∷ gs) s b past);
            inner = tt;
            begins = inl refl;
          }
          | inr here ↦ more g h gs s here from (test.passes s g false here (omega (arith, from))) (from_front (h ∷ gs) (s + g.n) (omega (arith, from)))
        ]
      where
        more : (g h : Group) (gs : List Group) (s : ℕ) → s ≤ b → a < s → p s g false ≡ true → FromFront p q a b (h ∷ gs) (s + g.n) → FromFront p q a b (g ∷ h ∷ gs) s
        more g h gs s here from pass rest =
            let stop_is = rest.stop_is in
            let begun = begun_here g (h ∷ gs) s b here in
            let within = rest.within in
            let units = units-cons g (take rest.count (h ∷ gs)) in
            record {
              count = suc rest.count;
              within = omega (arith, within);
              run = on_here p g h gs s pass ∙ ap (λ (l : List Group). g ∷ l) rest.run;
              some = some_here g h gs (take rest.count (h ∷ gs)) s pass rest.some;
              ends = elim rest.ends [ inl all ↦ inl (ap suc all) | inr past ↦ inr (omega (arith, past, units)) ];
              stop_is = omega (arith, stop_is, begun);
              inner = inner_more g h gs rest.count s a b (omega (arith, from)) rest.begins rest.inner;
              begins = inr here;
            }

    -- the range ends within the groups
    pub inside : (gs : List Group) (s : ℕ) → s ≤ a → a ≤ b → b < s + data_units gs → Picked p q fills a b gs s
    inside [] s low range to = absurd (omega (arith, low, range, to))
    inside (g ∷ []) s low range to =
        let units = units-cons g [] in
        let pass = test.passes s g true (omega (arith, low, range)) (omega (arith, range, to, units)) in
        let none = first_here g [] s a fills (omega (arith, range, to, units)) in
        let begun = begun_here g [] s b (omega (arith, low, range)) in
        record {
          first = 0;
          count = 1;
          within = omega arith;
          run = on_last p g s pass;
          from = s;
          from_is = omega arith;
          some = some_last g s pass;
          none = inl (omega arith);
          before = omega (arith, low);
          first_is = sym none;
          stop_is = omega (arith, begun);
          inner = tt;
          ends = inl (omega arith);
        }
    inside (g ∷ h ∷ gs) s low range to =
        let units = units-cons g (h ∷ gs) in
        elim (cases_lt a (s + g.n)) [
          | inl here ↦ front g h gs s low range here (test.passes s g false (omega (arith, low, range)) here) (from_front (h ∷ gs) (s + g.n) here)
          | inr past ↦ skipped g h gs s past range (inside (h ∷ gs) (s + g.n) past range (omega (arith, to, units)))
        ]
      where
        front : (g h : Group) (gs : List Group) (s : ℕ) → s ≤ a → a ≤ b → a < s + g.n → p s g false ≡ true → FromFront p q a b (h ∷ gs) (s + g.n) → Picked p q fills a b (g ∷ h ∷ gs) s
        front g h gs s low range here pass rest =
            let none = first_here g (h ∷ gs) s a fills here in
            let begun = begun_here g (h ∷ gs) s b (omega (arith, low, range)) in
            let stop_is = rest.stop_is in
            let within = rest.within in
            let units = units-cons g (take rest.count (h ∷ gs)) in
            record {
              first = 0;
              count = suc rest.count;
              within = omega (arith, within);
              run = on_here p g h gs s pass ∙ ap (λ (l : List Group). g ∷ l) rest.run;
              from = s;
              from_is = omega arith;
              some = some_here g h gs (take rest.count (h ∷ gs)) s pass rest.some;
              none = inl (omega arith);
              before = omega (arith, low);
              first_is = sym none;
              stop_is = omega (arith, stop_is, begun);
              inner = inner_more g h gs rest.count s a b here rest.begins rest.inner;
              ends = elim rest.ends [ inl all ↦ inl (omega (arith, all)) | inr past ↦ inr (omega (arith, past, units)) ];
            }
