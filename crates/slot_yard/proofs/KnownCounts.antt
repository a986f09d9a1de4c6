-- What a seat knows of its own counts.
use Rattle.std.proofs.Common.{◌≡◌, ℕ, ◌+◌, ◌-◌, ◌<◌, true, List, [], ◌∷◌, ◌++◌, length, drop, reverse, refl, sym, ap, ◌∙◌, subst, arith}
use Rattle.std.specs.Prelude.{slice_index}
use Rattle.std.proofs.lemmas.Grind.{get_or-set_at}
use Rattle.std.proofs.lemmas.List.{length-set}
use Rattle.domains.specs.Shape.{is_of}
use Rattle.domains.specs.Drive.{Drive}
use Rattle.flex_io.specs.declared.raw_place.RawPlace.{RawPlace}
use Rattle.slot_yard.specs.declared.counts.Counts.{Counts}
use Rattle.slot_yard.specs.declared.counts.Move.{Move}
use Rattle.slot_yard.specs.Queues.{queue_of, with_queue}
use Rattle.slot_yard.specs.Tallies.{count_all, count_one, counts_of, no_counts, numbers_of, rank_of, tally_at, with_counts}
use Rattle.slot_yard.specs.Yards.{IsYard, YardView, moved, moved_by, without_drive}
use Rattle.slot_yard.proofs.DriveRanks.{rank_of-within}

-- tallies with the same numbers are one
pub same_counts : (s t : List Counts) → numbers_of s ≡ numbers_of t → s ≡ t
same_counts [] [] same = refl
same_counts [] (e ∷ es) same = let long = ap length same in absurd (omega (arith, long))
same_counts (c ∷ cs) [] same = let long = ap length same in absurd (omega (arith, long))
same_counts (c ∷ cs) (e ∷ es) same =
    let put : c.put ≡ e.put = ap (λ l. slice_index l 0) same in
    let taken : c.taken ≡ e.taken = ap (λ l. slice_index l 1) same in
    let retired : c.retired ≡ e.retired = ap (λ l. slice_index l 2) same in
    let rest = same_counts cs es (ap (drop 3) same) in
    λ i. record { put = put i; taken = taken i; retired = retired i } ∷ rest i

module _ {S : Type 0} where
  counts_moved_by : (place_of : S → RawPlace) (counted : Counts → Counts) (d : Drive) (waiting : List (List S)) (retired : List S) (y : YardView S) → IsYard place_of (moved_by counted d waiting retired y)
      → is_of y.shape d ≡ true → counts_of d (tally_at (moved_by counted d waiting retired y).tallies y.seat) ≡ counted (counts_of d (tally_at y.tallies y.seat))
  counts_moved_by place_of counted d waiting retired y is of =
      let seat = is.seat in
      let seats = is.seats in
      let kept = length-set y.tallies y.seat (with_counts d counted (tally_at y.tallies y.seat)) in
      let within : y.seat < length y.tallies = omega (arith, seat, seats, kept) in
      let here = get_or-set_at y.tallies y.seat y.seat (with_counts d counted (tally_at y.tallies y.seat)) [] refl within in
      let long = ap length (sym here) ∙ is.drives y.seat [] (omega (arith, seat, seats)) in
      let same = length-set (tally_at y.tallies y.seat) (rank_of d) (counted (counts_of d (tally_at y.tallies y.seat))) in
      let rank = rank_of-within y.shape d is.shape of in
      ap (counts_of d) here
      ∙ get_or-set_at (tally_at y.tallies y.seat) (rank_of d) (rank_of d) (counted (counts_of d (tally_at y.tallies y.seat))) no_counts refl (omega (arith, long, same, rank))

  -- the drive's counts in the tally of the seat whose turn it is
  pub counts_moved : (place_of : S → RawPlace) (what : Move) (d : Drive) (waiting : List (List S)) (retired : List S) (y : YardView S) → IsYard place_of (moved what d waiting retired y)
      → is_of y.shape d ≡ true → counts_of d (tally_at (moved what d waiting retired y).tallies y.seat) ≡ count_one what (counts_of d (tally_at y.tallies y.seat))
  counts_moved place_of what d waiting retired y is of = counts_moved_by place_of (count_one what) d waiting retired y is of

  counts_known_by : (place_of : S → RawPlace) (counted : Counts → Counts) (d : Drive) (waiting : List (List S)) (retired : List S) (last x y new : YardView S) (number : ℕ)
      → numbers_of (tally_at x.tallies number) ≡ numbers_of (tally_at last.tallies number) → y ≡ record x { seat = number }
      → new ≡ moved_by counted d waiting retired y → IsYard place_of new → is_of x.shape d ≡ true
      → counts_of d (tally_at new.tallies number) ≡ counted (counts_of d (tally_at last.tallies number))
  counts_known_by place_of counted d waiting retired last x y new number same begins moved_is is of =
      let all : new ≡ moved_by counted d waiting retired (record x { seat = number }) = moved_is ∙ ap (moved_by counted d waiting retired) begins in
      ap (λ (y : YardView S). counts_of d (tally_at y.tallies number)) all
      ∙ (counts_moved_by place_of counted d waiting retired (record x { seat = number }) (subst (IsYard place_of) all is) of
      ∙ ap (λ tally. counted (counts_of d tally)) (same_counts _ _ same))

  -- the same by the seat's tally before its turn, which found x
  pub counts_known : (place_of : S → RawPlace) (what : Move) (d : Drive) (waiting : List (List S)) (retired : List S) (last x y new : YardView S) (number : ℕ)
      → numbers_of (tally_at x.tallies number) ≡ numbers_of (tally_at last.tallies number) → y ≡ record x { seat = number }
      → new ≡ moved what d waiting retired y → IsYard place_of new → is_of x.shape d ≡ true
      → counts_of d (tally_at new.tallies number) ≡ count_one what (counts_of d (tally_at last.tallies number))
  counts_known place_of what = counts_known_by place_of (count_one what)

  -- the same if the turn retired the drive, of whose pool these slots were free
  pub counts_retired : (place_of : S → RawPlace) (d : Drive) (free : List S) (count : ℕ) (last x y new : YardView S) (number : ℕ)
      → numbers_of (tally_at x.tallies number) ≡ numbers_of (tally_at last.tallies number) → y ≡ record x { seat = number }
      → count ≡ length free + length (queue_of d y.waiting) → new ≡ without_drive d free y → IsYard place_of new → is_of x.shape d ≡ true
      → counts_of d (tally_at new.tallies number) ≡ count_all (count - length free) count (counts_of d (tally_at last.tallies number))
  counts_retired place_of d free count last x y new number same begins count_is retired_is is of =
      let waited = length (queue_of d y.waiting) in
      let known = counts_known_by place_of (count_all waited (length free + waited)) d (with_queue d [] y.waiting)
      (y.retired ++ reverse free ++ queue_of d y.waiting) last x y new number same begins retired_is is of in
      let taken : waited ≡ count - length free = omega (arith, count_is) in
      known ∙ (ap (λ (n : ℕ). count_all n (length free + waited) (counts_of d (tally_at last.tallies number))) taken
      ∙ ap (λ (n : ℕ). count_all (count - length free) n (counts_of d (tally_at last.tallies number))) (sym count_is))
