-- A new pool: the slots of a drive, with slot 0 on top, and nothing counted.
use Rattle.std.proofs.Common.{◌≡◌, ℕ, zero, suc, ◌-◌, ◌<◌, ◌≤◌, List, [], ◌∷◌, ◌++◌, length, reverse, replicate, refl, sym, subst, ap, ◌∙◌, inl, inr, arith}
use Rattle.std.specs.List.{All}
use Rattle.std.proofs.lemmas.Bool.{cases_lt}
use Rattle.std.proofs.lemmas.List.{get_or-reverse, get_or_append_left, get_or_push, length-append, length-reverse}
use Rattle.domains.specs.Drive.{Drive, IsDrive}
use Rattle.flex_io.specs.declared.raw_place.RawPlace.{RawPlace}
use Rattle.held_slots.specs.Slots.{place_from, IsOn}
use Rattle.slot_pool.specs.declared.tally.Tally.{Tally}
use Rattle.slot_pool.specs.Pools.{AreSlotsOf, IsPool, PoolView}
use Rattle.slot_pool.specs.Tallies.{AddUp, no_tally, numbers_of, tally_at}
use Rattle.turn_cell.specs.Histories.{IsFresh}
use Rattle.turn_cell.specs.Notes.{AreZeros}

-- the slots of a drive are on it
pub on_drive : {S : Type 0} (place_of : S → RawPlace) (drive : Drive) (slots : List S) → AreSlotsOf place_of drive slots
    → All (λ slot. IsOn drive (length slots) (place_from (place_of slot))) (reverse slots)
on_drive place_of drive slots are k d l =
    let long : k < length slots = subst (λ (n : ℕ). k < n) (length-reverse slots) l in
    let here : length slots - 1 - k < length slots = omega arith in
    let same = ap (λ slot. place_from (place_of slot)) (get_or-reverse slots k d long) ∙ are (length slots - 1 - k) d here in
    subst (IsOn drive (length slots)) (sym same) (record { drive_is = refl; within = here })

-- no seat has counted anything
pub tally_at-none : (n seat : ℕ) → tally_at (replicate n no_tally) seat ≡ no_tally
tally_at-none zero seat = refl
tally_at-none (suc n) zero = refl
tally_at-none (suc n) (suc seat) = tally_at-none n seat

AddUp-new : (slots : ℕ) → AddUp slots slots (replicate 32 no_tally)
AddUp-new slots = record {
  balanced = refl;
  covered = omega arith;
  emptied = λ seat found. let none = ap (λ t. t.empties) (tally_at-none 32 seat) in absurd (omega (arith, none, found));
}

-- all slots of a drive are free, and slot 0 is on top
pub IsPool-new : {S : Type 0} (place_of : S → RawPlace) (drive : Drive) (slots : List S) → IsDrive drive → length slots ≤ 4096 → AreSlotsOf place_of drive slots
    → IsPool place_of (record { drive = drive; slots = length slots; free = reverse slots; tallies = replicate 32 no_tally; turns = 0; seat = 0 })
IsPool-new place_of drive slots is few are =
    let long = length-reverse slots in
    record {
      drive = is;
      few = few;
      seat = omega arith;
      seats = refl;
      on = on_drive place_of drive slots are;
      within = omega (arith, long);
      add_up = subst (λ (n : ℕ). AddUp (length slots) n (replicate 32 no_tally)) (sym long) (AddUp-new (length slots));
    }

-- in the tallies of a new pool no seat has counted anything
pub no_tally_at : (tallies : List Tally) → tallies ≡ replicate 32 no_tally → (seat : ℕ) → tally_at tallies seat ≡ no_tally
no_tally_at tallies new seat = ap (λ tallies. tally_at tallies seat) new ∙ tally_at-none 32 seat

-- the drive's next slot, put at the end
pub AreSlotsOf-push : {S : Type 0} (place_of : S → RawPlace) (drive : Drive) (slots : List S) (slot : S) → AreSlotsOf place_of drive slots
    → place_from (place_of slot) ≡ record { drive = drive; slot = length slots } → AreSlotsOf place_of drive (slots ++ slot ∷ [])
AreSlotsOf-push place_of drive slots slot are next k d l =
    let long = length-append slots (slot ∷ []) in
    elim (cases_lt k (length slots)) [
      | inl before ↦ ap (λ x. place_from (place_of x)) (get_or_append_left slots (slot ∷ []) d k before) ∙ are k d before
      | inr after ↦ (
          let last : length slots ≡ k = omega (arith, long, l, after) in
          ap (λ x. place_from (place_of x)) (get_or_push slots slot d k last) ∙ (next ∙ ap (λ n. record { drive = drive; slot = n }) last)
          )
    ]

-- a pool of no turn has tallies of zeros, where no seat has counted anything
pub IsFresh-new : {S : Type 0} (p : PoolView S) → p.turns ≡ 0 → ((seat : ℕ) → tally_at p.tallies seat ≡ no_tally)
    → IsFresh {E = Unit {0}} (λ p. p.turns) (λ p. []) (λ p number. numbers_of (tally_at p.tallies number)) p
IsFresh-new p none new = record {
  turns = none;
  notes = refl;
  tallies = λ number. subst (λ t. AreZeros (numbers_of t)) (sym (new number)) four_zeros;
} where
  four_zeros : AreZeros (numbers_of no_tally)
  four_zeros zero d l = refl
  four_zeros (suc zero) d l = refl
  four_zeros (suc (suc zero)) d l = refl
  four_zeros (suc (suc (suc zero))) d l = refl
  four_zeros (suc (suc (suc (suc k)))) d l = absurd (omega arith)
