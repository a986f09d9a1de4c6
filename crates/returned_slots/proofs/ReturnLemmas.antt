-- Slots that are put back, and then others.
use Rattle.std.proofs.Common.{◌≡◌, ℕ, ◌+◌, ◌%◌, ◌^◌, ◌≤◌, List, [], ◌∷◌, ◌++◌, length, map, reverse, Option, None, Some, IsSome, Result, Ok, Err, OnOk, refl, sym, ap, subst, ◌∙◌, arith, append_assoc, length-append}
use Rattle.std.proofs.Math.Nat.{mod-add-mod, mod-mod}
use Rattle.std.proofs.lemmas.List.{append-nil, map-append, reverse-append}
use Rattle.std.specs.Result.{result_and}
use Rattle.flex_io.specs.Faults.{HasCause, HasRisen}
use Rattle.flex_io.specs.Racks.{TakesBack}
use Rattle.flex_io.specs.Slots.{CountsOk}
use Rattle.flex_io.specs.declared.fault.Fault.{Fault}
use Rattle.flex_io.specs.declared.rack.Returned.{Returned}
use Rattle.flex_io.specs.declared.raw_place.RawPlace.{RawPlace}
use Rattle.returned_slots.specs.RackStates.{RackState, RisesBy}
use Rattle.slot_pool.specs.Pools.{PoolView}
use Rattle.returned_slots.specs.Returns.{ComesBack, Returns, free_slots, returned_of, told_bytes}

-- a count rose, and then rose by more
pub RisesBy-then : (first more old mid new : ℕ) → RisesBy first old mid → RisesBy more mid new → RisesBy (first + more) old new
RisesBy-then first more old mid new rises then =
    then ∙ sym (mod-add-mod mid (2 ^ 64) more) ∙ ap (λ (n : ℕ). (n + more) % 2 ^ 64) rises ∙ mod-add-mod (old + first) (2 ^ 64) more
    ∙ ap (λ (n : ℕ). n % 2 ^ 64) (let same : old + first + more ≡ old + (first + more) = omega arith in same)

pub HasRisen-after : (old mid new : ℕ) → old ≤ mid → HasRisen mid new → HasRisen old new
HasRisen-after old mid new before rises = omega (arith, before, rises)

pub HasRisen-before : (old mid new : ℕ) → HasRisen old mid → mid ≤ new → HasRisen old new
HasRisen-before old mid new rises after = omega (arith, rises, after)

module _ {S : Type 0} (place_of : S → RawPlace) (content : S → Option (List ℕ)) where
  came-then : (xs ys : List S) (old mid new : Option (List Returned)) → ComesBack place_of content xs old mid → ComesBack place_of content ys mid new
      → ComesBack place_of content (xs ++ ys) old new
  came-then xs ys None mid new first then = tt
  came-then xs ys (Some before) mid new first then =
      let here = subst (λ (o : Option (List Returned)). ComesBack place_of content ys o new) first then in
      here ∙ ap (λ (l : List Returned). Some l) (append_assoc before (map (returned_of place_of content) xs) (map (returned_of place_of content) ys)
      ∙ ap (λ (l : List Returned). before ++ l) (sym (map-append (returned_of place_of content) xs ys)))

  both_ok : {T : Type 0} (xs ys : List S) (first then : Result T Fault) (old mid new : RackState) → Returns place_of content xs first old mid → Returns place_of content ys then mid new
      → Returns place_of content (xs ++ ys) (result_and first then) old new
  both_ok xs ys (Ok a) (Ok b) old mid new front more =
      let start = front.never_falls in
      let end = more.never_falls in
      record {
        back = came-then xs ys old.back mid.back new.back front.back more.back;
        takes = more.takes ∙ front.takes;
        puts = subst (λ (n : ℕ). RisesBy n old.puts new.puts) (sym (length-append xs ys)) (RisesBy-then (length xs) (length ys) old.puts mid.puts new.puts front.puts more.puts);
        fault = λ failed. HasRisen-after old.faults mid.faults new.faults start (more.fault failed);
        never_falls = omega arith;
      }
  both_ok xs ys (Ok a) (Err e) old mid new front more =
      let start = front.never_falls in
      let end = more.never_falls in
      record {
        back = tt;
        takes = more.takes ∙ front.takes;
        puts = tt;
        fault = λ failed. HasRisen-after old.faults mid.faults new.faults start (more.fault failed);
        never_falls = omega arith;
      }
  both_ok xs ys (Err e) then old mid new front more =
      let start = front.never_falls in
      let end = more.never_falls in
      record {
        back = tt;
        takes = more.takes ∙ front.takes;
        puts = tt;
        fault = λ failed. HasRisen-before old.faults mid.faults new.faults (front.fault failed) end;
        never_falls = omega arith;
      }

  -- some slots were put back, and then others
  pub returns-then : {T : Type 0} (xs ys : List S) (first then both : Result T Fault) (old mid new : RackState) → Returns place_of content xs first old mid
      → Returns place_of content ys then mid new → both ≡ result_and first then → Returns place_of content (xs ++ ys) both old new
  returns-then xs ys first then both old mid new front more is =
      subst (λ r. Returns place_of content (xs ++ ys) r old new) (sym is) (both_ok xs ys first then old mid new front more)

  -- no slot was put back yet
  pub returns-none : {T : Type 0} (done : T) (old : RackState) → Returns place_of content [] (Ok done) old old
  returns-none {T} done old = record {
    back = none old.back;
    takes = refl;
    puts = let same : old.puts ≡ old.puts + 0 = omega arith in ap (λ (n : ℕ). n % 2 ^ 64) same;
    fault = λ failed. absurd (cc);
    never_falls = omega arith;
  }
    where
      none : (back : Option (List Returned)) → ComesBack place_of content [] back back
      none None = tt
      none (Some before) = ap (λ (l : List Returned). Some l) (sym (append-nil before))

  came-one : (x : S) (old new : Option (List Returned)) → TakesBack old new (place_of x) (content x) → (IsSome old → IsSome (content x)) → ComesBack place_of content (x ∷ []) old new
  came-one x None new back told = tt
  came-one x (Some before) new back told = one (content x) new back (told refl)
    where
      one : (c : Option (List ℕ)) (new : Option (List Returned)) → TakesBack (Some before) new (place_of x) c → IsSome c
          → new ≡ Some (before ++ record { place = place_of x; bytes = told_bytes c } ∷ [])
      one None new back told = absurd (cc)
      one (Some bytes) None back told = absurd back
      one (Some bytes) (Some now) back told = ap (λ (l : List Returned). Some l) back

  -- one slot was put back, or was not
  pub returns-one : {T : Type 0} (x : S) (result : Result T Fault) (old new : RackState) → OnOk result (TakesBack old.back new.back (place_of x) (content x))
      → new.takes ≡ old.takes → CountsOk result old.puts new.puts → HasCause result old.faults new.faults → old.faults ≤ new.faults
      → (IsSome old.back → IsSome (content x)) → Returns place_of content (x ∷ []) result old new
  returns-one x (Ok done) old new back takes puts fault falls told = record {
    back = came-one x old.back new.back back told;
    takes = takes;
    puts = ap (λ (n : ℕ). n % 2 ^ 64) puts ∙ mod-mod (old.puts + 1) (2 ^ 64);
    fault = fault;
    never_falls = falls;
  }
  returns-one x (Err e) old new back takes puts fault falls told = record { back = tt; takes = takes; puts = tt; fault = fault; never_falls = falls }

pub free_slots-push : {S : Type 0} (pools : List (PoolView S)) (p : PoolView S) → free_slots (pools ++ p ∷ []) ≡ free_slots pools ++ p.free
free_slots-push [] p = append-nil p.free
free_slots-push (q ∷ pools) p = ap (λ l. q.free ++ l) (free_slots-push pools p) ∙ sym (append_assoc q.free (free_slots pools) p.free)

-- some slots of a list were put back, and the rest is left
pub record Returning {S T : Type 0} (place_of : S → RawPlace) (content : S → Option (List ℕ)) (all rest : List S) (outcome : Result T Fault) (old now : RackState) : Type 0 where
  pub done : List S
  pub split : done ++ rest ≡ all
  pub returns : Returns place_of content done outcome old now

module _ {S : Type 0} (place_of : S → RawPlace) (content : S → Option (List ℕ)) where
  pub returning-none : {T : Type 0} (all : List S) (done : T) (old : RackState) → Returning place_of content all all (Ok done) old old
  returning-none all done old = record { done = []; split = refl; returns = returns-none place_of content done old }

  -- the last of those that are left in a stack was put back
  pub returning-next : {T : Type 0} (all stack less : List S) (x spent : S) (outcome put both : Result T Fault) (old mid now : RackState) → stack ≡ less ++ x ∷ []
      → Returning place_of content all (reverse stack) outcome old mid → Returns place_of content (spent ∷ []) put mid now → spent ≡ x
      → both ≡ result_and outcome put → Returning place_of content all (reverse less) both old now
  returning-next all stack less x spent outcome put both old mid now top before one same is = record {
    done = before.done ++ x ∷ [];
    split = append_assoc before.done (x ∷ []) (reverse less) ∙ ap (λ rest. before.done ++ rest) (sym (ap reverse top ∙ reverse-append less (x ∷ []))) ∙ before.split;
    returns = returns-then place_of content before.done (x ∷ []) outcome put both old mid now before.returns (subst (λ y. Returns place_of content (y ∷ []) put mid now) same one) is;
  }

  pub returning-all : {T : Type 0} (all stack : List S) (outcome : Result T Fault) (old now : RackState) → stack ≡ [] → Returning place_of content all (reverse stack) outcome old now
      → Returns place_of content all outcome old now
  returning-all all stack outcome old now none known =
      subst (λ l. Returns place_of content l outcome old now) (sym (append-nil known.done) ∙ ap (λ rest. known.done ++ reverse rest) (sym none) ∙ known.split) known.returns
