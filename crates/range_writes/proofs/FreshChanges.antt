-- A change that is made on the file as it is.
use Rattle.std.proofs.Common.{◌≡◌, ℕ, List, [], drop, length, map, Option, None, Result, IfErr, ap, subst, ◌∙◌, arith}
use Rattle.std.proofs.lemmas.List.{length-map, drop_all}
use Rattle.flex_io.specs.declared.raw_place.RawPlace.{RawPlace}
use Rattle.file_history.specs.declared.entry.FileEntry.{FileEntry}
use Rattle.stale_changes.specs.Staleness.{cause_in}
use Rattle.stale_changes.specs.declared.stale.Stale.{Stale}
use Rattle.map_switches.specs.Switches.{IsRefusal, kept_units, new_places}
use Rattle.map_switches.specs.declared.change.MapChange.{MapChange}
use Rattle.file_core.specs.FileSwitches.{basis_of, stale_by}
use Rattle.file_core.specs.FileView.{FileView}
use Rattle.file_core.specs.declared.noted.Noted.{Noted}
use Rattle.turn_cell.specs.declared.chronicle.Note.{Note}

none_behind : {A : Type 0} (xs : List A) (n : ℕ) → n ≡ length xs → drop n xs ≡ []
none_behind xs n is = drop_all n xs (omega (arith, is))

-- no entry stands against it
pub is_fresh : {S : Type 0} (x : FileView S) (change : MapChange S) → change.at ≡ length x.notes → stale_by x change ≡ None
is_fresh x change is =
    ap (λ (es : List FileEntry). cause_in es change.at (basis_of x change) change.old (kept_units change.fresh) (new_places change))
    (none_behind (map (λ (n : Note Noted). n.entry.told.entry) x.notes) change.at (is ∙ (let many = length-map x.notes (λ (n : Note Noted). n.entry.told.entry) in omega (arith, many))))

-- so what is told of a refusal is told of one with no cause
pub refused_fresh : {S T : Type 0} (place_of : S → RawPlace) (faults : S → ℕ) (r : Result T (Stale × MapChange S)) (x : FileView S) (change other : MapChange S) → change.at ≡ length x.notes
    → change ≡ other → IfErr r (λ (e : Stale × MapChange S). IsRefusal place_of faults (stale_by x change) change e.0 e.1)
    → IfErr r (λ (e : Stale × MapChange S). IsRefusal place_of faults None other e.0 e.1)
refused_fresh place_of faults r x change other is same told =
    subst (λ (c : MapChange _). IfErr r (λ (e : Stale × MapChange _). IsRefusal place_of faults None c e.0 e.1)) same
    (subst (λ (o : Option Stale). IfErr r (λ (e : Stale × MapChange _). IsRefusal place_of faults o change e.0 e.1)) (is_fresh x change is) told)
