use Rattle.std.proofs.Common.{◌≡◌, ◌++◌, ◌∷◌, List, [], map, subst, Ok}
use Rattle.std.proofs.lemmas.List.{map_push}
use Rattle.domains.specs.Place.{Place}
use Rattle.field_readers.specs.FieldReaders.{Fails, each}
use Rattle.field_readers.proofs.EachInTurn.{ends, goes_on}
use Rattle.inode_codec.specs.InodeReader.{place_at, push, raw_place}
use Rattle.inode_codec.proofs.reader.places_of.Goals as goal

pub returns-in-Err : goal.returns-in-Err
returns-in-Err c =
    ends place_at push c.in-Err.fault (map raw_place c.loop-place.places.items) c.args.count c.loop-place._place (map raw_place c.loop-place.places.items) c.loop-place.rest.now
    (each place_at push c.args.count [] c.args.bytes.now) c.loop-place-test.true
    (subst (λ (xs : List Place). Fails c.in-Err.fault (place_at (map raw_place xs) c.loop-place.rest.now)) c.deref.ensures.value c.in-Err.ensures) c.loop-place.invariant

pub loop-place-preserved : goal.loop-place-preserved
loop-place-preserved c =
    let x = c.in-Ok.read.0 in
    let e : map raw_place c.push.new.self.items ≡ map raw_place c.loop-place.places.items ++ raw_place x ∷ [] =
    rw c.in_ok-push.ensures.items (map_push raw_place c.loop-place.places.items x) in
    rw e (goes_on place_at push (map raw_place c.loop-place.places.items) c.args.count c.loop-place._place (map raw_place c.loop-place.places.items) c.loop-place.rest.now (raw_place x) c.in-Ok.read.1.now
    (each place_at push c.args.count [] c.args.bytes.now) c.loop-place-test.true
    (subst (λ (xs : List Place). place_at (map raw_place xs) c.loop-place.rest.now ≡ Ok (raw_place x, c.in-Ok.read.1.now)) c.deref.ensures.value c.in-Ok.ensures) c.loop-place.invariant)
