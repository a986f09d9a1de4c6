use Rattle.std.proofs.Common.{◌≡◌, ◌++◌, ◌∷◌, List, [], map, subst, Ok}
use Rattle.std.proofs.lemmas.List.{map_push}
use Rattle.domains.specs.declared.group.Group.{Group}
use Rattle.field_readers.specs.FieldReaders.{Fails, each}
use Rattle.field_readers.proofs.EachInTurn.{ends, goes_on}
use Rattle.inode_codec.specs.InodeReader.{group_at, push, raw_group}
use Rattle.inode_codec.proofs.reader.groups_of.Goals as goal

pub returns-in-Err : goal.returns-in-Err
returns-in-Err c =
    ends group_at push c.in-Err.fault (map raw_group c.loop-group.groups.items) c.args.count c.loop-group._group (map raw_group c.loop-group.groups.items) c.loop-group.rest.now
    (each group_at push c.args.count [] c.args.bytes.now) c.loop-group-test.true
    (subst (λ (xs : List Group). Fails c.in-Err.fault (group_at (map raw_group xs) c.loop-group.rest.now)) c.deref.ensures.value c.in-Err.ensures) c.loop-group.invariant

pub loop-group-preserved : goal.loop-group-preserved
loop-group-preserved c =
    let x = c.in-Ok.read.0 in
    let e : map raw_group c.push.new.self.items ≡ map raw_group c.loop-group.groups.items ++ raw_group x ∷ [] =
    rw c.in_ok-push.ensures.items (map_push raw_group c.loop-group.groups.items x) in
    rw e (goes_on group_at push (map raw_group c.loop-group.groups.items) c.args.count c.loop-group._group (map raw_group c.loop-group.groups.items) c.loop-group.rest.now (raw_group x) c.in-Ok.read.1.now
    (each group_at push c.args.count [] c.args.bytes.now) c.loop-group-test.true
    (subst (λ (xs : List Group). group_at (map raw_group xs) c.loop-group.rest.now ≡ Ok (raw_group x, c.in-Ok.read.1.now)) c.deref.ensures.value c.in-Ok.ensures) c.loop-group.invariant)
