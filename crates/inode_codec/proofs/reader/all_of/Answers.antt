use Rattle.std.proofs.Common.{◌∙◌, Bool, cond, Err, sym, ap, length, eqb}
use Rattle.field_readers.specs.FieldReaders.{broken}
use Rattle.field_readers.proofs.Readers.{done}
use Rattle.inode_codec.specs.declared.fault.InodeRule.TheVariants as rule
use Rattle.inode_codec.specs.InodeReader.{raw_inode}
use Rattle.inode_codec.proofs.SpelledInodes.{all_fails, all_is, inode_within}
use Rattle.inode_codec.proofs.reader.all_of.Goals as goal

pub returns-in-Err : goal.returns-in-Err
returns-in-Err c = all_fails c.args.bytes.now c.in-Err.fault c.in-Err.ensures

pub has_units-requires-clause-unit : goal.has_units-requires-clause-unit
has_units-requires-clause-unit c = (inode_within c.args.bytes.now c.in-Ok.read.0 c.in-Ok.read.1.now c.in-Ok.ensures).0

pub has_units-requires-clause-size : goal.has_units-requires-clause-size
has_units-requires-clause-size c = (inode_within c.args.bytes.now c.in-Ok.read.0 c.in-Ok.read.1.now c.in-Ok.ensures).1

pub has_units-requires-clause-count : goal.has_units-requires-clause-count
has_units-requires-clause-count c = (inode_within c.args.bytes.now c.in-Ok.read.0 c.in-Ok.read.1.now c.in-Ok.ensures).2

pub returns-then-not-has_units : goal.returns-then-not-has_units
returns-then-not-has_units c =
    let i = c.in-Ok.read.0 in
    let rest = c.in-Ok.read.1.now in
    rw c.broken.ensures
    (all_is c.args.bytes.now i rest c.in-Ok.ensures
    ∙ ap (λ (t : Bool). cond t (cond (eqb (length rest) 0) (done (raw_inode i)) (Err (broken rule.Left rest))) (Err (broken rule.Sum rest))) (sym c.has_units.ensures ∙ c.if-not-has_units.true))

pub returns-then-not-is_empty : goal.returns-then-not-is_empty
returns-then-not-is_empty c =
    let i = c.in-Ok.read.0 in
    let rest = c.in-Ok.read.1.now in
    rw c.broken-then-not-is_empty.ensures
    (all_is c.args.bytes.now i rest c.in-Ok.ensures
    ∙ ap (λ (t : Bool). cond t (cond (eqb (length rest) 0) (done (raw_inode i)) (Err (broken rule.Left rest))) (Err (broken rule.Sum rest))) (sym c.has_units.ensures ∙ c.if-not-has_units.false)
    ∙ ap (λ (t : Bool). cond t (done (raw_inode i)) (Err (broken rule.Left rest))) (sym c.is_empty.ensures ∙ c.if-not-is_empty.true))

pub returns : goal.returns
returns c =
    let i = c.in-Ok.read.0 in
    let rest = c.in-Ok.read.1.now in
    all_is c.args.bytes.now i rest c.in-Ok.ensures
    ∙ ap (λ (t : Bool). cond t (cond (eqb (length rest) 0) (done (raw_inode i)) (Err (broken rule.Left rest))) (Err (broken rule.Sum rest))) (sym c.has_units.ensures ∙ c.if-not-has_units.false)
    ∙ ap (λ (t : Bool). cond t (done (raw_inode i)) (Err (broken rule.Left rest))) (sym c.is_empty.ensures ∙ c.if-not-is_empty.false)
