use Rattle.std.proofs.Common.{◌≡◌, ℕ, length-set, subst, arith, refl, ◌∙◌}
use Rattle.domains.proofs.DriveSetLemmas.{AreWhole, whole_none, whole_more, bit_of_whole}
use Rattle.domains.proofs.drive_set.DriveSet.all.Goals as goal

pub loop-node-init : goal.loop-node-init
loop-node-init c = record { words = refl; whole = whole_none c.args.shape }

pub loop-node-preserved : goal.loop-node-preserved
loop-node-preserved c = record {
  words = length-set _ _ _ ∙ c.loop-node.invariant.words;
  whole =
      rw (c.first_drives.ensures, c.drives.ensures.value)
      (whole_more c.args.shape c.loop-node.node c.loop-node.nodes (omega arith) c.loop-node.invariant.whole);
}

pub returns : goal.returns
returns c = λ d of_d.
    let all : c.loop-node.node ≡ c.args.shape.nodes = omega arith in
    bit_of_whole c.args.shape c.loop-node.nodes d of_d
    (subst (λ (n : ℕ). AreWhole c.args.shape n c.loop-node.nodes) all c.loop-node.invariant.whole)
