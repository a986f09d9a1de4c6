-- Each level made is the row of the table that the arm of its name says.
use Rattle.std.proofs.Common.{refl, lit<}
use Rattle.domains.proofs.level.Level.read.Goals as goal

pub invariant_of-result-in-text-3 : goal.invariant_of-result-in-text-3
invariant_of-result-in-text-3 c = (2, lit< tt, refl)

pub invariant_of-result-in-text-4 : goal.invariant_of-result-in-text-4
invariant_of-result-in-text-4 c = (3, lit< tt, refl)

pub invariant_of-result-in-text-5 : goal.invariant_of-result-in-text-5
invariant_of-result-in-text-5 c = (4, lit< tt, refl)

pub invariant_of-result-in-text-6 : goal.invariant_of-result-in-text-6
invariant_of-result-in-text-6 c = (5, lit< tt, refl)

pub invariant_of-result-in-text-7 : goal.invariant_of-result-in-text-7
invariant_of-result-in-text-7 c = (6, lit< tt, refl)

pub invariant_of-result-in-text-8 : goal.invariant_of-result-in-text-8
invariant_of-result-in-text-8 c = (7, lit< tt, refl)

pub invariant_of-result-in-text-9 : goal.invariant_of-result-in-text-9
invariant_of-result-in-text-9 c = (8, lit< tt, refl)

pub invariant_of-result-in-text-10 : goal.invariant_of-result-in-text-10
invariant_of-result-in-text-10 c = (9, lit< tt, refl)

pub invariant_of-result-in-text-11 : goal.invariant_of-result-in-text-11
invariant_of-result-in-text-11 c = (10, lit< tt, refl)

pub invariant_of-result-in-text-12 : goal.invariant_of-result-in-text-12
invariant_of-result-in-text-12 c = (11, lit< tt, refl)

pub invariant_of-result-in-text-13 : goal.invariant_of-result-in-text-13
invariant_of-result-in-text-13 c = (12, lit< tt, refl)

pub invariant_of-result-in-text-14 : goal.invariant_of-result-in-text-14
invariant_of-result-in-text-14 c = (13, lit< tt, refl)

pub invariant_of-result-in-text-15 : goal.invariant_of-result-in-text-15
invariant_of-result-in-text-15 c = (14, lit< tt, refl)
