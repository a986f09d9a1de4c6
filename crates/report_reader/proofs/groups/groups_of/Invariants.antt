use Rattle.std.proofs.Common.{◌≡◌, ◌++◌, List, length}
use denote.Shadow.{shadow}
use denote.Text.{Utf8}
use Rattle.std.specs.List.{AllByRecursion}
use Rattle.domains.specs.declared.group.Group.{Group}
use Rattle.report.specs.Words.{groups_text}
use Rattle.report_reader.specs.Lines.{IsGroup, inode_tail}
use Rattle.report_reader.proofs.GroupsParted.{GroupsParted}
use Rattle.report_reader.proofs.groups.groups_of.Given as goal

-- what was read and what is left are the groups
abbrev pub invariant-groups : goal.invariant-groups
invariant-groups l =
    shadow (Utf8 l.rest)
    × (((all : List Group) (i : Group) → AllByRecursion IsGroup all → l.text ≡ groups_text all ++ inode_tail i → GroupsParted all i l.groups.items l.rest) × AllByRecursion IsGroup l.groups.items)

abbrev pub decreases-groups : goal.decreases-groups
decreases-groups l = length l.rest
