-- The order of jobs and their exclusion.
use Rattle.std.specs.Prelude.{◌≢◌, Bool, ◌&&◌, ◌||◌, nat_lt, ◌==◌, if◌then◌else◌, true, List, [], ◌∷◌, Option, Some, None}
use Rattle.std.specs.List.{AllByRecursion}
use Rattle.job_rules.specs.Kinds.{sets_of}
use Rattle.job_rules.specs.declared.kind.Sets.{Sets}
use Rattle.job_rules.specs.declared.rank.JobView.{JobView}

-- a has a smaller priority than b, or the same and an earlier start
abbrev pub rank_before : JobView → JobView → Bool
rank_before a b = nat_lt a.priority b.priority || ((a.priority == b.priority) && nat_lt a.started b.started)

-- both are in the restripe set, or both in the mark set
abbrev pub shares : Sets → Sets → Bool
shares a b = (a.restripe && b.restripe) || (a.mark && b.mark)

-- the two jobs share a set
abbrev pub share : JobView → JobView → Bool
share a b = shares (sets_of a.kind) (sets_of b.kind)

-- the job stands behind those that rank before it
abbrev pub place : JobView → List JobView → List JobView
place v [] = v ∷ []
place v (w ∷ ws) = if rank_before w v then w ∷ place v ws else v ∷ w ∷ ws

-- the jobs in rank
abbrev pub in_rank : List JobView → List JobView
in_rank [] = []
in_rank (v ∷ vs) = place v (in_rank vs)

-- the job comes after the given one in rank; where none is given, each does
abbrev pub is_after : Option JobView → JobView → Bool
is_after None v = true
is_after (Some last) v = rank_before last v

-- the one of the two that comes first in rank
abbrev pub earlier : Option JobView → JobView → Option JobView
earlier None v = Some v
earlier (Some best) v = if rank_before v best then Some v else Some best

-- the two are different jobs, started one after the other
pub record IsApart (a b : JobView) : Type 0 where
  pub job : a.job.number ≢ b.job.number
  pub started : a.started ≢ b.started

-- no job stands twice, and no two have one start
abbrev pub AreApart : List JobView → Type 0
AreApart [] = Unit {0}
AreApart (v ∷ vs) = AllByRecursion (IsApart v) vs × AreApart vs
