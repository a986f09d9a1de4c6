use Rattle.std.proofs.Common.{◌≡◌, ◌≤◌, length, Option, None, vec_len, vec_capacity}
use Rattle.std.specs.List.{AllByRecursion}
use Rattle.engine_core.specs.declared.begun.Begun.{Begun}
use Rattle.engine_core.proofs.begun.none_begun.Given as goal

abbrev pub invariant-loop-place : goal.invariant-loop-place
invariant-loop-place l = record { sized : length l.begun.items ≡ l._place; none : AllByRecursion (λ (b : Option Begun). b ≡ None) l.begun.items; len : vec_len l.begun ≡ l._place; room : 16384 ≤ vec_capacity l.begun }
