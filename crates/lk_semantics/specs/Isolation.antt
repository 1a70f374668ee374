-- Callers who see the same rows get the same answers.
use Rattle.std.specs.Prelude.{◌≡◌}
use Rattle.lk_types.specs.declared.rows.Sources.{Sources}
use Rattle.lk_semantics.specs.Rows.{visible_rows}
use Rattle.lk_semantics.specs.Answers.{answer_of}
use Rattle.lk_types.specs.declared.explore.Explore.{Explore}
use Rattle.lk_types.specs.declared.bound.Bound.{Bound}

-- the two bound queries differ in their access filters alone
abbrev pub DifferInAccess : Bound → Bound → Type 0
DifferInAccess b c = c ≡ record b { access = c.access }

-- where the visible rows are equal, whatever the tables and the access filters, the answers are: conflicts too
abbrev pub IsIsolated : Type 0
IsIsolated = (x : Explore) (s t : Sources) (b c : Bound) → DifferInAccess b c → visible_rows x s b ≡ visible_rows x t c → answer_of x s b ≡ answer_of x t c
