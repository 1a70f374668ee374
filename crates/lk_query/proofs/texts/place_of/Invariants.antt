use Rattle.std.proofs.Common.{◌≡◌, ◌≤◌, ◌+◌, length, map, drop}
use Rattle.std.specs.List.{position_or_len}
use Rattle.lk_query.specs.Names.{goes_before}
use Rattle.lk_query.proofs.texts.place_of.Given as goal

abbrev pub invariant-loop-place : goal.invariant-loop-place
invariant-loop-place l = record {
  begun : l.place ≤ length l.filters;
  rest : l.place + position_or_len (goes_before l.filter) (map (λ f. f.now) (drop l.place l.filters))
      ≡ position_or_len (goes_before l.filter) (map (λ f. f.now) l.filters);
}
