use Rattle.std.proofs.Common.{◌≡◌, ◌+◌, drop, option_map}
use Rattle.lk_grammar.specs.Places.{judge_from, last_from}
use Rattle.lk_grammar.specs.Steps.{start, step, may_state_end, judge_of}
use Rattle.lk_grammar.proofs.reaching.Reached.of.Given as goal

abbrev pub invariant-loop-byte : goal.invariant-loop-byte
invariant-loop-byte l = record {
  few : l.place ≡ l.byte-index;
  rest : option_map (λ n. l.place + n) (judge_from (step l.rules) may_state_end l.stacks.items (drop l.byte-index l.text))
      ≡ judge_of l.rules l.depth l.form l.text;
  last : last_from (step l.rules) l.stacks.items (drop l.byte-index l.text) ≡ last_from (step l.rules) (start l.rules l.depth l.form) l.text;
}
