use Rattle.std.proofs.Common.{sym, ◌∙◌, inr}
use Rattle.lk_http.proofs.HeadLemmas.{never_is_none}
use Rattle.lk_http.proofs.TargetLemmas.{found_is_target, never_may}
use Rattle.lk_http.proofs.head.judge_invalid.Goals as goal

pub returns-then-ends_in_target : goal.returns-then-ends_in_target
returns-then-ends_in_target c = record {
  none = never_is_none _ c.requires;
  fits = sym c.is_over.ensures ∙ c.if-is_over.false;
  may = inr (found_is_target _ (sym c.ends_in_target.ensures ∙ c.if-ends_in_target.true));
}

pub returns-else-ends_in_target : goal.returns-else-ends_in_target
returns-else-ends_in_target c = (
  never_is_none _ c.requires,
  sym c.is_over.ensures ∙ c.if-is_over.false,
  never_may _ c.requires (sym c.ends_in_target.ensures ∙ c.if-ends_in_target.false),
)
