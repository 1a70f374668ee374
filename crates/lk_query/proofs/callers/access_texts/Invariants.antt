use Rattle.std.proofs.Common.{◌≡◌, drop}
use Rattle.lk_query.specs.Refusals.{each_found, in_front}
use Rattle.lk_query.specs.Callers.{access_text, lacks}
use Rattle.lk_query.proofs.callers.access_texts.Given as goal

abbrev pub invariant-loop-access : goal.invariant-loop-access
invariant-loop-access l = in_front l.texts (each_found (lacks l.x) (access_text l.x l.users l.user) (drop l.access-index l.access-items)) ≡ each_found (lacks l.x) (access_text l.x l.users l.user) l.access-items
