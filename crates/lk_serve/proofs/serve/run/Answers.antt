use Rattle.std.proofs.Common.{◌∙◌, sym}
use Rattle.lk_serve.specs.Words.{asked_by}
use Rattle.lk_serve.proofs.ScriptLaws.{script_asks, script_queries, server_asks, server_one, server_queries}
use Rattle.lk_serve.proofs.serve.run.Goals as goal

pub returns-then-is_script-clause-unasked : goal.returns-then-is_script-clause-unasked
returns-then-is_script-clause-unasked g c = λ h. absurd (script_asks (asked_by c.args.words.now) (sym c.is_script.ensures ∙ c.if-is_script.true) h)

pub returns-then-is_script-clause-timeless : goal.returns-then-is_script-clause-timeless
returns-then-is_script-clause-timeless g c = λ h. absurd (script_asks (asked_by c.args.words.now) (sym c.is_script.ensures ∙ c.if-is_script.true) h)

pub returns-then-is_script-clause-untouched : goal.returns-then-is_script-clause-untouched
returns-then-is_script-clause-untouched g c = λ h. absurd (script_asks (asked_by c.args.words.now) (sym c.is_script.ensures ∙ c.if-is_script.true) h)

pub returns-in-Some-clause-reply : goal.returns-in-Some-clause-reply
returns-in-Some-clause-reply g c = λ h. absurd (server_one (asked_by c.args.words.now) c.in-Some.workers.count c.in-Some.ensures h)

pub returns-in-Some-clause-kept : goal.returns-in-Some-clause-kept
returns-in-Some-clause-kept g c = λ h. absurd (server_one (asked_by c.args.words.now) c.in-Some.workers.count c.in-Some.ensures h)

pub returns-in-Some-clause-untouched : goal.returns-in-Some-clause-untouched
returns-in-Some-clause-untouched g c = λ h. absurd (server_asks (asked_by c.args.words.now) c.in-Some.workers.count c.in-Some.ensures h)

pub returns-in-Some-clause-queried : goal.returns-in-Some-clause-queried
returns-in-Some-clause-queried g c = λ h. absurd (server_queries (asked_by c.args.words.now) c.in-Some.workers.count c.in-Some.ensures h)

pub returns-in-Some-clause-timeless : goal.returns-in-Some-clause-timeless
returns-in-Some-clause-timeless g c = λ h. absurd (server_asks (asked_by c.args.words.now) c.in-Some.workers.count c.in-Some.ensures h)

pub returns-then-is_script-clause-queried : goal.returns-then-is_script-clause-queried
returns-then-is_script-clause-queried g c = λ h. absurd (script_queries (asked_by c.args.words.now) (sym c.is_script.ensures ∙ c.if-is_script.true) h)
