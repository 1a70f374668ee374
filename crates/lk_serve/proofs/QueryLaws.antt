-- What a query over an edition tells.
use Rattle.std.proofs.Common.{◌≡◌, inr, Bool, List, [], ℕ, true, false, sym, ap, subst}
use Rattle.std.specs.Prelude.{ℤ, ◌||◌, IfOk, Result, Ok, Err}
use Rattle.lk_val.specs.Memory.{Unless, UnlessMemory}
use Rattle.lk_val.specs.Years.{IsMomentInYears}
use Rattle.lk_types.specs.declared.answer.Reply as sent
use Rattle.lk_types.specs.declared.bound.Bound.{Bound}
use Rattle.lk_semantics.specs.Derived.{explore_at}
use Rattle.lk_body.specs.declared.fault.QueryFault.{QueryFault}
use Rattle.lk_ask.specs.Asks.{is_no_memory}
use Rattle.lk_ask.specs.declared.fault.AskFault.{AskFault}
use Rattle.lk_ask.specs.declared.told.Told.{Told}
use Rattle.lk_reply.specs.Statuses.{answer_reply}
use Rattle.lk_state.specs.States.{State}
use Rattle.lk_edition.specs.Histories.{Stands, states_of}
use Rattle.lk_edition.specs.Standings.{Standing}
use Rattle.lk_answer.specs.Answers.{IsAnswered, named}
use Rattle.lk_answer.specs.Replies.{IsReplied, replied, tables_at, told_of}
use Rattle.lk_answer.specs.Routes.{routed}
use Rattle.lk_serve.specs.Queries.{TellsSome}
use Rattle.lk_serve.specs.Replies.{printed_answer}

module _ (e : Standing) (answer : sent.Reply) where
  told_some : (number : ℕ) (told : Result Told AskFault) → Ok answer ≡ named e.model true number told → TellsSome (printed_answer answer)
  told_some number (Err fault) is = absurd (cc is)
  told_some number (Ok told) is =
      let x = explore_at e.model told.bound.explore in
      let same : answer ≡ answer_reply (true || told.bound.csv) x told number = cc is in
      inr (inr (inr (e.model, number, told, ap (λ (r : sent.Reply). printed_answer r) same)))

  bound_some : (now : ℤ) (bound : Result Bound QueryFault) → Ok answer ≡ replied e [] now true bound → TellsSome (printed_answer answer)
  bound_some now (Err fault) is = absurd (cc is)
  bound_some now (Ok b) is =
      let number = (routed e b).number in
      told_some number (told_of e.model now (tables_at (states_of e []) number) b (routed e b).from) is

  pub tells_some : (user explore body : List ℕ) (now : ℤ) → IsReplied e [] user explore body now true (Ok answer) → TellsSome (printed_answer answer)
  tells_some user explore body now h = bound_some now h.bound h.is

-- what is told of a body, with what it was answered on the edition
module _ (answers : (e : Standing) (past : List State) (user explore body : List ℕ) (now : ℤ) (csv : Bool) (r : Result sent.Reply AskFault)
    → Stands e past → IsMomentInYears now → IsAnswered e user explore body now csv r → IsReplied e past user explore body now csv r) where
  pub replied_unless : (e : Standing) (user explore body : List ℕ) (at now : ℤ) (r : Result sent.Reply AskFault) → Stands e [] → IsMomentInYears now → at ≡ now
      → UnlessMemory is_no_memory r (IsAnswered e user explore body at true) → UnlessMemory is_no_memory r (IsReplied e [] user explore body now true)
  replied_unless e user explore body at now r stands years moment told = by_case r told
    where
      there : (r : Result sent.Reply AskFault) → IsAnswered e user explore body at true r → IsReplied e [] user explore body now true r
      there r is =
          let at_years = subst IsMomentInYears (sym moment) years in
          subst (λ n. IsReplied e [] user explore body n true r) moment (answers e [] user explore body at true r stands at_years is)

      by_fault : (fault : AskFault) (lost : Bool) → Unless lost (IsAnswered e user explore body at true (Err fault)) → Unless lost (IsReplied e [] user explore body now true (Err fault))
      by_fault fault true h = tt
      by_fault fault false h = there (Err fault) h

      by_case : (r : Result sent.Reply AskFault) → UnlessMemory is_no_memory r (IsAnswered e user explore body at true) → UnlessMemory is_no_memory r (IsReplied e [] user explore body now true)
      by_case (Ok reply) h = there (Ok reply) h
      by_case (Err fault) h = by_fault fault (is_no_memory fault) h

pub tells_if : (e : Standing) (user explore body : List ℕ) (now : ℤ) (r : Result sent.Reply AskFault) → UnlessMemory is_no_memory r (IsReplied e [] user explore body now true)
    → IfOk r (λ answer. TellsSome (printed_answer answer))
tells_if e user explore body now (Ok answer) h = tells_some e answer user explore body now h
tells_if e user explore body now (Err fault) h = tt
