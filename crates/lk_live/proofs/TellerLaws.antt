-- What a desk has seen once it has learnt the note of its own load or check.
use Rattle.std.proofs.Common.{◌≡◌, ◌∙◌, ◌<◌, ℕ, ℤ, List, length, sym, ap, subst}
use Rattle.std.specs.Prelude.{if◌then◌else◌}
use Rattle.std.proofs.lemmas.Bool.{lt-ltb}
use Rattle.lk_types.specs.declared.answer.Reply.{Reply}
use Rattle.lk_edition.specs.Standings.{Standing}
use Rattle.lk_http.specs.declared.request.Target.{Target}
use Rattle.lk_shelf.specs.Lists.{Learns, longer}
use Rattle.lk_bureau.specs.Told.{IsTold}
use Rattle.lk_live.specs.declared.acting.Sent.{Sent}
use Rattle.lk_live.specs.declared.acting.Sent.TheVariants as sent

-- the reply that was told, and else another
abbrev reply_in : Sent → Reply → Reply
reply_in (sent.Done reply) other = reply
reply_in sent.Failed other = other
reply_in sent.NoMemory other = other

pub same_reply : (one two : Reply) → sent.Done one ≡ sent.Done two → one ≡ two
same_reply one two same = ap (λ s. reply_in s one) same

longer_note : (seen note : List Standing) → length seen < length note → longer seen note ≡ note
longer_note seen note more = ap (λ b. if b then note else seen) (lt-ltb (length seen) (length note) more)

-- the note is longer than what was seen, so it is what is seen
pub learnt : (seen note seen' : List Standing) (least : ℕ) (now told : ℤ) (user : List ℕ) (target : Target) (body : List ℕ) (reply : Reply)
    → least ≡ length seen → told ≡ now → IsTold least user target body told reply note → Learns seen note seen'
    → IsTold (length seen) user target body now reply seen'
learnt seen note seen' least now told user target body reply same moment is learns =
    let here : IsTold (length seen) user target body now reply note =
    subst (λ z. IsTold (length seen) user target body z reply note) moment (subst (λ n. IsTold n user target body told reply note) same is) in
    subst (λ list. IsTold (length seen) user target body now reply list) (sym (learns.0 ∙ longer_note seen note here.longer)) here
