-- What an item of a connection's bytes comes to, whoever answers the requests. (lookd)
use Rattle.std.specs.Prelude.{◌≡◌, ◌⊎◌, ℕ, Bool, false, List, ◌++◌, codes, Option, Some, None, Ok, Err}
use Rattle.lk_types.specs.declared.answer.Reply.{Reply}
use Rattle.lk_http.specs.Items.{Item}
use Rattle.lk_http.specs.Replies.{memory_reply}
use Rattle.lk_http.specs.declared.faults.HttpFault.{HttpFault}
use Rattle.lk_http.specs.declared.faults.HttpFault.TheVariants as http
use Rattle.lk_http.specs.declared.request.Got.TheVariants.{End, Req}
use Rattle.lk_http.specs.declared.request.Request.{Request}

-- a reply, and whether the connection closes after it
pub record Sent : Type 0 where
  pub reply : Reply
  pub close : Bool

-- ---- refusals

-- a refusal that says its code alone
abbrev pub coded : ℕ → List ℕ → Reply
coded status code = record { status = status; csv = false; body = codes "{\"error\":\"" ++ (code ++ codes "\"}") }

-- the reply to a request that is refused as it is; a cut and a link that fails have none
abbrev pub http_reply : HttpFault → Option Reply
http_reply http.H1 = Some (coded 400 (codes "H1"))
http_reply http.H2 = Some (coded 411 (codes "H2"))
http_reply (http.H3 count) = Some (coded 413 (codes "H3"))
http_reply (http.H4 close) = Some (coded 404 (codes "H4"))
http_reply (http.H5 close) = Some (coded 405 (codes "H5"))
http_reply http.H6 = Some (coded 431 (codes "H6"))
http_reply http.Truncated = None
http_reply http.ReadFault = None
http_reply http.NoMemory = None

-- the reply of a refusal, or that memory was refused
abbrev pub IsRefusal : Option Reply → Reply → Type 0
IsRefusal None reply = ⊥
IsRefusal (Some refusal) reply = (reply ≡ refusal) ⊎ (reply ≡ memory_reply)

-- ---- items

-- what an item does between two replies of a connection: its reply, and what is there behind it. `S` is what is there between replies
abbrev pub Doing : Type 0 → Type 1
Doing S = S → Item → Reply → S → Type 0

-- what an item comes to: a request is served, or memory was refused; a refusal changes nothing
abbrev pub ItemDoes : {S : Type 0} → (S → Request → Reply → S → Type 0) → (S → Request → S → Type 0) → Doing S
ItemDoes Serves Forgets s (Ok End) reply s' = ⊥
ItemDoes Serves Forgets s (Ok (Req request)) reply s' = Serves s request reply s' ⊎ ((reply ≡ memory_reply) × Forgets s request s')
ItemDoes Serves Forgets s (Err fault) reply s' = IsRefusal (http_reply fault) reply × (s' ≡ s)
