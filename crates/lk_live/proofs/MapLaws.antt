-- A session over one kind of state is a session over another, where what each item does is carried over. The states may be told apart by a fact that holds of each one before the last.
use Rattle.std.proofs.Common.{◌+◌, ℕ, Bool, List, [], ◌∷◌, length, sym, ap, subst, inl, inr, Option}
use Rattle.lk_types.specs.declared.answer.Reply.{Reply}
use Rattle.lk_http.specs.Items.{Item}
use Rattle.lk_turns.specs.Doings.{Doing, Sent}
use Rattle.lk_turns.specs.Runs.{AreTurns, Closed, IsRun, IsSession, IsTurn, is_last}
use Rattle.lk_turns.specs.declared.ended.Ended.{Ended}

module _ {S T : Type 0} (Does : Doing S) (Maps : Doing T) (f : S → T) (P : S → Type 0)
    (back : (a : S) (item : Item) (reply : Reply) (b : S) → Does a item reply b → P b → P a)
    (maps : (a : S) (item : Item) (reply : Reply) (b : S) → P b → Does a item reply b → Maps (f a) item reply (f b)) where
  turns_back : (before : ℕ) (s : S) (bytes : List ℕ) (sents : List Sent) (s' : S) (rest : List ℕ) → AreTurns Does before s bytes sents s' rest → P s' → P s
  turns_back before s bytes [] s' rest turns last = subst P (sym turns.0) last
  turns_back before s bytes (sent ∷ more) s' rest (m, left, turn, stays, turns) last =
      back s turn.item sent.reply m turn.does (turns_back (before + 1) m left more s' rest turns last)

  abbrev turn_mapped : (s : S) (bytes : List ℕ) (last : Bool) (sent : Sent) (s' : S) (rest : List ℕ) → P s' → IsTurn Does s bytes last sent s' rest
      → IsTurn Maps (f s) bytes last sent (f s') rest
  turn_mapped s bytes last sent s' rest fact turn =
      record { item = turn.item; next = turn.next; does = maps s turn.item sent.reply s' fact turn.does; closes = turn.closes }

  turns_mapped : (before : ℕ) (s : S) (bytes : List ℕ) (sents : List Sent) (s' : S) (rest : List ℕ) → P s' → AreTurns Does before s bytes sents s' rest
      → AreTurns Maps before (f s) bytes sents (f s') rest
  turns_mapped before s bytes [] s' rest fact turns = (ap f turns.0, turns.1)
  turns_mapped before s bytes (sent ∷ more) s' rest fact (m, left, turn, stays, turns) = (
    f m,
    left,
    turn_mapped s bytes (is_last before) sent m left (turns_back (before + 1) m left more s' rest turns fact) turn,
    stays,
    turns_mapped (before + 1) m left more s' rest fact turns,
  )

  closed_mapped : (s : S) (bytes : List ℕ) (sents : List Sent) (s' : S) (rest : List ℕ) (how : Ended) → P s' → Closed Does s bytes sents s' rest how
      → Closed Maps (f s) bytes sents (f s') rest how
  closed_mapped s bytes sents s' rest how fact closed = record {
    front = closed.front;
    sent = closed.sent;
    m = f closed.m;
    left = closed.left;
    all = closed.all;
    turns = turns_mapped 0 s bytes closed.front closed.m closed.left (back closed.m closed.closes.turn.item closed.sent.reply s' closed.closes.turn.does fact) closed.turns;
    closes = record {
      turn = turn_mapped closed.m closed.left (is_last (length closed.front)) closed.sent s' rest fact closed.closes.turn;
      why = closed.closes.why;
    };
  }

  run_mapped : (s : S) (bytes : List ℕ) (sents : List Sent) (s' : S) (rest : List ℕ) (how : Ended) → P s' → IsRun Does s bytes sents s' rest how
      → IsRun Maps (f s) bytes sents (f s') rest how
  run_mapped s bytes sents s' rest how fact (inl none) =
      inl (record { none = none.none; same = ap f none.same; untaken = none.untaken; why = none.why })
  run_mapped s bytes sents s' rest how fact (inr (inl stopped)) =
      inr (inl (record { left = stopped.left; turns = turns_mapped 0 s bytes sents s' stopped.left fact stopped.turns; stop = stopped.stop }))
  run_mapped s bytes sents s' rest how fact (inr (inr closed)) = inr (inr (closed_mapped s bytes sents s' rest how fact closed))

  pub session_mapped : (s : S) (bytes : List ℕ) (held held' : Option (List ℕ)) (s' : S) (left' : Option (List ℕ)) (how : Ended) → P s'
      → IsSession Does s bytes held held' s' left' how → IsSession Maps (f s) bytes held held' (f s') left' how
  session_mapped s bytes held held' s' left' how fact session = record {
    sents = session.sents;
    rest = session.rest;
    left = session.left;
    run = run_mapped s bytes session.sents s' session.rest how fact session.run;
    out = session.out;
  }
