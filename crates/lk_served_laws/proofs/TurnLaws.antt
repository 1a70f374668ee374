-- What each item does, given what was known before it, the items of a session do.
use Rattle.std.proofs.Common.{◌+◌, ℕ, Bool, List, [], ◌∷◌, inl, inr, subst, sym}
use Rattle.lk_types.specs.declared.answer.Reply.{Reply}
use Rattle.lk_http.specs.Items.{Item}
use Rattle.lk_turns.specs.Doings.{Doing, Sent}
use Rattle.lk_turns.specs.Runs.{AreTurns, IsRun, IsTurn, is_last}
use Rattle.lk_turns.specs.declared.ended.Ended.{Ended}

module _ {S : Type 0} (Does Other : Doing S) (Known : S → Type 0)
    (step : (s : S) (item : Item) (reply : Reply) (t : S) → Known s → Does s item reply t → Other s item reply t × Known t) where
  turn_also : (s : S) (bytes : List ℕ) (last : Bool) (sent : Sent) (t : S) (rest : List ℕ) → Known s
      → IsTurn Does s bytes last sent t rest → IsTurn Other s bytes last sent t rest × Known t
  turn_also s bytes last sent t rest known turn =
      let does = step s turn.item sent.reply t known turn.does in
      (record { item = turn.item; next = turn.next; does = does.0; closes = turn.closes }, does.1)

  pub turns_also : (before : ℕ) (s : S) (bytes : List ℕ) (sents : List Sent) (t : S) (rest : List ℕ) → Known s
      → AreTurns Does before s bytes sents t rest → AreTurns Other before s bytes sents t rest × Known t
  turns_also before s bytes [] t rest known same = (same, subst Known same.0 known)
  turns_also before s bytes (sent ∷ more) t rest known (m, left, turn, stays, turns) =
      let one = turn_also s bytes (is_last before) sent m left known turn in
      let others = turns_also (before + 1) m left more t rest one.1 turns in
      ((m, left, one.0, stays, others.0), others.1)

  pub run_also : (s : S) (bytes : List ℕ) (sents : List Sent) (t : S) (rest : List ℕ) (how : Ended) → Known s
      → IsRun Does s bytes sents t rest how → IsRun Other s bytes sents t rest how × Known t
  unfolding turn_also
  run_also s bytes sents t rest how known (inl none) = (inl none, subst Known (sym none.same) known)
  run_also s bytes sents t rest how known (inr (inl stopped)) =
      let turns = turns_also 0 s bytes sents t stopped.left known stopped.turns in
      (inr (inl (record { left = stopped.left; turns = turns.0; stop = stopped.stop })), turns.1)
  run_also s bytes sents t rest how known (inr (inr closed)) =
      let turns = turns_also 0 s bytes closed.front closed.m closed.left known closed.turns in
      let last = turn_also closed.m closed.left _ closed.sent t rest turns.1 closed.closes.turn in (
        inr (inr (record {
          front = closed.front;
          sent = closed.sent;
          m = closed.m;
          left = closed.left;
          all = closed.all;
          turns = turns.0;
          closes = record { turn = last.0; why = closed.closes.why };
        })),
        last.1,
      )
