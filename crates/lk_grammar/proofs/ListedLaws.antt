-- The texts of a list of items are the texts that spell the tokens of some list.
use Rattle.std.proofs.Common.{◌≡◌, inr, ℕ, List, [], ◌∷◌, ◌++◌, refl, sym, ap, subst, ◌∙◌, append_assoc, append-nil}
use Rattle.std.specs.List.{concat, AllByRecursion}
use Rattle.lk_grammar.specs.Forms.{Form, IsText, IsJoined, seq, many}
use Rattle.lk_grammar.specs.Words.{spaces, free}
use Rattle.lk_grammar.specs.Tokens.{tokens_form}
use Rattle.lk_grammar.specs.Listed.{run_form, further_tokens, listed}

module _ {T : Type 0} (white : List ℕ) (form_of : T → Form) where
  -- a run of tokens and then more of them
  pub joined : (tokens more : List T) (front back : List ℕ) → IsText (run_form white form_of tokens) front → IsText (tokens_form white form_of more) back → IsText (tokens_form white form_of (tokens ++ more)) (front ++ back)
  joined [] more front back f b = subst (λ z. IsText (tokens_form white form_of more) (z ++ back)) (sym f) b
  joined (t ∷ tokens) more front back f b =
      record { front = f.front; back = f.back ++ back; joined = ap (λ z. z ++ back) f.joined ∙ append_assoc f.front f.back back; first = f.first; second = joined tokens more f.back back f.second b }

  pub parted : (tokens more : List T) (text : List ℕ) → IsText (tokens_form white form_of (tokens ++ more)) text → IsJoined (IsText (run_form white form_of tokens)) (IsText (tokens_form white form_of more)) text
  parted [] more text h = record { front = []; back = text; joined = refl; first = refl; second = h }
  parted (t ∷ tokens) more text h =
      let rest = parted tokens more h.back h.second in
      record {
        front = h.front ++ rest.front;
        back = rest.back;
        joined = h.joined ∙ ap (λ z. h.front ++ z) rest.joined ∙ sym (append_assoc h.front rest.front rest.back);
        first = record { front = h.front; back = rest.front; joined = refl; first = h.first; second = rest.first };
        second = rest.second;
      }

  -- runs one behind the other
  pub run_joined : (tokens more : List T) (front back : List ℕ) → IsText (run_form white form_of tokens) front → IsText (run_form white form_of more) back → IsText (run_form white form_of (tokens ++ more)) (front ++ back)
  run_joined [] more front back f b = subst (λ z. IsText (run_form white form_of more) (z ++ back)) (sym f) b
  run_joined (t ∷ tokens) more front back f b =
      record { front = f.front; back = f.back ++ back; joined = ap (λ z. z ++ back) f.joined ∙ append_assoc f.front f.back back; first = f.first; second = run_joined tokens more f.back back f.second b }

  pub run_parted : (tokens more : List T) (text : List ℕ) → IsText (run_form white form_of (tokens ++ more)) text → IsJoined (IsText (run_form white form_of tokens)) (IsText (run_form white form_of more)) text
  run_parted [] more text h = record { front = []; back = text; joined = refl; first = refl; second = h }
  run_parted (t ∷ tokens) more text h =
      let rest = run_parted tokens more h.back h.second in
      record {
        front = h.front ++ rest.front;
        back = rest.back;
        joined = h.joined ∙ ap (λ z. h.front ++ z) rest.joined ∙ sym (append_assoc h.front rest.front rest.back);
        first = record { front = h.front; back = rest.front; joined = refl; first = h.first; second = rest.first };
        second = rest.second;
      }

  -- a run of one token
  pub alone : (t : T) (text : List ℕ) → IsText (free white (form_of t)) text → IsText (run_form white form_of (t ∷ [])) text
  alone t text h = record { front = text; back = []; joined = sym (append-nil text); first = h; second = refl }

  pub only : (t : T) (text : List ℕ) → IsText (run_form white form_of (t ∷ [])) text → IsText (free white (form_of t)) text
  only t text h = subst (IsText (free white (form_of t))) (sym (h.joined ∙ ap (λ z. h.front ++ z) h.second ∙ append-nil h.front)) h.first

  module _ {X Y : Type 0} (first_tokens : X → List T) (further : Y → List T) (IsFine : X → Type 0) (IsFiner : Y → Type 0) (item more : Form)
      (item_there : (x : X) (text : List ℕ) → IsFine x → IsText (run_form white form_of (first_tokens x)) text → IsText item text)
      (item_back : (text : List ℕ) → IsText item text → (x : X) × IsFine x × IsText (run_form white form_of (first_tokens x)) text)
      (more_there : (y : Y) (text : List ℕ) → IsFiner y → IsText (run_form white form_of (further y)) text → IsText more text)
      (more_back : (text : List ℕ) → IsText more text → (y : Y) × IsFiner y × IsText (run_form white form_of (further y)) text) where
    parts_there : (ys : List Y) (text : List ℕ) → AllByRecursion IsFiner ys → IsText (tokens_form white form_of (further_tokens further ys)) text → IsText (seq (many more) (spaces white)) text
    parts_there [] text fine h = record { front = []; back = text; joined = refl; first = record { parts = []; joined = refl; each = tt }; second = h }
    parts_there (y ∷ ys) text fine h =
        let p = parted (further y) (further_tokens further ys) text h in
        let rest = parts_there ys p.back fine.1 p.second in
        record {
          front = p.front ++ rest.front;
          back = rest.back;
          joined = p.joined ∙ ap (λ z. p.front ++ z) rest.joined ∙ sym (append_assoc p.front rest.front rest.back);
          first = record { parts = p.front ∷ rest.first.parts; joined = ap (λ z. p.front ++ z) rest.first.joined; each = (more_there y p.front fine.0 p.first, rest.first.each) };
          second = rest.second;
        }

    -- the tokens of a list are a text of the form
    pub listed_there : (x : X) (ys : List Y) (text : List ℕ) → IsFine x → AllByRecursion IsFiner ys → IsText (tokens_form white form_of (first_tokens x ++ further_tokens further ys)) text → IsText (listed white item more) text
    listed_there x ys text fine finer h =
        let p = parted (first_tokens x) (further_tokens further ys) text h in
        inr (record { front = p.front; back = p.back; joined = p.joined; first = item_there x p.front fine p.first; second = parts_there ys p.back finer p.second })

    parts_back : (parts : List (List ℕ)) (back : List ℕ) → AllByRecursion (IsText more) parts → IsText (spaces white) back → (ys : List Y) × AllByRecursion IsFiner ys × IsText (tokens_form white form_of (further_tokens further ys)) (concat parts ++ back)
    parts_back [] back each h = ([], tt, h)
    parts_back (p ∷ parts) back each h =
        let y = more_back p each.0 in
        let rest = parts_back parts back each.1 h in
        (y.0 ∷ rest.0, (y.1, rest.1), subst (IsText (tokens_form white form_of (further_tokens further (y.0 ∷ rest.0)))) (sym (append_assoc p (concat parts) back)) (joined (further y.0) (further_tokens further rest.0) p (concat parts ++ back) y.2 rest.2))

    -- a text of the form that is more than spaces spells the tokens of a list
    pub listed_back : (text : List ℕ) → IsText (seq item (seq (many more) (spaces white))) text → (x : X) × ((ys : List Y) × IsFine x × AllByRecursion IsFiner ys × IsText (tokens_form white form_of (first_tokens x ++ further_tokens further ys)) text)
    listed_back text h =
        let x = item_back h.front h.first in
        let many = h.second.first in
        let rest = parts_back many.parts h.second.back many.each h.second.second in
        let whole : h.front ++ (concat many.parts ++ h.second.back) ≡ text = sym (h.joined ∙ ap (λ z. h.front ++ z) (h.second.joined ∙ ap (λ z. z ++ h.second.back) many.joined)) in
        (x.0, (rest.0, x.1, rest.1, subst (IsText (tokens_form white form_of (first_tokens x.0 ++ further_tokens further rest.0))) whole (joined (first_tokens x.0) (further_tokens further rest.0) h.front (concat many.parts ++ h.second.back) x.2 rest.2)))
